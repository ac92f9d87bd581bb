-- `test_blocks`: what the tests of the blocks that are left find is the answer.
use Rattle.std.proofs.Common.{◌≡◌}
use Rattle.font_file.specs.FontFile.{block_count, blocks_test}
use Rattle.font_file.proofs.Turns.{tests_left}
use Rattle.font_file.proofs.test_blocks.Given as goal

abbrev pub invariant-loop-place : goal.invariant-loop-place
invariant-loop-place l = tests_left l.place l.file ≡ blocks_test block_count 0 l.file

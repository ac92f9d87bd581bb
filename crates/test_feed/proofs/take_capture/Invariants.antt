-- A cut counts 1 at the most.
use Rattle.std.proofs.Common.{◌≤◌}
use Rattle.test_feed.proofs.take_capture.Given as goal

abbrev pub invariant-loop-place : goal.invariant-loop-place
invariant-loop-place g l = l.same ≤ l.place

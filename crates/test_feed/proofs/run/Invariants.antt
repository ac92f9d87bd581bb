-- Each step has a byte at least.
use Rattle.std.proofs.Common.{length}
use Rattle.test_feed.proofs.run.Given as goal

abbrev pub decreases-loop-steps : goal.decreases-loop-steps
decreases-loop-steps g l = length l.steps

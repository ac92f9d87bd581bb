-- A step is behind the one before it.
use Rattle.std.proofs.Common.{◌-◌}
use Rattle.test_pages.proofs.run.Given as goal

abbrev pub decreases-loop-i : goal.decreases-loop-i
decreases-loop-i g l = l.steps - l.i

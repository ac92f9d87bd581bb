-- `steps_below_8`: four steps or none, and fewer than four are left.
use native.Mathlib.Omega.{arith}
use Rattle.raster.proofs.Steps.{more-steps}
use Rattle.raster.proofs.steps_below_8.Goals as goal

pub returns-then-step-number : goal.returns-then-step-number
returns-then-step-number c =
    rw c.steps_below_4.ensures (more-steps c.args.number c.args.step _ (omega (arith, c.requires.0)) (omega (arith, c.if-step-number.true)))

-- `steps_below_4`: two steps or none, then one more or none, and less than a step is left.
use native.Mathlib.Omega.{arith}
use Rattle.raster.proofs.Steps.{last_steps}
use Rattle.raster.proofs.steps_below_4.Goals.{then-step-left, else-step-left}
use Rattle.raster.proofs.steps_below_4.Goals as goal

pub returns-then-step-left-2 : goal.returns-then-step-left-2
returns-then-step-left-2 c =
    elim c.if-step-left.branch [
      | then-step-left w ↦
          omega (arith, w.steps-is, last_steps c.args.number c.args.step 3 (omega arith) (omega (arith, w.left-is, w.if-step-left.true)) (omega (arith, w.left-is, w.if-step-left.true)))
      | else-step-left w ↦
          omega (arith, w.steps-is, last_steps c.args.number c.args.step 1 (omega arith) (omega (arith, w.left-is)) (omega (arith, w.if-step-left.false)))
    ]

pub returns : goal.returns
returns c =
    elim c.if-step-left.branch [
      | then-step-left w ↦
          omega (arith, w.steps-is, last_steps c.args.number c.args.step 2 (omega arith) w.if-step-left.true (omega (arith, w.left-is, w.if-step-left.true)))
      | else-step-left w ↦
          omega (arith, w.steps-is, last_steps c.args.number c.args.step 0 (omega arith) (omega arith) (omega (arith, w.left-is)))
    ]

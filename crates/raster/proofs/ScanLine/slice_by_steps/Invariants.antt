-- `ScanLine::slice_by_steps`: each turn takes one step of 2 CH (`one-step`); on a line of the strip they are 18 at the most.
use Prim.Native.Nat.{◌+◌, ◌/◌}
use mathlib.Core.Path.{◌≡◌}
use Rattle.raster.proofs.ScanLine.slice_by_steps.Given as goal

abbrev pub invariant-loop-left : goal.invariant-loop-left
invariant-loop-left l = l.left / l.step + l.steps ≡ l.initial.left / l.step

abbrev pub decreases-loop-left : goal.decreases-loop-left
decreases-loop-left l = l.left

-- `ScanLine::slice_by_steps`: each turn takes one step of 2 CH (`one-step`).
use Rattle.std.proofs.Common.{ℕ, ◌+◌, ◌*◌, ◌/◌, ◌≡◌, ap, arith}
use native.Mathlib.Nat.{div-eq_of_lt}
use Rattle.raster.specs.Raster.{slice_number, interpolated}
use Rattle.raster.proofs.Laws.{in_strip}
use Rattle.raster.proofs.Steps.{one-step}
use Rattle.raster.proofs.ScanLine.slice_by_steps.Goals as goal

pub loop-left-preserved : goal.loop-left-preserved
loop-left-preserved c =
    let pos = (in_strip c.args.self c.args.height c.args.zoom c.requires).1 in
    omega (arith, one-step c.loop-left.left (2 * c.from-ch.result) (omega (arith, c.from-ch.ensures, pos)) c.loop-left-test.true, c.loop-left.invariant)

pub returns : goal.returns
unfolding interpolated slice_number
returns c =
    let l = c.loop-left in
    let none : l.left / (2 * c.from-ch.result) ≡ 0 = div-eq_of_lt (omega (arith, c.loop-left-test.false)) in
    let all : (36 * c.unzoom.result + c.from-ch.result) / (2 * c.from-ch.result) ≡ l.steps = omega (arith, none, l.invariant) in
    let counted = rw (c.unzoom.ensures, c.from.ensures, c.from-ch.ensures) at all in
    ap (λ (n : ℕ). record { 0 = n }) (omega (arith, c.max.ensures, counted))

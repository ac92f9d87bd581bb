-- `copy_digits`: the digits that are left and what is written from i on are all the digits.
use Prim.Native.Nat.{◌+◌, ◌%◌}
use mathlib.Core.Path.{refl}
use native.Mathlib.Omega.{arith}
use Rattle.facts.proofs.Written.{back_more, back_whole}
use Rattle.report.specs.Report.{digits}
use Rattle.report.proofs.copy_digits.Goals as goal

pub loop-i-preserved : goal.loop-i-preserved
loop-i-preserved c =
    let l = c.loop-i in
    back_more digits 10 (λ n. 48 + n % 10) (λ k n. unfold digits in refl) _ l.out l.i l.rest _ (omega arith) (omega arith) refl l.invariant

pub returns : goal.returns
returns c = back_whole digits (λ n. unfold digits in refl) _ _ c.loop-i.i c.loop-i.rest (omega arith) c.loop-i.invariant

-- A digit goes over from those that are left to those that are written.
use Rattle.std.proofs.Common.{◌%◌, refl, arith}
use Rattle.buffers.specs.Buffers.{hex_digit}
use Rattle.facts.proofs.Written.{back_more, back_whole}
use Rattle.test_script.specs.Script.{digits_of}
use Rattle.test_script.proofs.hex_digits.Goals as goal

pub loop-i-preserved : goal.loop-i-preserved
loop-i-preserved c =
    let l = c.loop-i in
    back_more digits_of 16 (λ n. hex_digit (n % 16)) (λ k n. unfold digits_of in refl) _ l.out l.i l.rest _ (omega arith) (omega arith)
    c.hex_digit.ensures l.invariant

pub returns : goal.returns
returns c = back_whole digits_of (λ n. unfold digits_of in refl) _ _ c.loop-i.i c.loop-i.rest (omega arith) c.loop-i.invariant

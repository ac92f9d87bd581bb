-- `Search::look_lines`: each turn passes a descriptor and its strip; what is marked and what is still to look at add up to the same
-- (`SumSame`).
use mathlib.Core.Path.{refl, ◌∙◌}
use native.Mathlib.Omega.{arith}
use Rattle.ahead.proofs.Looks.{sum_on, lines_found}
use Rattle.ahead.proofs.Search.look_lines.Goals as goal

pub returns-in_err-look_whole : goal.returns-in_err-look_whole
returns-in_err-look_whole c =
    let l = c.loop-left in
    let sum = l.invariant.1 in
    let w = c.look_whole.ensures in
    rw c.from_residual.ensures
    (record {
      ram = w.ram ∙ sum.ram;
      sought = w.sought ∙ sum.sought;
      seen = lines_found l.p sum l.invariant.0 _ refl c.loop-left-test.true c.if-own-p.false _
          (omega (arith, c.descriptor_lines-lines.ensures, c.if-left-lines.false)) w c.in_err-look_whole.ensures.seen;
    })

pub loop-left-preserved : goal.loop-left-preserved
loop-left-preserved c =
    let l = c.loop-left in (
      omega arith,
      rw c.descriptor_lines-lines.ensures
          (sum_on l.p l.invariant.1 l.invariant.0 _ refl c.loop-left-test.true c.if-own-p.false _
          (omega (arith, c.descriptor_lines-lines.ensures, c.if-left-lines.false)) c.look_whole.ensures c.in_ok-look_whole.ensures.seen),
    )

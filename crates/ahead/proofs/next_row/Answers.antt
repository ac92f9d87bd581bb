-- `next_row`: no row of the words passed so far is marked; a word's rest tells of its rows (`word_first`).
use Rattle.ahead.proofs.Marks.{word_first}
use Rattle.ahead.proofs.next_row.Goals as goal

pub returns-then-rest-ne0 : goal.returns-then-rest-ne0
returns-then-rest-ne0 c =
    let l = c.loop-i in
    word_first c.args.marks.now c.args.from l.i _ c.max-first.ensures l.auto.i l.invariant c.loop-i-test.true (c.fits-marks _) _ c.lowest.ensures

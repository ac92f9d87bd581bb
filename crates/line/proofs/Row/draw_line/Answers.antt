-- `Row::draw_line`: the margin, then the row.
use Rattle.line.proofs.Strips.{characters_drawn, characters_none}
use Rattle.line.proofs.Row.draw_line.Goals as goal

pub returns-then-first-w : goal.returns-then-first-w
returns-then-first-w c =
    characters_drawn _ _ _ _ _ _ _ _ _ _ c.if-first-w.true c.fill_line.ensures c.draw.ensures

pub returns : goal.returns
returns c = characters_none _ _ _ _ _ _ _ _ c.if-first-w.false c.fill_line-2.ensures

-- `RowTable::character`: the columns with their shadow or without.
use Rattle.std.proofs.Common.{◌*◌, ◌+◌, ◌%◌, sym, ◌∙◌, arith, rules}
use lib.Bits.{bit_and}
use Rattle.paint.specs.Tables.{solid, shadowed}
use Rattle.paint.proofs.Spread.{bits_fit, fours, character-shadowed, character-solid}
use Rattle.paint.proofs.RowTable.character.Goals as goal

pub overflow_add-seamed : goal.overflow_add-seamed
overflow_add-seamed c = omega (arith, bits_fit _ _ c.args.word (omega (arith, c.ranges.low.fits)) _ _ c.paint_of-paint.ensures)

pub in_fours-requires-clause-bound : goal.in_fours-requires-clause-bound
in_fours-requires-clause-bound c = omega (arith, bits_fit _ _ c.args.word (omega (arith, c.ranges.low.fits)) _ _ c.paint_of-paint.ensures)

pub in_fours-requires-2-clause-bound : goal.in_fours-requires-2-clause-bound
in_fours-requires-2-clause-bound c = omega (arith, bits_fit _ _ c.args.word (omega (arith, c.ranges.low.fits)) _ _ c.paint_of-paint.ensures)

pub returns-then-takes_shadow : goal.returns-then-takes_shadow
returns-then-takes_shadow c =
    let p = c.paint_of-paint.result in
    let seamed = bit_and c.args.word p.kept + c.args.before % 2 * 4096 in
    character-shadowed _ _ _ _ _ c.requires.plain (omega (arith, c.ranges.low.fits)) _ c.paint_of-paint.ensures _
    (fours (shadowed p) seamed _ (search rules) (search rules) (search rules)) (sym c.takes_shadow.ensures ∙ c.if-takes_shadow.true)

pub returns : goal.returns
returns c =
    let p = c.paint_of-paint.result in
    character-solid _ _ _ _ _ c.requires.plain (omega (arith, c.ranges.low.fits)) _ c.paint_of-paint.ensures _
    (fours (solid p) (bit_and c.args.word p.kept) _ (search rules) (search rules) (search rules)) (sym c.takes_shadow.ensures ∙ c.if-takes_shadow.false)

-- `ask`: the tests, in their order, pick the case of `ask_pixel`.
use mathlib.Core.Path.{◌≡◌, sym, ◌∙◌}
use mathlib.Core.Bool.{true, ◌||◌}
use borrow.Author.Tests.{eq-eqb, ne_eqb, le-leb, lt-leb}
use lib.Dec.{leb}
use Rattle.device.specs.Device.{line_width}
use Rattle.pixel.specs.Ask.{pixel_verdict, pixel_by, ask_pixel}
use Rattle.pixel.proofs.Laws.{by_range}
use Rattle.pixel.proofs.ask.Goals as goal
use Rattle.pixel.proofs.ask.Goals.{then-x-from-via-then-x-from, then-x-from-via-else-x-from+then-y-lines}

pub returns-then-font-ne-FONT_LENGTH : goal.returns-then-font-ne-FONT_LENGTH
unfolding pixel_verdict pixel_by ask_pixel
returns-then-font-ne-FONT_LENGTH c = rw (eq-eqb _ _ c.if-ram-ne-RAM_LENGTH.false, ne_eqb _ _ c.if-font-ne-FONT_LENGTH.true)

pub returns-then-x-from : goal.returns-then-x-from
unfolding pixel_by
returns-then-x-from c =
    let w = c.from.ensures ∙ c.width.ensures.0 in
    let past : leb (line_width c.args.device.now) c.args.x || leb c.args.lines c.args.y ≡ true =
    elim c.then-x-from.branch [
      | then-x-from-via-then-x-from v ↦ rw (le-leb _ _ (rw w at v.if-x-from.true))
      | then-x-from-via-else-x-from+then-y-lines v ↦ rw (lt-leb _ _ (rw w at v.if-x-from.false), le-leb _ _ v.if-y-lines.true)
    ] in
    sym (by_range _ _ _ _ _ _ _ c.if-ram-ne-RAM_LENGTH.false c.if-font-ne-FONT_LENGTH.false (sym c.bad_line_count.ensures ∙ c.if-bad_line_count.false)
    ∙ rw past)

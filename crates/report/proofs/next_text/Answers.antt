-- `next_text`: the text of what a draw into a buffer of W bytes answered and left.
use Rattle.std.proofs.Common.{ap, refl, ◌∙◌, arith}
use borrow.Author.Tests.{eqb-false}
use Rattle.limits.specs.Limits.{line_max}
use Rattle.refusals.specs.Refusals.{accepted, refused}
use Rattle.refusals.proofs.Laws.{not-zero}
use Rattle.buffers.proofs.Laws.{filled_front}
use Rattle.device.specs.Device.{DrawOutcome}
use Rattle.report.specs.Report.{text_outcome, text_of}
use Rattle.report.proofs.Texts.{text-refused, text-drawn}
use Rattle.report.proofs.next_text.Goals as goal

pub returns-in_default : goal.returns-in_default
returns-in_default c =
    let d = c.draw_line.new in
    let not_drawn : DrawOutcome = record { device = d.self; line = d.line; reply = refused c.in_default.field-0 } in
    rw (← (c.from-width.ensures ∙ c.width.ensures.0), ← filled_front c.from-width.result line_max 0 (omega arith))
    (text-refused not_drawn c.args.out.now (eqb-false _ _ (not-zero c.in_default.field-0)) ∙ ap (λ (o : DrawOutcome). text_of o c.args.out.now) c.in_default.ensures)

pub returns : goal.returns
returns c =
    let d = c.draw_line.new in
    let drawn : DrawOutcome = record { device = d.self; line = d.line; reply = accepted c.in-Ok.cells } in
    rw (← (c.from-width.ensures ∙ c.width.ensures.0), ← filled_front c.from-width.result line_max 0 (omega arith))
    (text-drawn drawn c.args.out.now (text_outcome c.line_text.result c.line_text.new.out) refl c.line_text.ensures
    ∙ ap (λ (o : DrawOutcome). text_of o c.args.out.now) c.in-Ok.ensures)

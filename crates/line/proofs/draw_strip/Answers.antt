-- `draw_strip`: each way through the code is a case of `paint` and `shown_row`.
use Rattle.paint.specs.Pixels.{plain_of}
use mathlib.Core.Path.{refl}
use native.Mathlib.Omega.{arith}
use borrow.Author.Tests.{not-true, not-false}
use Rattle.line.proofs.Strips.{on_strip, on_line, slice_on_lem, strip_off, strip-plain, strip_characters, has_row}
use Rattle.line.proofs.draw_strip.Goals as goal

pub returns-then-not-settings : goal.returns-then-not-settings
returns-then-not-settings c =
    strip_off _ _ _ _ _ _ _ _ c.width-w.ensures (not-true _ c.if-not-settings.true) c.fill_line.ensures

pub returns-then-not-enabled : goal.returns-then-not-enabled
returns-then-not-enabled c =
    on_strip _ _ _ _ _ _ _ _ c.in-Characters.is
    (strip-plain _ _ _ _ _ _ _ _ c.width-w.ensures (not-false _ c.if-not-settings.false) (unfold has_row in c.if-not-enabled.true)
    c.fill_line-then-not-enabled.ensures)

pub slice-requires : goal.slice-requires
slice-requires c = on_line _ c.in-Characters.is c.requires.on_line

pub invariant_of-row : goal.invariant_of-row
invariant_of-row c =
    let p = c.requires in
    record {
      bytes = (c.fits-ram, c.fits-font);
      on_screen = slice_on_lem _ _ _ _ c.slice.ensures (on_line _ c.in-Characters.is p.on_line);
      plain = (omega arith, omega (arith, p.ld_bound.1));
    }

pub returns-in-Spacing : goal.returns-in-Spacing
returns-in-Spacing c =
    on_strip _ _ _ _ _ _ _ _ c.in-Spacing.is
    (strip-plain _ _ _ _ _ _ _ _ c.width-w.ensures (not-false _ c.if-not-settings.false) (unfold has_row in refl) c.fill_line-in-Spacing.ensures)

pub returns-else-not-enabled : goal.returns-else-not-enabled
returns-else-not-enabled c =
    on_strip _ _ _ _ _ _ _ _ c.in-Characters.is
    (strip_characters _ _ _ _ _ _ _ _ _ _ _ _ _ _ _ (not-false _ c.if-not-settings.false) c.if-not-enabled.false
    (λ i. record { slice = c.slice.ensures i; plain = plain_of c.args.settings.fbk; hidden = c.hidden.ensures i })
    c.first_pixel.ensures c.width-w.ensures c.draw_line.ensures)

-- `slice_lines`: from where the slice starts, up to where the next one does (`lines-shown`).
use Rattle.std.proofs.Common.{refl}
use Rattle.raster.proofs.Slices.{lines-shown}
use Rattle.raster.proofs.slice_lines.Goals as goal

pub returns-then-zoom : goal.returns-then-zoom
returns-then-zoom c =
    let a = c.args in
    lines-shown a.height a.zoom a.slice _
    (rw (c.saturating_sub.ensures, c.first_line-from.ensures.line, c.from-s.ensures, c.if-zoom.true) refl)
    (rw (c.saturating_sub-then-zoom.ensures, c.first_line-to.ensures.line, c.from-s.ensures, c.if-zoom.true) refl)

pub returns : goal.returns
returns c =
    let a = c.args in
    lines-shown a.height a.zoom a.slice _
    (rw (c.first_line-from.ensures.line, c.from-s.ensures, c.if-zoom.false) refl)
    (rw (c.first_line-to.ensures.line, c.from-s.ensures, c.if-zoom.false) refl)

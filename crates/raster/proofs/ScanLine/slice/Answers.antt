-- `ScanLine::slice`: before a step 1, and then one more than the steps.
use Rattle.raster.specs.Raster.{unzoomed, interpolated}
use Rattle.raster.proofs.Laws.{in_strip}
use Rattle.raster.proofs.Steps.{slice_first, slice-steps}
use Rattle.raster.proofs.ScanLine.slice.Goals as goal

pub returns-then-n-ch : goal.returns-then-n-ch
unfolding interpolated
returns-then-n-ch c =
    let a = c.args in
    rw (slice_first a.height (unzoomed a.zoom a.self.0) (rw (c.unzoom-n.ensures, c.from.ensures, c.from-ch.ensures) at c.if-n-ch.true))

pub returns : goal.returns
unfolding interpolated
returns c =
    let a = c.args in
    let pos = (in_strip a.self a.height a.zoom c.requires).1 in
    let past = rw (c.unzoom-n.ensures, c.from.ensures, c.from-ch.ensures) at c.if-n-ch.false in
    rw (c.steps_below_18.ensures, c.unzoom-n.ensures, c.from.ensures, c.from-ch.ensures, slice-steps a.height (unzoomed a.zoom a.self.0) pos past)

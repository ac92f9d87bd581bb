-- The draw into a line buffer of W bytes, mixed into the first 3 W bytes of out.
use Rattle.std.proofs.Common.{◌*◌, ◌++◌, ◌∙◌, drop, ap, arith}
use Rattle.limits.specs.Limits.{line_max}
use Rattle.buffers.proofs.Laws.{filled_front}
use Rattle.device.specs.Device.{DrawOutcome}
use Rattle.demo.specs.Picture.{line_outcome, mixed_draw}
use Rattle.demo.proofs.picture_line.Goals as goal

pub returns : goal.returns
returns c =
    let n = c.from-width.result in
    rw (← (c.from-width.ensures ∙ c.width.ensures.0), ← filled_front n line_max 0 (omega arith), c.mix_line.ensures)
    (ap (λ (o : DrawOutcome). line_outcome o.device ((mixed_draw o c.args.y).out ++ drop (3 * n) c.args.out.now)) c.draw_line.ensures)

-- A pixel goes over from the columns that are left to what is written.
use Rattle.std.proofs.Common.{◌∙◌, ap, arith}
use Rattle.demo.specs.Picture.{mix}
use Rattle.demo.proofs.Mixing.{mixed-more, mixed-whole}
use Rattle.demo.proofs.mix_line.Goals as goal

pub loop-x-preserved : goal.loop-x-preserved
loop-x-preserved c =
    mixed-more c.args.line.now c.loop-x.out c.args.y c.loop-x.x c.loop-x.invariant c.mix_pixel-c.result (omega arith) (omega arith)
    (c.mix_pixel-c.ensures ∙ ap (mix _) c.pixel.ensures)

pub returns : goal.returns
returns c = mixed-whole c.args.line.now c.loop-x.out c.args.y c.loop-x.x c.loop-x.invariant (omega arith) (omega arith)

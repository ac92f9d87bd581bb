-- What is printed in either case is the whole output.
use Rattle.std.proofs.Common.{OnOk, subst}
use Rattle.std.specs.Io.KnownBytes.{Appends}
use Rattle.bench.proofs.Parts.{refused_answer, started_answer}
use Rattle.bench.proofs.run.Goals as goal

pub returns-in-Ok : goal.returns-in-Ok
returns-in-Ok g c =
    subst (λ bs. OnOk c.show.result (Appends (g.W.Write.contents c.args.out.now) (g.W.Write.contents c.show.new.out) bs))
    (started_answer c.args.input.now c.in-Ok.device c.in-Ok.ensures) (rw (c.ram_part.ensures, c.font_part.ensures) at c.show.ensures)

pub returns-in-Err : goal.returns-in-Err
returns-in-Err g c =
    subst (λ bs. OnOk c.print.result (Appends (g.W.Write.contents c.args.out.now) (g.W.Write.contents c.print.new.out) bs))
    (refused_answer _ _ c.in-Err.refused _ _ c.in-Err.ensures c.number.ensures c.refusal_text-n.ensures) c.print.ensures

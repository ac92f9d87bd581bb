-- `RowTable::paint_of`: the background at BK, the changes from it, and the bits that are shown.
use Rattle.std.proofs.Common.{ℕ, ◌/◌, ◌%◌, List, get_or, ap, ◌∙◌, arith}
use Rattle.paint.specs.Tables.{fores, backs, shows, paint_of}
use Rattle.paint.proofs.Tables.{tabulate_at}
use Rattle.paint.proofs.RowTable.paint_of.Goals as goal

pub returns : goal.returns
unfolding paint_of
returns c =
    let t = c.args.self.now in
    let i = c.args.low / 16 in
    let j = c.args.low % 16 in
    let back = ap (λ (l : List ℕ). get_or l j 0) t.back_is ∙ tabulate_at (backs t.plain) 16 j (omega arith) in
    let fore = ap (λ (l : List ℕ). get_or l i 0) t.fore_is ∙ tabulate_at fores 16 i (omega arith) in
    let kept = ap (λ (l : List ℕ). get_or l i 0) t.shown_are ∙ tabulate_at (shows t.hidden) 16 i (omega arith) in
    rw (back, fore, kept)

-- `RowTable::shadowed`: the shadow at the index, over the columns without it.
use Rattle.std.proofs.Common.{ℕ, List, get_or, ap, ap₂, ◌∙◌}
use lib.Bits.{bit_or}
use Rattle.paint.specs.Tables.{casting, shadowed}
use Rattle.paint.proofs.Tables.{tabulate_at}
use Rattle.paint.proofs.RowTable.shadowed.Goals as goal

pub returns : goal.returns
unfolding shadowed
returns c =
    let a = c.args in
    ap₂ bit_or c.solid.ensures (ap (λ (l : List ℕ). get_or l a.i 0) a.self.now.shadows_are ∙ tabulate_at casting 32 a.i c.requires)

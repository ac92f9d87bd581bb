-- `RowTable::solid`: the mask at the index.
use Rattle.std.proofs.Common.{ℕ, List, get_or, ap, ◌∙◌}
use lib.Bits.{bit_and, bit_xor}
use Rattle.paint.specs.Tables.{facing, solid}
use Rattle.paint.proofs.Tables.{tabulate_at}
use Rattle.paint.proofs.RowTable.solid.Goals as goal

pub returns : goal.returns
unfolding solid
returns c =
    let a = c.args in
    let mask = ap (λ (l : List ℕ). get_or l a.i 0) a.self.now.masks_are ∙ tabulate_at facing 32 a.i c.requires in
    ap (λ (m : ℕ). bit_xor a.paint.back (bit_and m a.paint.fore)) mask

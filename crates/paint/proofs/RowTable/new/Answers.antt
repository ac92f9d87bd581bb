-- `RowTable::new`: each part is its definition, computed.
use Rattle.paint.specs.Tables.{tabulate, facing, casting, fores, backs, shows, mask_table, row_table}
use Rattle.std.proofs.Common.{refl}
use Rattle.paint.proofs.RowTable.new.Goals as goal

pub invariant_of-result : goal.invariant_of-result
unfolding tabulate facing casting fores backs shows
invariant_of-result c = record {
  masks_are = refl;
  shadows_are = refl;
  fore_is = refl;
  back_is = rw c.of_pixel-p.ensures refl;
  shown_are = rw (c.bits_kept-a.ensures, c.bits_kept-h.ensures) refl;
}

pub returns-clause-words : goal.returns-clause-words
unfolding tabulate facing casting fores backs shows mask_table row_table
returns-clause-words c = rw (c.of_pixel-p.ensures, c.bits_kept-a.ensures, c.bits_kept-h.ensures) refl

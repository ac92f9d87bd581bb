-- The proof of a line's rules (specs/Rules.antt): what it reads, in each role and in all, and its pixels.
-- Assumes nothing.
use Prim.Native.Nat.{ℕ, ◌≤◌, ◌<◌}
use native.Mathlib.Omega.{arith}
use Rattle.cells.specs.Reading.{slice, same_role}
use Rattle.cells.proofs.Bounds.{only-cells, only_as}
use Rattle.registers.specs.declared.Settings.{Settings}
use Rattle.registers.specs.Registers.{settings_of}
use Rattle.registers.proofs.Laws.{ld_bound_lem}
use Rattle.raster.specs.Raster.{characters_of}
use Rattle.line.specs.Line.{scan}
use Rattle.line.specs.Rules.{MostCells, LinePixels}
use Rattle.line.proofs.Laws.{paint-length, paint-below}
use Rattle.line.proofs.Asks.{Allowed, scan_allowed}
use Rattle.line.proofs.Counts.{scan-descriptors, scan-codes, scan-slices, characters_bound, line-most}

pub most-cells : MostCells
unfolding same_role
most-cells r w ram =
    let s : Settings = settings_of r in
    let n : characters_of s.ld s.dd ≤ 61 = characters_bound s.ld s.dd (ld_bound_lem r) in
    record {
      descriptors = scan-descriptors s w ram;
      codes = omega (arith, scan-codes s w ram);
      slices = omega (arith, scan-slices s w ram);
      most = line-most r w ram;
      below = only-cells Allowed _ ram (λ (c : ℕ). c < 1024) (λ q c a. a.below) (scan s w) (scan_allowed s w);
      on_screen = λ c t. (only_as Allowed _ ram slice (scan s w) (scan_allowed s w) c t).on_screen tt;
    }

pub line-pixels : LinePixels
line-pixels r font f row = record { wide = paint-length (settings_of r) font f row; below = paint-below r font f row }

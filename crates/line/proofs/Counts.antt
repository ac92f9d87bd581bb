-- How many cells a line reads: in each role, and so in all at most 1,268.
-- Assumes nothing.
use Prim.Native.Nat.{ℕ, zero, suc, ◌+◌, ◌*◌, ◌≤◌, ◌<◌}
use mathlib.Core.List.{List, []}
use native.Mathlib.Omega.{arith}
use lib.ListN.{length, get_or}
use Rattle.limits.specs.Limits.{ram_pairs, line_cells}
use Rattle.facts.proofs.Choice.{either}
use Rattle.cells.specs.Reading.{Role, descriptor, code, slice, value, cells, same_role, cells_as}
use Rattle.cells.proofs.Counts.{Few, few-done, few-bind, few-fmap, two, few_two, few-all}
use Rattle.registers.specs.declared.Registers.{Registers}
use Rattle.registers.specs.declared.Settings.{Settings}
use Rattle.registers.specs.Registers.{settings_of}
use Rattle.registers.proofs.Laws.{ld_bound_lem}
use Rattle.raster.specs.declared.Slice.{Slice}
use Rattle.raster.specs.Raster.{characters_of, interpolated}
use Rattle.walk.specs.declared.Strip.{Strip}
use Rattle.walk.specs.declared.Strip.TheVariants.{Spacing, Characters}
use Rattle.walk.specs.declared.Walk.{Walk}
use Rattle.walk.specs.Walk.{even, next, next_line}
use Rattle.walk.proofs.Laws.{next_line-few}
use Rattle.glyph.specs.Glyph.{ends_line, glyph_of}
use Rattle.glyph.proofs.Cells.{glyph-few}
use Rattle.line.specs.Line.{codes_by, codes, row_by, shown_by, scan_by, scan}

-- ---- the reads in a role

-- of a code and a user slice
each : Role → ℕ
each r = two r code + two r slice

module _ (r : Role) (ram : List ℕ) where
  codes-few : (n : ℕ) (s : Slice) (a : ℕ) → Few r ram (n * each r) (codes n s a)
  unfolding codes_by each
  codes-few zero s a = few-done r ram (0 * each r) []
  codes-few (suc n) s a =
      few_two r ram code (suc n * each r) (two r slice + n * each r) (even a) (even a + 1) _ (omega arith)
      (either (Few r ram (two r slice + n * each r)) (ends_line (get_or ram (even a + 1) 0)) _ _ (few-done r ram _ [])
      (few-bind r ram (two r slice) (n * each r) (glyph_of (get_or ram (even a + 1) 0) s) _ (glyph-few r ram (get_or ram (even a + 1) 0) s)
      (few-fmap r ram (n * each r) _ (codes n s (next a)) (codes-few n s (next a)))))

  row-few : (n : ℕ) (s : Strip) → Few r ram (n * each r) (row_by glyph_of n s)
  unfolding row_by
  row-few n (Spacing left) = few-done r ram (n * each r) []
  row-few n (Characters address height zoom enabled line) =
      either (Few r ram (n * each r)) enabled _ _ (codes-few n (interpolated line height zoom) address) (few-done r ram _ [])

  -- a line: what the walk reads, and a code and a user slice for each character
  scan-few : (s : Settings) (w : Walk) → Few r ram (ram_pairs * two r descriptor + characters_of s.ld s.dd * each r) (scan s w)
  unfolding scan_by shown_by
  scan-few s w =
      let n : ℕ = characters_of s.ld s.dd in
      few-bind r ram (ram_pairs * two r descriptor) (n * each r) (next_line s.ch w) _ (next_line-few r ram s.ch w)
      (few-fmap r ram (n * each r) _ _
      (either (Few r ram (n * each r)) s.osd _ _ (row-few n (value ram (next_line s.ch w)).strip) (few-done r ram _ [])))

-- two cells for each descriptor
pub scan-descriptors : (s : Settings) (w : Walk) (ram : List ℕ) → length (cells_as descriptor ram (scan s w)) ≤ 2 * ram_pairs
unfolding two each same_role
scan-descriptors s w ram = omega (arith, scan-few descriptor ram s w)

-- two cells for each code
pub scan-codes : (s : Settings) (w : Walk) (ram : List ℕ) → length (cells_as code ram (scan s w)) ≤ 2 * characters_of s.ld s.dd
unfolding two each same_role
scan-codes s w ram = omega (arith, scan-few code ram s w)

-- two cells for each user slice
pub scan-slices : (s : Settings) (w : Walk) (ram : List ℕ) → length (cells_as slice ram (scan s w)) ≤ 2 * characters_of s.ld s.dd
unfolding two each same_role
scan-slices s w ram = omega (arith, scan-few slice ram s w)

-- ---- all roles together

pub codes-most : (n : ℕ) (s : Slice) (a : ℕ) (ram : List ℕ) → length (cells ram (codes n s a)) ≤ 4 * n
unfolding two each same_role
codes-most n s a ram = omega (arith, few-all (λ r. n * each r) ram (codes n s a) (λ r. codes-few r ram n s a))

-- at most 61 characters start on a line
pub characters_bound : (ld dd : ℕ) → ld < 64 → characters_of ld dd ≤ 61
characters_bound ld dd h = omega arith

-- a line reads at most 1,268 cells: 512 descriptors, 61 codes, 61 user slices
pub line-most : (r : Registers) (w : Walk) (ram : List ℕ) → length (cells ram (scan (settings_of r) w)) ≤ line_cells
unfolding two each same_role
line-most r w ram =
    let s : Settings = settings_of r in
    let n : ℕ = characters_of s.ld s.dd in
    omega (arith, few-all (λ q. ram_pairs * two q descriptor + n * each q) ram (scan s w) (λ q. scan-few q ram s w), characters_bound s.ld s.dd (ld_bound_lem r))

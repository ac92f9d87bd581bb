-- What a line can read and find over any lookup, and which slices it asks for.
-- Assumes nothing.
use Prim.Native.Nat.{ℕ, zero, suc, ◌+◌, ◌<◌}
use mathlib.Core.Path.{◌≡◌, refl, sym, ap, ◌∙◌}
use mathlib.Core.Bool.{Bool, true, false, cond}
use mathlib.Core.List.{List, [], ◌∷◌, ◌++◌}
use native.Mathlib.Omega.{arith}
use lib.Dec.{T}
use lib.ListN.{length, get_or}
use Rattle.facts.proofs.Choice.{either, both}
use Rattle.cells.specs.Reading.{Role, descriptor, code, slice, same_role, Reading, done, bind, fmap, value, cells_as}
use Rattle.cells.proofs.Laws.{value-bind, value-fmap}
use Rattle.cells.proofs.Roles.{cells_as-bind, cells_as-fmap}
use Rattle.cells.proofs.Bounds.{Only, only-value, only_as, only_none, only-bind, only-fmap}
use Rattle.registers.specs.declared.Settings.{Settings}
use Rattle.raster.specs.declared.Slice.{Slice}
use Rattle.raster.specs.Raster.{OnScreen, characters_of, interpolated}
use Rattle.raster.proofs.Rules.{slice_range}
use Rattle.walk.specs.declared.Strip.{Strip}
use Rattle.walk.specs.declared.Strip.TheVariants.{Spacing, Characters}
use Rattle.walk.specs.declared.Walk.{Walk}
use Rattle.walk.specs.Walk.{even, next, next_line, OnLine}
use Rattle.walk.proofs.Laws.{even_bound, next_line-only}
use Rattle.glyph.specs.Glyph.{Glyph, ends_line, glyph_of}
use Rattle.glyph.specs.Cells.{user_slice}
use Rattle.glyph.proofs.Cells.{glyph_of-only}
use Rattle.line.specs.Line.{Place, codes_by, codes, row_by, shown_by, shown_row, Scanned, scan_by, scan}
use Rattle.line.specs.Asked.{noting, asked, FontOnScreen, EachGlyph, SlicesAsked}
use Rattle.line.proofs.Strips.{scan-value}

-- ---- over any lookup

-- if what a lookup reads and gives for slices on screen has P and Q, then so has what a line reads, and each glyph of its row
module _ (look : ℕ → Slice → Reading Glyph) (P : Role → ℕ → Type 0) (Q : Glyph → Type 0)
    (descriptors : (c : ℕ) → c < 1024 → P descriptor c) (code-cells : (c : ℕ) → c < 1024 → P code c)
    (looks : (high : ℕ) (s : Slice) → OnScreen s → Only P Q (look high s)) where
  codes-only : (n : ℕ) (s : Slice) (a : ℕ) → OnScreen s → Only P (EachGlyph Q) (codes_by look n s a)
  unfolding codes_by Only EachGlyph
  codes-only zero s a h = tt
  codes-only (suc n) s a h = (
    code-cells _ (omega (arith, even_bound a)),
    λ low. (
      code-cells _ (even_bound a),
      λ high.
          either (Only P (EachGlyph Q)) (ends_line high) (done []) _ tt
          (only-bind P Q (EachGlyph Q) (look high s) _ (looks high s h)
          (λ g q. only-fmap P (EachGlyph Q) (EachGlyph Q) _ (codes_by look n s (next a)) (codes-only n s (next a) h) (λ places qs. (q, qs)))),
    ),
  )

  none_only : Only P (EachGlyph Q) (done [])
  unfolding Only EachGlyph
  none_only = tt

  row-only : (n : ℕ) (t : Strip) → OnLine t → Only P (EachGlyph Q) (row_by look n t)
  unfolding row_by OnLine
  row-only n (Spacing left) h = none_only
  row-only n (Characters address height zoom enabled line) h =
      either (Only P (EachGlyph Q)) enabled _ _ (codes-only n (interpolated line height zoom) address (slice_range line height zoom h)) none_only

  scan-only : (s : Settings) (w : Walk) → Only P (λ (x : Scanned). EachGlyph Q x.row) (scan_by (shown_by look) s w)
  unfolding scan_by shown_by
  scan-only s w =
      only-bind P (λ (v : Walk). OnLine v.strip) _ (next_line s.ch w) _ (next_line-only P descriptors s.ch w)
      (λ v h.
      only-fmap P (EachGlyph Q) _ _ _
      (either (Only P (EachGlyph Q)) s.osd _ _ (row-only (characters_of s.ld s.dd) v.strip h) none_only) (λ row q. q))

-- ---- what a line reads, and its glyphs

-- cells of the RAM; as slices, those of slices on screen
pub record Allowed (q : Role) (c : ℕ) : Type 0 where
  pub below : c < 1024
  pub on_screen : T (same_role slice q) → OnScreen (user_slice c)

pub scan_allowed : (s : Settings) (w : Walk) → Only Allowed (λ (x : Scanned). EachGlyph FontOnScreen x.row) (scan s w)
unfolding same_role FontOnScreen
scan_allowed =
    scan-only glyph_of Allowed FontOnScreen (λ c l. record { below = l; on_screen = λ t. absurd t })
    (λ c l. record { below = l; on_screen = λ t. absurd t })
    (λ high s h. glyph_of-only Allowed FontOnScreen s h (λ c l o. record { below = l; on_screen = λ t. o }) (λ number. h) (λ first second. tt) tt high)

-- ---- what a line notes of the slices that it asks for

-- what is read as a slice is the number of one on screen
abbrev Noted : Role → ℕ → Type 0
Noted q c = T (same_role slice q) → OnScreen (record { 0 = c })

noted : (ram : List ℕ) (s : Settings) (w : Walk)
    → Only Noted (λ (x : Scanned). EachGlyph (λ (g : Glyph). Unit {0}) x.row) (scan_by (shown_by (noting ram)) s w)
unfolding same_role noting Only
noted ram =
    scan-only (noting ram) Noted (λ (g : Glyph). Unit {0}) (λ c l t. absurd t) (λ c l t. absurd t) (λ high s h. (λ t. h, λ x. tt))

module _ (ram : List ℕ) where
  -- p notes as many slices as q finds characters, and finds the same
  abbrev Notes : Reading (List Place) → Reading (List Place) → Type 0
  Notes p q = (length (cells_as slice ram p) ≡ length (value ram q)) × (value ram p ≡ value ram q)

  none_notes : Notes (done []) (done [])
  unfolding cells_as value
  none_notes = (refl, refl)

  codes_note : (n : ℕ) (s : Slice) (a : ℕ) → Notes (codes_by (noting ram) n s a) (codes n s a)
  unfolding codes_by noting bind cells_as same_role value
  codes_note zero s a = (refl, refl)
  codes_note (suc n) s a = by (ends_line (get_or ram (even a + 1) 0)) (codes_note n s (next a))
    where
      low : ℕ
      low = get_or ram (even a) 0

      high : ℕ
      high = get_or ram (even a + 1) 0

      at : Glyph → List Place → List Place
      at g places = (record { low = low; glyph = g }) ∷ places

      found : value ram (bind (glyph_of high s) λ g. fmap (at g) (codes n s (next a))) ≡ at (value ram (glyph_of high s)) (value ram (codes n s (next a)))
      found = value-bind ram (glyph_of high s) _ ∙ value-fmap ram _ (codes n s (next a))

      by : (t : Bool) → Notes (codes_by (noting ram) n s (next a)) (codes n s (next a))
          → Notes (cond t (done []) (bind (noting ram high s) λ g. fmap (at g) (codes_by (noting ram) n s (next a))))
          (cond t (done []) (bind (glyph_of high s) λ g. fmap (at g) (codes n s (next a))))
      by true e = (refl, refl)
      by false e = (
        ap (λ (l : List ℕ). suc (length l)) (cells_as-fmap slice ram _ (codes_by (noting ram) n s (next a))) ∙ ap suc e.0 ∙ sym (ap length found),
        value-fmap ram _ (codes_by (noting ram) n s (next a)) ∙ ap (at (value ram (glyph_of high s))) e.1 ∙ sym found,
      )

  row_notes : (n : ℕ) (t : Strip) → Notes (row_by (noting ram) n t) (row_by glyph_of n t)
  unfolding row_by
  row_notes n (Spacing left) = none_notes
  row_notes n (Characters address height zoom enabled line) =
      both Notes enabled _ _ _ _ (codes_note n (interpolated line height zoom) address) none_notes

  shown_notes : (s : Settings) (t : Strip) → Notes (shown_by (noting ram) s t) (shown_row s t)
  unfolding shown_by
  shown_notes s t = both Notes s.osd _ _ _ _ (row_notes (characters_of s.ld s.dd) t) none_notes

  -- a walk's next line reads descriptors alone
  walk_none : (ch : ℕ) (w : Walk) → cells_as slice ram (next_line ch w) ≡ []
  unfolding same_role
  walk_none ch w =
      let only : Role → ℕ → Type 0 = λ q c. T (same_role descriptor q) in
      only_none only _ ram slice (λ c t. t) (next_line ch w) (next_line-only only (λ c l. tt) ch w)

  module _ (s : Settings) (w : Walk) where
    abbrev at : Walk → List Place → Scanned
    at v row = record { walk = v; row = row }

    each-asked : length (asked ram s w) ≡ length (value ram (scan s w)).row
    unfolding asked scan_by
    each-asked =
        let v : Walk = value ram (next_line s.ch w) in
        ap length (cells_as-bind slice ram (next_line s.ch w) _
        ∙ ap (λ (l : List ℕ). l ++ cells_as slice ram (fmap (at v) (shown_by (noting ram) s v.strip))) (walk_none s.ch w)
        ∙ cells_as-fmap slice ram _ (shown_by (noting ram) s v.strip))
        ∙ (shown_notes s v.strip).0
        ∙ sym (ap (λ (x : Scanned). length x.row) (scan-value shown_row ram s w))

    same_found : value ram (scan_by (shown_by (noting ram)) s w) ≡ value ram (scan s w)
    same_found =
        let v : Walk = value ram (next_line s.ch w) in
        scan-value (shown_by (noting ram)) ram s w ∙ ap (at v) (shown_notes s v.strip).1 ∙ sym (scan-value shown_row ram s w)

pub slices-asked : SlicesAsked
unfolding asked same_role
slices-asked ram s w =
    record {
      same = same_found ram s w;
      each = each-asked ram s w;
      on_screen = λ t m. only_as Noted _ ram slice (scan_by (shown_by (noting ram)) s w) (noted ram s w) t m tt;
      in_font = only-value Allowed (λ (x : Scanned). EachGlyph FontOnScreen x.row) ram (scan s w) (scan_allowed s w);
    }

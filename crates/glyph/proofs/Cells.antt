-- Which codes read a cell: those of the user character that it belongs to, in its own slice. What a code can read: cells of slices on screen.
-- Assumes nothing.
use Prim.Native.Nat.{ℕ, ◌+◌, ◌-◌, ◌*◌, ◌/◌, ◌%◌, ◌≤◌, ◌<◌}
use mathlib.Core.Path.{◌≡◌, refl, sym, ap, ◌∙◌, subst}
use mathlib.Core.Bool.{Bool, true, false, cond, ◌&&◌}
use mathlib.Core.List.{List}
use native.Mathlib.Decide.{ℕ_discrete, dec_lt}
use native.Mathlib.Omega.{arith}
use borrow.Author.Tests.{ltb-true, eq-eqb, ne_eqb, lt-ltb, le-ltb}
use lib.Dec.{eqb, ltb, lt→ltb}
use lib.ListN.{length}
use mir.Facts.{and_yes, yes_and, eqb_yes, yes_eqb, ltb_yes}
use Rattle.facts.proofs.Choice.{either}
use Rattle.facts.proofs.Pairs.{pair_is}
use Rattle.facts.proofs.Tests.{iff}
use Rattle.cells.specs.Reading.{Role, slice, same_role, done, read, cells, among}
use Rattle.cells.proofs.Bounds.{Only}
use Rattle.cells.proofs.Counts.{Few, few-done, two, few_two, few-all}
use Rattle.raster.specs.declared.Slice.{Slice}
use Rattle.raster.specs.Raster.{OnScreen}
use Rattle.raster.specs.Search.{InCharacter, same_slice}
use Rattle.glyph.specs.Glyph.{Glyph, font, user, blank, user_cell, in_ram, glyph_of}
use Rattle.glyph.specs.Cells.{of_user, user_high, user_slice}

-- the cell is of a user character's slice s
abbrev pub of_slice : ℕ → Slice → Bool
of_slice c s = same_slice s (user_slice c) && of_user c

module _ (c : ℕ) (s : Slice) where
  -- the two cells of a user character's slice belong to that character and to that slice
  pub belongs : (number : ℕ) → InCharacter s → c / 2 * 2 ≡ user_cell number s.0 → (c / 38 ≡ number) × ((user_slice c).0 ≡ s.0)
  unfolding user_slice
  belongs number k e =
      let d : c / 38 ≡ number = omega arith in
      let m : c % 38 ≡ c - 38 * number = omega arith in
      (d, omega arith)

  -- what a user character's slice reads
  user-reads : (number : ℕ) → number < 26 → OnScreen s → eqb (c / 2 * 2) (user_cell number s.0) ≡ of_slice c s && eqb (128 + number) (user_high c)
  unfolding user_slice
  user-reads number h k =
      iff (eqb (c / 2 * 2) (user_cell number s.0)) (of_slice c s && eqb (128 + number) (user_high c))
      (λ t.
      let e : c / 2 * 2 ≡ user_cell number s.0 = eqb_yes t in
      let (d, m) = belongs number k.to e in
      yes_and (of_slice c s) (eqb (128 + number) (user_high c))
      (yes_and (same_slice s (user_slice c)) (of_user c) (yes_eqb {a = s.0} {b = c % 38 / 2} (omega arith)) (lt→ltb c 988 (omega arith)))
      (yes_eqb {a = 128 + number} {b = user_high c} (omega arith)))
      (λ t.
      let o = and_yes (of_slice c s) (eqb (128 + number) (user_high c)) t in
      let e : s.0 ≡ c % 38 / 2 = eqb_yes (and_yes (same_slice s (user_slice c)) (of_user c) o.0).0 in
      let q : 128 + number ≡ user_high c = eqb_yes o.1 in
      yes_eqb {a = c / 2 * 2} {b = user_cell number s.0} (omega arith))

  -- where no cell is read, the cell is of no such character
  none_reads : (high : ℕ) → (high ≡ user_high c → c < 988 → ⊥) → false ≡ of_slice c s && eqb high (user_high c)
  none_reads high h =
      iff false (of_slice c s && eqb high (user_high c)) (λ t. absurd t)
      (λ t.
      let o = and_yes (of_slice c s) (eqb high (user_high c)) t in
      absurd (h (eqb_yes o.1) (ltb_yes (and_yes (same_slice s (user_slice c)) (of_user c) o.0).1)))

  pub glyph-reads : (ram : List ℕ) (high : ℕ) → high < 256 → OnScreen s
      → among c (cells ram (glyph_of high s)) ≡ of_slice c s && eqb high (user_high c)
  unfolding glyph_of in_ram cells among
  glyph-reads ram high h k = by (ℕ_discrete (high / 128 % 2) 0) (dec_lt (high % 128) 26)
    where
      by : Dec (high / 128 % 2 ≡ 0) → Dec (high % 128 < 26)
          → among c (cells ram (glyph_of high s)) ≡ of_slice c s && eqb high (user_high c)
      by (yes e) d = rw (eq-eqb _ _ e) (none_reads high (λ q l. omega arith))
      by (no e) (no l) = rw (ne_eqb _ _ e, le-ltb (high % 128) 26 (omega arith)) (none_reads high (λ q m. omega arith))
      by (no e) (yes l) =
          let n : 128 + high % 128 ≡ high = omega arith in
          rw (ne_eqb _ _ e, lt-ltb (high % 128) 26 l)
          (pair_is c (user_cell (high % 128) s.0) (omega arith)
          ∙ user-reads (high % 128) l k
          ∙ ap (λ (m : ℕ). of_slice c s && eqb m (user_high c)) n)

-- ---- what a glyph reads, and what it is

module _ (P : Role → ℕ → Type 0) (Q : Glyph → Type 0) (s : Slice) (on : OnScreen s)
    (slices : (c : ℕ) → c < 1024 → OnScreen (user_slice c) → P slice c)
    (fonts : (number : ℕ) → Q (font number s.0)) (users : (first second : ℕ) → Q (user first second)) (none : Q blank) where
  of_slice_lem : (number c : ℕ) → c / 2 * 2 ≡ user_cell number s.0 → OnScreen (user_slice c)
  of_slice_lem number c e = subst (λ (n : ℕ). OnScreen (record { 0 = n })) (sym (belongs c s number on.to e).1) on

  pub glyph_of-only : (high : ℕ) → Only P Q (glyph_of high s)
  unfolding glyph_of in_ram Only
  glyph_of-only high = either (Only P Q) (eqb (high / 128 % 2) 0) _ _ (fonts (high % 128)) (by (ltb (high % 128) 26) refl)
    where
      by : (t : Bool) → ltb (high % 128) 26 ≡ t
          → Only P Q
          (cond t
          (read slice (user_cell (high % 128) s.0) λ first. read slice (user_cell (high % 128) s.0 + 1) λ second. done (user first second))
          (done blank))
      by true e =
          let a : ℕ = user_cell (high % 128) s.0 in
          let l = ltb-true (high % 128) 26 e in (
            slices a (omega (arith, l, on.to)) (of_slice_lem (high % 128) a (omega arith)),
            λ first. (slices (a + 1) (omega (arith, l, on.to)) (of_slice_lem (high % 128) (a + 1) (omega arith)), λ second. users first second),
          )
      by false e = none

-- ---- how many cells it reads

pub glyph-few : (r : Role) (ram : List ℕ) (high : ℕ) (s : Slice) → Few r ram (two r slice) (glyph_of high s)
unfolding glyph_of in_ram
glyph-few r ram high s =
    either (Few r ram (two r slice)) (eqb (high / 128 % 2) 0) _ _ (few-done r ram _ _)
    (either (Few r ram (two r slice)) (ltb (high % 128) 26) _ _ (few_two r ram slice _ 0 _ _ _ (omega arith) (few-done r ram 0 _)) (few-done r ram _ _))

pub glyph-most : (high : ℕ) (s : Slice) (ram : List ℕ) → length (cells ram (glyph_of high s)) ≤ 2
unfolding two same_role
glyph-most high s ram = few-all (λ r. two r slice) ram (glyph_of high s) (λ r. glyph-few r ram high s)

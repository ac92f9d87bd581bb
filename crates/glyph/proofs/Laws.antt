-- The laws of codes and glyphs: the two bytes of a slice, and what their word shows.
-- Assumes nothing.
use Prim.Native.Nat.{ℕ, ◌+◌, ◌%◌, ◌/◌, ◌≤◌, ◌<◌}
use mathlib.Core.Path.{◌≡◌, refl, sym, ap, ◌∙◌}
use mathlib.Core.Bool.{Bool, true, false, cond}
use native.Mathlib.Nat.{add-zero}
use native.Mathlib.Omega.{arith}
use borrow.Author.Tests.{eq-eqb, ne_eqb, lt-ltb, le-ltb, eqb-true}
use mathlib.Core.List.{List, [], ◌∷◌}
use lib.Dec.{ltb, eqb}
use lib.ListN.{length, get_or, take, drop, length-take, length-drop}
use Rattle.std.specs.Prelude.{Some, None}
use Rattle.std.specs.Int.{w16, from_le_bytes}
use Rattle.facts.proofs.Parts.{get_d_part}
use Rattle.cells.specs.Reading.{slice, Reading, done, read, value, cells}
use Rattle.raster.specs.declared.Slice.{Slice}
use Rattle.glyph.specs.Glyph.{Glyph, font, user, blank, ends_line, user_cell, font_byte, in_ram, glyph_of, of_bytes, twelve, bits_of, slice_part}
use Rattle.glyph.specs.declared.Word.{Word}
use Rattle.glyph.specs.Words.{in_order, word_of, glyph_word, word_in}

-- ---- the two bytes of a slice are the part that the lookup returns

pub part_length : (l : List ℕ) (a : ℕ) → a + 2 ≤ length l → length (take 2 (drop a l)) ≡ 2
part_length l a h = simp (length-take, length-drop) (omega arith)

-- ---- a code's word, case by case

-- a part's two bytes as a number
abbrev pub word_at : List ℕ → ℕ
word_at part = from_le_bytes w16 (get_or part 0 0 ∷ get_or part 1 0 ∷ [])

part-word : (l : List ℕ) (a : ℕ) → word_at (take 2 (drop a l)) ≡ in_order (get_or l a 0) (get_or l (a + 1) 0)
part-word l a = rw (get_d_part l a 2 0 0 (omega arith), get_d_part l a 2 1 0 (omega arith), add-zero) (omega arith)

module _ (ram f : List ℕ) (high : ℕ) (s : Slice) where
  -- a font character
  pub glyph_font : high < 128 → record { bits = word_at (slice_part ram f high s.0); cells = 0 } ≡ glyph_word ram f high s
  unfolding slice_part glyph_of value cells of_bytes
  glyph_font h = rw (eq-eqb (high / 128 % 2) 0 (omega arith), part-word)

  -- a user character
  pub glyph_user : 128 ≤ high → high < 154 → record { bits = word_at (slice_part ram f high s.0); cells = 2 } ≡ glyph_word ram f high s
  unfolding slice_part glyph_of in_ram value cells of_bytes
  glyph_user l h = rw (ne_eqb (high / 128 % 2) 0 (λ e. omega arith), lt-ltb (high % 128) 26 (omega arith), part-word)

  -- all background, or the end of line
  pub glyph_blank : 154 ≤ high → high < 256 → record { bits = 0; cells = 0 } ≡ glyph_word ram f high s
  unfolding glyph_of in_ram value cells of_bytes
  glyph_blank l h = rw (ne_eqb (high / 128 % 2) 0 (λ e. omega arith), le-ltb (high % 128) 26 (omega arith))

  -- what the lookup finds: any word, but at the end of line
  pub word_found : ends_line high ≡ false → Some (glyph_word ram f high s) ≡ word_in ram f high s
  unfolding word_in
  word_found e = rw e

  -- the end of line has no bits and no cells
  pub glyph_end : ends_line high ≡ true → record { bits = 0; cells = 0 } ≡ glyph_word ram f high s
  glyph_end e = glyph_blank (omega (arith, eqb-true high 255 e)) (omega (arith, eqb-true high 255 e))

  -- the end of line
  pub word_end : ends_line high ≡ true → None ≡ word_in ram f high s
  unfolding word_in
  word_end e = rw e

  module _ (w : Word) (h : word_in ram f high s ≡ Some w) where
    word_is : (ends_line high ≡ false) × (glyph_word ram f high s ≡ w)
    unfolding word_in
    word_is = by (ends_line high) h
      where
        by : (t : Bool) → cond t None (Some (glyph_word ram f high s)) ≡ Some w → (t ≡ false) × (glyph_word ram f high s ≡ w)
        by true e = absurd cc
        by false e = (refl, cc)

    pub word_on : ends_line high ≡ false
    word_on = word_is.0

    pub word-reads : w.cells ≡ length (cells ram (glyph_of high s))
    word-reads = ap (λ (x : Word). x.cells) (sym word_is.1)

    word-bits : w.bits ≡ word_of f (value ram (glyph_of high s))
    word-bits = ap (λ (x : Word). x.bits) (sym word_is.1)

  pub none_end : word_in ram f high s ≡ None → ends_line high ≡ true
  unfolding word_in
  none_end h = by (ends_line high) h
    where
      by : (t : Bool) → cond t None (Some (glyph_word ram f high s)) ≡ None → t ≡ true
      by true e = refl
      by false e = absurd cc

-- ---- what a word shows

-- the low twelve bits of two bytes as they lie
low-twelve : (first second : ℕ) → first < 256 → in_order first second % 4096 ≡ twelve first second
low-twelve first second h = omega arith

-- a word's low twelve bits are the glyph's, of every code
pub glyph_low : (ram f : List ℕ) (high : ℕ) (s : Slice) → ((i : ℕ) → get_or ram i 0 < 256) → ((i : ℕ) → get_or f i 0 < 256)
    → (glyph_word ram f high s).bits % 4096 ≡ bits_of f (value ram (glyph_of high s))
unfolding glyph_of in_ram value of_bytes
glyph_low ram f high s b d = by (eqb (high / 128 % 2) 0) (ltb (high % 128) 26)
  where
    of_ram : Bool → Reading Glyph
    of_ram u =
        cond u
        (read slice (user_cell (high % 128) s.0) λ first. read slice (user_cell (high % 128) s.0 + 1) λ second. done (user first second))
        (done blank)

    by : (t u : Bool)
        → word_of f (value ram (cond t (done (font (high % 128) s.0)) (of_ram u))) % 4096
        ≡ bits_of f (value ram (cond t (done (font (high % 128) s.0)) (of_ram u)))
    by true u = low-twelve _ _ (d (font_byte (high % 128) s.0))
    by false true = low-twelve _ _ (b (user_cell (high % 128) s.0))
    by false false = refl

-- of a word that the lookup finds
pub word_low : (ram f : List ℕ) (high : ℕ) (s : Slice) → ((i : ℕ) → get_or ram i 0 < 256) → ((i : ℕ) → get_or f i 0 < 256)
    → (w : Word) → word_in ram f high s ≡ Some w → w.bits % 4096 ≡ bits_of f (value ram (glyph_of high s))
word_low ram f high s b d w h = ap (λ (n : ℕ). n % 4096) (word-bits ram f high s w h) ∙ glyph_low ram f high s b d

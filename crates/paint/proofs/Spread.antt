-- Four columns at a time: the bytes of the numbers that the tables make are the columns.
-- Assumes nothing.
use Prim.Native.Nat.{ℕ, zero, suc, ◌+◌, ◌-◌, ◌*◌, ◌/◌, ◌%◌, ◌^◌, ◌≤◌, ◌<◌}
use mathlib.Core.Path.{◌≡◌, refl, sym, ap, ap₂, ◌∙◌}
use mathlib.Core.Bool.{Bool, true, false, cond, ◌&&◌}
use mathlib.Core.List.{List, [], ◌∷◌, ◌++◌}
use native.Mathlib.Nat.{div-div-eq-div-mul}
use native.Mathlib.Omega.{arith}
use Rattle.facts.proofs.Choice.{either, cond_same}
use lib.Bits.{bit_and, bit_or, bit_xor, xor_assoc, xor_self, xor_zero_l, xor_zero_r, xor_lt, or_zero_r, and_zero_l, and_zero_r, and_comm, and_mask, and_mod, or_mod, xor_mod, and_shr, or_shr, xor_shr}
use native.Mathlib.Decide.{ℕ_discrete}
use borrow.Author.Tests.{eq-eqb, ne_eqb, lt-ltb, le-ltb, le-leb, lt-leb}
use borrow.Rule.Slice.PartMut.{put_mid}
use lib.Dec.{eqb, ltb, leb}
use lib.ListN.{length, drop, set}
use lib.Seq.{drop-drop, drop-length}
use Rattle.paint.specs.declared.Paint.{Paint}
use Rattle.paint.specs.declared.Fours.{Fours}
use Rattle.paint.specs.Pixels.{Ink, ink_of, pixel, columns, shown_bits, twelve_columns, takes_shadow}
use Rattle.paint.specs.Tables.{in_four, facing, casting, of_pixel, fores, backs, shows, paint_of, solid, shadowed, IsPlain, four_of, in_fours, column_pixels, CharacterDrawn}
use Rattle.paint.proofs.Laws.{Inks, ink_below}

-- ---- exclusive or and masks on bytes

xor_again : (a b : ℕ) → bit_xor a (bit_xor a b) ≡ b
xor_again a b = sym (xor_assoc a a b) ∙ ap (λ (x : ℕ). bit_xor x b) (xor_self a) ∙ xor_zero_l b

-- the byte that starts at bit k
abbrev lane : ℕ → ℕ → ℕ
lane k n = n / 2 ^ k % 2 ^ 8

-- of an operation that goes bit by bit
lane_of : (op : ℕ → ℕ → ℕ) → ((a b k : ℕ) → op a b / 2 ^ k ≡ op (a / 2 ^ k) (b / 2 ^ k)) → ((a b k : ℕ) → op a b % 2 ^ k ≡ op (a % 2 ^ k) (b % 2 ^ k))
    → (k a b : ℕ) → lane k (op a b) ≡ op (lane k a) (lane k b)
lane_of op shr low k a b = ap (λ (n : ℕ). n % 2 ^ 8) (shr a b k) ∙ low (a / 2 ^ k) (b / 2 ^ k) 8

-- the bytes of a number that is made of four
module _ (a b c d : ℕ) (ha : a < 256) (hb : b < 256) (hc : c < 256) (hd : d < 256) where
  rest : (x q : ℕ) → x < 256 → (x + 256 * q) / 256 ≡ q
  rest x q h = omega arith

  low : (x q : ℕ) → x < 256 → (x + 256 * q) % 256 ≡ x
  low x q h = omega arith

  by_bytes : in_four a b c d ≡ a + 256 * (b + 256 * (c + 256 * d))
  by_bytes = omega arith

  from_1 : in_four a b c d / 256 ≡ b + 256 * (c + 256 * d)
  from_1 = ap (λ (n : ℕ). n / 256) by_bytes ∙ rest a (b + 256 * (c + 256 * d)) ha

  from_2 : in_four a b c d / 65536 ≡ c + 256 * d
  from_2 = sym (div-div-eq-div-mul (in_four a b c d) 256 256) ∙ ap (λ (n : ℕ). n / 256) from_1 ∙ rest b (c + 256 * d) hb

  from_3 : in_four a b c d / 16777216 ≡ d
  from_3 = sym (div-div-eq-div-mul (in_four a b c d) 65536 256) ∙ ap (λ (n : ℕ). n / 256) from_2 ∙ rest c d hc

  byte_0 : lane 0 (in_four a b c d) ≡ a
  byte_0 = ap (λ (n : ℕ). n / 1 % 256) by_bytes ∙ div_one (a + 256 * (b + 256 * (c + 256 * d))) ∙ low a (b + 256 * (c + 256 * d)) ha
    where
      div_one : (n : ℕ) → n / 1 % 256 ≡ n % 256
      div_one n = omega arith

  byte_1 : lane 8 (in_four a b c d) ≡ b
  byte_1 = ap (λ (n : ℕ). n % 256) from_1 ∙ low b (c + 256 * d) hb

  byte_2 : lane 16 (in_four a b c d) ≡ c
  byte_2 = ap (λ (n : ℕ). n % 256) from_2 ∙ low c d hc

  byte_3 : lane 24 (in_four a b c d) ≡ d
  byte_3 = ap (λ (n : ℕ). n % 256) from_3 ∙ omega arith

-- the same, of a number in each of the four
of_four : (p : ℕ) → of_pixel p ≡ in_four p p p p
of_four p = omega arith

times_four : (n a b c d : ℕ) → n * in_four a b c d ≡ in_four (n * a) (n * b) (n * c) (n * d)
times_four n a b c d = omega arith

-- a whole mask keeps a byte
and_whole : (a : ℕ) → a < 256 → bit_and 255 a ≡ a
and_whole a h = and_comm 255 a ∙ and_mask a 8 ∙ omega arith

-- a column from the mask of its bit
module _ (fore back : ℕ) (f : fore < 256) (b : back < 256) where
  chosen : (bit : ℕ) → bit < 2 → bit_xor back (bit_and (255 * bit) (bit_xor back fore)) ≡ cond (eqb bit 1) fore back
  chosen zero h = ap (bit_xor back) (and_zero_l (bit_xor back fore)) ∙ xor_zero_r back
  chosen (suc zero) h = ap (bit_xor back) (and_whole (bit_xor back fore) (xor_lt 8 back fore b f)) ∙ xor_again back fore
  chosen (suc (suc n)) h = absurd (omega arith)

-- black over a plain pixel is black
black_over : (plain : ℕ) → IsPlain plain → bit_or plain 8 ≡ 8
black_over plain h = by (ℕ_discrete plain 0)
  where
    by : Dec (plain ≡ 0) → bit_or plain 8 ≡ 8
    by (yes e) = rw e
    by (no n) = let e : plain ≡ 8 = omega (arith, h.0, h.1) in rw e

-- shadow over a column, from its bit and the bit to its left
shaded : (fore plain : ℕ) → IsPlain plain → (bit left : ℕ) → bit < 2 → left < 2
    → bit_or (cond (eqb bit 1) fore plain) (8 * (left - bit)) ≡ cond (eqb bit 1) fore (cond (eqb left 1) 8 plain)
shaded fore plain p zero zero h k = or_zero_r plain
shaded fore plain p zero (suc zero) h k = black_over plain p
shaded fore plain p zero (suc (suc n)) h k = absurd (omega arith)
shaded fore plain p (suc zero) left h k = let none : left - 1 ≡ 0 = omega arith in rw none (or_zero_r fore)
shaded fore plain p (suc (suc n)) left h k = absurd (omega arith)

-- ---- four columns

-- the columns of an index: the bit to the left, then four
abbrev four_columns : Ink → ℕ → List ℕ
four_columns ink i =
    pixel ink (i / 8 % 2) (i / 16 % 2) ∷ pixel ink (i / 4 % 2) (i / 8 % 2) ∷ pixel ink (i / 2 % 2) (i / 4 % 2) ∷ pixel ink (i % 2) (i / 2 % 2) ∷ []

-- a byte that is a column: k is 0, 8, 16 or 24
record Column (k i bit left : ℕ) : Type 0 where
  of_pixel_lem : (p : ℕ) → p < 256 → lane k (of_pixel p) ≡ p
  faces : lane k (facing i) ≡ 255 * bit
  casts : lane k (casting i) ≡ 8 * (left - bit)
  one : bit < 2
  two : left < 2

module _ (i : ℕ) where
  -- a bit's mask, and the shadow of a bit beside
  bit_mask : (n : ℕ) → 255 * (n % 2) < 256
  bit_mask n = omega arith

  beside_mask : (m n : ℕ) → 8 * (m % 2 - n % 2) < 256
  beside_mask m n = omega arith

  -- the byte that starts at bit k is the one that `at` picks of four
  column_of_lem : (k bit left : ℕ) (at : ℕ → ℕ → ℕ → ℕ → ℕ)
      → ((a b c d : ℕ) → a < 256 → b < 256 → c < 256 → d < 256 → lane k (in_four a b c d) ≡ at a b c d) → ((p : ℕ) → at p p p p ≡ p)
      → at (255 * (i / 8 % 2)) (255 * (i / 4 % 2)) (255 * (i / 2 % 2)) (255 * (i % 2)) ≡ 255 * bit
      → at (8 * (i / 16 % 2 - i / 8 % 2)) (8 * (i / 8 % 2 - i / 4 % 2)) (8 * (i / 4 % 2 - i / 2 % 2)) (8 * (i / 2 % 2 - i % 2)) ≡ 8 * (left - bit)
      → bit < 2 → left < 2 → Column k i bit left
  unfolding facing casting
  column_of_lem k bit left at byte same f g h j =
      record {
        of_pixel_lem = λ p h. ap (lane k) (of_four p) ∙ byte p p p p h h h h ∙ same p;
        faces =
            ap (lane k) (times_four 255 (i / 8 % 2) (i / 4 % 2) (i / 2 % 2) (i % 2))
            ∙ byte _ _ _ _ (bit_mask (i / 8)) (bit_mask (i / 4)) (bit_mask (i / 2)) (bit_mask i)
            ∙ f;
        casts =
            ap (lane k) (times_four 8 (i / 16 % 2 - i / 8 % 2) (i / 8 % 2 - i / 4 % 2) (i / 4 % 2 - i / 2 % 2) (i / 2 % 2 - i % 2))
            ∙ byte _ _ _ _ (beside_mask (i / 16) (i / 8)) (beside_mask (i / 8) (i / 4)) (beside_mask (i / 4) (i / 2)) (beside_mask (i / 2) i)
            ∙ g;
        one = h;
        two = j;
      }

  column_0 : Column 0 i (i / 8 % 2) (i / 16 % 2)
  column_0 = column_of_lem 0 _ _ (λ a b c d. a) byte_0 (λ p. refl) refl refl (omega arith) (omega arith)

  column_1 : Column 8 i (i / 4 % 2) (i / 8 % 2)
  column_1 = column_of_lem 8 _ _ (λ a b c d. b) byte_1 (λ p. refl) refl refl (omega arith) (omega arith)

  column_2 : Column 16 i (i / 2 % 2) (i / 4 % 2)
  column_2 = column_of_lem 16 _ _ (λ a b c d. c) byte_2 (λ p. refl) refl refl (omega arith) (omega arith)

  column_3 : Column 24 i (i % 2) (i / 2 % 2)
  column_3 = column_of_lem 24 _ _ (λ a b c d. d) byte_3 (λ p. refl) refl refl (omega arith) (omega arith)

-- four numbers that are columns in their bytes
four_columns_lem : (ink : Ink) (i n : ℕ) → ((k bit left : ℕ) → Column k i bit left → lane k n ≡ pixel ink bit left) → four_of n ≡ four_columns ink i
unfolding four_of
four_columns_lem ink i n h =
    let first : n % 256 ≡ lane 0 n = omega arith in
    ap₂ (λ (x : ℕ) (l : List ℕ). x ∷ l) (first ∙ h 0 _ _ (column_0 i))
    (ap₂ (λ (x : ℕ) (l : List ℕ). x ∷ l) (h 8 _ _ (column_1 i)) (ap₂ (λ (x y : ℕ). x ∷ y ∷ []) (h 16 _ _ (column_2 i)) (h 24 _ _ (column_3 i))))

-- where shadow is no other pixel than background, the bit to the left does not matter
pixel-same : (ink : Ink) (bit left : ℕ) → ink.cast ≡ ink.back → pixel ink bit left ≡ cond (eqb bit 1) ink.fore ink.back
pixel-same ink bit left e = rw (e, cond_same (eqb left 1))

-- the paint of an ink, and the bits that are shown
abbrev painting : Ink → ℕ → Paint
painting ink kept =
    record { back = of_pixel ink.back; fore = bit_xor (of_pixel ink.back) (of_pixel ink.fore); kept = kept }

module _ (ink : Ink) (kept : ℕ) (below : Inks 256 ink) where
  lane_solid : (k i bit left : ℕ) → Column k i bit left → lane k (solid (painting ink kept) i) ≡ cond (eqb bit 1) ink.fore ink.back
  unfolding solid
  lane_solid k i bit left c =
      lane_of bit_xor xor_shr xor_mod k _ _
      ∙ ap₂ bit_xor (c.of_pixel_lem ink.back below.back)
      (lane_of bit_and and_shr and_mod k _ _
      ∙ ap₂ bit_and c.faces
      (lane_of bit_xor xor_shr xor_mod k (of_pixel ink.back) (of_pixel ink.fore)
      ∙ ap₂ bit_xor (c.of_pixel_lem ink.back below.back) (c.of_pixel_lem ink.fore below.fore)))
      ∙ chosen ink.fore ink.back below.fore below.back bit c.one

  -- where shadow is no other pixel than background
  lane_same : (k i bit left : ℕ) → ink.cast ≡ ink.back → Column k i bit left → lane k (solid (painting ink kept) i) ≡ pixel ink bit left
  lane_same k i bit left e c = lane_solid k i bit left c ∙ sym (pixel-same ink bit left e)

  -- where shadow is black, over plain
  lane_shadowed : (k i bit left : ℕ) → ink.cast ≡ 8 → IsPlain ink.back → Column k i bit left
      → lane k (shadowed (painting ink kept) i) ≡ pixel ink bit left
  unfolding shadowed
  lane_shadowed k i bit left e p c =
      lane_of bit_or or_shr or_mod k _ _
      ∙ ap₂ bit_or (lane_solid k i bit left c) c.casts
      ∙ shaded ink.fore ink.back p bit left c.one c.two
      ∙ ap (λ (x : ℕ). cond (eqb bit 1) ink.fore (cond (eqb left 1) x ink.back)) (sym e)

-- ---- twelve columns

-- four pixels of a bit to the left and four bits
abbrev bits_four : Ink → ℕ → ℕ → ℕ → ℕ → ℕ → List ℕ
bits_four ink a b c d e = pixel ink b a ∷ pixel ink c b ∷ pixel ink d c ∷ pixel ink e d ∷ []

four_same : (ink : Ink) (a b c d e i : ℕ) → a ≡ i / 16 % 2 → b ≡ i / 8 % 2 → c ≡ i / 4 % 2 → d ≡ i / 2 % 2 → e ≡ i % 2
    → bits_four ink a b c d e ≡ four_columns ink i
four_same ink a b c d e i p q r s t = cc

-- a character's columns are those of three indices, of which the first begins with the bit to their left
columns_four : (ink : Ink) (bits left n : ℕ) → bits < 4096 → left < 2 → n ≡ bits + left * 4096
    → columns 12 ink bits left ≡ four_columns ink (n / 256) ++ (four_columns ink (n / 16 % 32) ++ four_columns ink (n % 32))
unfolding columns
columns_four ink bits left n h k e =
    ap₂ (λ (k l : List ℕ). k ++ l)
    (four_same ink left (bits / 2048 % 2) (bits / 1024 % 2) (bits / 512 % 2) (bits / 256 % 2) (n / 256)
    (omega arith) (omega arith) (omega arith) (omega arith) (omega arith))
    (ap₂ (λ (k l : List ℕ). k ++ l)
    (four_same ink (bits / 256 % 2) (bits / 128 % 2) (bits / 64 % 2) (bits / 32 % 2) (bits / 16 % 2) (n / 16 % 32)
    (omega arith) (omega arith) (omega arith) (omega arith) (omega arith))
    (four_same ink (bits / 16 % 2) (bits / 8 % 2) (bits / 4 % 2) (bits / 2 % 2) (bits / 1 % 2) (n % 32)
    (omega arith) (omega arith) (omega arith) (omega arith) (omega arith)))

-- twelve columns made of numbers that are each four of them
twelve-columns : (ink : Ink) (four : ℕ → ℕ) (bits left n : ℕ) → bits < 4096 → left < 2 → n ≡ bits + left * 4096
    → ((i k bit left : ℕ) → Column k i bit left → lane k (four i) ≡ pixel ink bit left) → column_pixels (in_fours four n) ≡ columns 12 ink bits left
unfolding column_pixels in_fours
twelve-columns ink four bits left n h k e f =
    let of : (i : ℕ) → four_of (four i) ≡ four_columns ink i = λ i. four_columns_lem ink i (four i) (f i) in
    ap₂ (λ (k l : List ℕ). k ++ l) (of (n / 256)) (ap₂ (λ (k l : List ℕ). k ++ l) (of (n / 16 % 32)) (of (n % 32)))
    ∙ sym (columns_four ink bits left n h k e)

-- where shadow is no other pixel than background, what stands to the left does not matter
left-same : (n : ℕ) (ink : Ink) (bits left : ℕ) → ink.cast ≡ ink.back → columns (suc n) ink bits 0 ≡ columns (suc n) ink bits left
unfolding columns
left-same n ink bits left e =
    ap (λ (x : ℕ). x ∷ columns n ink bits (bits / 2 ^ n % 2)) (sym (pixel-same ink (bits / 2 ^ n % 2) left e))

-- ---- what a code draws with

module _ (plain : ℕ) (hidden : Bool) (low : ℕ) where
  back_is : backs plain (low % 16) ≡ of_pixel (ink_of plain low).back
  unfolding backs ink_of
  back_is = ap of_pixel (by (ℕ_discrete (low / 8 % 2) 0))
    where
      by : Dec (low / 8 % 2 ≡ 0)
          → cond (ltb (low % 16) 8) (8 + low % 16) plain ≡ cond (eqb (low / 8 % 2) 0) (8 + low % 8) (cond (eqb (low / 2 % 2) 0) plain plain)
      by (yes e) = let h : low % 16 < 8 = omega arith in rw (lt-ltb _ _ h, eq-eqb _ _ e) (omega arith)
      by (no e) = let h : 8 ≤ low % 16 = omega arith in rw (le-ltb _ _ h, ne_eqb _ _ e) (sym (cond_same (eqb (low / 2 % 2) 0) plain))

  paint-is : paint_of plain hidden low ≡ painting (ink_of plain low) (shows hidden (low / 16))
  unfolding paint_of fores ink_of
  paint-is = ap (λ (b : ℕ). record { back = b; fore = bit_xor b (of_pixel (8 + low / 16 % 8)); kept = shows hidden (low / 16) }) back_is

  -- a shadowed character's shadow is black, over plain; with another there is none
  shadow_is : cond (takes_shadow low)
      (((ink_of plain low).cast ≡ 8) × ((ink_of plain low).back ≡ plain))
      ((ink_of plain low).cast ≡ (ink_of plain low).back)
  unfolding ink_of
  shadow_is = by (eqb (low / 8 % 2) 0) (eqb (low / 2 % 2) 0)
    where
      by : (s t : Bool)
          → cond (cond s false (cond t false true))
          ((cond s (8 + low % 8) (cond t plain 8) ≡ 8) × (cond s (8 + low % 8) (cond t plain plain) ≡ plain))
          (cond s (8 + low % 8) (cond t plain 8) ≡ cond s (8 + low % 8) (cond t plain plain))
      by true t = refl
      by false true = refl
      by false false = (refl, refl)

  module _ (h : IsPlain plain) (bits left : ℕ) (k : bits < 4096) where
    below : Inks 256 (ink_of plain low)
    below = ink_below 256 plain low (omega arith) (omega (arith, h.1))

    drawn-shadowed : takes_shadow low ≡ true → left < 2
        → column_pixels (in_fours (shadowed (paint_of plain hidden low)) (bits + left * 4096)) ≡ columns 12 (ink_of plain low) bits left
    drawn-shadowed e l =
        let t : ((ink_of plain low).cast ≡ 8) × ((ink_of plain low).back ≡ plain) = rw e at shadow_is in
        ap (λ (p : Paint). column_pixels (in_fours (shadowed p) (bits + left * 4096))) paint-is
        ∙ twelve-columns (ink_of plain low) _ bits left _ k l refl
        (λ i n bit beside. lane_shadowed (ink_of plain low) (shows hidden (low / 16)) below n i bit beside t.0 (rw t.1 h))

    drawn-solid : takes_shadow low ≡ false → column_pixels (in_fours (solid (paint_of plain hidden low)) bits) ≡ columns 12 (ink_of plain low) bits left
    drawn-solid e =
        let none : (ink_of plain low).cast ≡ (ink_of plain low).back = rw e at shadow_is in
        ap (λ (p : Paint). column_pixels (in_fours (solid p) bits)) paint-is
        ∙ twelve-columns (ink_of plain low) _ bits 0 bits k (omega arith) (omega arith)
        (λ i n bit beside. lane_same (ink_of plain low) (shows hidden (low / 16)) below n i bit beside none)
        ∙ left-same 11 (ink_of plain low) bits left none

-- ---- the bits that are shown

bits_most : (hidden : Bool) (low word : ℕ) → shown_bits hidden low (word % 4096) < 4096
bits_most hidden low word = either (λ (n : ℕ). n < 4096) (eqb (low / 128 % 2) 1 && hidden) _ _ (omega arith) (omega arith)

module _ (hidden : Bool) (low word : ℕ) (h : low < 256) where
  -- FL is the low byte's top bit
  flash_is : leb 8 (low / 16) ≡ eqb (low / 128 % 2) 1
  flash_is = by (ℕ_discrete (low / 128 % 2) 1)
    where
      by : Dec (low / 128 % 2 ≡ 1) → leb 8 (low / 16) ≡ eqb (low / 128 % 2) 1
      by (yes e) = let k : 8 ≤ low / 16 = omega arith in le-leb _ _ k ∙ sym (eq-eqb _ _ e)
      by (no e) = let k : low / 16 < 8 = omega arith in lt-leb _ _ k ∙ sym (ne_eqb _ _ e)

  bits_are : (plain : ℕ) (p : Paint) → p ≡ paint_of plain hidden low → bit_and word p.kept ≡ shown_bits hidden low (word % 4096)
  unfolding paint_of shows
  bits_are plain p e =
      ap (λ (q : Paint). bit_and word q.kept) e
      ∙ ap (λ (t : Bool). bit_and word (cond (t && hidden) 0 4095)) flash_is
      ∙ by (eqb (low / 128 % 2) 1 && hidden)
    where
      by : (t : Bool) → bit_and word (cond t 0 4095) ≡ cond t 0 (word % 4096)
      by true = and_zero_r word
      by false = and_mask word 12

  pub bits_fit : (plain : ℕ) (p : Paint) → p ≡ paint_of plain hidden low → bit_and word p.kept < 4096
  bits_fit plain p e = rw (bits_are plain p e) (bits_most hidden low word)

-- ---- a character

-- twelve columns, each four by one rule
pub fours : (four : ℕ → ℕ) (bits : ℕ) (c : Fours) → c.left ≡ four (bits / 256) → c.middle ≡ four (bits / 16 % 32) → c.right ≡ four (bits % 32) → c ≡ in_fours four bits
unfolding in_fours
fours four bits c l m r = λ i. record { left = l i; middle = m i; right = r i }

module _ (plain : ℕ) (hidden : Bool) (low before word : ℕ) (h : IsPlain plain) (k : low < 256) (p : Paint) (e : p ≡ paint_of plain hidden low) where
  -- the code's paint, and the bits that are shown
  drawn_with : (made : Paint → ℕ → Fours) (c : Fours) → c ≡ made p (bit_and word p.kept)
      → column_pixels (made (paint_of plain hidden low) (shown_bits hidden low (word % 4096)))
      ≡ twelve_columns plain low before (shown_bits hidden low (word % 4096))
      → CharacterDrawn plain hidden low before (word % 4096) (record { bits = bit_and word p.kept; columns = c })
  drawn_with made c q d =
      let bits = bits_are hidden low word k plain p e in
      record { bits = bits; pixels = ap column_pixels (q ∙ ap₂ made e bits) ∙ d }

  pub character-shadowed : (c : Fours) → c ≡ in_fours (shadowed p) (bit_and word p.kept + before % 2 * 4096) → takes_shadow low ≡ true
      → CharacterDrawn plain hidden low before (word % 4096) (record { bits = bit_and word p.kept; columns = c })
  character-shadowed c q s =
      drawn_with (λ (x : Paint) (b : ℕ). in_fours (shadowed x) (b + before % 2 * 4096)) c q
      (unfold twelve_columns in drawn-shadowed plain hidden low h _ (before % 2) (bits_most hidden low word) s (omega arith))

  pub character-solid : (c : Fours) → c ≡ in_fours (solid p) (bit_and word p.kept) → takes_shadow low ≡ false
      → CharacterDrawn plain hidden low before (word % 4096) (record { bits = bit_and word p.kept; columns = c })
  character-solid c q s =
      drawn_with (λ (x : Paint) (b : ℕ). in_fours (solid x) b) c q
      (unfold twelve_columns in drawn-solid plain hidden low h _ (before % 2) (bits_most hidden low word) s)

-- ---- four stores, and three parts of four

set_four : (l : List ℕ) (a b c d : ℕ) → length l ≡ 4 → set (set (set (set l 0 a) 1 b) 2 c) 3 d ≡ a ∷ b ∷ c ∷ d ∷ []
set_four (x ∷ y ∷ z ∷ w ∷ []) a b c d h = refl
set_four (x ∷ y ∷ z ∷ w ∷ v ∷ l) a b c d h = absurd (omega arith)
set_four (x ∷ y ∷ z ∷ []) a b c d h = absurd (omega arith)
set_four (x ∷ y ∷ []) a b c d h = absurd (omega arith)
set_four (x ∷ []) a b c d h = absurd (omega arith)
set_four [] a b c d h = absurd (omega arith)

pub four_put : (l : List ℕ) (n : ℕ) → length l ≡ 4
    → set (set (set (set l 0 (n % 256)) 1 (n / 256 % 256)) 2 (n / 65536 % 256)) 3 (n / 16777216 % 256) ≡ four_of n
unfolding four_of
four_put l n h = set_four l _ _ _ _ h

pub twelve-put : (out p q r : List ℕ) (c : Fours) → length out ≡ 12 → p ≡ four_of c.left → q ≡ four_of c.middle → r ≡ four_of c.right
    → put_mid 8 4 (put_mid 4 4 (put_mid 0 4 out p) q) r ≡ column_pixels c
unfolding four_of column_pixels
twelve-put out p q r c h e f g =
    ap₂ (λ (x y : List ℕ). put_mid 8 4 (put_mid 4 4 (put_mid 0 4 out x) y) r) e f
    ∙ ap (put_mid 8 4 (put_mid 4 4 (put_mid 0 4 out (four_of c.left)) (four_of c.middle))) g
    ∙ ap (λ (l : List ℕ). four_of c.left ++ (four_of c.middle ++ (four_of c.right ++ l)))
    (ap (drop 4) (drop-drop 4 4 out) ∙ drop-drop 4 8 out ∙ ap (λ (n : ℕ). drop n out) (sym h) ∙ drop-length out)

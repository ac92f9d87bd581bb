-- The pixel of a row is the one that the painted row has there.
-- Assumes nothing.
use Prim.Native.Nat.{ℕ, zero, suc, ◌+◌, ◌-◌, ◌*◌, ◌/◌, ◌%◌, ◌^◌, ◌≤◌, ◌<◌}
use mathlib.Core.Path.{◌≡◌, refl, sym, ap, ap₂, ◌∙◌}
use mathlib.Core.Bool.{Bool, true, false, not, cond, ◌&&◌}
use mathlib.Core.List.{List}
use native.Mathlib.Nat.{div-eq_of_lt}
use native.Mathlib.Decide.{dec_lt}
use native.Mathlib.Omega.{arith}
use borrow.Author.Tests.{lt-ltb}
use lib.Dec.{eqb}
use lib.ListN.{get_or, get_or-replicate}
use lib.Pow.{pow_pos}
use Rattle.walk.specs.Walk.{even, next}
use Rattle.glyph.specs.Glyph.{ends_line, bits_of}
use Rattle.paint.specs.Pixels.{Ink, flashes, foreground, background, ink_of, pixel, columns, shown_bits, twelve_columns}
use Rattle.line.specs.declared.Pen.{Pen}
use Rattle.line.specs.Line.{shown_of, character}
use Rattle.line.specs.Promises.{place_at, room_of}
use Rattle.line.proofs.Laws.{column_in, column_past}
use Rattle.line.proofs.Turns.{room-ended, room_on}
use Rattle.pixel.specs.declared.Pair.{Pair}
use Rattle.pixel.specs.declared.Row.{Row}
use Rattle.pixel.specs.Pixel.{ended, slice_bits, is_foreground, code_of, foreground_at, beside_at, row_pixel}
use Rattle.pixel.proofs.Laws.{end_here, end_last, end_later, bits-glyph}

-- ---- the columns of a character

-- each column but the first has the one before it to its left: m columns stand to its right
columns_later : (n c m : ℕ) (ink : Ink) (bits left : ℕ) → n ≡ suc (suc (c + m))
    → get_or (columns n ink bits left) (suc c) 0 ≡ pixel ink (bits / 2 ^ m % 2) (bits / 2 ^ suc m % 2)
unfolding columns
columns_later zero c m ink bits left e = absurd (omega arith)
columns_later (suc zero) c m ink bits left e = absurd (omega arith)
columns_later (suc (suc n)) zero m ink bits left e =
    let p : n ≡ m = omega arith in
    ap (λ (i : ℕ). pixel ink (bits / 2 ^ i % 2) (bits / 2 ^ suc i % 2)) p
columns_later (suc (suc n)) (suc c) m ink bits left e = columns_later (suc n) c m ink bits (bits / 2 ^ suc n % 2) (omega arith)

-- no bit of 0 is set
none-set : (k : ℕ) → eqb (0 / 2 ^ k % 2) 1 ≡ false
none-set k = rw (div-eq_of_lt (pow_pos k))

-- is a bit of what is shown set?
shown_bit : (hidden : Bool) (low bits k c : ℕ) → k ≡ 11 - c
    → eqb (shown_bits hidden low bits / 2 ^ k % 2) 1 ≡ is_foreground hidden low bits c
shown_bit hidden low bits k c e = ap (λ (i : ℕ). eqb (shown_bits hidden low bits / 2 ^ i % 2) 1) e ∙ by hidden (flashes low)
  where
    by : (h f : Bool) → eqb (cond (f && h) 0 bits / 2 ^ (11 - c) % 2) 1 ≡ not (h && f) && eqb (bits / 2 ^ (11 - c) % 2) 1
    by true true = none-set (11 - c)
    by true false = refl
    by false true = refl
    by false false = refl

-- a pixel by its own bit and the one to its left
inked : (plain low bit left : ℕ) (fore beside : Bool) → eqb bit 1 ≡ fore → eqb left 1 ≡ beside
    → pixel (ink_of plain low) bit left ≡ cond fore (foreground low) (background plain low beside)
unfolding ink_of
inked plain low bit left fore true e f = rw (e, f)
inked plain low bit left fore false e f = rw (e, f)

-- a character's columns: the first, after the bits to its left, and those after it
module _ (plain : ℕ) (hidden : Bool) (low before bits : ℕ) where
  abbrev shown : ℕ
  shown = shown_bits hidden low bits

  column_first : get_or (twelve_columns plain low before shown) 0 0
      ≡ cond (is_foreground hidden low bits 0) (foreground low) (background plain low (eqb (before % 2) 1))
  unfolding twelve_columns columns
  column_first = inked plain low (shown / 2 ^ 11 % 2) (before % 2) _ _ (shown_bit hidden low bits 11 0 refl) refl

  column_later : (c : ℕ) → c < 11 → get_or (twelve_columns plain low before shown) (suc c) 0
      ≡ cond (is_foreground hidden low bits (suc c)) (foreground low) (background plain low (is_foreground hidden low bits c))
  unfolding twelve_columns
  column_later c h =
      columns_later 12 c (10 - c) (ink_of plain low) shown (before % 2) (omega arith)
      ∙ inked plain low (shown / 2 ^ (10 - c) % 2) (shown / 2 ^ suc (10 - c) % 2) _ _
      (shown_bit hidden low bits (10 - c) (suc c) (omega arith)) (shown_bit hidden low bits (suc (10 - c)) c (omega arith))

-- ---- the room of a row

-- what is the same along a row, and where it starts
abbrev pub row_of : Pen → ℕ → Row
row_of pen a = record { address = a; slice = pen.slice; plain = pen.plain; hidden = pen.hidden }

module _ (ram font : List ℕ) (pen : Pen) (address : ℕ) where
  abbrev row : Row
  row = row_of pen address

  -- to the left of a column stands the one before it
  beside_left : (i : ℕ) → beside_at ram font row (suc i) ≡ foreground_at ram font row i
  beside_left i = let left : suc i - 1 ≡ i = omega arith in rw (lt-ltb 0 (suc i) (omega arith), left)

  -- code k of the row lies at the even address a, no code before it ends the line, and to its left stand these bits
  record From (k a before : ℕ) : Type 0 where
    at : even (address + 2 * k) ≡ a
    on : (m : ℕ) → ended (k + m) ram address ≡ ended m ram a
    beside : beside_at ram font row (12 * k) ≡ eqb (before % 2) 1

  module _ (k a before : ℕ) (f : From k a before) where
    paired : even a ≡ a
    paired = omega (arith, f.at)

    end-from : (j : ℕ) → ended ((12 * k + j) / 12) ram address ≡ ended (j / 12) ram a
    end-from j = let code : (12 * k + j) / 12 ≡ k + j / 12 = omega arith in ap (λ (n : ℕ). ended n ram address) code ∙ f.on (j / 12)

    -- where code k ends the line, all of the room is plain
    ended-pixel : (j room : ℕ) → j < room → ends_line (get_or ram (a + 1) 0) ≡ true
        → get_or (room_of ram font pen before room a) j 0 ≡ row_pixel ram font row (12 * k + j)
    unfolding row_pixel
    ended-pixel j room l e =
        ap (λ (r : List ℕ). get_or r j 0) (room-ended ram font pen before room a paired (omega arith) e).0
        ∙ get_or-replicate room j pen.plain 0 l
        ∙ rw (end-from j, end_here ram a (j / 12) (rw paired e))

    -- code k, and its twelve columns
    code_is : (j : ℕ) → j < 12 → code_of ram row (12 * k + j) ≡ record { low = get_or ram a 0; high = get_or ram (a + 1) 0 }
    code_is j h = ap (λ (i : ℕ). record { low = get_or ram i 0; high = get_or ram (i + 1) 0 }) (omega (arith, f.at))

    abbrev is_fore : ℕ → Bool
    is_fore = is_foreground pen.hidden (get_or ram a 0) (bits_of font (place_at ram pen a).glyph)

    fore-is : (j : ℕ) → j < 12 → foreground_at ram font row (12 * k + j) ≡ is_fore j
    fore-is j h =
        ap₂ (λ (d : Pair) (c : ℕ). is_foreground pen.hidden d.low (slice_bits ram font d.high pen.slice.0) c) (code_is j h) (omega arith)
        ∙ ap (λ (b : ℕ). is_foreground pen.hidden (get_or ram a 0) b j) (bits-glyph ram font (get_or ram (a + 1) 0) pen.slice)

    -- where it is a character
    module _ (e : ends_line (get_or ram (a + 1) 0) ≡ false) where
      -- its pixels
      pixel-is : (j : ℕ) (left : Bool) → j < 12 → beside_at ram font row (12 * k + j) ≡ left
          → cond (is_fore j) (foreground (get_or ram a 0)) (background pen.plain (get_or ram a 0) left) ≡ row_pixel ram font row (12 * k + j)
      unfolding row_pixel
      pixel-is j left h q =
          let first : j / 12 ≡ 0 = omega arith in
          let low : (code_of ram row (12 * k + j)).low ≡ get_or ram a 0 = ap (λ (d : Pair). d.low) (code_is j h) in
          sym (rw (end-from j, first, end_last ram a, paired, e, fore-is j h, q, low))

      shown-is : (j : ℕ) → j < 12 → get_or (character font pen.plain pen.hidden before (place_at ram pen a)) j 0 ≡ row_pixel ram font row (12 * k + j)
      unfolding character shown_of
      shown-is zero h =
          let first : 12 * k + 0 ≡ 12 * k = omega arith in
          column_first pen.plain pen.hidden (get_or ram a 0) before _ ∙ pixel-is 0 _ h (ap (beside_at ram font row) first ∙ f.beside)
      shown-is (suc j) h =
          let later : 12 * k + suc j ≡ suc (12 * k + j) = omega arith in
          column_later pen.plain pen.hidden (get_or ram a 0) before _ j (omega arith)
          ∙ pixel-is (suc j) _ h (ap (beside_at ram font row) later ∙ beside_left (12 * k + j) ∙ fore-is j (omega arith))

      -- and the code after it
      from_next : From (suc k) (next a) (shown_of font pen.hidden (place_at ram pen a))
      unfolding shown_of
      from_next =
          let code : (m : ℕ) → suc k + m ≡ k + suc m = λ m. omega arith in
          let last : 12 * suc k ≡ suc (12 * k + 11) = omega arith in
          let whole : (n : ℕ) → n / 2 ^ 0 % 2 ≡ n % 2 = λ n. omega arith in
          record {
            at = omega (arith, f.at);
            on = λ m. ap (λ (n : ℕ). ended n ram address) (code m) ∙ f.on (suc m) ∙ end_later ram a m (rw paired e);
            beside =
                ap (beside_at ram font row) last
                ∙ beside_left (12 * k + 11)
                ∙ fore-is 11 (omega arith)
                ∙ sym (shown_bit pen.hidden (get_or ram a 0) (bits_of font (place_at ram pen a).glyph) 0 11 refl)
                ∙ ap (λ (n : ℕ). eqb n 1) (whole (shown_of font pen.hidden (place_at ram pen a)));
          }

    -- a column of the room from code k on, given those of the room after it
    room_turn : (j room : ℕ) → j < room
        → ((b : ℕ) → 12 ≤ j → From (suc k) (next a) b → get_or (room_of ram font pen b (room - 12) (next a)) (j - 12) 0 ≡ row_pixel ram font row (12 * suc k + (j - 12)))
        → get_or (room_of ram font pen before room a) j 0 ≡ row_pixel ram font row (12 * k + j)
    room_turn j room l later = by (ends_line (get_or ram (a + 1) 0)) (dec_lt j 12) refl
      where
        by : (t : Bool) → Dec (j < 12) → ends_line (get_or ram (a + 1) 0) ≡ t → get_or (room_of ram font pen before room a) j 0 ≡ row_pixel ram font row (12 * k + j)
        by true h e = ended-pixel j room l e
        by false (yes h) e =
            ap (λ (r : List ℕ). get_or r j 0) (room_on ram font pen before room a paired (omega arith) e).0
            ∙ column_in font pen.plain pen.hidden before room (place_at ram pen a) _ j l h
            ∙ shown-is e j h
        by false (no h) e =
            let same : 12 * suc k + (j - 12) ≡ 12 * k + j = omega arith in
            ap (λ (r : List ℕ). get_or r j 0) (room_on ram font pen before room a paired (omega arith) e).0
            ∙ column_past font pen.plain pen.hidden before room (place_at ram pen a) _ j l (omega arith)
            ∙ later _ (omega arith) (from_next e)
            ∙ ap (row_pixel ram font row) same

  -- n bounds the column
  room-from : (n k a before j room : ℕ) → j ≤ n → j < room → From k a before
      → get_or (room_of ram font pen before room a) j 0 ≡ row_pixel ram font row (12 * k + j)
  room-from zero k a before j room q l f = room_turn k a before f j room l (λ b h g. absurd (omega arith))
  room-from (suc n) k a before j room q l f =
      room_turn k a before f j room l (λ b h. room-from n (suc k) (next a) b (j - 12) (room - 12) (omega arith) (omega arith))

  pub room-pixel : (j room : ℕ) → j < room → even address ≡ address → get_or (room_of ram font pen 0 room address) j 0 ≡ row_pixel ram font row j
  room-pixel j room l p =
      let first : (m : ℕ) → 0 + m ≡ m = λ m. omega arith in
      let from : From 0 address 0 = record { at = omega arith; on = λ m. ap (λ (n : ℕ). ended n ram address) (first m); beside = refl } in
      let same : 12 * 0 + j ≡ j = omega arith in
      room-from j 0 address 0 j room (omega arith) l from ∙ ap (row_pixel ram font row) same

-- The laws of pixels: a character has twelve, each below 16.
-- Assumes nothing.
use Prim.Native.Nat.{ℕ, zero, suc, ◌/◌, ◌%◌, ◌^◌, ◌≤◌, ◌<◌}
use mathlib.Core.Path.{◌≡◌, refl, ap}
use mathlib.Core.Bool.{Bool, true, false}
use mathlib.Core.List.{List, [], ◌∷◌}
use native.Mathlib.Omega.{arith}
use lib.Dec.{eqb}
use lib.ListN.{length, get_or}
use Rattle.std.specs.List.{All}
use Rattle.std.proofs.lemmas.List.Elements.{All-nil, All-cons, All-head, All-tail}
use Rattle.facts.proofs.Choice.{either}
use Rattle.paint.specs.Pixels.{Ink, background, ink_of, columns, twelve_columns}

-- ---- how many

columns-length : (n : ℕ) (ink : Ink) (bits left : ℕ) → length (columns n ink bits left) ≡ n
unfolding columns
columns-length zero ink bits left = refl
columns-length (suc n) ink bits left = ap suc (columns-length n ink bits (bits / 2 ^ n % 2))

pub twelve-length : (plain low before bits : ℕ) → length (twelve_columns plain low before bits) ≡ 12
unfolding twelve_columns
twelve-length plain low before bits = columns-length 12 (ink_of plain low) bits (before % 2)

-- ---- each below 16

abbrev pub Below : ℕ → ℕ → Type 0
Below m x = x < m

-- every number of the list is a pixel
abbrev pub Pixels : List ℕ → Type 0
Pixels = All (Below 16)

-- what stands behind a list is below 16 too
pub pixels_at : (xs : List ℕ) → Pixels xs → (i : ℕ) → get_or xs i 0 < 16
pixels_at [] p i = omega arith
pixels_at (x ∷ xs) p zero = All-head (Below 16) x xs p
pixels_at (x ∷ xs) p (suc i) = pixels_at xs (All-tail (Below 16) x xs p) i

-- the pixels that a code draws with lie below m
pub record Inks (m : ℕ) (ink : Ink) : Type 0 where
  pub fore : ink.fore < m
  pub cast : ink.cast < m
  pub back : ink.back < m

-- they do if the plain pixel does, from 16 on
background-below : (m plain low : ℕ) (beside : Bool) → 16 ≤ m → plain < m → background plain low beside < m
background-below m plain low beside l h =
    either (Below m) (eqb (low / 8 % 2) 0) _ _ (omega arith)
    (either (Below m) (eqb (low / 2 % 2) 0) _ _ h (either (Below m) beside _ _ (omega arith) h))

pub ink_below : (m plain low : ℕ) → 16 ≤ m → plain < m → Inks m (ink_of plain low)
unfolding ink_of
ink_below m plain low l h =
    record { fore = omega arith; cast = background-below m plain low true l h; back = background-below m plain low false l h }

columns-pixels : (n : ℕ) (ink : Ink) (bits left : ℕ) → Inks 16 ink → Pixels (columns n ink bits left)
unfolding columns
columns-pixels zero ink bits left h = All-nil (Below 16)
columns-pixels (suc n) ink bits left h =
    All-cons (Below 16) _ _
    (either (Below 16) (eqb (bits / 2 ^ n % 2) 1) _ _ h.fore (either (Below 16) (eqb left 1) _ _ h.cast h.back))
    (columns-pixels n ink bits (bits / 2 ^ n % 2) h)

pub twelve-pixels : (plain low before bits : ℕ) → plain < 16 → Pixels (twelve_columns plain low before bits)
unfolding twelve_columns
twelve-pixels plain low before bits h = columns-pixels 12 (ink_of plain low) bits (before % 2) (ink_below 16 plain low (omega arith) h)

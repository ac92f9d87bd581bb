-- The two numbers from an even one on.
-- Assumes nothing.
use Prim.Native.Nat.{ℕ, ◌+◌, ◌*◌, ◌/◌, ◌%◌}
use mathlib.Core.Path.{◌≡◌}
use mathlib.Core.Bool.{true, false, ◌||◌}
use native.Mathlib.Decide.{ℕ_discrete}
use native.Mathlib.Omega.{arith}
use borrow.Author.Tests.{eq-eqb, ne_eqb}
use lib.Dec.{eqb}

-- a number is one of them exactly if they are its pair
pub pair_is : (c a : ℕ) → a % 2 ≡ 0 → eqb c a || (eqb c (a + 1) || false) ≡ eqb (c / 2 * 2) a
pair_is c a e = by (ℕ_discrete (c / 2 * 2) a)
  where
    by : Dec (c / 2 * 2 ≡ a) → eqb c a || (eqb c (a + 1) || false) ≡ eqb (c / 2 * 2) a
    by (yes h) = rw (eq-eqb _ _ h) (one (ℕ_discrete c a))
      where
        one : Dec (c ≡ a) → eqb c a || (eqb c (a + 1) || false) ≡ true
        one (yes q) = rw (eq-eqb _ _ q)
        one (no q) = rw (ne_eqb _ _ q, eq-eqb c (a + 1) (omega arith))
    by (no h) = rw (ne_eqb _ _ h, ne_eqb c a (λ q. h (omega arith)), ne_eqb c (a + 1) (λ q. h (omega arith)))

-- The sums: under a changed number, under two exchanged.
-- Assumes nothing.
use Prim.Native.Nat.{ℕ, zero, suc, ◌+◌, ◌<◌}
use mathlib.Core.Path.{◌≡◌}
use mathlib.Core.List.{List, [], ◌∷◌}
use native.Mathlib.Nat.{suc-mul, not-suc-le-zero}
use native.Mathlib.Omega.{arith}
use lib.ListN.{length, get_or, set}
use Rattle.font_file.specs.FontFile.{sum, weighted_sum}
use Rattle.font_file.specs.Checked.{exchanged}

-- one number changed: the sum changes by as much
pub sum-set : (xs : List ℕ) (i v : ℕ) → i < length xs → sum (set xs i v) + get_or xs i 0 ≡ sum xs + v
unfolding sum
sum-set [] i v h = absurd (not-suc-le-zero h)
sum-set (x ∷ xs) zero v h = omega arith
sum-set (x ∷ xs) (suc i) v h = omega (arith, sum-set xs i v (omega arith))

-- two neighbours exchanged: the weighted sum changes by their difference
pub weighted_exchanged : (xs : List ℕ) (k i : ℕ) → suc i < length xs
    → weighted_sum k (exchanged xs i (suc i)) + get_or xs (suc i) 0 ≡ weighted_sum k xs + get_or xs i 0
unfolding weighted_sum
weighted_exchanged [] k i h = absurd (not-suc-le-zero h)
weighted_exchanged (x ∷ []) k i h = absurd (omega arith)
weighted_exchanged (x ∷ y ∷ xs) k zero h = omega (arith, suc-mul k x, suc-mul k y)
weighted_exchanged (x ∷ y ∷ xs) k (suc i) h = omega (arith, weighted_exchanged (y ∷ xs) (suc k) i (omega arith))

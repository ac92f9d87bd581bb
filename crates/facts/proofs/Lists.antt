-- Lists of numbers, by their places.
-- Assumes nothing.
use Prim.Native.Nat.{ℕ, ◌<◌}
use mathlib.Core.Path.{◌≡◌, sym, ap, subst}
use mathlib.Core.List.{List}
use native.Mathlib.Decide.{dec_lt, ℕ_discrete}
use native.Mathlib.Omega.{arith}
use lib.ListN.{get_or, set, length}
use lib.Seq.{get_or-set_same, get_or-set_other, set_out}

-- what holds of the number that is set at a place, and of what stood at each place, holds at each place afterwards
pub set_at : (P : ℕ → ℕ → Type 0) (l : List ℕ) (i v j : ℕ) → P i v → P j (get_or l j 0) → P j (get_or (set l i v) j 0)
set_at P l i v j new old = by (ℕ_discrete j i) (dec_lt i (length l))
  where
    by : Dec (j ≡ i) → Dec (i < length l) → P j (get_or (set l i v) j 0)
    by (no n) d = subst (P j) (sym (get_or-set_other l i j v 0 n)) old
    by (yes e) (no n) = subst (P j) (sym (ap (λ (x : List ℕ). get_or x j 0) (set_out l i v (omega arith)))) old
    by (yes e) (yes h) = subst (λ (k : ℕ). P k (get_or (set l i v) k 0)) (sym e) (subst (P i) (sym (get_or-set_same l i v 0 h)) new)

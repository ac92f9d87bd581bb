-- A number of two bytes, read back; the front of a fill.
-- Assumes nothing.
use Prim.Native.Nat.{ℕ, zero, suc, ◌≤◌}
use mathlib.Core.Path.{◌≡◌, refl, ap}
use mathlib.Core.List.{List, ◌∷◌}
use native.Mathlib.Nat.{not-suc-le-zero, le_of_suc-le-suc}
use native.Mathlib.Omega.{arith}
use lib.ListN.{take, replicate}
use Rattle.buffers.specs.Buffers.{word, word_bytes}

-- a number, read from its two bytes
pub word_read : (n : ℕ) → word (word_bytes n) 0 ≡ n
word_read n = omega arith

-- the front of a filled buffer is filled
pub filled_front : (n k v : ℕ) → n ≤ k → take n (replicate k v) ≡ replicate n v
filled_front zero k v h = refl
filled_front (suc n) zero v h = absurd (not-suc-le-zero h)
filled_front (suc n) (suc k) v h = ap (λ (l : List ℕ). v ∷ l) (filled_front n k v (le_of_suc-le-suc h))

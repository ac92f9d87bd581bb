-- A list that is written one number a turn: what is written and what is left are all of it.
-- Assumes nothing.
use Prim.Native.Nat.{ℕ, zero, suc, ◌+◌, ◌-◌, ◌/◌, ◌≤◌, ◌<◌}
use mathlib.Core.Path.{◌≡◌, sym, ap, ◌∙◌}
use mathlib.Core.List.{List, [], ◌∷◌, ◌++◌, append-nil, append_assoc}
use native.Mathlib.Nat.{not-suc-le-zero}
use native.Mathlib.Numerals.{add-one, sub-one}
use native.Mathlib.Omega.{arith}
use lib.ListN.{length, get_or, take, drop, set, length-set}
use lib.Seq.{take_all, drop-cons, take-suc-set, drop-set-lt, get_or-set_same}

-- ---- from the front

-- one number more
pub front-more : (all out rest : List ℕ) (i j v : ℕ) → j ≡ i + 1 → i < length out → take i out ++ v ∷ rest ≡ all → take j (set out i v) ++ rest ≡ all
front-more all out rest i j v p h e = rw (p, add-one, take-suc-set out i v h) (append_assoc (take i out) (v ∷ []) rest ∙ e)

-- nothing is left
pub front-whole : (all out : List ℕ) (i : ℕ) → length out ≤ i → take i out ++ [] ≡ all → out ≡ all
front-whole all out i h e = sym (take_all i out h) ∙ sym (append-nil (take i out)) ∙ e

-- what is left of a list that is copied, one number more
pub written-more : (all out : List ℕ) (i v d : ℕ) → i < length out → i < length all → take i out ++ drop i all ≡ all → v ≡ get_or all i d
    → take (i + 1) (set out i v) ++ drop (i + 1) all ≡ all
written-more all out i v d h k e p =
    front-more all out (drop (i + 1) all) i (i + 1) v (omega arith) h (rw (p, add-one, ← drop-cons all i d k) e)

-- ---- from the back: digits of a number, the last one first

-- no digit is left
pub back_whole : (digits : ℕ → ℕ → List ℕ) → ((n : ℕ) → digits 0 n ≡ []) → (all out : List ℕ) (i n : ℕ) → i ≡ 0 → digits i n ++ drop i out ≡ all → out ≡ all
back_whole digits none all out i n h e = rw (h, none n) at e

module _ (digits : ℕ → ℕ → List ℕ) (base : ℕ) (digit : ℕ → ℕ) (last : (k n : ℕ) → digits (suc k) n ≡ digits k (n / base) ++ digit n ∷ []) where
  -- one digit more
  pub back_more : (all out : List ℕ) (i n v : ℕ) → 0 < i → i ≤ length out → v ≡ digit n → digits i n ++ drop i out ≡ all
      → digits (i - 1) (n / base) ++ drop (i - 1) (set out (i - 1) v) ≡ all
  back_more all out zero n v h k p e = absurd (not-suc-le-zero h)
  back_more all out (suc i) n v h k p e =
      rw (sub-one, drop-cons (set out i v) i 0 (omega (arith, length-set out i v)), get_or-set_same out i v 0 (omega arith), drop-set-lt (suc i) out i v (omega arith), p)
      (sym (append_assoc (digits i (n / base)) (digit n ∷ []) (drop (suc i) out)) ∙ ap (λ (l : List ℕ). l ++ drop (suc i) out) (sym (last i n)) ∙ e)

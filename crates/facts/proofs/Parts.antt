-- Parts of a list at offsets. The part of n elements from `at` on is `take n (drop at xs)`; elements put in place from `at` on are the
-- kit's `sets xs at vs`, which leaves all others as they are.
-- Assumes nothing.
use Prim.Native.Nat.{ℕ, zero, suc, ◌+◌, ◌-◌, ◌≤◌, ◌<◌}
use mathlib.Core.Path.{◌≡◌, refl, sym, ap, ◌∙◌}
use mathlib.Core.List.{List, [], ◌∷◌, ◌++◌, append-nil, append_assoc}
use mathlib.Core.Bool.{Bool, true, false, cond, ◌||◌}
use native.Mathlib.Nat.{suc-add, zero-add, add-zero, add-sub_cancel_left}
use native.Mathlib.Omega.{arith}
use borrow.Author.Tests.{eqb-true, leb-true}
use lib.Dec.{T, eqb, leb, eqb→eq, leb→le}
use lib.ListN.{length, get_or, take, drop, set, take-append-drop, length-take, length-drop, drop_of_length-le}
use lib.Seq.{length-take-le, take-length, take-nil, take_at, drop_at, drop-append-le, drop-drop, take-set-le, drop-set-lt, drop-set-add, set_comm, get_or-take, get_or-drop, sets, sets-eq}

-- the part of m at `from` and that of n at `at` are the same, or they do not overlap
abbrev pub fit : (at n from m : ℕ) → Bool
fit at n from m = cond (eqb from at) (eqb m n) (leb (at + n) from || leb (from + m) at)

module _ {A : Type 0} where
  -- ---- a part after elements were put: they themselves where they were put; any part that does not overlap is as it was

  same : (xs vs : List A) (at n : ℕ) → length vs ≡ n → at + n ≤ length xs → take n (drop at (sets xs at vs)) ≡ vs
  same xs vs at n l h =
      ap (λ (ys : List A). take n (drop at ys)) (sets-eq vs xs at (omega arith) ∙ append_assoc (take at xs) vs _)
      ∙ ap (take n) (drop_at (take at xs) _ at (length-take-le at xs (omega arith)))
      ∙ take_at vs _ n l

  before_one : (xs : List A) (v : A) (at from m : ℕ) → from + m ≤ at → take m (drop from (set xs at v)) ≡ take m (drop from xs)
  before_one xs v at from m h =
      let e : at ≡ from + (at - from) = omega arith in
      ap (λ (k : ℕ). take m (drop from (set xs k v))) e
      ∙ ap (take m) (drop-set-add from xs (at - from) v)
      ∙ take-set-le m (drop from xs) (at - from) v (omega arith)

  before : (xs vs : List A) (at from m : ℕ) → from + m ≤ at → take m (drop from (sets xs at vs)) ≡ take m (drop from xs)
  before xs [] at from m h = refl
  before xs (v ∷ vs) at from m h = before (set xs at v) vs (suc at) from m (omega arith) ∙ before_one xs v at from m h

  behind : (xs vs : List A) (at from m : ℕ) → at + length vs ≤ from → take m (drop from (sets xs at vs)) ≡ take m (drop from xs)
  behind xs [] at from m h = refl
  behind xs (v ∷ vs) at from m h = behind (set xs at v) vs (suc at) from m (omega arith) ∙ ap (take m) (drop-set-lt from xs at v (omega arith))

  pub part-put : (xs vs : List A) (at n from m : ℕ) → length vs ≡ n → at + n ≤ length xs → T (fit at n from m)
      → take m (drop from (sets xs at vs)) ≡ cond (eqb from at) vs (take m (drop from xs))
  part-put xs vs at n from m l h = by (eqb from at) (leb (at + n) from) refl refl
    where
      by : (p q : Bool) → eqb from at ≡ p → leb (at + n) from ≡ q → T (cond p (eqb m n) (q || leb (from + m) at))
          → take m (drop from (sets xs at vs)) ≡ cond p vs (take m (drop from xs))
      by true q e f t = rw (eqb-true from at e, eqb→eq m n t) (same xs vs at n l h)
      by false true e f t = behind xs vs at from m (omega (arith, leb-true (at + n) from f))
      by false false e f t = before xs vs at from m (leb→le _ _ t)

  -- one element of a part
  pub get_d_part : (xs : List A) (at n i : ℕ) (d : A) → i < n → get_or (take n (drop at xs)) i d ≡ get_or xs (at + i) d
  get_d_part xs at n i d h = get_or-take n (drop at xs) i d h ∙ get_or-drop at xs i d

  -- the rest of a front is the front of a rest
  pub drop-take : (m n : ℕ) (xs : List A) → drop m (take (m + n) xs) ≡ take n (drop m xs)
  drop-take zero n xs = rw zero-add
  drop-take (suc m) n [] = rw (take-nil (suc m + n), take-nil n)
  drop-take (suc m) n (x ∷ xs) = rw suc-add (drop-take m n xs)

  -- a list that is copied to the front of the k elements from `at` on is put there
  pub copied : (xs vs : List A) (at k : ℕ) (mid : List A) → at + length vs ≤ length xs → length vs ≤ k
      → mid ≡ take (length vs) vs ++ drop (length vs) (take k (drop at xs)) → take at xs ++ (mid ++ drop k (drop at xs)) ≡ sets xs at vs
  copied xs vs at k mid h l e =
      let rest : List A = drop at xs in
      let behind : drop (length vs) (take k rest) ++ drop k rest ≡ drop (at + length vs) xs =
      sym (drop-append-le (length vs) (take k rest) (drop k rest) (omega (arith, length-take k rest, length-drop at xs)))
      ∙ ap (drop (length vs)) (take-append-drop k rest)
      ∙ drop-drop (length vs) at xs in
      rw (e, take-length vs, append_assoc vs, behind, sets-eq vs xs at h) (sym (append_assoc (take at xs) vs _))

  -- what is written to all of the part from `at` up to `end` is put there
  pub put-part : (xs vs mid : List A) (at end : ℕ) → mid ≡ vs → at + length vs ≡ end → end ≤ length xs
      → take at xs ++ (mid ++ drop (end - at) (drop at xs)) ≡ sets xs at vs
  put-part xs vs mid at end e l h =
      rw (e, ← l, add-sub_cancel_left at (length vs), drop-drop (length vs) at xs, sets-eq vs xs at (omega arith)) (sym (append_assoc (take at xs) vs _))

  -- ---- two that do not overlap are put in either order

  set_first : (xs vs : List A) (at k : ℕ) (w : A) → at + length vs ≤ k → set (sets xs at vs) k w ≡ sets (set xs k w) at vs
  set_first xs [] at k w h = refl
  set_first xs (v ∷ vs) at k w h =
      set_first (set xs at v) vs (suc at) k w (omega arith)
      ∙ ap (λ (ys : List A). sets ys (suc at) vs) (set_comm xs at k v w (λ e. omega arith))

  pub sets_comm : (xs vs ws : List A) (at from : ℕ) → at + length vs ≤ from → sets (sets xs at vs) from ws ≡ sets (sets xs from ws) at vs
  sets_comm xs vs [] at from h = refl
  sets_comm xs vs (w ∷ ws) at from h =
      ap (λ (ys : List A). sets ys (suc from) ws) (set_first xs vs at from w h) ∙ sets_comm (set xs from w) vs ws at (suc from) (omega arith)

  -- one behind the other is both at once
  pub sets-append : (xs vs ws : List A) (at : ℕ) → sets (sets xs at vs) (at + length vs) ws ≡ sets xs at (vs ++ ws)
  sets-append xs [] ws at = ap (λ (k : ℕ). sets xs k ws) (add-zero at)
  sets-append xs (v ∷ vs) ws at =
      let e : at + suc (length vs) ≡ suc at + length vs = omega arith in
      ap (λ (k : ℕ). sets (sets (set xs at v) (suc at) vs) k ws) e ∙ sets-append (set xs at v) vs ws (suc at)

  -- up to the end: nothing stays behind them
  pub sets_end : (xs vs : List A) (at : ℕ) → at + length vs ≡ length xs → sets xs at vs ≡ take at xs ++ vs
  sets_end xs vs at l =
      sets-eq vs xs at (omega arith)
      ∙ ap (λ (r : List A). take at xs ++ vs ++ r) (drop_of_length-le xs {i = at + length vs} (omega arith))
      ∙ append-nil (take at xs ++ vs)

  -- as many as there are: nothing stays
  pub sets-all : (xs vs : List A) → length vs ≡ length xs → sets xs 0 vs ≡ vs
  sets-all xs vs l = sets_end xs vs 0 (omega arith)

  -- ---- a part that is put where it stands

  sets_cons : (x : A) (xs vs : List A) (at : ℕ) → sets (x ∷ xs) (suc at) vs ≡ x ∷ sets xs at vs
  sets_cons x xs [] at = refl
  sets_cons x xs (v ∷ vs) at = sets_cons x (set xs at v) vs (suc at)

  pub sets-part : (at n : ℕ) (xs : List A) → sets xs at (take n (drop at xs)) ≡ xs
  sets-part zero zero xs = refl
  sets-part zero (suc n) [] = refl
  sets-part zero (suc n) (x ∷ xs) = sets_cons x xs (take n xs) 0 ∙ ap (λ (r : List A). x ∷ r) (sets-part zero n xs)
  sets-part (suc at) n [] = rw take-nil
  sets-part (suc at) n (x ∷ xs) = sets_cons x xs (take n (drop at xs)) at ∙ ap (λ (r : List A). x ∷ r) (sets-part at n xs)

  -- one element of it changed
  pub set-part : (at n i : ℕ) (xs : List A) (v : A) → i < n → set xs (at + i) v ≡ sets xs at (set (take n (drop at xs)) i v)
  set-part zero (suc n) i [] v h = refl
  set-part zero (suc n) zero (x ∷ xs) v h = sym (sets-part zero (suc n) (v ∷ xs))
  set-part zero (suc n) (suc i) (x ∷ xs) v h =
      rw zero-add (ap (λ (r : List A). x ∷ r) (rw zero-add at (set-part zero n i xs v (omega arith))) ∙ sym (sets_cons x xs (set (take n xs) i v) 0))
  set-part zero zero i xs v h = absurd (omega arith)
  set-part (suc at) n i [] v h = rw take-nil
  set-part (suc at) n i (x ∷ xs) v h =
      rw suc-add (ap (λ (r : List A). x ∷ r) (set-part at n i xs v h) ∙ sym (sets_cons x xs (set (take n (drop at xs)) i v) at))

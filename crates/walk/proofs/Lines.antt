-- The walk line by line, while the RAM stays put: through the lines of a strip, and into the next one or the plain rest.
-- Assumes nothing.
use Prim.Native.Nat.{ℕ, zero, suc, ◌+◌, ◌≤◌}
use mathlib.Core.Path.{◌≡◌, refl, ap, ◌∙◌}
use mathlib.Core.Bool.{true, false}
use mathlib.Core.List.{List}
use native.Mathlib.Nat.{zero-add}
use native.Mathlib.Omega.{arith}
use Rattle.limits.specs.Limits.{ram_pairs}
use Rattle.cells.specs.Reading.{value}
use Rattle.walk.specs.declared.Strip.{Strip}
use Rattle.walk.specs.declared.Walk.{Walk}
use Rattle.walk.specs.Walk.{next, walk_at, plain_rest, over, lines_left, next_strip, advanced, onward, next_line}
use Rattle.walk.proofs.Laws.{left_over, left-advanced, advanced_by, strip_at, on_value, over-value, plain_value}

module _ (ram : List ℕ) (ch : ℕ) where
  -- after so many lines
  unfoldable pub walk_after : ℕ → Walk → Walk
  walk_after zero w = w
  walk_after (suc n) w = walk_after n (value ram (next_line ch w))

  pub one_more : (n : ℕ) (w : Walk) → walk_after (suc n) w ≡ value ram (next_line ch (walk_after n w))
  unfolding walk_after
  one_more zero w = refl
  one_more (suc n) w = one_more n (value ram (next_line ch w))

  pub after_both : (m n : ℕ) (w : Walk) → walk_after (m + n) w ≡ walk_after n (walk_after m w)
  unfolding walk_after
  after_both zero n w = ap (λ (k : ℕ). walk_after k w) (zero-add n)
  after_both (suc m) n w =
      let e : suc m + n ≡ suc (m + n) = omega arith in
      ap (λ (k : ℕ). walk_after k w) e ∙ after_both m n (value ram (next_line ch w))

  -- in a strip that has them left
  on_strip : (k a : ℕ) (t : Strip) → k ≤ lines_left t → walk_after k (walk_at a t) ≡ walk_at a (advanced_by k t)
  unfolding walk_after advanced_by
  on_strip zero a t h = refl
  on_strip (suc k) a t h =
      ap (walk_after k) (on_value ram ch (walk_at a t) (left_over t (omega arith)))
      ∙ on_strip k a (advanced t) (omega (arith, left-advanced t))

  -- in the next strip, which is that of the descriptor at b
  pub next-strip : (k b : ℕ) (w : Walk) → over w.strip ≡ true → w.plain ≡ false
      → value ram (next_strip ram_pairs ch w.descriptor) ≡ walk_at (next b) (strip_at ram ch b) → 1 ≤ k → k ≤ lines_left (strip_at ram ch b)
      → walk_after k w ≡ walk_at (next b) (advanced_by k (strip_at ram ch b))
  unfolding walk_after advanced_by
  next-strip zero b w o f e m h = absurd (omega arith)
  next-strip (suc k) b w o f e m h =
      ap (walk_after k) (over-value ram ch w o f ∙ ap onward e)
      ∙ on_strip k (next b) (advanced (strip_at ram ch b)) (omega (arith, left-advanced (strip_at ram ch b)))

  -- in the plain rest, which stays
  rest_stays : (k a : ℕ) → walk_after k (plain_rest a) ≡ plain_rest a
  unfolding walk_after over
  rest_stays zero a = refl
  rest_stays (suc k) a = ap (walk_after k) (plain_value ram ch (plain_rest a) refl refl) ∙ rest_stays k a

  pub next-rest : (k a : ℕ) (w : Walk) → over w.strip ≡ true → w.plain ≡ false
      → value ram (next_strip ram_pairs ch w.descriptor) ≡ plain_rest a → walk_after (suc k) w ≡ plain_rest a
  unfolding walk_after advanced
  next-rest k a w o f e = ap (walk_after k) (over-value ram ch w o f ∙ ap onward e) ∙ rest_stays k a

-- The laws of a line that is mixed from its first column on.
-- Assumes nothing.
use Prim.Native.Nat.{ℕ, ◌+◌, ◌*◌, ◌<◌}
use mathlib.Core.Path.{◌≡◌, refl, ap, ◌∙◌}
use mathlib.Core.List.{List, ◌∷◌, ◌++◌}
use native.Mathlib.Numerals.{add-one}
use native.Mathlib.Omega.{arith}
use lib.ListN.{length, get_or, take, drop, set, length-set, drop_of_length-le}
use lib.Seq.{drop-cons}
use Rattle.facts.proofs.Written.{front-more, front-whole}
use Rattle.demo.specs.declared.camera.Colour.{Colour}
use Rattle.demo.specs.Camera.{camera}
use Rattle.demo.specs.Picture.{mix, mixed}

-- the pixel in column x, and the columns after it
mixed-next : (line : List ℕ) (y x : ℕ) (c : Colour) → x < length line → c ≡ mix (get_or line x 0) (camera x y)
    → mixed y x (drop x line) ≡ c.r ∷ c.g ∷ c.b ∷ mixed y (x + 1) (drop (x + 1) line)
unfolding mixed
mixed-next line y x c h p = ap (mixed y x) (drop-cons line x 0 h) ∙ rw (p, add-one)

module _ (line out : List ℕ) (y x : ℕ) (e : take (3 * x) out ++ mixed y x (drop x line) ≡ mixed y 0 line) where
  -- a pixel more
  pub mixed-more : (c : Colour) → x < length line → length out ≡ 3 * length line → c ≡ mix (get_or line x 0) (camera x y)
      → take (3 * (x + 1)) (set (set (set out (3 * x) c.r) (3 * x + 1) c.g) (3 * x + 2) c.b) ++ mixed y (x + 1) (drop (x + 1) line)
      ≡ mixed y 0 line
  mixed-more c h k p =
      let red : List ℕ = set out (3 * x) c.r in
      let green : List ℕ = set red (3 * x + 1) c.g in
      let l : length red ≡ length out = length-set out (3 * x) c.r in
      let m : length green ≡ length red = length-set red (3 * x + 1) c.g in
      front-more _ green _ (3 * x + 2) (3 * (x + 1)) c.b (omega arith) (omega arith)
      (front-more _ red _ (3 * x + 1) (3 * x + 2) c.g (omega arith) (omega arith)
      (front-more _ out _ (3 * x) (3 * x + 1) c.r refl (omega arith) (rw (← mixed-next line y x c h p) e)))

  -- nothing is left
  pub mixed-whole : x ≡ length line → length out ≡ 3 * length line → out ≡ mixed y 0 line
  unfolding mixed
  mixed-whole h k = front-whole _ out (3 * x) (omega arith) (rw (drop_of_length-le line {i = x} (omega arith)) at e)

-- Steps counted without a division, and the slice number by them.
-- Assumes nothing.
use Prim.Native.Nat.{ℕ, ◌+◌, ◌-◌, ◌*◌, ◌/◌, ◌≤◌, ◌<◌}
use mathlib.Core.Path.{◌≡◌, sym, ap, ◌∙◌}
use native.Mathlib.Nat.{one-mul, add-mul-div_right, div-eq_of_lt, add-div_right, div-le_of_le-mul}
use native.Mathlib.Omega.{arith}
use Rattle.raster.specs.Raster.{slice_number}

module _ (x step : ℕ) where
  -- k steps are taken at once
  pub more-steps : (k : ℕ) → 0 < step → k * step ≤ x → (x - k * step) / step + k ≡ x / step
  more-steps k pos l =
      let e : x - k * step + k * step ≡ x = omega arith in
      sym (add-mul-div_right (x - k * step) k pos) ∙ ap (λ (y : ℕ). y / step) e

  pub one-step : 0 < step → step ≤ x → (x - step) / step + 1 ≡ x / step
  one-step pos l = rw one-mul at (more-steps 1 pos (omega arith))

  -- and what is left is less than a step
  pub last_steps : (k : ℕ) → 0 < step → k * step ≤ x → x < k * step + step → k ≡ x / step
  last_steps k pos l m =
      let e : (x - k * step) / step ≡ 0 = div-eq_of_lt (omega arith) in
      omega (arith, e, more-steps k pos l)

module _ (ch n : ℕ) where
  -- where 36 n is not yet CH the slice is 1
  pub slice_first : 36 * n < ch → slice_number ch n ≡ 1
  unfolding slice_number
  slice_first h =
      let e : (36 * n + ch) / (2 * ch) ≤ 1 = div-le_of_le-mul (2 * ch) (omega arith) in
      omega (arith, e)

  -- from there on it is one more than the steps of 2 CH
  pub slice-steps : 0 < ch → ch ≤ 36 * n → slice_number ch n ≡ (36 * n - ch) / (2 * ch) + 1
  unfolding slice_number
  slice-steps pos h =
      let e : 36 * n + ch ≡ 36 * n - ch + 2 * ch = omega arith in
      let f : (36 * n + ch) / (2 * ch) ≡ (36 * n - ch) / (2 * ch) + 1 = ap (λ (y : ℕ). y / (2 * ch)) e ∙ add-div_right (36 * n - ch) (omega arith) in
      omega (arith, f)

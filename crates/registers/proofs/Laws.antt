-- The laws of the registers: the ranges of the settings, and that unused bits read 0.
-- Assumes nothing.
use Prim.Native.Nat.{ℕ, zero, suc, ◌+◌, ◌*◌, ◌/◌, ◌%◌, ◌≤◌, ◌<◌, min}
use mathlib.Core.Path.{◌≡◌, refl, sym, ap, subst}
use mathlib.Core.List.{List, [], ◌∷◌, zip_with}
use native.Mathlib.Nat.{le_refl}
use native.Mathlib.Omega.{arith}
use lib.ListN.{get_or, length}
use lib.Bits.{bit_and, and_step, and_zero_l, and_zero_r}
use Rattle.facts.proofs.Lists.{set_at}
use Rattle.registers.specs.declared.Registers.{Registers}
use Rattle.registers.specs.Registers.{kept, fresh_registers, loaded, stored, fetched, settings_of}

-- ---- ranges

pub ld_bound_lem : (r : Registers) → (settings_of r).ld < 64
unfolding settings_of
ld_bound_lem r = omega arith

pub fbk_bound : (r : Registers) → (settings_of r).fbk < 2
unfolding settings_of
fbk_bound r = omega arith

-- ---- unused bits read 0

-- a mask twice is a mask once
and_twice : (k a m : ℕ) → a ≤ k → bit_and (bit_and a m) m ≡ bit_and a m
and_twice zero a m h =
    let z : a ≡ 0 = omega arith in
    subst (λ (n : ℕ). bit_and (bit_and n m) m ≡ bit_and n m) (sym z) (ap (λ (n : ℕ). bit_and n m) (and_zero_l m))
and_twice (suc k) a m h =
    let e : bit_and a m ≡ bit_and (a / 2) (m / 2) * 2 + min (a % 2) (m % 2) = and_step a m in
    let p : bit_and a m / 2 ≡ bit_and (a / 2) (m / 2) = omega arith in
    omega (arith, rw p at (and_step (bit_and a m) m), and_twice k (a / 2) (m / 2) (omega arith))

-- each register holds kept bits only, so its unused bits read 0
unfoldable pub Masked : Registers → Type 0
Masked r = (i : ℕ) → bit_and (fetched r i) (get_or kept (i % 16) 0) ≡ fetched r i

pub stored_masked : (r : Registers) (n b : ℕ) → Masked r → Masked (stored r n b)
unfolding Masked
stored_masked r n b h i =
    set_at (λ k v. bit_and v (get_or kept k 0) ≡ v) r.bytes (n % 16) (bit_and b (get_or kept (n % 16) 0)) (i % 16)
    (and_twice b b (get_or kept (n % 16) 0) (le_refl b)) (h i)

-- ---- all sixteen from their bytes

pub zip_length : (bs ks : List ℕ) → length (zip_with bit_and bs ks) ≡ min (length bs) (length ks)
unfolding zip_with
zip_length [] ks = omega arith
zip_length (b ∷ bs) [] = omega arith
zip_length (b ∷ bs) (k ∷ ks) = omega (arith, zip_length bs ks)

pub zip_at : (bs ks : List ℕ) (i : ℕ) → get_or (zip_with bit_and bs ks) i 0 ≡ bit_and (get_or bs i 0) (get_or ks i 0)
unfolding zip_with
zip_at [] ks i = sym (and_zero_l (get_or ks i 0))
zip_at (b ∷ bs) [] i = sym (and_zero_r (get_or (b ∷ bs) i 0))
zip_at (b ∷ bs) (k ∷ ks) zero = refl
zip_at (b ∷ bs) (k ∷ ks) (suc i) = zip_at bs ks i

loaded_masked : (bytes : List ℕ) → Masked (loaded bytes)
unfolding Masked loaded
loaded_masked bytes i = let b : ℕ = get_or bytes (i % 16) 0 in rw (zip_at bytes kept (i % 16)) (and_twice b b (get_or kept (i % 16) 0) (le_refl b))

-- the reset values are kept bits only, by computation
pub fresh_masked : Masked fresh_registers
unfolding loaded zip_with
fresh_masked = loaded_masked fresh_registers.bytes

-- What each register says of the settings, so that a store which says the same keeps them.
-- Assumes nothing.
use Prim.Native.Nat.{ℕ, ◌/◌, ◌%◌, ◌≤◌}
use mathlib.Core.Path.{◌≡◌, refl, sym, ◌∙◌}
use mathlib.Core.Bool.{cond}
use native.Mathlib.Omega.{arith}
use borrow.Author.Tests.{ne_eqb}
use lib.Dec.{eqb}
use lib.ListN.{get_or}
use lib.Bits.{bit_and, and_mask, and_shr}
use Rattle.facts.proofs.Lists.{set_at}
use Rattle.registers.specs.declared.Registers.{Registers}
use Rattle.registers.specs.Registers.{kept, stored, settings_of}

-- 3FF0 says LD, 3FF1 DD, 3FF2 CH, and 3FF3 OSD, FBK and FL; the others say nothing
said : ℕ → ℕ → ℕ
said i b = cond (eqb i 0) (b % 64) (cond (eqb i 1) b (cond (eqb i 2) (b % 64) (cond (eqb i 3) (b / 16 % 16) 0)))

-- registers that say the same give the same settings
settings_said : (r q : Registers) → ((j : ℕ) → said j (get_or r.bytes j 0) ≡ said j (get_or q.bytes j 0)) → settings_of r ≡ settings_of q
unfolding settings_of said
settings_said r q h =
    let a : ℕ = get_or r.bytes 3 0 in
    let b : ℕ = get_or q.bytes 3 0 in
    let n : a / 16 % 16 ≡ b / 16 % 16 = h 3 in
    let osd : a / 128 % 2 ≡ b / 128 % 2 = omega arith in
    let fbk : a / 64 % 2 ≡ b / 64 % 2 = omega arith in
    let fl : a / 16 % 4 ≡ b / 16 % 4 = omega arith in
    λ i. record { ld = h 0 i; dd = h 1 i; ch = h 2 i; osd = eqb (osd i) 1; fbk = fbk i; fl = fl i }

-- a store to a register that says the same as before keeps the settings
store_keeps : (r : Registers) (i x : ℕ)
    → said (i % 16) (bit_and x (get_or kept (i % 16) 0)) ≡ said (i % 16) (get_or r.bytes (i % 16) 0) → settings_of (stored r i x) ≡ settings_of r
store_keeps r i x h =
    settings_said (stored r i x) r λ j.
    set_at (λ k v. said k v ≡ said k (get_or r.bytes k 0)) r.bytes (i % 16) (bit_and x (get_or kept (i % 16) 0)) j h refl

-- ---- each register by its own setting

pub keeps_ld : (r : Registers) (x : ℕ) → x % 64 ≡ get_or r.bytes 0 0 % 64 → settings_of (stored r 0 x) ≡ settings_of r
unfolding said
keeps_ld r x e = store_keeps r 0 x (omega (arith, and_mask x 8))

pub keeps_dd : (r : Registers) (x : ℕ) → x % 256 ≡ get_or r.bytes 1 0 → settings_of (stored r 1 x) ≡ settings_of r
unfolding said
keeps_dd r x e = store_keeps r 1 x (and_mask x 8 ∙ e)

pub keeps_ch : (r : Registers) (x : ℕ) → x % 64 ≡ get_or r.bytes 2 0 % 64 → settings_of (stored r 2 x) ≡ settings_of r
unfolding said
keeps_ch r x e = store_keeps r 2 x (omega (arith, and_mask x 6))

-- P lies below OSD, FBK and FL
pub keeps_control : (r : Registers) (x : ℕ) → x / 16 % 16 ≡ get_or r.bytes 3 0 / 16 % 16 → settings_of (stored r 3 x) ≡ settings_of r
unfolding said
keeps_control r x e =
    let u : bit_and x 0xF7 / 16 ≡ x / 16 % 16 = and_shr x 0xF7 4 ∙ and_mask (x / 16) 4 in
    store_keeps r 3 x (omega arith)

-- a register from 4 on says nothing
pub keeps_others : (r : Registers) (i x : ℕ) → 4 ≤ i % 16 → settings_of (stored r i x) ≡ settings_of r
keeps_others r i x h = store_keeps r i x (silent _ ∙ sym (silent _))
  where
    silent : (b : ℕ) → said (i % 16) b ≡ 0
    silent b = unfold said in rw (ne_eqb (i % 16) 0 (omega arith), ne_eqb (i % 16) 1 (omega arith), ne_eqb (i % 16) 2 (omega arith), ne_eqb (i % 16) 3 (omega arith))

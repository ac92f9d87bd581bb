-- The laws of noise and digests.
-- Assumes nothing.
use Prim.Native.Nat.{ℕ, zero, suc, ◌+◌, ◌-◌, ◌/◌, ◌%◌, ◌<◌}
use mathlib.Core.Path.{◌≡◌}
use mathlib.Core.List.{List, ◌∷◌, ◌++◌}
use native.Mathlib.Nat.{not-suc-le-zero}
use native.Mathlib.Numerals.{sub-one, add-one}
use native.Mathlib.Omega.{arith}
use lib.ListN.{length, get_or, take, drop, set}
use lib.Seq.{drop-cons, drop-length}
use Rattle.facts.proofs.Written.{front-more, front-whole}
use Rattle.test_script.specs.declared.Numbers.{Numbers}
use Rattle.test_script.specs.Script.{next_of, noise_of, mixed}

noise_first : (by : Numbers) (unit m seed next v : ℕ) → 0 < m → next ≡ next_of seed 0 by → v ≡ next / unit % 256
    → noise_of m seed by unit ≡ v ∷ noise_of (m - 1) next by unit
unfolding noise_of
noise_first by unit zero seed next v h p q = absurd (not-suc-le-zero h)
noise_first by unit (suc m) seed next v h p q = rw (q, p, sub-one (suc m))

-- one byte more of noise
pub noise_more : (by : Numbers) (unit n : ℕ) (all bytes : List ℕ) (i seed next v : ℕ) → i < n → length bytes ≡ n
    → next ≡ next_of seed 0 by → v ≡ next / unit % 256 → take i bytes ++ noise_of (n - i) seed by unit ≡ all
    → take (i + 1) (set bytes i v) ++ noise_of (n - (i + 1)) next by unit ≡ all
noise_more by unit n all bytes i seed next v h k p q e =
    let less : n - (i + 1) ≡ n - i - 1 = omega arith in
    front-more all bytes _ i (i + 1) v (omega arith) (omega arith)
    (rw (less, ← noise_first by unit (n - i) seed next v (omega arith) p q) e)

pub noise_whole : (by : Numbers) (unit n : ℕ) (all bytes : List ℕ) (i seed : ℕ) → i ≡ n → length bytes ≡ n
    → take i bytes ++ noise_of (n - i) seed by unit ≡ all → bytes ≡ all
unfolding noise_of
noise_whole by unit n all bytes i seed h k e =
    let none : n - i ≡ 0 = omega arith in
    front-whole all bytes i (omega arith) (rw none at e)

-- one byte more of a digest
pub mixed-more : (bytes : List ℕ) (by : Numbers) (i now next v all : ℕ) → i < length bytes → next ≡ next_of now v by
    → v ≡ get_or bytes i 0
    → mixed now (drop i bytes) by ≡ all → mixed next (drop (i + 1) bytes) by ≡ all
unfolding mixed
mixed-more bytes by i now next v all h p q e = rw (p, q, add-one) (rw (drop-cons bytes i 0 h) at e)

pub mixed-end : (bytes : List ℕ) (by : Numbers) (i now all : ℕ) → i ≡ length bytes → mixed now (drop i bytes) by ≡ all → now ≡ all
unfolding mixed
mixed-end bytes by i now all h e = rw (h, drop-length bytes) at e

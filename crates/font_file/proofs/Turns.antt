-- The turns of the loops over blocks: what is done and what is left are all.
-- Assumes nothing.
use Prim.Native.Nat.{ℕ, zero, suc, ◌+◌, ◌-◌, ◌*◌, ◌<◌, min}
use mathlib.Core.Path.{◌≡◌, sym, ap, ◌∙◌}
use mathlib.Core.List.{List, [], ◌∷◌, ◌++◌, append-nil}
use native.Mathlib.Nat.{mul-zero}
use native.Mathlib.Numerals.{add-one}
use native.Mathlib.Omega.{arith}
use lib.ListN.{length, get_or, take, drop, length-append, length-drop}
use lib.Seq.{sets, drop-drop}
use Rattle.facts.proofs.Parts.{sets-append}
use Rattle.limits.specs.Limits.{font_length}
use Rattle.std.specs.Prelude.{Result}
use Rattle.std.specs.Simd.{first_chunks}
use Rattle.refusals.specs.declared.FileRefusal.{FileRefusal}
use Rattle.font_file.specs.FontFile.{block_count, block_length, payload_length, used_length, block_test, or_later, blocks_test}
use Rattle.font_file.specs.Checked.{block_at}
use Rattle.font_file.proofs.Files.{used_left, next, cut}

-- ---- pieces put in place, one after the other

-- n bytes on, or nothing is left to put
on : (out vs ws : List ℕ) (at n : ℕ) → length vs ≡ min n (length vs + length ws) → sets (sets out at vs) (at + n) ws ≡ sets out at (vs ++ ws)
on out vs [] at n e = rw append-nil
on out vs (w ∷ ws) at n e = let f : n ≡ length vs = omega arith in rw f (sets-append out vs (w ∷ ws) at)

-- a piece of n bytes for each block, from m bytes each
module _ (m n : ℕ) (piece : ℕ → List ℕ → List ℕ) (f : ℕ → ℕ → List ℕ → List ℕ)
    (step : (count k : ℕ) (xs : List ℕ) → f (suc count) k xs ≡ piece k xs ++ f count (suc k) (drop m xs)) where
  -- those from block k on
  abbrev left : (k : ℕ) (xs : List ℕ) → List ℕ
  left k xs = f (block_count - k) k (drop (m * k) xs)

  pub put_turn : (k : ℕ) (xs out part all : List ℕ) → k < block_count → part ≡ piece k (drop (m * k) xs)
      → length part ≡ min n (length part + length (left (k + 1) xs)) → sets out (n * k) (left k xs) ≡ all
      → sets (sets out (n * k) part) (n * (k + 1)) (left (k + 1) xs) ≡ all
  put_turn k xs out part all h p l e =
      let count : block_count - k ≡ suc (block_count - (k + 1)) = omega arith in
      let to : n * (k + 1) ≡ n * k + n = omega arith in
      let rest : left k xs ≡ part ++ left (k + 1) xs = rw (count, p, add-one k, ← next m k xs) (step _ k (drop (m * k) xs)) in
      rw to (on out part (left (k + 1) xs) (n * k) n l ∙ ap (sets out (n * k)) (sym rest) ∙ e)

-- ---- what block k has of the font, and what is left for those behind it

pub part_turn : (k m n : ℕ) (font all part rest : List ℕ) → length font ≡ font_length → k < block_count → m ≡ k + 1
    → all ≡ drop (payload_length * k) font → n ≡ payload_length → all ≡ part ++ rest → length part ≡ min n (length all)
    → (part ≡ take payload_length (drop (payload_length * k) font)) × (rest ≡ drop (payload_length * m) font) × (length part ≡ used_length k)
part_turn k m n font all part rest l h one left size e long =
    let after : suc k ≡ m = omega arith in
    let used : length part ≡ min payload_length (font_length - payload_length * k) =
    rw (size, left, length-drop (payload_length * k) font, l) at long in
    let more : length all ≡ length part + length rest = ap length e ∙ length-append part rest in
    let (a, b) = cut part rest payload_length (rw (size, more) at long) in
    (sym a ∙ ap (take payload_length) (sym e ∙ left), sym b ∙ ap (drop payload_length) (sym e ∙ left) ∙ rw (next payload_length k font, after), omega (arith, used_left k (omega arith)))

-- ---- blocks tested, one after the other

-- what the tests of those from block k on find
abbrev pub tests_left : (k : ℕ) (file : List ℕ) → Result (Unit {0}) FileRefusal
tests_left k file = blocks_test (block_count - k) k (drop (block_length * k) file)

pub test_turn : (k : ℕ) (file : List ℕ) → k < block_count → tests_left k file ≡ or_later (block_test k (block_at k file)) (tests_left (k + 1) file)
unfolding blocks_test
test_turn k file h = let count : block_count - k ≡ suc (block_count - (k + 1)) = omega arith in rw (count, next block_length k file, add-one k)

-- a chunk of n elements, by its place
pub chunk_at : (n k i : ℕ) (xs d : List ℕ) → i < k → get_or (first_chunks n k xs) i d ≡ take n (drop (n * i) xs)
chunk_at n zero i xs d h = absurd (omega arith)
chunk_at n (suc k) zero xs d h = rw mul-zero
chunk_at n (suc k) (suc i) xs d h =
    let more : n + n * i ≡ n * suc i = omega arith in chunk_at n k i (drop n xs) d (omega arith) ∙ rw (drop-drop (n * i) n xs, more)

-- One block of a font file: the one that is written, one that passes its tests, and one that is damaged.
-- Assumes nothing.
use Prim.Native.Nat.{ℕ, zero, suc, ◌+◌, ◌-◌, ◌/◌, ◌%◌, ◌≤◌, ◌<◌}
use mathlib.Core.Path.{◌≡◌, refl, sym, ap, ◌∙◌}
use mathlib.Core.Bool.{true, false, ◌&&◌, not-eq-not}
use mathlib.Core.List.{List, [], ◌∷◌, ◌++◌, append_assoc}
use native.Mathlib.Decide.{dec_lt}
use native.Mathlib.Numerals.{add-one}
use native.Mathlib.Omega.{arith}
use borrow.Author.Tests.{eq-eqb, eqb-true}
use lib.Dec.{eqb}
use lib.ListN.{length, get_or, take, drop, set, replicate, length-append, length-take, length-drop, length-replicate, length-set, take-append-drop, drop_of_length-le}
use lib.Seq.{drop-cons, drop-drop, drop_at, take_at, take-take, take-set-le, take-set-lt, drop-set-lt, get_or-take, get_or-drop, get_or-set_same}
use Rattle.buffers.specs.Buffers.{Bytes, word, word_bytes}
use Rattle.buffers.proofs.Laws.{word_read}
use Rattle.facts.proofs.Choice.{either}
use Rattle.facts.proofs.Lists.{set_at}
use Rattle.facts.proofs.Parts.{drop-take}
use Rattle.facts.proofs.Tests.{and_both}
use Rattle.refusals.specs.declared.FileRefusal.{FileRefusal}
use Rattle.refusals.specs.declared.FileRefusal.TheVariants.{Checks}
use Rattle.std.specs.Prelude.{Result, Ok, Err}
use Rattle.font_file.specs.FontFile.{last_block, block_length, checked_length, heading_length, payload_length, used_length, sum_check, weighted_check, content_of, with_checks, checks_right, all_zero, unused_in, format_right, block_test}
use Rattle.font_file.specs.Checked.{exchanged}
use Rattle.font_file.proofs.Sums.{sum-set, weighted_exchanged}

-- a refusal is not the answer that all is done
pub refused-not : (r : FileRefusal) → let answer : Result (Unit {0}) FileRefusal = Err r in answer ≡ Ok tt → ⊥
refused-not r e = cc

-- ---- bytes

pub bytes-append : (xs ys : List ℕ) → Bytes xs → Bytes ys → Bytes (xs ++ ys)
bytes-append [] ys h k i = k i
bytes-append (x ∷ xs) ys h k zero = h zero
bytes-append (x ∷ xs) ys h k (suc i) = bytes-append xs ys (λ j. h (suc j)) k i

pub bytes_take : (n : ℕ) (xs : List ℕ) → Bytes xs → Bytes (take n xs)
bytes_take zero xs h i = omega arith
bytes_take (suc n) [] h i = omega arith
bytes_take (suc n) (x ∷ xs) h zero = h zero
bytes_take (suc n) (x ∷ xs) h (suc i) = bytes_take n xs (λ j. h (suc j)) i

pub bytes_drop : (n : ℕ) (xs : List ℕ) → Bytes xs → Bytes (drop n xs)
bytes_drop n xs h i = rw get_or-drop (h (n + i))

bytes_word : (n : ℕ) (xs : List ℕ) → n < 65536 → Bytes xs → Bytes (word_bytes n ++ xs)
bytes_word n xs k h zero = omega arith
bytes_word n xs k h (suc zero) = omega arith
bytes_word n xs k h (suc (suc i)) = h i

bytes-zeros : (n : ℕ) → Bytes (replicate n 0)
bytes-zeros zero i = omega arith
bytes-zeros (suc n) zero = omega arith
bytes-zeros (suc n) (suc i) = bytes-zeros n i

-- the two bytes as the code makes them
pub two_bytes : (n : ℕ) → n < 65536 → n % 256 ∷ n / 256 % 256 ∷ [] ≡ word_bytes n
two_bytes n h = let high : n / 256 % 256 ≡ n / 256 = omega arith in rw high

-- ---- the block that is written

abbrev pub block_of : (number : ℕ) (font : List ℕ) → List ℕ
block_of number font = with_checks (content_of number font)

-- the used length fits the payload
pub used_most : (number : ℕ) → used_length number ≤ payload_length
used_most number = either (λ (n : ℕ). n ≤ payload_length) (eqb number last_block) _ _ (omega arith) (omega arith)

pub block_bytes : (number : ℕ) (font : List ℕ) → number < 65536 → Bytes font → Bytes (block_of number font)
unfolding with_checks content_of
block_bytes number font l h =
    let c : List ℕ = content_of number font in
    let zeros : List ℕ = replicate (payload_length - length font) 0 in
    bytes-append c (word_bytes (sum_check c) ++ word_bytes (weighted_check c))
    (bytes_word number (word_bytes (used_length number) ++ (font ++ zeros)) l
    (bytes_word (used_length number) (font ++ zeros) (omega (arith, used_most number)) (bytes-append font zeros h (bytes-zeros (payload_length - length font)))))
    (bytes_word (sum_check c) (word_bytes (weighted_check c)) (omega arith) (bytes_word (weighted_check c) [] (omega arith) (λ i. omega arith)))

-- the checks, read from the last four bytes
checks_by : (block : List ℕ)
    → checks_right block ≡ eqb (word (drop checked_length block) 0) (sum_check (take checked_length block)) && eqb (word (drop checked_length block) 2) (weighted_check (take checked_length block))
unfolding checks_right
checks_by block = simp get_or-drop

zeros_pass : (n : ℕ) → all_zero (replicate n 0) ≡ true
unfolding all_zero
zeros_pass zero = refl
zeros_pass (suc n) = zeros_pass n

module _ (number : ℕ) (font : List ℕ) (h : length font ≡ used_length number) where
  pub content_length : length (content_of number font) ≡ checked_length
  unfolding content_of
  content_length = simp (length-append, length-replicate) (omega (arith, used_most number))

  pub block_length_lem : length (block_of number font) ≡ block_length
  unfolding with_checks
  block_length_lem = simp (length-append, content_length) (omega arith)

  -- its bytes of font, whatever stands behind it
  pub block_font : (rest : List ℕ) → take (used_length number) (drop heading_length (block_of number font ++ rest)) ≡ font
  unfolding with_checks content_of
  block_font rest = simp append_assoc (take_at font _ (used_length number) h)

  pub block_passes : block_test number (block_of number font) ≡ Ok tt
  unfolding block_test format_right with_checks content_of
  block_passes =
      let c : List ℕ = content_of number font in
      let l : length c ≡ checked_length = content_length in
      let checks : checks_right (with_checks c) ≡ true =
      checks_by (with_checks c) ∙ rw (take_at c _ checked_length l, drop_at c _ checked_length l, eq-eqb _ _ (word_read (sum_check c)), eq-eqb _ _ (word_read (weighted_check c))) in
      let unused : unused_in number (with_checks c) ≡ replicate (payload_length - length font) 0 =
      ap (drop (heading_length + used_length number)) (take_at c _ checked_length l) ∙ sym (drop-drop (used_length number) 4 c) ∙ drop_at font _ (used_length number) h in
      rw (checks, eq-eqb _ _ (word_read number), eq-eqb _ _ (word_read (used_length number)), unused, zeros_pass (payload_length - length font))

-- ---- a block that passes its tests

passed_both : (place : ℕ) (block : List ℕ) → block_test place block ≡ Ok tt → (checks_right block ≡ true) × (format_right place block ≡ true)
unfolding block_test
passed_both place block e =
    let c : checks_right block ≡ true = not-eq-not.0 (λ n. refused-not _ (rw n at e)) in (c, not-eq-not.0 (λ n. refused-not _ (rw (c, n) at e)))

-- two bytes are those of the number that stands in them
word_back : (xs : List ℕ) (i : ℕ) → Bytes xs → suc i < length xs → word_bytes (word xs i) ++ drop (suc (suc i)) xs ≡ drop i xs
word_back xs i h l =
    let low : word xs i % 256 ≡ get_or xs i 0 = omega (arith, h i) in
    let high : word xs i / 256 ≡ get_or xs (i + 1) 0 = omega (arith, h i) in
    rw (low, high, add-one, ← drop-cons xs (suc i) 0 l, ← drop-cons xs i 0 (omega arith))

-- and so are four, of two numbers
words_back : (xs ys : List ℕ) (m n : ℕ) → Bytes xs → 4 ≤ length xs → word xs 0 ≡ m → word xs 2 ≡ n → drop heading_length xs ≡ ys
    → word_bytes m ++ (word_bytes n ++ ys) ≡ xs
words_back xs ys m n h l p q e =
    rw (← p, ← q, ← e) (ap (λ (r : List ℕ). word_bytes (word xs 0) ++ r) (word_back xs 2 h (omega arith)) ∙ word_back xs 0 h (omega arith))

-- bytes that are all zero are so many zeros
zeros-back : (xs : List ℕ) → all_zero xs ≡ true → replicate (length xs) 0 ≡ xs
unfolding all_zero
zeros-back [] e = refl
zeros-back (x ∷ xs) e = let (p, q) = and_both (eqb x 0) (all_zero xs) e in λ i. sym (eqb-true x 0 p) i ∷ zeros-back xs q i

-- right checks: what stands in the last four bytes
checks_true : (block : List ℕ) → checks_right block ≡ true
    → (word (drop checked_length block) 0 ≡ sum_check (take checked_length block)) × (word (drop checked_length block) 2 ≡ weighted_check (take checked_length block))
checks_true block e = let (p, q) = and_both _ _ (sym (checks_by block) ∙ e) in (eqb-true _ _ p, eqb-true _ _ q)

-- the block is its bytes 0 to 507 with the checks over them
checks_back : (block : List ℕ) → length block ≡ block_length → Bytes block → checks_right block ≡ true → with_checks (take checked_length block) ≡ block
unfolding with_checks
checks_back block l h e =
    let (p, q) = checks_true block e in
    let n : length (drop checked_length block) ≡ 4 = simp length-drop (omega arith) in
    ap (λ (r : List ℕ). take checked_length block ++ r)
    (words_back (drop checked_length block) [] _ _ (bytes_drop checked_length block h) (omega arith) p q (drop_of_length-le (drop checked_length block) {i = 4} (omega arith)))
    ∙ take-append-drop checked_length block

-- its bytes 0 to 507 are the content with its bytes of font
format_back : (place : ℕ) (block : List ℕ) → length block ≡ block_length → Bytes block → format_right place block ≡ true
    → content_of place (take (used_length place) (drop heading_length block)) ≡ take checked_length block
unfolding content_of format_right
format_back place block l h e =
    let u : ℕ = used_length place in
    let rest : List ℕ = drop heading_length block in
    let zeros : payload_length - length (take u rest) ≡ length (unused_in place block) = simp (length-drop, length-take) (omega (arith, used_most place)) in
    let unused : unused_in place block ≡ drop u (take payload_length rest) =
    sym (drop-drop u 4 (take checked_length block)) ∙ ap (drop u) (drop-take heading_length payload_length block) in
    let (p, t) = and_both _ _ e in
    let (q, z) = and_both _ _ t in
    rw (zeros, zeros-back _ z, unused, ← take-take u payload_length rest (used_most place), take-append-drop u (take payload_length rest))
    (ap (take checked_length) (words_back block rest place u h (omega arith) (eqb-true _ _ p) (eqb-true _ _ q) refl))

-- it is the one that is written with its bytes of font
pub block_back : (place : ℕ) (block : List ℕ) → length block ≡ block_length → Bytes block → block_test place block ≡ Ok tt
    → block_of place (take (used_length place) (drop heading_length block)) ≡ block
block_back place block l h e =
    let (p, q) = passed_both place block e in ap with_checks (format_back place block l h q) ∙ checks_back block l h p

-- ---- then damaged: if its checks are right, nothing was changed

bad_checks_lem : (place : ℕ) (block : List ℕ) → (checks_right block ≡ true → ⊥) → block_test place block ≡ Err (Checks place)
unfolding block_test
bad_checks_lem place block n = let c : checks_right block ≡ false = not-eq-not.0 n in rw c

module _ (place : ℕ) (block : List ℕ) (l : length block ≡ block_length) (h : Bytes block) (e : block_test place block ≡ Ok tt) where
  right : checks_right block ≡ true
  right = (passed_both place block e).0

  -- where the checks stayed, so did the sums
  same_sums : (other content : List ℕ) → drop checked_length other ≡ drop checked_length block → take checked_length other ≡ content → checks_right other ≡ true
      → (sum_check content ≡ sum_check (take checked_length block)) × (weighted_check content ≡ weighted_check (take checked_length block))
  same_sums other content d t s =
      let (p, q) = checks_true block right in
      let (m, n) = checks_true other s in
      rw (← t) (sym m ∙ ap (λ (xs : List ℕ). word xs 0) d ∙ p, sym n ∙ ap (λ (xs : List ℕ). word xs 2) d ∙ q)

  -- one byte
  pub changed : (i v : ℕ) → i < block_length → v < 256 → (v ≡ get_or block i 0 → ⊥) → block_test place (set block i v) ≡ Err (Checks place)
  changed i v m k n = bad_checks_lem place (set block i v) (λ s. n (by s (dec_lt i checked_length)))
    where
      by : checks_right (set block i v) ≡ true → Dec (i < checked_length) → v ≡ get_or block i 0
      by s (yes b) =
          let sums = same_sums (set block i v) (set (take checked_length block) i v) (drop-set-lt checked_length block i v b) (take-set-lt checked_length block i v b) s in
          omega (arith, sum-set (take checked_length block) i v (simp length-take (omega arith)), get_or-take checked_length block i 0 b, h i)
      by s (no b) =
          let bytes : Bytes (set block i v) = λ j. set_at (λ _ (x : ℕ). x < 256) block i v j k (h j) in
          sym (get_or-set_same block i v 0 (omega arith))
          ∙ ap (λ (xs : List ℕ). get_or xs i 0)
          (sym (checks_back (set block i v) (length-set block i v ∙ l) bytes s)
          ∙ ap with_checks (take-set-le checked_length block i v (omega arith))
          ∙ checks_back block l h right)

  -- two neighbours
  pub swapped : (i : ℕ) → suc i < checked_length → (get_or block i 0 ≡ get_or block (suc i) 0 → ⊥)
      → block_test place (exchanged block i (suc i)) ≡ Err (Checks place)
  swapped i m n =
      bad_checks_lem place (exchanged block i (suc i)) (λ s. n
      (let b : i < checked_length = omega arith in
      let x = get_or-take checked_length block i 0 b in
      let y = get_or-take checked_length block (suc i) 0 m in
      let sums =
      same_sums (exchanged block i (suc i)) (exchanged (take checked_length block) i (suc i))
      (drop-set-lt checked_length (set block i _) (suc i) _ m ∙ drop-set-lt checked_length block i _ b)
      (rw (x, y, take-set-lt checked_length (set block i _) (suc i) _ m, take-set-lt checked_length block i _ b)) s in
      omega (arith, weighted_exchanged (take checked_length block) 1 i (simp length-take (omega arith)), h i, h (suc i))))

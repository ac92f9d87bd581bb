-- The blocks of a font file, one after the other: those of a font, the first bad one, a file that is accepted, and one that is damaged.
-- Assumes nothing.
use Prim.Native.Nat.{ℕ, zero, suc, ◌+◌, ◌-◌, ◌*◌, ◌/◌, ◌%◌, ◌≤◌, ◌<◌, min}
use mathlib.Core.Path.{◌≡◌, refl, sym, ◌∙◌}
use mathlib.Core.Bool.{not}
use mathlib.Core.List.{List, [], ◌∷◌, ◌++◌, append-nil}
use native.Mathlib.Nat.{mul-suc}
use native.Mathlib.Decide.{dec_lt, ℕ_discrete}
use native.Mathlib.Omega.{arith}
use borrow.Author.Tests.{eq-eqb, ne_eqb}
use lib.ListN.{length, get_or, take, drop, set, length-append, length-take, length-drop, length-set, take-append-drop, drop_of_length-le}
use lib.Seq.{take_all, take_at, drop_at, drop-drop, take-take, take-set-le, take-set-lt, drop-set-add, set_out}
use Rattle.buffers.specs.Buffers.{Bytes}
use Rattle.facts.proofs.Choice.{either}
use Rattle.facts.proofs.Parts.{drop-take, get_d_part}
use Rattle.limits.specs.Limits.{font_length, font_file_length}
use Rattle.refusals.specs.declared.FileRefusal.{FileRefusal}
use Rattle.refusals.specs.declared.FileRefusal.TheVariants.{Checks, Format}
use Rattle.refusals.specs.Refusals.{place_in}
use Rattle.std.specs.Prelude.{Result, Ok, Err}
use Rattle.font_file.specs.FontFile.{or_later, block_count, last_block, block_length, checked_length, heading_length, payload_length, used_length, blocks_of, checks_right, format_right, block_test, blocks_test, font_from}
use Rattle.font_file.specs.Checked.{exchanged, payload_at, block_at}
use Rattle.font_file.proofs.Blocks.{refused-not, bytes-append, bytes_take, bytes_drop, block_of, used_most, block_bytes, block_length_lem, block_passes, block_font, block_back, changed, swapped}

-- a block has what is left of the font, and at most 504 bytes
pub used_left : (place : ℕ) → place ≤ last_block → used_length place ≡ min payload_length (font_length - payload_length * place)
used_left place h = by (ℕ_discrete place last_block)
  where
    by : Dec (place ≡ last_block) → used_length place ≡ min payload_length (font_length - payload_length * place)
    by (yes e) = rw (eq-eqb place last_block e) (omega arith)
    by (no n) = rw (ne_eqb place last_block n) (omega arith)

-- and as many it takes
pub first_long : (place : ℕ) (rest : List ℕ) → place ≤ last_block → length rest ≡ font_length - payload_length * place → length (take payload_length rest) ≡ used_length place
first_long place rest h l = simp length-take (omega (arith, used_left place h))

-- one step of n further
pub next : (n k : ℕ) (xs : List ℕ) → drop n (drop (n * k) xs) ≡ drop (n * suc k) xs
next n k xs = rw mul-suc (drop-drop n (n * k) xs)

-- ---- the blocks of a font

pub blocks_bytes : (count place : ℕ) (font : List ℕ) → count + place ≡ block_count → Bytes font → Bytes (blocks_of count place font)
unfolding blocks_of
blocks_bytes zero place font n h i = omega arith
blocks_bytes (suc count) place font n h i =
    bytes-append (block_of place (take payload_length font)) (blocks_of count (suc place) (drop payload_length font))
    (block_bytes place (take payload_length font) (omega arith) (bytes_take payload_length font h))
    (blocks_bytes count (suc place) (drop payload_length font) (omega arith) (bytes_drop payload_length font h)) i

-- they pass, and they hold the font
pub blocks_read : (count place : ℕ) (font : List ℕ) → count + place ≡ block_count → length font ≡ font_length - payload_length * place
    → let file : List ℕ = blocks_of count place font in
    (length file ≡ block_length * count) × (blocks_test count place file ≡ Ok tt) × (font_from count place file ≡ font)
unfolding blocks_of blocks_test font_from or_later
blocks_read zero place font n l = (refl, refl, sym (drop_of_length-le font {i = 0} (omega arith)))
blocks_read (suc count) place font n l =
    let first : List ℕ = take payload_length font in
    let block : List ℕ = block_of place first in
    let rest : List ℕ = blocks_of count (suc place) (drop payload_length font) in
    let used : length first ≡ used_length place = first_long place font (omega arith) l in
    let long : length block ≡ block_length = block_length_lem place first used in
    let (m, p, q) = blocks_read count (suc place) (drop payload_length font) (omega arith) (simp length-drop (omega arith)) in
    rw (take_at block rest block_length long, drop_at block rest block_length long, block_passes place first used, block_font place first used rest, q)
    (simp (length-append, long) (omega arith), p, take-append-drop payload_length font)

-- ---- the block at each place

both_done : (v w : Result (Unit {0}) FileRefusal) → or_later v w ≡ Ok tt → (v ≡ Ok tt) × (w ≡ Ok tt)
unfolding or_later
both_done (Ok _) w e = (refl, e)
both_done (Err r) w e = absurd (refused-not r e)

module _ (file : List ℕ) where
  -- what the tests find from a place on
  abbrev from : (count place : ℕ) → Result (Unit {0}) FileRefusal
  from count place = blocks_test count place (drop (block_length * place) file)

  from_next : (count place : ℕ) → from (suc count) place ≡ or_later (block_test place (block_at place file)) (from count (suc place))
  unfolding blocks_test
  from_next count place = rw (next block_length place file)

  -- the first bad block, j places on, is what they find
  pub first_bad : (count place j p : ℕ) (r : FileRefusal) → j + place ≡ p → j < count → ((q : ℕ) → q < p → block_test q (block_at q file) ≡ Ok tt)
      → block_test p (block_at p file) ≡ Err r → from count place ≡ Err r
  unfolding or_later
  first_bad zero place j p r e k good bad = absurd (omega arith)
  first_bad (suc count) place zero p r e k good bad = let f : place ≡ p = omega arith in rw (from_next count place, f, bad)
  first_bad (suc count) place (suc j) p r e k good bad =
      rw (from_next count place, good place (omega arith)) (first_bad count (suc place) j p r (omega arith) (omega arith) good bad)

  pub all_good : (count place : ℕ) → ((q : ℕ) → q < count + place → block_test q (block_at q file) ≡ Ok tt) → from count place ≡ Ok tt
  unfolding or_later blocks_test
  all_good zero place good = refl
  all_good (suc count) place good = rw (from_next count place, good place (omega arith)) (all_good count (suc place) (λ q h. good q (omega arith)))

  pub each_good : (count place j q : ℕ) → from count place ≡ Ok tt → j + place ≡ q → j < count → block_test q (block_at q file) ≡ Ok tt
  each_good zero place j q e f k = absurd (omega arith)
  each_good (suc count) place zero q e f k =
      let same : place ≡ q = omega arith in rw same at (both_done _ _ (sym (from_next count place) ∙ e)).0
  each_good (suc count) place (suc j) q e f k =
      each_good count (suc place) j q (both_done _ _ (sym (from_next count place) ∙ e)).1 (omega arith) (omega arith)

-- what holds of passing, and of each refusal with a place up to the last block's, holds of what they find
pub by_place : (P : Result (Unit {0}) FileRefusal → Type 0) (count place : ℕ) (file : List ℕ) → count + place ≡ block_count → P (Ok tt) → ((r : FileRefusal) → place_in r ≤ last_block → P (Err r))
    → P (blocks_test count place file)
unfolding blocks_test block_test or_later
by_place P zero place file n a b = a
by_place P (suc count) place file n a b =
    let Q : Result (Unit {0}) FileRefusal → Type 0 = λ v. P (or_later v (blocks_test count (suc place) (drop block_length file))) in
    either Q (not (checks_right (take block_length file))) _ _ (b (Checks place) (omega arith))
    (either Q (not (format_right place (take block_length file))) _ _ (b (Format place) (omega arith)) (by_place P count (suc place) (drop block_length file) (omega arith) a b))

-- ---- a file that is accepted

-- its font has its length
pub font-long : (count place : ℕ) (file : List ℕ) → count + place ≡ block_count → length file ≡ block_length * count
    → length (font_from count place file) ≡ font_length - payload_length * place
unfolding font_from
font-long zero place file n l = omega arith
font-long (suc count) place file n l =
    simp (length-append, length-take, length-drop)
    (omega (arith, used_left place (omega arith), font-long count (suc place) (drop block_length file) (omega arith) (simp length-drop (omega arith))))

-- the cut at n is between the two, or nothing follows
pub cut : (xs ys : List ℕ) (n : ℕ) → length xs ≡ min n (length xs + length ys) → (take n (xs ++ ys) ≡ xs) × (drop n (xs ++ ys) ≡ ys)
cut xs [] n e = rw append-nil (take_all n xs (omega arith), drop_of_length-le xs {i = n} (omega arith))
cut xs (y ∷ ys) n e = let f : length xs ≡ n = omega arith in (take_at xs (y ∷ ys) n f, drop_at xs (y ∷ ys) n f)

-- a byte changed behind a block, and in it
block_before : (file : List ℕ) (q at v : ℕ) → block_length * q + block_length ≤ at → block_at q (set file at v) ≡ block_at q file
block_before file q at v h =
    rw (← drop-take (block_length * q) block_length (set file at v), take-set-le (block_length * q + block_length) file at v h)
    (drop-take (block_length * q) block_length file)

block_set : (file : List ℕ) (q r v : ℕ) → r < block_length → block_at q (set file (block_length * q + r) v) ≡ set (block_at q file) r v
block_set file q r v h = rw (drop-set-add (block_length * q) file r v) (take-set-lt block_length (drop (block_length * q) file) r v h)

module _ (file : List ℕ) (l : length file ≡ font_file_length) (h : Bytes file) (good : (q : ℕ) → q < block_count → block_test q (block_at q file) ≡ Ok tt) where
  block_long : (q : ℕ) → q < block_count → length (block_at q file) ≡ block_length
  block_long q m = simp (length-take, length-drop) (omega arith)

  bytes_at : (q : ℕ) → Bytes (block_at q file)
  bytes_at q = bytes_take block_length (drop (block_length * q) file) (bytes_drop (block_length * q) file h)

  -- one step of the next law: the bytes of font of the block at a place, before those of the later blocks
  font-next : (count place : ℕ) (later : List ℕ) → place ≤ last_block → length later ≡ font_length - payload_length * suc place
      → blocks_of count (suc place) later ≡ drop (block_length * suc place) file
      → blocks_of (suc count) place (take (used_length place) (drop heading_length (drop (block_length * place) file)) ++ later) ≡ drop (block_length * place) file
  unfolding blocks_of
  font-next count place later n m s =
      let rest : List ℕ = drop (block_length * place) file in
      let u : ℕ = used_length place in
      let first : List ℕ = take u (drop heading_length rest) in
      let long : length first ≡ u = simp (length-take, length-drop) (omega (arith, used_most place)) in
      let (a, b) = cut first later payload_length (omega (arith, used_left place n)) in
      let part : take u (drop heading_length (block_at place file)) ≡ first =
      rw (drop-take heading_length checked_length rest, take-take u checked_length (drop heading_length rest) (omega (arith, used_most place))) in
      let block = rw part at (block_back place (block_at place file) (block_long place (omega arith)) (bytes_at place) (good place (omega arith))) in
      rw (a, b, s, block, ← next block_length place file) (take-append-drop block_length rest)

  -- its blocks from a place on are those of their font
  pub font-back : (count place : ℕ) → count + place ≡ block_count → blocks_of count place (font_from count place (drop (block_length * place) file)) ≡ drop (block_length * place) file
  unfolding font_from blocks_of
  font-back zero place n = sym (drop_of_length-le file {i = block_length * place} (omega arith))
  font-back (suc count) place n =
      rw (next block_length place file)
      (font-next count place _ (omega arith) (font-long count (suc place) (drop (block_length * suc place) file) (omega arith) (simp length-drop (omega arith)))
      (font-back count (suc place) (omega arith)))

  -- ---- then damaged: at two places, neither before block j

  damaged : (j r v at w : ℕ) → j < block_count → block_length * j ≤ at → let other : List ℕ = set (set file (block_length * j + r) v) at w in
      block_test j (block_at j other) ≡ Err (Checks j) → blocks_test block_count 0 other ≡ Err (Checks j)
  damaged j r v at w m k =
      first_bad (set (set file (block_length * j + r) v) at w) block_count 0 j j (Checks j) (omega arith) m
      (λ q n. rw (block_before (set file (block_length * j + r) v) q at w (omega arith), block_before file q (block_length * j + r) v (omega arith))
      (good q (omega arith)))

  -- one byte of the block changed, and any behind it
  one_of : (j r v at w : ℕ) → j < block_count → r < block_length → v < 256 → (v ≡ get_or file (block_length * j + r) 0 → ⊥) → block_length * j + block_length ≤ at
      → blocks_test block_count 0 (set (set file (block_length * j + r) v) at w) ≡ Err (Checks j)
  one_of j r v at w m b k n behind =
      damaged j r v at w m (omega arith)
      (rw (block_before (set file (block_length * j + r) v) j at w behind, block_set file j r v b)
      (changed j (block_at j file) (block_long j m) (bytes_at j) (good j m) r v b k (rw (get_d_part file (block_length * j) block_length r 0 b) n)))

  -- two neighbours of the block exchanged
  two_of : (j r : ℕ) → j < block_count → suc r < checked_length → (get_or file (block_length * j + r) 0 ≡ get_or file (block_length * j + suc r) 0 → ⊥)
      → blocks_test block_count 0 (exchanged file (block_length * j + r) (block_length * j + suc r)) ≡ Err (Checks j)
  two_of j r m b n =
      let x = get_d_part file (block_length * j) block_length r 0 (omega arith) in
      let y = get_d_part file (block_length * j) block_length (suc r) 0 (omega arith) in
      damaged j r _ (block_length * j + suc r) _ m (omega arith)
      (rw (block_set (set file (block_length * j + r) _) j (suc r) _ (omega arith), block_set file j r _ (omega arith))
      (rw (x, y) at (swapped j (block_at j file) (block_long j m) (bytes_at j) (good j m) r b (rw (x, y) n))))

  pub one_changed : (i byte : ℕ) → i < font_file_length → byte < 256 → (byte ≡ get_or file i 0 → ⊥)
      → blocks_test block_count 0 (set file i byte) ≡ Err (Checks (i / block_length))
  one_changed i byte m b n =
      let same : block_length * (i / block_length) + i % block_length ≡ i = omega arith in
      rw (same, set_out (set file i byte) font_file_length 0 (omega (arith, length-set file i byte)))
      at (one_of (i / block_length) (i % block_length) byte font_file_length 0 (omega arith) (omega arith) b (rw same n) (omega arith))

  pub two_exchanged : (i : ℕ) → i + 1 < block_count * payload_length → (get_or file (payload_at i) 0 ≡ get_or file (payload_at (i + 1)) 0 → ⊥)
      → blocks_test block_count 0 (exchanged file (payload_at i) (payload_at (i + 1))) ≡ Err (Checks (i / payload_length))
  two_exchanged i m n = by (dec_lt (suc (i % payload_length)) payload_length)
    where
      by : Dec (suc (i % payload_length) < payload_length) → blocks_test block_count 0 (exchanged file (payload_at i) (payload_at (i + 1))) ≡ Err (Checks (i / payload_length))
      by (yes r) =
          let next : payload_at (i + 1) ≡ block_length * (i / payload_length) + suc (4 + i % payload_length) = omega arith in
          rw next (two_of (i / payload_length) (4 + i % payload_length) (omega arith) (omega arith) (rw next at n))
      by (no r) =
          one_of (i / payload_length) (4 + i % payload_length) _ (payload_at (i + 1)) _ (omega arith) (omega arith) (h (payload_at (i + 1))) (λ e. n (sym e)) (omega arith)

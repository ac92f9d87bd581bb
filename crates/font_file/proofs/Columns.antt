-- The payload by rows and columns: a column from its last row up, the columns one after the other, and that their sums are those of the payload.
-- Assumes nothing.
use Prim.Native.Nat.{ℕ, zero, suc, ◌+◌, ◌-◌, ◌*◌, ◌≤◌, ◌<◌}
use mathlib.Core.Path.{◌≡◌, refl, sym, ap, ◌∙◌}
use mathlib.Core.List.{List, [], ◌∷◌, ◌++◌}
use native.Mathlib.Nat.{add-zero, mul-add, suc-mul, not-suc-le-zero}
use native.Mathlib.Omega.{arith}
use lib.ListN.{length, get_or, take, drop, length-drop}
use lib.Seq.{drop-drop, get_or-drop, take-add, length-take-le}
use Rattle.font_file.specs.FontFile.{heading_length, sum, weighted_sum}
use Rattle.font_file.specs.Columns.{row_count, column_count, column_sum, column_weighted}

-- ---- a column

-- what f finds in the column that begins at byte `first`, from a row on
abbrev pub rows_from : (f : ℕ → List ℕ → ℕ) (first row : ℕ) (block : List ℕ) → ℕ
rows_from f first row block = f (row_count - row) (drop (first + column_count * row) block)

-- one row up
pub row_up : (first row : ℕ) (block : List ℕ) → 0 < row → row ≤ row_count
    → (rows_from column_sum first (row - 1) block ≡ get_or block (first + column_count * (row - 1)) 0 + rows_from column_sum first row block)
    × (rows_from column_weighted first (row - 1) block ≡ rows_from column_sum first row block + rows_from column_weighted first row block)
unfolding column_sum column_weighted
row_up first row block h k =
    let rows : row_count - (row - 1) ≡ suc (row_count - row) = omega arith in
    let next : first + column_count * (row - 1) + column_count ≡ first + column_count * row = omega arith in
    let under : drop column_count (drop (first + column_count * (row - 1)) block) ≡ drop (first + column_count * row) block = rw (drop-drop, next) in
    (rw (rows, under, get_or-drop, add-zero), rw (rows, under))

-- ---- columns

-- what f finds in the first k columns
unfoldable pub across : (f : List ℕ → ℕ) (k : ℕ) (xs : List ℕ) → List ℕ
across f zero xs = []
across f (suc k) xs = f xs ∷ across f k (drop 1 xs)

-- what f finds in a block's columns, from the one that begins at byte `at` on
abbrev pub columns_from : (f : ℕ → List ℕ → ℕ) (at : ℕ) (block : List ℕ) → List ℕ
columns_from f at block = across (f row_count) (heading_length + column_count - at) (drop at block)

-- one column further
pub column_next : (f : ℕ → List ℕ → ℕ) (at v : ℕ) (block : List ℕ) → at < heading_length + column_count → v ≡ f row_count (drop at block)
    → columns_from f at block ≡ v ∷ columns_from f (at + 1) block
unfolding across
column_next f at v block h e =
    let left : heading_length + column_count - at ≡ suc (heading_length + column_count - (at + 1)) = omega arith in
    rw (left, e, ← drop-drop 1 at block)

-- ---- the first row, and the rows below it

abbrev top : List ℕ → ℕ
top ys = get_or ys 0 0

abbrev below : (f : List ℕ → ℕ) → List ℕ → ℕ
below f ys = f (drop column_count ys)

across_top : (k : ℕ) (xs : List ℕ) → k ≤ length xs → across top k xs ≡ take k xs
unfolding across
across_top zero xs h = refl
across_top (suc k) [] h = absurd (not-suc-le-zero h)
across_top (suc k) (x ∷ xs) h = ap (λ (r : List ℕ). x ∷ r) (across_top k xs (omega arith))

across_below : (f : List ℕ → ℕ) (k : ℕ) (xs : List ℕ) → across (below f) k xs ≡ across f k (drop column_count xs)
unfolding across
across_below f zero xs = refl
across_below f (suc k) xs =
    ap (λ (r : List ℕ). below f xs ∷ r) (across_below f k (drop 1 xs) ∙ ap (across f k) (drop-drop column_count 1 xs ∙ sym (drop-drop 1 column_count xs)))

-- what is found by both, added
across_sum : (f g : List ℕ → ℕ) (k : ℕ) (xs : List ℕ) → sum (across (λ ys. f ys + g ys) k xs) ≡ sum (across f k xs) + sum (across g k xs)
unfolding across sum
across_sum f g zero xs = refl
across_sum f g (suc k) xs = omega (arith, across_sum f g k (drop 1 xs))

across_weighted : (f g : List ℕ → ℕ) (p k : ℕ) (xs : List ℕ)
    → weighted_sum p (across (λ ys. f ys + g ys) k xs) ≡ weighted_sum p (across f k xs) + weighted_sum p (across g k xs)
unfolding across weighted_sum
across_weighted f g p zero xs = refl
across_weighted f g p (suc k) xs = omega (arith, mul-add p (f xs) (g xs), across_weighted f g (suc p) k (drop 1 xs))

-- ---- one list behind another

sum-append : (xs ys : List ℕ) → sum (xs ++ ys) ≡ sum xs + sum ys
unfolding sum
sum-append [] ys = omega arith
sum-append (x ∷ xs) ys = omega (arith, sum-append xs ys)

-- positions that are one higher
weighted_suc : (p : ℕ) (xs : List ℕ) → weighted_sum (suc p) xs ≡ weighted_sum p xs + sum xs
unfolding sum weighted_sum
weighted_suc p [] = refl
weighted_suc p (x ∷ xs) = omega (arith, suc-mul p x, weighted_suc (suc p) xs)

weighted_append : (p : ℕ) (xs ys : List ℕ) → weighted_sum p (xs ++ ys) ≡ weighted_sum p xs + (weighted_sum p ys + length xs * sum ys)
unfolding weighted_sum
weighted_append p [] ys = omega arith
weighted_append p (x ∷ xs) ys = omega (arith, weighted_append (suc p) xs ys, weighted_suc p ys, suc-mul (length xs) (sum ys))

-- ---- n rows

-- a byte's position is that of its column's first byte and 72 for each row above it
pub columns-whole : (n p : ℕ) (xs : List ℕ) → column_count * n ≤ length xs
    → (sum (across (column_sum n) column_count xs) ≡ sum (take (column_count * n) xs))
    × (weighted_sum p (across (column_sum n) column_count xs) + column_count * sum (across (column_weighted n) column_count xs)
    ≡ weighted_sum p (take (column_count * n) xs))
unfolding sum weighted_sum column_sum column_weighted
columns-whole zero p xs h =
    -- a sum that is twice itself is 0
    let none : List ℕ → ℕ = λ ys. 0 in
    let s : sum (across none column_count xs) ≡ 0 = omega (arith, across_sum none none column_count xs) in
    (s, omega (arith, across_weighted none none p column_count xs))
columns-whole (suc n) p xs h =
    let rest : List ℕ = take (column_count * n) (drop column_count xs) in
    let more : column_count * suc n ≡ column_count + column_count * n = omega arith in
    let t = across_top column_count xs (omega arith) in
    let s = across_below (column_sum n) column_count xs in
    let w = across_below (column_weighted n) column_count xs in
    let sums = rw (t, s) at (across_sum top (below (column_sum n)) column_count xs) in
    let by-column = rw (t, s) at (across_weighted top (below (column_sum n)) p column_count xs) in
    let by_row = rw (s, w) at (across_sum (below (column_sum n)) (below (column_weighted n)) column_count xs) in
    let appended = rw (length-take-le column_count xs (omega arith)) at (weighted_append p (take column_count xs) rest) in
    let up = columns-whole n p (drop column_count xs) (omega (arith, length-drop column_count xs)) in
    rw (more, take-add column_count (column_count * n) xs)
    (omega (arith, sum-append (take column_count xs) rest), omega arith)

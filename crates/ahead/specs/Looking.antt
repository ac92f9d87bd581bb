-- How the search for a cell looks at a row of codes and at a strip: what the promises of its inner functions cite. The search's own
-- promise (membership in the cells of the remaining lines) does not speak of these.
--
--     codes of RAM   | .. | 255 |  a  |  b  | own | ..     own: the code that the cell is a byte of. 255 ends a line
--     codes back     | .. |  3  |  2  |  1  |  0  |        rows that start fewer than 3 codes back read the cell as a code (Starts)
--     marked rows    | r ───────> | s ───> 255 | ..        rows that show the cell's slice; after the last strip each is looked through
--                                                          for the cell's user character, up to the next one (OwnCodes)
--
-- Assumes nothing.
use Rattle.std.specs.Prelude.{ℕ, zero, suc, ◌+◌, ◌-◌, ◌*◌, ◌/◌, ◌%◌, ◌^◌, ◌≤◌, ◌<◌, ◌≡◌, Bool, true, false, cond, ◌&&◌, ◌||◌, List, [], ◌++◌, Option, Some, None, eqb, ltb, get_or}
use Rattle.limits.specs.Limits.{ram_pairs}
use Rattle.cells.specs.Reading.{cells, among}
use Rattle.registers.specs.declared.Settings.{Settings}
use Rattle.walk.specs.declared.Strip.{Strip}
use Rattle.walk.specs.Walk.{even, next, advanced}
use Rattle.glyph.specs.Glyph.{ends_line}
use Rattle.glyph.specs.Cells.{user_high}
use Rattle.line.specs.Line.{shown_row}
use Rattle.ahead.specs.declared.question.Sought.{Sought}
use Rattle.ahead.specs.declared.Passed.{Passed}

-- ---- a row

-- the even address of the pair that a cell is a byte of
abbrev pub pair_of : ℕ → ℕ
pair_of c = c / 2 * 2

-- is the cell read by the codes from an address on, n at the most? shown: the cell is of a user character's slice on screen
unfoldable pub row_reads : (ram : List ℕ) (c : ℕ) (shown : Bool) (n a : ℕ) → Bool
row_reads ram c shown zero a = false
row_reads ram c shown (suc n) a =
    eqb (pair_of c) (even a)
    || cond (ends_line (get_or ram (even a + 1) 0)) false ((shown && eqb (get_or ram (even a + 1) 0) (user_high c)) || row_reads ram c shown n (next a))

-- is the cell's user character shown by them?
unfoldable pub user_reads : (ram : List ℕ) (c n a : ℕ) → Bool
user_reads ram c zero a = false
user_reads ram c (suc n) a =
    cond (ends_line (get_or ram (even a + 1) 0)) false (eqb (get_or ram (even a + 1) 0) (user_high c) || user_reads ram c n (next a))

-- how many codes, or descriptors, before the cell's own an address is
abbrev pub codes_to : ℕ → ℕ → ℕ
codes_to c a = (c / 2 + ram_pairs - a / 2 % ram_pairs) % ram_pairs

-- rows of n codes read the cell as a code exactly if they start fewer than m codes before the cell's own (0: at it)
pub record Starts (ram : List ℕ) (c n m : ℕ) : Type 0 where
  pub reads : (a : ℕ) → row_reads ram c false n a ≡ ltb (codes_to c a) m

-- only such rows can
pub record Far (ram : List ℕ) (q : Sought) (m : ℕ) : Type 0 where
  pub unread : (a : ℕ) → m ≤ codes_to q.cell a → row_reads ram q.cell false q.codes a ≡ false

-- ---- a strip

-- the cells that the next k lines of a strip read in their rows
unfoldable pub row_cells : List ℕ → Settings → ℕ → Strip → List ℕ
row_cells ram s zero strip = []
row_cells ram s (suc k) strip = cells ram (shown_row s (advanced strip)) ++ row_cells ram s k (advanced strip)

-- is the cell one of them?
abbrev pub strip_reads : List ℕ → Settings → ℕ → Strip → ℕ → Bool
strip_reads ram s k strip c = among c (row_cells ram s k strip)

-- ---- the marked rows: those that show the cell's slice

-- binary digit j of a number, counted from the lowest
unfoldable pub digit : ℕ → ℕ → ℕ
digit zero x = x % 2
digit (suc j) x = digit j (x / 2)

-- a digit for each row, by the number of the code where it starts
unfoldable pub is_marked : List ℕ → ℕ → Bool
is_marked marks p = eqb (digit (p % 32) (get_or marks (p / 32) 0)) 1

-- does one of the first k that are marked show the cell's user character? and one of all?
unfoldable pub any_below : List ℕ → ℕ → ℕ → List ℕ → ℕ → Bool
any_below ram c n marks zero = false
any_below ram c n marks (suc k) = (is_marked marks k && user_reads ram c n (2 * k)) || any_below ram c n marks k

abbrev pub any_row : List ℕ → ℕ → ℕ → List ℕ → Bool
any_row ram c n marks = any_below ram c n marks ram_pairs

-- the row at an address was marked
pub record Marks (marks : List ℕ) (a : ℕ) (marks' : List ℕ) : Type 0 where
  pub more : (ram : List ℕ) (c n : ℕ) → any_row ram c n marks' ≡ any_row ram c n marks || user_reads ram c n a

-- the zeros of x that were passed, and the digits after them, of which one of the first w is set
pub record ZerosOf (x w : ℕ) (r : Passed) : Type 0 where
  pub zeros : (j : ℕ) → j < r.zeros → digit j x ≡ 0
  pub after : (j : ℕ) → digit j r.rest ≡ digit (r.zeros + j) x
  pub some : r.rest % 2 ^ w ≡ 0 → ⊥

-- the lowest digit of x that is set
pub record Lowest (x r : ℕ) : Type 0 where
  pub zeros : (j : ℕ) → j < r → digit j x ≡ 0
  pub is : digit r x ≡ 1
  pub most : r < 32

-- so many of its n codes a marked row is looked through for: all, or up to the next marked row, which sees the rest
pub record OwnCodes (n row : ℕ) (after : Option ℕ) (own : ℕ) : Type 0 where
  pub most : own ≤ n
  pub cut : own < n → after ≡ Some (row + own)

-- no row from p on is marked that comes before q
pub record Unmarked (marks : List ℕ) (p q : ℕ) : Type 0 where
  pub none : (i : ℕ) → p ≤ i → i < q → is_marked marks i ≡ false

-- q is a row from p on, and marked
pub record MarkedRow (marks : List ℕ) (p q : ℕ) : Type 0 where
  pub from : p ≤ q
  pub below : q < ram_pairs
  pub is : is_marked marks q ≡ true

-- the first marked row from p on, or none
abbrev pub NextRow : List ℕ → ℕ → Option ℕ → Type 0
NextRow marks p None = Unmarked marks p ram_pairs
NextRow marks p (Some q) = MarkedRow marks p q × Unmarked marks p q

-- What the search has found: each part of the frame that was looked at adds to it.
-- Assumes nothing.
use Rattle.std.specs.Prelude.{ℕ, ◌≡◌, Bool, true, ◌||◌}
use Rattle.std.specs.declared.ops.ControlFlow.{ControlFlow}
use Rattle.std.specs.ControlFlow.{MatchControlFlow}
use Rattle.cells.specs.Reading.{cells, among}
use Rattle.walk.specs.declared.Strip.{Strip}
use Rattle.walk.specs.declared.Strip.TheVariants.{Spacing}
use Rattle.walk.specs.declared.Walk.{Walk}
use Rattle.walk.specs.Walk.{walk_at, strip_of, lines_left}
use Rattle.ahead.specs.declared.Search.{Search}
use Rattle.ahead.specs.Ahead.{remaining}
use Rattle.ahead.specs.Looking.{row_reads, strip_reads, any_row}

-- does one of the marked rows show the cell's user character?
abbrev pub marked_read : Search → Bool
marked_read s = any_row s.ram.now s.sought.cell s.sought.codes s.marks

-- the parts of a frame that are looked at: do they read the cell?
abbrev pub row_read : Search → Bool → ℕ → Bool
row_read s shown a = row_reads s.ram.now s.sought.cell shown s.sought.codes a

abbrev pub strip_read : Search → ℕ → Strip → Bool
strip_read s k strip = strip_reads s.ram.now s.sought.settings k strip s.sought.cell

abbrev pub whole_read : Search → ℕ → ℕ → Bool
whole_read s low high =
    strip_read s (lines_left (strip_of s.sought.settings.ch low high)) (strip_of s.sought.settings.ch low high)

abbrev pub frame_read : Search → ℕ → Walk → Bool
frame_read s left w = among s.sought.cell (cells s.ram.now (remaining s.sought.settings left w))

abbrev pub lines_read : Search → ℕ → ℕ → Bool
lines_read s left a = frame_read s left (walk_at a (Spacing 0))

-- b says whether such a part reads the cell. It was looked at: the cell was found, and a row marked before shows its user character
-- or b holds; or it was not, and the rows that are now marked show it exactly then
pub record Adds (s s' : Search) (b : Bool) (r : ControlFlow Unit Unit) : Type 0 where
  pub ram : s'.ram ≡ s.ram
  pub sought : s'.sought ≡ s.sought
  pub seen : MatchControlFlow r (λ _. marked_read s' ≡ marked_read s || b) (λ _. marked_read s || b ≡ true)

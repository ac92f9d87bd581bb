-- The counts of lines that a frame can have.
-- Assumes nothing.
use Prim.Native.Nat.{ℕ, ◌≤◌}
use mathlib.Core.Path.{◌≡◌}
use mathlib.Core.Bool.{false}
use native.Mathlib.Omega.{arith}
use borrow.Author.Tests.{ne_eqb, le-ltb}
use Rattle.limits.specs.Limits.{frame_lines, bad_line_count}

-- 1 to 2,048 lines are some frame's
pub some_frame : (lines : ℕ) → 1 ≤ lines → lines ≤ frame_lines → bad_line_count lines ≡ false
some_frame lines h k = rw (ne_eqb lines 0 (λ e. omega arith), le-ltb frame_lines lines k)

-- The claim of specs/ReadCount.antt: a drawn line's count is that of its program, and the value of each of a draw's refusals is 0.
-- Assumes nothing.
use Prim.Native.Nat.{◌≤◌}
use mathlib.Core.Bool.{not}
use native.Mathlib.Omega.{arith}
use lib.Dec.{eqb, ltb}
use lib.ListN.{length}
use Rattle.limits.specs.Limits.{ram_length, font_length, line_cells}
use Rattle.facts.proofs.Choice.{either}
use Rattle.refusals.specs.Refusals.{Verdict}
use Rattle.line.proofs.Counts.{line-most}
use Rattle.device.specs.Device.{line_drawn, line_width, draw_verdict, draw_by, draw_line}
use Rattle.device.specs.ReadCount.{ReadCount}

pub read_count : ReadCount
unfolding draw_line draw_verdict draw_by line_drawn
read_count d ram font line =
    let P : Verdict → Type 0 = λ v. (draw_by v d ram font line).reply.value ≤ line_cells in
    either P (not (eqb (length ram) ram_length)) _ _ (omega arith)
    (either P (not (eqb (length font) font_length)) _ _ (omega arith)
    (either P (eqb d.frame.left 0) _ _ (omega arith)
    (either P (ltb (length line) (line_width d)) _ _ (omega arith) (line-most d.registers d.frame.walk ram))))

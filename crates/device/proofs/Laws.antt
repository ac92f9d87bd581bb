-- Laws of a frame start and of a draw: what holds of each by its cases, and what a draw's tests say of the device.
-- Assumes nothing.
use Prim.Native.Nat.{ℕ, ◌≤◌, ◌<◌}
use mathlib.Core.Path.{◌≡◌, refl, sym, subst}
use mathlib.Core.Bool.{Bool, true, false, not}
use mathlib.Core.List.{List}
use native.Mathlib.Omega.{arith}
use borrow.Author.Tests.{eq-eqb, ne_eqb, le-ltb, ltb-false}
use lib.Dec.{T, eqb, ltb}
use lib.ListN.{length, get_or, drop, get_or-append}
use Rattle.limits.specs.Limits.{ram_length, font_length, frame_lines, bad_line_count}
use Rattle.limits.proofs.Laws.{some_frame}
use Rattle.facts.proofs.Choice.{either}
use Rattle.cells.specs.Reading.{value}
use Rattle.refusals.specs.declared.Refusal.{Refusal}
use Rattle.refusals.specs.declared.Refusal.TheVariants.{RamLength, FontLength, LineLength, NoLine, FrameLines}
use Rattle.refusals.specs.Refusals.{accepted, refused, Verdict, passed, failed, refuse_if}
use Rattle.refusals.proofs.Laws.{failed-not}
use Rattle.registers.specs.Registers.{settings_of}
use Rattle.line.proofs.Laws.{paint-length}
use Rattle.device.specs.declared.Device.{Device}
use Rattle.device.specs.Device.{StartOutcome, in_frame, start_frame, DrawOutcome, next_scan, pixels_of, draw_verdict, draw_by, draw_line, line_on, line_drawn, line_width, not_drawn}

-- ---- a frame start

-- what holds of a refused frame start and of an accepted one holds of a frame start
pub by_start : (P : StartOutcome → Type 0) (d : Device) (lines : ℕ) → P (record { device = d; reply = refused FrameLines })
    → P (record { device = in_frame d lines; reply = accepted 0 }) → P (start_frame d lines)
unfolding start_frame
by_start P d lines h k = either P (bad_line_count lines) _ _ h k

-- a frame start that is not refused
pub start-passed : (d : Device) (lines : ℕ) → 1 ≤ lines → lines ≤ frame_lines → start_frame d lines ≡ record { device = in_frame d lines; reply = accepted 0 }
unfolding start_frame
start-passed d lines h k = rw (some_frame lines h k)

-- ---- a draw

-- a draw that is not refused has a line left and room for it
pub record Drawable (d : Device) (line : ℕ) : Type 0 where
  pub left : T (not (eqb d.frame.left 0))
  pub room : line_width d ≤ line

pub drawable : (d : Device) (ram font line : ℕ) → draw_verdict d ram font line ≡ passed → Drawable d line
unfolding draw_verdict
drawable d ram font line = by (not (eqb ram 1024)) (not (eqb font 4608)) (eqb d.frame.left 0) (ltb line (line_width d)) refl refl
  where
    by : (a b c s : Bool) → eqb d.frame.left 0 ≡ c → ltb line (line_width d) ≡ s
        → refuse_if a RamLength (refuse_if b FontLength (refuse_if c NoLine (refuse_if s LineLength passed))) ≡ passed → Drawable d line
    by true b c s p q e = absurd (failed-not RamLength e)
    by false true c s p q e = absurd (failed-not FontLength e)
    by false false true s p q e = absurd (failed-not NoLine e)
    by false false false true p q e = absurd (failed-not LineLength e)
    by false false false false p q e = record { left = subst (λ (b : Bool). T (not b)) (sym p) tt; room = ltb-false line (line_width d) q }

-- what holds of a refused draw and of an accepted one holds of a draw
module _ (d : Device) (ram font line : List ℕ) (P : DrawOutcome → Type 0) (no-draw : (r : Refusal) → P (not_drawn d line r)) where
  by_verdict : (v : Verdict) → (v ≡ passed → P (line_drawn d ram font line)) → P (draw_by v d ram font line)
  unfolding draw_by
  by_verdict passed h = h refl
  by_verdict (failed r) h = no-draw r

  pub by_draw : (Drawable d (length line) → P (line_drawn d ram font line)) → P (draw_line d ram font line)
  unfolding draw_line
  by_draw h =
      by_verdict (draw_verdict d (length ram) (length font) (length line))
      (λ v. h (drawable d (length ram) (length font) (length line) v))

-- no draw touches the registers
pub draw-same : (d : Device) (ram font line : List ℕ) → (draw_line d ram font line).device.registers ≡ d.registers
unfolding line_drawn line_on
draw-same d ram font line =
    by_draw d ram font line (λ (x : DrawOutcome). x.device.registers ≡ d.registers) (λ r. refl) (λ ready. refl)

-- a draw that no test refuses
pub draw-passed : (d : Device) (ram font line : List ℕ) → length ram ≡ ram_length → length font ≡ font_length → (d.frame.left ≡ 0 → ⊥)
    → line_width d ≤ length line → draw_line d ram font line ≡ line_drawn d ram font line
unfolding draw_verdict draw_by draw_line
draw-passed d ram font line r f l w =
    rw (eq-eqb (length ram) ram_length r, eq-eqb (length font) font_length f, ne_eqb d.frame.left 0 l, le-ltb (length line) (line_width d) w)

-- the line's bytes before W are its pixels
pub line_at : (d : Device) (ram font line : List ℕ) (x : ℕ) → x < line_width d → get_or (line_drawn d ram font line).line x 0 ≡ get_or (pixels_of d ram font) x 0
unfolding line_drawn pixels_of
line_at d ram font line x h =
    get_or-append (pixels_of d ram font) (drop (line_width d) line) 0 x
    (omega (arith, paint-length (settings_of d.registers) font d.frame.number (value ram (next_scan d)).row))

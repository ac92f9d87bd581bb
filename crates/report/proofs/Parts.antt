-- The proof that the bench's parts are its whole output (specs/Parts.antt): each text fits its buffer, and each line is drawn.
-- Assumes nothing.
use Prim.Native.Nat.{ℕ, zero, suc, ◌≤◌}
use mathlib.Core.Path.{◌≡◌, refl, sym, ap, ap₂, ◌∙◌}
use mathlib.Core.Bool.{Bool, true, false, cond}
use mathlib.Core.List.{List, [], ◌∷◌, ◌++◌, append-nil, flatten}
use native.Mathlib.Decide.{ℕ_discrete}
use native.Mathlib.Omega.{arith}
use borrow.Author.Tests.{ne_eqb, eqb-true, le-ltb, le-leb}
use lib.Dec.{eqb}
use lib.ListN.{length, drop, replicate, length-append, length-take, length-drop, length-replicate}
use lib.Seq.{take-append_seam}
use Rattle.std.specs.Prelude.{Some}
use Rattle.limits.specs.Limits.{ram_length, font_length, line_max}
use Rattle.registers.proofs.Laws.{ld_bound_lem}
use Rattle.line.proofs.Laws.{paint-length}
use Rattle.device.specs.declared.Device.{Device}
use Rattle.device.specs.Device.{StartOutcome, DrawOutcome, line_width, pixels_of, line_on, line_drawn}
use Rattle.device.proofs.Laws.{draw-passed}
use Rattle.report.specs.Report.{input_length, ram_part, font_part, bench_start, refusal_text, heading_text, line_text, TextOutcome, write_text, LineOutcome, next_draw, lines_text, bench_text}
use Rattle.report.specs.Parts.{printed, line_parts, frame_parts, bench_parts, JoinedParts}
use Rattle.report.proofs.Texts.{places_few, text-drawn, refusal-long, heading_long, line-long}

-- ---- a text that fits its buffer

module _ (text out : List ℕ) (fits : length text ≤ length out) where
  fits-is : write_text text out ≡ record { answer = Some (length text); out = text ++ drop (length text) out }
  unfolding write_text
  fits-is = rw (le-ltb (length out) (length text) fits)

  fits-long : length (text ++ drop (length text) out) ≡ length out
  fits-long = simp (length-append, length-drop) (omega arith)

  -- it is printed whole
  printed-whole : printed (write_text text out) ≡ text
  printed-whole =
      rw (fits-is, le-leb (length text) (length (text ++ drop (length text) out)) (omega (arith, fits-long)))
      (take-append_seam text (drop (length text) out))

  -- and the buffer keeps its length
  kept-long : length (write_text text out).out ≡ length out
  kept-long = ap (λ (t : TextOutcome). length t.out) fits-is ∙ fits-long

-- ---- a line of a frame is drawn

module _ (d : Device) (ram font : List ℕ) (n : ℕ) (some : d.frame.left ≡ suc n)
    (r : length ram ≡ ram_length) (f : length font ≡ font_length) where
  drawn-is : next_draw d ram font ≡ line_drawn d ram font (replicate (line_width d) 0)
  drawn-is =
      draw-passed d ram font _ r f (λ z. omega arith) (omega (arith, length-replicate {A = ℕ} (line_width d) 0))

  drawn-accepted : (next_draw d ram font).reply.refusal ≡ 0
  unfolding line_drawn
  drawn-accepted = ap (λ (o : DrawOutcome). o.reply.refusal) drawn-is

  drawn-left : (next_draw d ram font).device.frame.left ≡ n
  unfolding line_drawn line_on
  drawn-left = ap (λ (o : DrawOutcome). o.device.frame.left) drawn-is ∙ omega arith

  drawn-long : length (next_draw d ram font).line ≤ line_max
  unfolding line_drawn pixels_of
  drawn-long =
      let wide : length (next_draw d ram font).line ≡ line_width d =
      ap (λ (o : DrawOutcome). length o.line) drawn-is
      ∙ simp (length-append, length-drop, length-replicate, paint-length) (omega arith) in
      omega (arith, ld_bound_lem d.registers)

  line-fits : (out : List ℕ) → 1024 ≤ length out
      → length (line_text (next_draw d ram font).line (next_draw d ram font).reply.value) ≤ length out
  line-fits out h =
      let o : DrawOutcome = next_draw d ram font in
      omega (arith, drawn-long, line-long o.line o.reply.value, places_few o.reply.value)

lines-joined : (n : ℕ) (d : Device) (ram font out : List ℕ) → d.frame.left ≡ n
    → length ram ≡ ram_length → length font ≡ font_length → 1024 ≤ length out
    → flatten (line_parts n d ram font out) ≡ lines_text n d ram font
unfolding line_parts lines_text flatten
lines-joined zero d ram font out e r f h = refl
lines-joined (suc n) d ram font out e r f h =
    let o : DrawOutcome = next_draw d ram font in
    let text : List ℕ = line_text o.line o.reply.value in
    let fits : length text ≤ length out = line-fits d ram font n e r f out h in
    ap (λ (l : LineOutcome). printed l.text ++ flatten (line_parts n l.device ram font l.text.out))
    (sym (text-drawn o out (write_text text out) (drawn-accepted d ram font n e r f) refl))
    ∙ ap₂ (λ (k l : List ℕ). k ++ l) (printed-whole text out fits)
    (lines-joined n o.device ram font (write_text text out).out (drawn-left d ram font n e r f) r f
    (omega (arith, kept-long text out fits)))

-- ---- a start that is accepted has an input of the right length

start-long : (input : List ℕ) → (bench_start input).reply.refusal ≡ 0 → length input ≡ input_length
unfolding bench_start
start-long input z = by (ℕ_discrete (length input) input_length)
  where
    by : Dec (length input ≡ input_length) → length input ≡ input_length
    by (yes e) = e
    by (no n) = absurd (omega (arith, rw (ne_eqb (length input) input_length n) at z))

-- ---- the claim

pub joined_parts : JoinedParts
unfolding bench_parts frame_parts bench_text flatten
joined_parts input short long h k = by (eqb o.reply.refusal 0) refl
  where
    o : StartOutcome
    o = bench_start input

    left : ℕ
    left = o.device.frame.left

    by : (t : Bool) → eqb o.reply.refusal 0 ≡ t
        → flatten (cond t (frame_parts o.device (ram_part input) (font_part input) long)
        (printed (write_text (refusal_text o.reply.refusal) short) ∷ []))
        ≡ cond t (heading_text left (line_width o.device) ++ lines_text left o.device (ram_part input) (font_part input))
        (refusal_text o.reply.refusal)
    by true e =
        let whole : length input ≡ input_length = start-long input (eqb-true o.reply.refusal 0 e) in
        let heading : List ℕ = heading_text left (line_width o.device) in
        let fits : length heading ≤ length long =
        omega (arith, heading_long left (line_width o.device), places_few left, places_few (line_width o.device)) in
        ap₂ (λ (x y : List ℕ). x ++ y) (printed-whole heading long fits)
        (lines-joined left o.device (ram_part input) (font_part input) (write_text heading long).out refl
        (simp length-take (omega arith)) (simp (length-take, length-drop) (omega arith))
        (omega (arith, kept-long heading long fits)))
    by false e =
        let refusal : List ℕ = refusal_text o.reply.refusal in
        append-nil (printed (write_text refusal short))
        ∙ printed-whole refusal short (omega (arith, refusal-long o.reply.refusal, places_few o.reply.refusal))

-- The parts of the bench's output, one by one.
-- Assumes nothing.
use Rattle.std.proofs.Common.{◌≡◌, ℕ, zero, suc, ◌-◌, ◌<◌, ◌≤◌, List, [], ◌++◌, false, nat_eq, length, replicate, Option, Ok, Err, refl, sym, ap, ◌∙◌, append-nil, arith}
use mathlib.Core.List.{flatten}
use Rattle.device.specs.declared.Device.{Device}
use Rattle.device.specs.Device.{StartOutcome, line_width}
use Rattle.refusals.specs.declared.Refusal.{Refusal}
use Rattle.refusals.specs.Refusals.{number_of}
use Rattle.report.specs.declared.BenchRefusal.{BenchRefusal}
use Rattle.report.specs.Report.{ram_part, font_part, bench_start, start_outcome, refusal_text, heading_text, TextOutcome, text_outcome, write_text, LineOutcome, line_outcome, next_text, bench_text}
use Rattle.report.specs.Parts.{printed, line_parts, frame_parts, bench_parts}
use Rattle.report.proofs.Claims.{joined_parts}

pub heading_first : (d : Device) (ram font before text : List ℕ) (n : Option ℕ) → text_outcome n text ≡ write_text (heading_text d.frame.left (line_width d)) before
    → printed (text_outcome n text) ++ flatten (line_parts d.frame.left d ram font text) ≡ flatten (frame_parts d ram font before)
unfolding frame_parts flatten write_text
heading_first d ram font before text n e = ap (λ (h : TextOutcome). printed h ++ flatten (line_parts d.frame.left d ram font h.out)) e

pub line_next : (k : ℕ) (d d' : Device) (ram font before text : List ℕ) (n : Option ℕ) → 0 < k → line_outcome d' n text ≡ next_text d ram font before
    → flatten (line_parts k d ram font before) ≡ printed (text_outcome n text) ++ flatten (line_parts (k - 1) d' ram font text)
unfolding line_parts flatten
line_next zero d d' ram font before text n h e = absurd (omega arith)
line_next (suc k) d d' ram font before text n h e =
    let less : suc k - 1 ≡ k = omega arith in
    rw less (ap (λ (o : LineOutcome). printed o.text ++ flatten (line_parts k o.device ram font o.text.out)) (sym e))

pub no_lines : (k : ℕ) (d : Device) (ram font text : List ℕ) → k ≤ 0 → flatten (line_parts k d ram font text) ≡ []
unfolding line_parts flatten
no_lines zero d ram font text h = refl
no_lines (suc k) d ram font text h = absurd (omega arith)

pub refused_text : (input short long : List ℕ) (o : StartOutcome) → o ≡ bench_start input → nat_eq o.reply.refusal 0 ≡ false → 16 ≤ length short → 1024 ≤ length long
    → printed (write_text (refusal_text o.reply.refusal) short) ≡ bench_text input
unfolding bench_parts write_text flatten
refused_text input short long o e k h j =
    sym (append-nil (printed (write_text (refusal_text o.reply.refusal) short))) ∙ (rw (← e, k) at (joined_parts input short long h j))

pub started_text : (input short long : List ℕ) (o : StartOutcome) → o ≡ bench_start input → o.reply.refusal ≡ 0 → 16 ≤ length short → 1024 ≤ length long
    → flatten (frame_parts o.device (ram_part input) (font_part input) long) ≡ bench_text input
unfolding bench_parts write_text flatten
started_text input short long o e k h j = rw (← e, k) at (joined_parts input short long h j)

-- no refusal has the number 0
nonzero : (r : Refusal) → nat_eq (number_of r) 0 ≡ false
nonzero r = grind arith

-- the text of a refusal that `begin` answers, in the bench's short text buffer
pub refused_answer : (input text : List ℕ) (r : BenchRefusal) (n : Option ℕ) (m : ℕ) → start_outcome (Err r) ≡ bench_start input → m ≡ number_of r.refusal
    → text_outcome n text ≡ write_text (refusal_text m) (replicate 16 0) → printed (text_outcome n text) ≡ bench_text input
refused_answer input text r n m e k t =
    let short : List ℕ = replicate 16 0 in
    ap printed t ∙ ap (λ (j : ℕ). printed (write_text (refusal_text j) short)) k
    ∙ refused_text input short (replicate 1024 0) (start_outcome (Err r)) e (nonzero r.refusal) (omega arith) (omega arith)

-- the frame that `begin` starts, in the long one
pub started_answer : (input : List ℕ) (d : Device) → start_outcome (Ok d) ≡ bench_start input
    → flatten (frame_parts d (ram_part input) (font_part input) (replicate 1024 0)) ≡ bench_text input
started_answer input d e = started_text input (replicate 16 0) (replicate 1024 0) (start_outcome (Ok d)) e refl (omega arith) (omega arith)

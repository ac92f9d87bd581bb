-- Document 01, "Bench program": what the bench prints call by call, and that these parts are the whole output.
-- crates/bench/src/main.rt is `run`, `show` and `print` over this crate's functions; here each call is the definition that its promise
-- cites. That what is handed to `io` comes out is tested, not proved.
-- Assumes nothing.
use Rattle.std.specs.Prelude.{ℕ, zero, suc, ◌≤◌, ◌≡◌, cond, eqb, leb, length, take, Option, Some, None}
use mathlib.Core.List.{List, [], ◌∷◌, flatten}
use Rattle.device.specs.declared.Device.{Device}
use Rattle.device.specs.Device.{StartOutcome, line_width}
use Rattle.report.specs.Report.{ram_part, font_part, bench_start, refusal_text, heading_text, TextOutcome, write_text, LineOutcome, next_text, bench_text}

-- print: of the text buffer as a call left it, as many bytes as the call answered; nothing where it answered none
abbrev pub printed_part : Option ℕ → List ℕ → List ℕ
printed_part None out = []
printed_part (Some n) out = cond (leb n (length out)) (take n out) []

abbrev pub printed : TextOutcome → List ℕ
printed t = printed_part t.answer t.out

-- show, its loop: `next_text` so many times, each with the device and the text buffer that the call before left
unfoldable pub line_parts : ℕ → Device → List ℕ → List ℕ → List ℕ → List (List ℕ)
line_parts zero d ram font text = []
line_parts (suc n) d ram font text =
    let o : LineOutcome = next_text d ram font text in
    printed o.text ∷ line_parts n o.device ram font o.text.out

-- show: `heading`, then every line of the frame
unfoldable pub frame_parts : Device → List ℕ → List ℕ → List ℕ → List (List ℕ)
frame_parts d ram font text =
    let h : TextOutcome = write_text (heading_text d.frame.left (line_width d)) text in
    printed h ∷ line_parts d.frame.left d ram font h.out

-- run: `begin`, then `refusal_text` in a short text buffer, or the frame in a long one
unfoldable pub bench_parts : List ℕ → List ℕ → List ℕ → List (List ℕ)
bench_parts input short long =
    let o : StartOutcome = bench_start input in
    cond (eqb o.reply.refusal 0)
    (frame_parts o.device (ram_part input) (font_part input) long)
    (printed (write_text (refusal_text o.reply.refusal) short) ∷ [])

-- the claim: joined, the parts are the whole output, for every input. The bench's text buffers have 16 and 1,024 bytes; they may be
-- longer, and hold anything. So no text is too long for its buffer, and no line of the frame is refused
abbrev pub JoinedParts : Type 0
JoinedParts =
    (input short long : List ℕ) → 16 ≤ length short → 1024 ≤ length long → flatten (bench_parts input short long) ≡ bench_text input

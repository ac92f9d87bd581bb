-- Document 01, "Bench program": what stands in its input, how it starts, and every byte that it prints. Refusals 7, then 6.
-- A text is the list of its byte codes, in ASCII.
-- Assumes nothing.
use Rattle.std.specs.Prelude.{ℕ, zero, suc, ◌+◌, ◌/◌, ◌%◌, ◌≡◌, not, cond, List, [], ◌∷◌, ◌++◌, map, eqb, ltb, length, take, drop, replicate, Option, Some, None, Result, Ok, Err}
use Rattle.std.proofs.lemmas.List.Edits.{sets}
use Rattle.limits.specs.Limits.{ram_length, font_length}
use Rattle.buffers.specs.Buffers.{word, hex_digit, bytes_of}
use Rattle.refusals.specs.declared.Refusal.TheVariants.{BenchLength}
use Rattle.refusals.specs.Refusals.{accepted, refused}
use Rattle.registers.specs.Registers.{loaded}
use Rattle.device.specs.declared.Device.{Device}
use Rattle.device.specs.Device.{fresh_device, StartOutcome, start_frame, DrawOutcome, draw_line, line_width}
use Rattle.report.specs.declared.BenchRefusal.{BenchRefusal}

-- ---- standard input: RAM, sixteen registers, font, line count low byte first

-- where the parts behind the RAM begin, and how long all of it is
abbrev pub registers_from : ℕ
registers_from = ram_length

abbrev pub font_from : ℕ
font_from = registers_from + 16

abbrev pub count_at : ℕ
count_at = font_from + font_length

-- 5,650 bytes in all
abbrev pub input_length : ℕ
input_length = count_at + 2

abbrev pub ram_part : List ℕ → List ℕ
ram_part input = take ram_length input

abbrev pub registers_part : List ℕ → List ℕ
registers_part input = take 16 (drop registers_from input)

abbrev pub font_part : List ℕ → List ℕ
font_part input = take font_length (drop font_from input)

abbrev pub line_count : List ℕ → ℕ
line_count input = word input count_at

-- ---- the start

-- a fresh device with the input's registers, masked
unfoldable pub bench_device : List ℕ → Device
bench_device input =
    record {
      bus = fresh_device.bus;
      registers = loaded (registers_part input);
      frame = fresh_device.frame;
      next = fresh_device.next;
    }

-- a bad length is refused 7, whatever the count; then it starts frame 0, which refuses a bad count by 6
unfoldable pub bench_start : List ℕ → StartOutcome
bench_start input =
    cond (not (eqb (length input) input_length))
    (record { device = fresh_device; reply = refused BenchLength })
    (start_frame (bench_device input) (line_count input))

-- what a start answered, in the same form
abbrev pub start_outcome : Result Device BenchRefusal → StartOutcome
start_outcome (Ok d) = record { device = d; reply = accepted 0 }
start_outcome (Err r) = record { device = r.device; reply = refused r.refusal }

-- ---- numbers

-- how many decimal digits a number has; every number here is below 65,536
abbrev pub places_of : ℕ → ℕ
places_of n = cond (ltb n 10) 1 (cond (ltb n 100) 2 (cond (ltb n 1000) 3 (cond (ltb n 10000) 4 5)))

-- the last k decimal digits of a number
unfoldable pub digits : ℕ → ℕ → List ℕ
digits zero n = []
digits (suc k) n = digits k (n / 10) ++ (48 + n % 10) ∷ []

-- a number in decimal, without leading zeros
abbrev pub decimal : ℕ → List ℕ
decimal n = digits (places_of n) n

-- ---- texts

abbrev pub refusal_text : ℕ → List ℕ
refusal_text number = (bytes_of "refused " ++ decimal number) ++ bytes_of "\n"

abbrev pub heading_text : ℕ → ℕ → List ℕ
heading_text lines width = (((bytes_of "lines " ++ decimal lines) ++ bytes_of " width ") ++ decimal width) ++ bytes_of "\n"

-- a digit a pixel, a space, and the read count in decimal
abbrev pub line_text : List ℕ → ℕ → List ℕ
line_text pixels cells = ((map hex_digit pixels ++ bytes_of " ") ++ decimal cells) ++ bytes_of "\n"

-- ---- a text in a buffer

-- a part of a text, n bytes, is put at a place: all other bytes stay, and the answer is the place after it
pub record Put (part : List ℕ) (n at : ℕ) (out : List ℕ) (answer : ℕ) (out' : List ℕ) : Type 0 where
  pub long : length part ≡ n
  pub next : answer ≡ at + n
  pub written : out' ≡ sets out at part

pub record TextOutcome : Type 0 where
  pub answer : Option ℕ
  pub out : List ℕ

-- the text stands at the start, later bytes stay, and the answer is its length; where the buffer is too short for it, the buffer
-- stays and there is no answer
unfoldable pub write_text : List ℕ → List ℕ → TextOutcome
write_text text out =
    cond (ltb (length out) (length text))
    (record { answer = None; out = out })
    (record { answer = Some (length text); out = text ++ drop (length text) out })

abbrev pub text_outcome : Option ℕ → List ℕ → TextOutcome
text_outcome answer out = record { answer = answer; out = out }

-- ---- the frame's next line

pub record LineOutcome : Type 0 where
  pub device : Device
  pub text : TextOutcome

-- the text of what a draw answered and left; where the draw is refused, nothing is written
unfoldable pub text_of : DrawOutcome → List ℕ → LineOutcome
text_of o out =
    record {
      device = o.device;
      text = cond (eqb o.reply.refusal 0) (write_text (line_text o.line o.reply.value) out) (text_outcome None out);
    }

-- the draw fills a buffer of W bytes
abbrev pub next_draw : Device → List ℕ → List ℕ → DrawOutcome
next_draw d ram font = draw_line d ram font (replicate (line_width d) 0)

abbrev pub next_text : Device → List ℕ → List ℕ → List ℕ → LineOutcome
next_text d ram font out = text_of (next_draw d ram font) out

abbrev pub line_outcome : Device → Option ℕ → List ℕ → LineOutcome
line_outcome d answer out = record { device = d; text = text_outcome answer out }

-- ---- the whole output

-- each scan line is one line of text
unfoldable pub lines_text : ℕ → Device → List ℕ → List ℕ → List ℕ
lines_text zero d ram font = []
lines_text (suc n) d ram font =
    let o : DrawOutcome = next_draw d ram font in
    line_text o.line o.reply.value ++ lines_text n o.device ram font

-- a heading, then the lines; a refusal prints no heading
unfoldable pub bench_text : List ℕ → List ℕ
bench_text input =
    let o : StartOutcome = bench_start input in
    cond (eqb o.reply.refusal 0)
    (heading_text o.device.frame.left (line_width o.device)
    ++ lines_text o.device.frame.left o.device (ram_part input) (font_part input))
    (refusal_text o.reply.refusal)

-- Request K5 over the bytes that C sees: osd_pixel answers the pixel that osd_draw writes (crate calls' specs/Pixels.antt, there over the device
-- record).
-- It is stated for every device buffer of 32 bytes, whatever they are, every feed buffer, and every RAM and font of their lengths.
-- Assumes nothing.
use Rattle.std.specs.Prelude.{ℕ, ◌%◌, ◌≤◌, ◌<◌, ◌≡◌, List, length, get_or}
use Rattle.limits.specs.Limits.{ram_length, font_length, frame_lines}
use Rattle.runs.specs.Runs.{Entry, log, end, total, AsMade}
use Rattle.device.specs.Device.{line_width}
use Rattle.capture.specs.Capture.{Logged}
use Rattle.calls.specs.Calls.{Call, Answer, Kept, drew}
use Rattle.calls.specs.Pixels as device
use Rattle.layout.specs.Layout.{record_length, device_in}
use Rattle.interface.specs.Interface.{value_bound, is_accepted, start_on, draw_on, pixel_on}
use Rattle.interface.specs.OnePage.{State, lent_in, after, calls, chip_in, reads, heard}

-- the state after osd_frame_start
abbrev pub started : State → ℕ → State
started s lines = record { device = (start_on s.device lines).device; ram = s.ram; feed = s.feed }

-- a call that leaves the RAM and the registers' bytes as they are
abbrev pub StayPut : (font : List ℕ) → State → Call Logged → Type 0
StayPut font s c = Kept (chip_in (lent_in s)) (chip_in (lent_in (after font s c)))

-- the claim that a call does if the device's does: so all of StayingPut (crate calls' specs/Pixels.antt) holds over the bytes
abbrev pub StayPutBytes : Type 0
StayPutBytes = (font : List ℕ) (s : State) (c : Call Logged) → device.StayPut font (reads s) (heard c) → StayPut font s c

-- how many lines the calls of a run drew: calls of osd_draw with refusal 0
abbrev pub lines_drawn : List (Entry (Call Logged) (Answer ℕ)) → ℕ
lines_drawn = total (drew is_accepted)

-- the next osd_draw has refusal 0, and writes at line[x] what osd_pixel answers
pub record SamePixel (font : List ℕ) (s u : State) (lines frame x y : ℕ) (line : List ℕ) : Type 0 where
  pub drawn : (draw_on u.device u.ram font line).answer < value_bound
  pub pixel : pixel_on s.device s.ram font lines frame x y ≡ get_or (draw_on u.device u.ram font line).line x 0

-- the claim: osd_frame_start takes 1 to 2,048 lines and that frame number; calls are made that leave RAM and registers as they are, y of which draw
-- a line; then the next osd_draw, into a line of at least W bytes, writes that pixel at x, for every y below the line count and every x below W
abbrev pub PixelsAgreeBytes : Type 0
PixelsAgreeBytes =
    (font : List ℕ) (s : State) (lines frame x y : ℕ) (cs : List (Call Logged)) (line : List ℕ)
    → length s.device ≡ record_length
    → length s.ram ≡ ram_length
    → length font ≡ font_length
    → 1 ≤ lines
    → lines ≤ frame_lines
    → (device_in (started s lines).device).frame.number ≡ frame % 64
    → AsMade (StayPut font) (calls font) (started s lines) cs
    → lines_drawn (log (calls font) (started s lines) cs) ≡ y
    → y < lines
    → x < line_width (device_in s.device)
    → line_width (device_in s.device) ≤ length line
    → SamePixel font s (end (calls font) (started s lines) cs) lines frame x y line

-- Request K5: the pixel that is asked for (crate pixel) is the one that the line engine draws, on every pixel of every line, when RAM, registers
-- and font stay put through the frame.
-- It is stated for every device record and feed, made-up ones too, and every RAM and font of their lengths.
-- Assumes nothing.
use Rattle.std.specs.Prelude.{ℕ, ◌%◌, ◌≤◌, ◌<◌, ◌≡◌, Bool, List, eqb, length, get_or}
use Rattle.limits.specs.Limits.{ram_length, font_length, frame_lines}
use Rattle.runs.specs.Runs.{Entry, log, end, total, AsMade}
use Rattle.refusals.specs.Refusals.{Reply, accepted}
use Rattle.bus.specs.declared.Event.{Event}
use Rattle.device.specs.Device.{hear_event, start_frame, draw_line, line_width}
use Rattle.pixel.specs.Ask.{ask_pixel}
use Rattle.calls.specs.Calls.{Call, event, Answer, Kept, drew}
use Rattle.calls.specs.OnePage.{State, chip_of, after, calls, EachEvent, effect_of, Stores}

-- the state after a frame start
abbrev pub started : State → ℕ → State
started s lines = record { device = (start_frame s.device lines).device; ram = s.ram; feed = s.feed }

-- a call that leaves RAM and registers as they are
abbrev pub StayPut : (font : List ℕ) → State → Call Event → Type 0
StayPut font s c = Kept (chip_of s) (chip_of (after font s c))

-- the claim that these do: every call of whose bus events each does, so every draw and question, refused ones too, and a feed made anew, which make
-- none; each bus event that stores nothing, or is refused
pub record StayingPut : Type 0 where
  pub calls : (font : List ℕ) (s : State) (c : Call Event) → EachEvent (λ u e. StayPut font u (event e)) s c → StayPut font s c
  pub events : (font : List ℕ) (s : State) (e : Event) → (Stores (effect_of s e) → ⊥) → StayPut font s (event e)
  pub refused : (font : List ℕ) (s : State) (e : Event) → ((hear_event s.device s.ram e).reply.refusal ≡ 0 → ⊥) → StayPut font s (event e)

-- refusal 0
abbrev pub accepts : Reply → Bool
accepts r = eqb r.refusal 0

-- how many lines the calls of a run drew: their accepted draws
abbrev pub lines_drawn : List (Entry (Call Event) (Answer Reply)) → ℕ
lines_drawn = total (drew accepts)

-- the next draw is accepted, and writes at x the pixel that is asked for
pub record SamePixel (font : List ℕ) (s u : State) (lines frame x y : ℕ) (line : List ℕ) : Type 0 where
  pub drawn : (draw_line u.device u.ram font line).reply.refusal ≡ 0
  pub pixel : ask_pixel s.device.registers s.ram font lines frame x y ≡ accepted (get_or (draw_line u.device u.ram font line).line x 0)

-- the claim: a frame is started, with 1 to 2,048 lines, and takes that frame number; calls are made that leave RAM and registers as they are, y of
-- them accepted draws; then the next draw, into a line of at least W bytes, writes that pixel at x, for every y below the line count and every x
-- below W
abbrev pub PixelsAgree : Type 0
PixelsAgree =
    (font : List ℕ) (s : State) (lines frame x y : ℕ) (cs : List (Call Event)) (line : List ℕ)
    → length s.ram ≡ ram_length
    → length font ≡ font_length
    → 1 ≤ lines
    → lines ≤ frame_lines
    → (started s lines).device.frame.number ≡ frame % 64
    → AsMade (StayPut font) (calls font) (started s lines) cs
    → lines_drawn (log (calls font) (started s lines) cs) ≡ y
    → y < lines
    → x < line_width s.device
    → line_width s.device ≤ length line
    → SamePixel font s (end (calls font) (started s lines) cs) lines frame x y line

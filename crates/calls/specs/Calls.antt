-- The calls of condition 3's list, and what is said of them alike for the device (specs/OnePage.antt) and for the bytes that C sees (crate
-- interface): there a bus event is given by kind and byte, and a reply is a number.
-- Assumes nothing.
use Rattle.std.specs.Prelude.{ℕ, ◌≡◌, Bool, true, false, cond, ◌&&◌, List, [], ◌∷◌}
use Rattle.runs.specs.Runs.{Machine, Entry}
use Rattle.cells.specs.Reading.{Alike}
use Rattle.registers.specs.Registers.{settings_of}
use Rattle.device.specs.Device.{cells_left}
use Rattle.capture.specs.Capture.{Chip}

-- a call of the list: a draw with any bytes, in any number, in its line buffer at entry; a cell question; a bus event; a feed of a
-- chunk, with any bytes, in any number, in its output buffer at entry; the feed is made anew; one pixel is asked for
pub data Call (E : Type 0) : Type 0 where
  draw : (line : List ℕ) → Call E
  ask : (cell : ℕ) → Call E
  event : E → Call E
  feed : (chunk out : List ℕ) → Call E
  anew : Call E
  pixel : (lines frame x y : ℕ) → Call E

-- what a call answers: the reply, and of a draw all bytes of its line buffer after it, of a feed all bytes of its output buffer
pub record Answer (R : Type 0) : Type 0 where
  pub reply : R
  pub buffer : List ℕ

-- what a call leaves and answers, and how it is written down
pub record Made (S R : Type 0) : Type 0 where
  pub state : S
  pub answer : Answer R

abbrev pub made : {S R : Type 0} → S → R → List ℕ → Made S R
made s reply buffer = record { state = s; answer = record { reply = reply; buffer = buffer } }

-- what the second run makes last: all but draws and cell questions
unfoldable pub is_event : {E : Type 0} → Call E → Bool
is_event (draw line) = false
is_event (ask cell) = false
is_event (event e) = true
is_event (feed chunk out) = true
is_event anew = true
is_event (pixel lines frame x y) = true

-- the calls as a machine. A run gives each call the state that the call before it left; the second run makes the draws and cell questions
-- in their order, then all others in theirs (crate runs)
abbrev pub machine : {S E R : Type 0} → (S → Call E → Made S R) → Machine S (Call E) (Answer R)
machine make = record { answer = λ s c. (make s c).answer; after = λ s c. (make s c).state; is_event = is_event }

-- the bus events that a call makes, in turn: an event itself; those that a feed of a chunk makes, which `fed` gives; none for any other call
unfoldable pub bus_events_of : {E : Type 0} → (fed : (chunk out : List ℕ) → List E) → Call E → List E
bus_events_of fed (draw line) = []
bus_events_of fed (ask cell) = []
bus_events_of fed (event e) = e ∷ []
bus_events_of fed (feed chunk out) = fed chunk out
bus_events_of fed anew = []
bus_events_of fed (pixel lines frame x y) = []

-- ---- what a call may change

-- of device and RAM, before it and after it: quiet (the order's term, condition 3) if it changes no cell that the frame's remaining lines read,
-- given RAM and registers as they stand before it, and none of the settings LD, DD, CH, OSD, FBK and FL
pub record QuietChange (before after : Chip) : Type 0 where
  pub cells : Alike (cells_left before.device before.ram) before.ram after.ram
  pub settings : settings_of after.device.registers ≡ settings_of before.device.registers

-- RAM and registers stay put (document 02, K5)
pub record Kept (before after : Chip) : Type 0 where
  pub ram : after.ram ≡ before.ram
  pub registers : after.device.registers ≡ before.device.registers

-- ---- lines drawn

-- the call is a draw
unfoldable pub is_draw : {E : Type 0} → Call E → Bool
is_draw (draw line) = true
is_draw (ask cell) = false
is_draw (event e) = false
is_draw (feed chunk out) = false
is_draw anew = false
is_draw (pixel lines frame x y) = false

-- how many lines a call drew: 1 if it is a draw, and its reply one that accepts
abbrev pub drew : {E R : Type 0} → (accepts : R → Bool) → Entry (Call E) (Answer R) → ℕ
drew accepts x = cond (is_draw x.call && accepts x.answer.reply) 1 0

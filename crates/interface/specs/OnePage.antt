-- Condition 3 over the bytes that C sees: no frame shows two pages (crate calls' specs/OnePage.antt, there over the device record).
-- For every list of calls of osd_bus, osd_feed, osd_feed_fresh, osd_draw, osd_cell and osd_pixel whose bus writes are quiet as they are
-- made, all answers, all line and output buffers, the RAM and every byte of both records equal those of the run with all draws and cell
-- questions first, then all other calls. Each event of a feed is read as one bus call. osd_pixel reads RAM and registers as they stand, so it
-- goes with the bus calls.
-- It is stated for every record buffer, RAM and font, whatever their bytes and lengths, and for every call: refused ones, kinds above 3,
-- cells above 65,535 and half events are among them. (A device buffer of another length than 32 is refused with 255 by each call that is
-- lent it, and stays as it is; so is a feed buffer of another length than 2.)
-- Assumes nothing.
use Rattle.std.specs.Prelude.{ℕ, ◌≤◌, ◌≡◌, List, [], length}
use Rattle.runs.specs.Runs.{Machine, end, AsMade, SameRuns}
use Rattle.bus.specs.declared.Event.{Event}
use Rattle.bus.specs.declared.BusState.TheVariants.{Write}
use Rattle.bus.specs.Bus.{step, address, last_kind}
use Rattle.capture.specs.Capture.{Logged, Chip, chip}
use Rattle.calls.specs.Calls.{Call, draw, ask, event, feed, anew, pixel, Answer, Made, made, machine, bus_events_of, QuietChange}
use Rattle.calls.specs.OnePage as device
use Rattle.layout.specs.Layout.{record_length, device_in}
use Rattle.layout.specs.FeedLayout.{feed_in}
use Rattle.interface.specs.Interface.{BusDone, bus_on, DrawDone, draw_on, cell_on, pixel_on, FeedMade, feed_fresh_on, ChipBytes, lent, bus_calls, FeedDone, feed_on, fed_events_on}

-- the bytes of the device's record, of the RAM and of the feed's record as a call left them
pub record State : Type 0 where
  pub device : List ℕ
  pub ram : List ℕ
  pub feed : List ℕ

abbrev pub lent_in : State → ChipBytes
lent_in s = lent s.device s.ram

-- each call by the definition that the promise of its function cites: a draw is a call of osd_draw, a cell question of osd_cell, an event of osd_bus,
-- given by kind and byte, and so on. The reply is the number that it returns
unfoldable pub make : (font : List ℕ) → State → Call Logged → Made State ℕ
make font s (draw line) =
    let r : DrawDone = draw_on s.device s.ram font line in
    made (record { device = r.device; ram = s.ram; feed = s.feed }) r.answer r.line
make font s (ask cell) = made s (cell_on s.device s.ram cell) []
make font s (event x) =
    let r : BusDone = bus_on s.device s.ram x.kind x.byte in
    made (record { device = r.device; ram = r.ram; feed = s.feed }) r.answer []
make font s (feed chunk out) =
    let r : FeedDone = feed_on s.device s.feed s.ram chunk out in
    made (record { device = r.device; ram = r.ram; feed = r.feed }) r.answer r.out
make font s anew = let r : FeedMade = feed_fresh_on s.feed in made (record { device = s.device; ram = s.ram; feed = r.feed }) r.answer []
make font s (pixel lines frame x y) = made s (pixel_on s.device s.ram font lines frame x y) []

abbrev pub answer : (font : List ℕ) → State → Call Logged → Answer ℕ
answer font s c = (make font s c).answer

abbrev pub after : (font : List ℕ) → State → Call Logged → State
after font s c = (make font s c).state

-- the calls with one font lent throughout
abbrev pub calls : (font : List ℕ) → Machine State (Call Logged) (Answer ℕ)
calls font = machine (make font)

-- the events that a feed makes; none where the feed is refused before any event
abbrev pub fed_by : State → (chunk out : List ℕ) → List Logged
fed_by s chunk out = fed_events_on s.device s.feed s.ram chunk out

-- P holds of each bus call as it is made: of the call itself, or of each event of a feed, read as a bus call, in turn. No other call makes any
abbrev pub EachEvent : (ChipBytes → Logged → Type 0) → State → Call Logged → Type 0
EachEvent P s c = AsMade P bus_calls (lent_in s) (bus_events_of (fed_by s) c)

-- ---- what the bytes are read as: the device and its RAM, these with the feed, a call

abbrev pub chip_in : ChipBytes → Chip
chip_in l = chip (device_in l.device) l.ram

unfoldable pub reads : State → device.State
reads s = record { device = device_in s.device; ram = s.ram; feed = feed_in s.feed }

unfoldable pub heard : Call Logged → Call Event
heard (draw line) = draw line
heard (ask cell) = ask cell
heard (event x) = event (device.heard_as x)
heard (feed chunk out) = feed chunk out
heard anew = anew
heard (pixel lines frame x y) = pixel lines frame x y

-- ---- quiet

-- a bus write: the call is taken, and the event that it makes stores a byte
abbrev pub Writes : ChipBytes → Logged → Type 0
Writes l x = (length l.device ≡ record_length) × (x.kind ≤ last_kind) × device.Stores (step (device_in l.device).bus (device.heard_as x)).effect

-- a bus call is quiet if what it changes is: no cell that the frame's remaining lines read, and no setting
abbrev pub Quiet : ChipBytes → Logged → Type 0
Quiet l x = QuietChange (chip_in l) (chip_in (bus_calls.after l x))

-- a bus write is quiet; nothing is asked of any other bus call
abbrev pub QuietWrite : ChipBytes → Logged → Type 0
QuietWrite l x = Writes l x → Quiet l x

-- every bus write of the list is quiet as it is made, in the list's own run, and so is each that a feed makes
abbrev pub QuietRun : (font : List ℕ) → State → List (Call Logged) → Type 0
QuietRun font s cs = AsMade (EachEvent QuietWrite) (calls font) s cs

-- ---- the claims

-- every answer, every line and output buffer, the RAM and every byte of both records are the same in both runs
abbrev pub OnePageBytes : Type 0
OnePageBytes = (font : List ℕ) (s : State) (cs : List (Call Logged)) → QuietRun font s cs → SameRuns (calls font) s cs

-- the claim that these bus calls are quiet
pub record QuietBytes : Type 0 where
  -- one whose event is, on the device that the bytes are read as: so all of QuietEvents (crate calls' specs/Use.antt) holds of bus calls
  pub events : (s : State) (x : Logged) → device.Quiet (reads s) (device.heard_as x) → Quiet (lent_in s) x
  -- a data byte to a cell of which osd_cell says no (answer 0)
  pub asked_no : (s : State) (byte : ℕ) → (device_in s.device).bus.state ≡ Write
      → cell_on s.device s.ram (address (device_in s.device).bus) ≡ 0 → Quiet (lent_in s) (record { kind = 1; byte = byte })
  -- one that is refused with 255
  pub not_taken : (s : State) (x : Logged) → (length s.device ≡ record_length → x.kind ≤ last_kind → ⊥) → Quiet (lent_in s) x

-- a no (answer 0) of the cell question stays a no over later draws, cell questions, quiet bus calls, quiet feeds, feeds made anew and questions
-- about a pixel
abbrev pub NoStaysBytes : Type 0
NoStaysBytes =
    (font : List ℕ) (s : State) (cs : List (Call Logged)) (c : ℕ) → QuietRun font s cs → cell_on s.device s.ram c ≡ 0
    → cell_on (end (calls font) s cs).device (end (calls font) s cs).ram c ≡ 0

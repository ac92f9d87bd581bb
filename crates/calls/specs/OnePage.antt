-- Document 01, "Condition 3 read exactly": no frame shows two pages.
-- For every list of bus events, line draws and cell questions whose bus writes are quiet as they are made, all answers, lines
-- and the end state equal those of the run with all draws and cell questions first, then all events.
-- Feeds of a capture's chunks are in the list (document 02, K1), and feeds made anew: each fed event is read as one bus event. Questions about
-- one pixel (K5) are in the list too. Such a question reads RAM and registers as they stand, whatever frame runs, so every write before it
-- counts: the second run makes it with the events, after the same ones.
-- It is stated for every device record, feed, RAM and font, of any length, so for every device that earlier calls can reach.
-- Assumes nothing.
use Rattle.std.specs.Prelude.{ℕ, true, List, [], map}
use Rattle.runs.specs.Runs.{Machine, AsMade, SameRuns}
use Rattle.refusals.specs.Refusals.{Reply, accepted}
use Rattle.bus.specs.declared.Event.{Event}
use Rattle.bus.specs.declared.Effect.{Effect}
use Rattle.bus.specs.declared.Effect.TheVariants.{Acknowledge, Ignore, Store, Load}
use Rattle.bus.specs.Bus.{event_of, step}
use Rattle.device.specs.declared.Device.{Device}
use Rattle.device.specs.Device.{hear_event, DrawOutcome, draw_line, ask_cell}
use Rattle.pixel.specs.Ask.{ask_pixel}
use Rattle.capture.specs.declared.Feed.{Feed}
use Rattle.capture.specs.Capture.{Logged, fresh_feed, Chip, chip, FeedOutcome, feed_chunk, fed_events}
use Rattle.calls.specs.Calls.{Call, draw, ask, event, feed, anew, pixel, Answer, Made, made, machine, bus_events_of, QuietChange}

-- the device, the RAM and the feed as a call returned or left them
pub record State : Type 0 where
  pub device : Device
  pub ram : List ℕ
  pub feed : Feed

abbrev pub chip_of : State → Chip
chip_of s = chip s.device s.ram

-- the bus events alone, each on the state that the one before left
abbrev pub events : Machine State Event Reply
events =
    record {
      answer = λ s e. (hear_event s.device s.ram e).reply;
      after = λ s e. record { device = (hear_event s.device s.ram e).device; ram = (hear_event s.device s.ram e).ram; feed = s.feed };
      is_event = λ e. true;
    }

-- each call by the definition that the promise of the device's function cites. (A feed made anew has no reply of its own: it is accepted)
unfoldable pub make : (font : List ℕ) → State → Call Event → Made State Reply
make font s (draw line) =
    let o : DrawOutcome = draw_line s.device s.ram font line in
    made (record { device = o.device; ram = s.ram; feed = s.feed }) o.reply o.line
make font s (ask cell) = made s (ask_cell s.device s.ram cell) []
make font s (event e) = made (events.after s e) (events.answer s e) []
make font s (feed chunk out) =
    let o : FeedOutcome = feed_chunk (chip_of s) s.feed chunk out in
    made (record { device = o.chip.device; ram = o.chip.ram; feed = o.feed }) o.reply o.out
make font s anew = made (record { device = s.device; ram = s.ram; feed = fresh_feed }) (accepted 0) []
make font s (pixel lines frame x y) = made s (ask_pixel s.device.registers s.ram font lines frame x y) []

abbrev pub answer : (font : List ℕ) → State → Call Event → Answer Reply
answer font s c = (make font s c).answer

abbrev pub after : (font : List ℕ) → State → Call Event → State
after font s c = (make font s c).state

-- the calls with one font lent throughout
abbrev pub calls : (font : List ℕ) → Machine State (Call Event) (Answer Reply)
calls font = machine (make font)

-- a fed event as the bus event that it is
abbrev pub heard_as : Logged → Event
heard_as x = event_of x.kind x.byte

-- the bus events that a feed makes; none where the feed is refused before any event
abbrev pub fed_by : State → (chunk out : List ℕ) → List Event
fed_by s chunk out = map heard_as (fed_events (chip_of s) s.feed chunk out)

-- P holds of each bus event of a call as it is made: of the event itself, or of each event of a feed, in turn. No other call makes any
abbrev pub EachEvent : (State → Event → Type 0) → State → Call Event → Type 0
EachEvent P s c = AsMade P events s (bus_events_of (fed_by s) c)

-- ---- quiet

-- what an event asks of the cells
abbrev pub effect_of : State → Event → Effect
effect_of s e = (step s.device.bus e).effect

-- a bus write: the event stores a byte
unfoldable pub Stores : Effect → Type 0
Stores Acknowledge = ⊥
Stores (Ignore why) = ⊥
Stores (Store a x) = Unit
Stores (Load a) = ⊥

-- an event is quiet if what it changes is: no cell that the frame's remaining lines read, and no setting
abbrev pub Quiet : State → Event → Type 0
Quiet s e = QuietChange (chip_of s) (chip_of (events.after s e))

-- a bus write is quiet. Nothing is asked of any other bus event: only a write can change a cell or a setting (specs/Use.antt)
abbrev pub QuietWrite : State → Event → Type 0
QuietWrite s e = Stores (effect_of s e) → Quiet s e

-- every bus write of the list is quiet as it is made, in the list's own run, and so is each that a feed makes
abbrev pub QuietRun : (font : List ℕ) → State → List (Call Event) → Type 0
QuietRun font s cs = AsMade (EachEvent QuietWrite) (calls font) s cs

-- ---- the claim

-- every answer, every line, every output byte and the end state are the same in both runs
abbrev pub OnePage : Type 0
OnePage = (font : List ℕ) (s : State) (cs : List (Call Event)) → QuietRun font s cs → SameRuns (calls font) s cs

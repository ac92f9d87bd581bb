-- Document 02, K1: bus captures in chunks. A logger stores two bytes an event, its kind (0 start, 1 host byte, 2 fetch, 3 stop) and a
-- byte, ignored unless the kind is 1; a feed takes what has arrived, sometimes half an event or nothing.
-- Assumes nothing.
use Rattle.std.specs.Prelude.{ℕ, ◌+◌, ◌*◌, ◌/◌, Bool, true, false, not, cond, List, [], ◌∷◌, ◌++◌, eqb, ltb, length, drop, Result, Ok, Err}
use Rattle.limits.specs.Limits.{ram_length}
use Rattle.runs.specs.Runs.{Machine, Entry, log, end}
use Rattle.refusals.specs.declared.Refusal.{Refusal}
use Rattle.refusals.specs.declared.Refusal.TheVariants.{RamLength, FeedShut, OutputRoom}
use Rattle.refusals.specs.Refusals.{Reply, accepted, refused, refused_with, Verdict, passed, failed, refuse_if}
use Rattle.bus.specs.Bus.{event_of, bad_kind}
use Rattle.device.specs.declared.Device.{Device}
use Rattle.device.specs.Device.{hear_event}
use Rattle.capture.specs.declared.Feed.{Feed}
use Rattle.capture.specs.declared.Feed.TheVariants.{Open, Half, Shut}
use Rattle.capture.specs.declared.FeedRefusal.{FeedRefusal}

-- ---- the events of a capture

-- an event as the logger stores it
pub record Logged : Type 0 where
  pub kind : ℕ
  pub byte : ℕ

-- a feed made anew
abbrev pub fresh_feed : Feed
fresh_feed = Open

-- the events that a chunk finishes, in turn. A held half event is not an event yet. A bad kind is noticed when its event is complete;
-- the rest of the chunk is dropped
unfoldable pub finished : Feed → List ℕ → List Logged
finished f [] = []
finished Open (kind ∷ more) = finished (Half kind) more
finished (Half kind) (byte ∷ more) = cond (bad_kind kind) [] ((record { kind = kind; byte = byte }) ∷ finished Open more)
finished Shut (x ∷ more) = []

-- the feed after a chunk: a bad kind shuts it, until it is made anew
unfoldable pub feed_after : Feed → List ℕ → Feed
feed_after f [] = f
feed_after Open (kind ∷ more) = feed_after (Half kind) more
feed_after (Half kind) (byte ∷ more) = cond (bad_kind kind) Shut (feed_after Open more)
feed_after Shut (x ∷ more) = Shut

-- ---- what comes out

-- for each finished event two bytes: 1 or 0 for acknowledged, then the byte
abbrev pub output_of : Reply → List ℕ
output_of r = cond (eqb r.refusal 0) 1 0 ∷ r.value ∷ []

-- those of a run's answers, in turn
unfoldable pub outputs : {C : Type 0} → List (Entry C Reply) → List ℕ
outputs [] = []
outputs (x ∷ more) = output_of x.answer ++ outputs more

-- the bytes out of a run of events
abbrev pub output_from : {S : Type 0} → Machine S Logged Reply → S → List Logged → List ℕ
output_from m s es = outputs (log m s es)

-- ---- the device's part

-- the device and the RAM that is lent to it
pub record Chip : Type 0 where
  pub device : Device
  pub ram : List ℕ

abbrev pub chip : Device → List ℕ → Chip
chip d ram = record { device = d; ram = ram }

-- each fed event is one bus event
abbrev pub bus_events : Machine Chip Logged Reply
bus_events =
    record {
      answer = λ c x. (hear_event c.device c.ram (event_of x.kind x.byte)).reply;
      after =
          λ c x.
          record {
            device = (hear_event c.device c.ram (event_of x.kind x.byte)).device;
            ram = (hear_event c.device c.ram (event_of x.kind x.byte)).ram;
          };
      is_event = λ x. true;
    }

-- ---- refusals

abbrev pub is_shut : Feed → Bool
is_shut Open = false
is_shut (Half kind) = false
is_shut Shut = true

-- 1 while half an event is held
abbrev pub held_bytes : Feed → ℕ
held_bytes Open = 0
held_bytes (Half kind) = 1
held_bytes Shut = 0

-- the kind that is held, else 0
abbrev pub held_kind : Feed → ℕ
held_kind Open = 0
held_kind (Half kind) = kind
held_kind Shut = 0

-- the events that a chunk of so many bytes would complete: a held half is counted, kinds are not looked at
abbrev pub would_complete : Feed → ℕ → ℕ
would_complete f n = (held_bytes f + n) / 2

-- order of refusals: 1, 9 for a feed already shut, 10, by the lengths that are lent; all before any event
unfoldable pub feed_verdict : Feed → ℕ → ℕ → ℕ → Verdict
feed_verdict f ram chunk out =
    refuse_if (not (eqb ram ram_length)) RamLength
    (refuse_if (is_shut f) FeedShut
    (refuse_if (ltb out (2 * would_complete f chunk)) OutputRoom passed))

-- what the code's tests found, in the same form
abbrev pub verdict_in : Result Unit Refusal → Verdict
verdict_in (Ok u) = passed
verdict_in (Err r) = failed r

-- document 02's numbers for an answer: the value is the number of output bytes that this chunk wrote, also with a refusal
abbrev pub feed_reply : Result ℕ FeedRefusal → Reply
feed_reply (Ok n) = accepted n
feed_reply (Err r) = refused_with r.refusal r.written

-- the reply to a chunk that was taken (a shut feed takes none), by the feed after it: shut by a bad kind, or not
abbrev pub taken_reply : Feed → ℕ → Reply
taken_reply Open n = accepted n
taken_reply (Half kind) n = accepted n
taken_reply Shut n = refused_with FeedShut n

-- ---- a chunk

pub record FeedOutcome : Type 0 where
  pub chip : Chip
  pub feed : Feed
  pub out : List ℕ
  pub reply : Reply

-- refused before any event: nothing is taken
abbrev pub not_fed : Chip → Feed → List ℕ → Refusal → FeedOutcome
not_fed c f out r = record { chip = c; feed = f; out = out; reply = refused r }

-- what a chunk's events leave of what they act on, which a machine says; the feed after it; the output buffer, and how many bytes they wrote
pub record Played (S : Type 0) : Type 0 where
  pub state : S
  pub feed : Feed
  pub out : List ℕ
  pub written : ℕ

-- the events, one by one; later output bytes stay
abbrev pub play_chunk : {S : Type 0} → Machine S Logged Reply → S → Feed → (chunk out : List ℕ) → Played S
play_chunk m s f chunk out =
    let es : List Logged = finished f chunk in
    let bytes : List ℕ = output_from m s es in
    record { state = end m s es; feed = feed_after f chunk; out = bytes ++ drop (length bytes) out; written = length bytes }

-- with the reply
abbrev pub taken_outcome : Played Chip → FeedOutcome
taken_outcome p = record { chip = p.state; feed = p.feed; out = p.out; reply = taken_reply p.feed p.written }

-- taken: each event is one bus event
unfoldable pub chunk_fed : Chip → Feed → (chunk out : List ℕ) → FeedOutcome
chunk_fed c f chunk out = taken_outcome (play_chunk bus_events c f chunk out)

unfoldable pub feed_by : Verdict → Chip → Feed → List ℕ → List ℕ → FeedOutcome
feed_by passed c f chunk out = chunk_fed c f chunk out
feed_by (failed r) c f chunk out = not_fed c f out r

-- the events that a feed makes: none where it is refused before any event
unfoldable pub events_by : Verdict → Feed → List ℕ → List Logged
events_by passed f chunk = finished f chunk
events_by (failed r) f chunk = []

abbrev pub fed_events : Chip → Feed → List ℕ → List ℕ → List Logged
fed_events c f chunk out = events_by (feed_verdict f (length c.ram) (length chunk) (length out)) f chunk

unfoldable pub feed_chunk : Chip → Feed → List ℕ → List ℕ → FeedOutcome
feed_chunk c f chunk out = feed_by (feed_verdict f (length c.ram) (length chunk) (length out)) c f chunk out

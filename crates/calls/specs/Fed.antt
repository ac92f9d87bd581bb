-- Document 02, K1, "demands 2 and 3 read each fed event as one bus event": what a feed does is the run of the device's bus events over
-- the events that it makes, answers included (specs/OnePage.antt). It is stated for every device record, feed, RAM, chunk and output,
-- refused feeds too.
-- Assumes nothing.
use Rattle.std.specs.Prelude.{ℕ, ◌≡◌, List, ◌++◌, length, drop}
use Rattle.runs.specs.Runs.{log, end}
use Rattle.capture.specs.Capture.{outputs, feed_chunk}
use Rattle.calls.specs.OnePage.{State, chip_of, events, fed_by}

-- a feed, and the bus events that it makes. (The refusal's number and the feed that is left stand in crate capture's definition)
pub record AsEvents (s : State) (chunk out : List ℕ) : Type 0 where
  pub device : (feed_chunk (chip_of s) s.feed chunk out).chip.device ≡ (end events s (fed_by s chunk out)).device
  pub ram : (feed_chunk (chip_of s) s.feed chunk out).chip.ram ≡ (end events s (fed_by s chunk out)).ram
  -- the answers' bytes stand first in the output, and later bytes stay; the value is their number
  pub output : let written : List ℕ = outputs (log events s (fed_by s chunk out)) in
      (feed_chunk (chip_of s) s.feed chunk out).out ≡ written ++ drop (length written) out
  pub value : (feed_chunk (chip_of s) s.feed chunk out).reply.value ≡ length (outputs (log events s (fed_by s chunk out)))

-- the claim
abbrev pub FedAreBusEvents : Type 0
FedAreBusEvents = (s : State) (chunk out : List ℕ) → AsEvents s chunk out

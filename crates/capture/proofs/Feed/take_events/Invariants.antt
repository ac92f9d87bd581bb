-- `take_events`: what is left of the chunk does what the whole chunk did at its start, and the output has room for it.
use Prim.Native.Nat.{◌+◌, ◌-◌, ◌*◌, ◌≤◌}
use mathlib.Core.Bool.{false}
use mathlib.Core.Path.{◌≡◌}
use lib.ListN.{length, drop}
use Rattle.capture.specs.Capture.{chip, bus_events, is_shut, would_complete}
use Rattle.capture.specs.Places.{rest}
use Rattle.capture.proofs.Feed.take_events.Given as goal

abbrev pub invariant-loop-byte : goal.invariant-loop-byte
invariant-loop-byte l =
    (is_shut l.self ≡ false)
    × (l.written + 2 * would_complete l.self (length l.chunk - l.byte-index) ≤ length l.out)
    × (rest bus_events (chip l.device l.ram) l.self (drop l.byte-index l.chunk) l.out l.written ≡ rest bus_events (chip l.initial.device l.initial.ram) l.initial.self l.chunk l.initial.out 0)

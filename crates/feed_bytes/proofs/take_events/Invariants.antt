-- `take_events`: a turn is an event, and what is left from the next place on is what was left.
use Prim.Native.Nat.{◌+◌, ◌-◌, ◌*◌, ◌/◌, ◌%◌, ◌≤◌}
use mathlib.Core.Path.{◌≡◌}
use lib.ListN.{length}
use Rattle.buffers.specs.Buffers.{Bytes}
use Rattle.capture.specs.Places.{from}
use Rattle.interface.specs.Interface.{lent, bus_calls}
use Rattle.feed_bytes.proofs.take_events.Given as goal

abbrev pub invariant-loop-i : goal.invariant-loop-i
invariant-loop-i l =
    (length l.device ≡ length l.initial.device)
    × (length l.ram ≡ length l.initial.ram)
    × (length l.out ≡ length l.initial.out)
    × (2 * ((length l.chunk + 1 - l.first) / 2) ≤ length l.out)
    × (l.first ≤ l.i)
    × (l.i ≤ length l.chunk + 1)
    × ((l.i - l.first) % 2 ≡ 0)
    × Bytes l.device
    × Bytes l.ram
    × (from bus_calls (lent l.device l.ram) l.chunk l.held l.i l.out (l.i - l.first) ≡ from bus_calls (lent l.initial.device l.initial.ram) l.chunk l.held l.first l.initial.out 0)

abbrev pub decreases-loop-i : goal.decreases-loop-i
decreases-loop-i l = length l.chunk + 1 - l.i

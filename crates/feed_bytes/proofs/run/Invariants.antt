-- `run`: the tests, then a turn is an event.
use Prim.Native.Nat.{ℕ, ◌+◌, ◌-◌, ◌%◌, ◌≤◌, ◌<◌}
use mathlib.Core.Path.{◌≡◌}
use lib.ListN.{length}
use Rattle.limits.specs.Limits.{address_space}
use Rattle.capture.specs.Places.{from}
use Rattle.layout.specs.Layout.{put_bus}
use Rattle.interface.specs.Interface.{lent, bus_calls}
use Rattle.feed_bytes.specs.Events.{at}
use Rattle.feed_bytes.proofs.run.Given as goal

abbrev pub invariant-loop-k : goal.invariant-loop-k
invariant-loop-k g l =
    (length l.device ≡ length l.initial.device)
    × (length l.ram ≡ length l.initial.ram)
    × (length l.out ≡ length l.initial.out)
    × (l.i ≤ l.k + 1)
    × ((l.k + 1 - l.i) % 2 ≡ 0)
    × (l.k + 1 ≤ length l.chunk + 1)
    × (l.address < address_space)
    × ((held : ℕ) → from bus_calls (lent (put_bus (at g.K.EventKind.STATE l.address) l.device) l.ram) l.chunk held (l.k + 1) l.out (l.k + 1 - l.first) ≡ from bus_calls (lent l.initial.device l.initial.ram) l.chunk held l.i l.initial.out (l.i - l.first))

abbrev pub decreases-loop-k : goal.decreases-loop-k
decreases-loop-k g l = length l.chunk + 1 - l.k

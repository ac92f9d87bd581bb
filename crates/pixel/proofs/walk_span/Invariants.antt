-- `walk_span`: each turn finds the line in the strip at hand (`span_here`), or passes all lines of that strip (`span-next`).
use Prim.Native.Nat.{◌-◌, ◌*◌, ◌≤◌}
use mathlib.Core.Path.{◌≡◌}
use Rattle.pixel.specs.Rounds.{round_of}
use Rattle.pixel.proofs.walk_span.Given as goal

abbrev pub invariant-loop-place : goal.invariant-loop-place
invariant-loop-place l =
    (round_of (l.to - l.place) l.ram l.ch (2 * l.place) l.left ≡ round_of (l.to - l.from) l.ram l.ch (2 * l.from) l.y) × (l.left ≤ l.y)

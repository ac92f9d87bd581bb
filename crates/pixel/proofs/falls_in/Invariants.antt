-- `falls_in`: a round finds the line (`round_line`), or took all its lines (`round_left`). Where it has none, there is no strip
-- (`round_none`); else each turn leaves out a round of lines (`falls_round`), until the line lies in the next round (`round_in`).
use Prim.Native.Nat.{◌≤◌, ◌<◌}
use mathlib.Core.Path.{◌≡◌}
use Rattle.limits.specs.Limits.{ram_pairs}
use Rattle.pixel.specs.Pixel.{falls_in}
use Rattle.pixel.proofs.Rounds.{lines_on}
use Rattle.pixel.proofs.falls_in.Given as goal

abbrev pub invariant-loop : goal.invariant-loop
invariant-loop l =
    (falls_in l.left l.ram l.ch l.first l.left ≡ falls_in l.y l.ram l.ch l.first l.y)
    × (l.left ≤ l.y)
    × (l.counter < 2)
    × (1 ≤ l.counter → l.left < lines_on l.ram l.ch ram_pairs l.first)

abbrev pub invariant-loop-left : goal.invariant-loop-left
invariant-loop-left l =
    (falls_in l.left l.ram l.ch l.first l.left ≡ falls_in l.y l.ram l.ch l.first l.y)
    × (l.left ≤ l.y)

abbrev pub decreases-loop-left : goal.decreases-loop-left
decreases-loop-left l = l.left

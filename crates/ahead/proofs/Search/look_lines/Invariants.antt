-- `Search::look_lines`: each turn passes a descriptor and its strip; what is marked and what is still to look at add up to the same
-- (`SumSame`).
use Prim.Native.Nat.{◌*◌, ◌<◌}
use Rattle.ahead.specs.Looking.{codes_to}
use Rattle.ahead.proofs.Looks.{SumSame}
use Rattle.ahead.proofs.Search.look_lines.Given as goal

abbrev pub invariant-loop-left : goal.invariant-loop-left
invariant-loop-left l = (l.p < 512) × SumSame l.initial.self l.all l.descriptor l.self l.left (2 * l.p)

abbrev pub decreases-loop-left : goal.decreases-loop-left
decreases-loop-left l = codes_to l.initial.self.sought.cell (2 * l.p)

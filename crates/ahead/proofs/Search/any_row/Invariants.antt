-- `Search::any_row`: a marked row that shows the user character, if there is one, is still to come.
use Prim.Native.Nat.{◌-◌}
use Rattle.ahead.proofs.Marks.{Ahead, row_or_end}
use Rattle.ahead.proofs.Search.any_row.Given as goal

abbrev pub invariant-loop-next : goal.invariant-loop-next
invariant-loop-next l = Ahead l.self.ram.now l.self.sought.cell l.self.sought.codes l.self.marks l.next

abbrev pub decreases-loop-next : goal.decreases-loop-next
decreases-loop-next l = 512 - row_or_end l.next

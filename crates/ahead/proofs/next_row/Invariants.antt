-- `next_row`: no row of the words passed so far is marked; a word's rest tells of its rows (`word-passed`, `word_next`).
use Prim.Native.Nat.{◌*◌}
use Rattle.ahead.specs.Looking.{Unmarked}
use Rattle.ahead.proofs.next_row.Given as goal

abbrev pub invariant-loop-i : goal.invariant-loop-i
invariant-loop-i l = Unmarked l.marks l.from (32 * l.i)

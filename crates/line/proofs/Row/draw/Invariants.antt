-- `Row::draw`: each turn draws one more character (`RowUpTo`, `row-drawn`); the row ends at an end of line, at a cut character, or where the room is full.
use Prim.Native.Nat.{◌+◌, ◌*◌}
use Rattle.line.proofs.Turns.{RowUpTo}
use Rattle.line.proofs.Row.draw.Given as goal

abbrev pub invariant-loop-i : goal.invariant-loop-i
invariant-loop-i l =
    RowUpTo l.self.ram.now l.self.font.now l.self.address l.self.pen l.first l.w l.initial.out (l.first + 12 * l.i) l.a l.cells l.before l.out

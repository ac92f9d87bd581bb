-- What is written of the line, and what is left of it, are the whole line.
use Rattle.std.proofs.Common.{◌≡◌, ◌*◌, ◌++◌, take, drop}
use Rattle.demo.specs.Picture.{mixed}
use Rattle.demo.proofs.mix_line.Given as goal

abbrev pub invariant-loop-x : goal.invariant-loop-x
invariant-loop-x l = take (3 * l.x) l.out ++ mixed l.y l.x (drop l.x l.line) ≡ mixed l.y 0 l.line

-- What is printed so far, and the lines that are left, are the whole frame.
use Rattle.std.proofs.Common.{◌-◌, replicate}
use mathlib.Core.List.{flatten}
use Rattle.report.specs.Parts.{frame_parts, line_parts}
use Rattle.bench.proofs.Reached.{Reached}
use Rattle.bench.proofs.show.Given as goal

abbrev pub invariant-loop : goal.invariant-loop
invariant-loop g l =
    Reached (g.W.Write.contents l.fn.out) (g.W.Write.contents l.out) (flatten (line_parts (l.lines - l.counter) l.device l.ram l.font l.text))
    (flatten (frame_parts l.fn.device l.fn.ram l.fn.font (replicate 1024 0)))

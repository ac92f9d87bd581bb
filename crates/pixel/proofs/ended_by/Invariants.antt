-- `ended_by`: each turn passes a code that does not end the line.
use Prim.Native.Nat.{◌-◌}
use mathlib.Core.Path.{◌≡◌}
use Rattle.pixel.specs.Pixel.{ended}
use Rattle.pixel.proofs.ended_by.Given as goal

abbrev pub invariant-loop : goal.invariant-loop
invariant-loop l = ended (l.number - l.counter) l.ram l.at ≡ ended l.number l.ram l.first

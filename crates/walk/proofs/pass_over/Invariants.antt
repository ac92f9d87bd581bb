-- `pass_over`: each turn passes a descriptor over.
use Prim.Native.Nat.{◌-◌}
use mathlib.Core.Path.{◌≡◌}
use Rattle.limits.specs.Limits.{ram_pairs}
use Rattle.walk.specs.Walk.{even, begins_at}
use Rattle.walk.proofs.pass_over.Given as goal

abbrev pub invariant-loop : goal.invariant-loop
invariant-loop l = (even l.at ≡ l.at) × (begins_at (ram_pairs - l.counter) l.ram l.at ≡ begins_at ram_pairs l.ram l.first)

-- `user_reads`: each turn passes one code; what is left of the row shows the user character exactly if the row does.
use Prim.Native.Nat.{◌-◌, ◌*◌, ◌<◌}
use mathlib.Core.Path.{◌≡◌}
use Rattle.ahead.specs.Looking.{user_reads}
use Rattle.ahead.proofs.user_reads.Given as goal

abbrev pub invariant-loop : goal.invariant-loop
invariant-loop l =
    (l.p < 512) × (user_reads l.ram l.cell (l.n - l.counter) (2 * l.p) ≡ user_reads l.ram l.cell l.n (2 * l.row))

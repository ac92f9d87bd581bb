-- `starts`: no code passed so far ends a line.
use Prim.Native.Nat.{ℕ, ◌≤◌, ◌<◌}
use Rattle.ahead.proofs.Rows.{EndsBack}
use Rattle.ahead.proofs.starts.Given as goal

abbrev pub invariant-loop-m : goal.invariant-loop-m
invariant-loop-m l = (j : ℕ) → 1 ≤ j → j < l.m → EndsBack l.ram l.cell j → ⊥

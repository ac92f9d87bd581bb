-- What the frame's remaining lines can read: what a line can.
-- Assumes nothing.
use Prim.Native.Nat.{ℕ, zero, suc}
use Rattle.cells.proofs.Bounds.{Only, only-bind}
use Rattle.registers.specs.declared.Settings.{Settings}
use Rattle.walk.specs.declared.Walk.{Walk}
use Rattle.line.specs.Line.{scan}
use Rattle.line.proofs.Asks.{Allowed, scan_allowed}
use Rattle.ahead.specs.Ahead.{remaining}

pub remaining_allowed : (s : Settings) (n : ℕ) (w : Walk) → Only Allowed (λ (v : Walk). Unit {0}) (remaining s n w)
unfolding remaining Only
remaining_allowed s zero w = tt
remaining_allowed s (suc n) w = only-bind Allowed _ _ (scan s w) _ (scan_allowed s w) (λ x q. remaining_allowed s n x.walk)

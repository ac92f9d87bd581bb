-- `Device::ask`: the tests, in their order, and then the search's answer.
use Prim.Native.Nat.{ℕ}
use mathlib.Core.Path.{◌≡◌}
use mathlib.Core.Bool.{Bool, cond}
use mathlib.Core.List.{List}
use borrow.Author.Tests.{eq-eqb, le-leb, lt-leb}
use Rattle.cells.specs.Reading.{cells, among}
use Rattle.refusals.specs.Refusals.{accepted}
use Rattle.registers.specs.declared.Settings.{Settings}
use Rattle.registers.specs.Registers.{settings_of}
use Rattle.ahead.specs.Ahead.{remaining}
use Rattle.device.specs.declared.Device.{Device}
use Rattle.device.specs.Device.{ask_cell, cells_left}
use Rattle.device.proofs.Device.ask.Goals as goal

asked : (d : Device) (ram lent : List ℕ) (x : ℕ) (s : Settings) (r : Bool) → lent ≡ ram → s ≡ settings_of d.registers
    → r ≡ among x (cells lent (remaining s d.frame.left d.frame.walk)) → accepted (cond r 1 0) ≡ accepted (cond (among x (cells_left d ram)) 1 0)
unfolding cells_left
asked d ram lent x s r l e q = rw (q, e, l)

pub returns-then-cell-ge-RAM_CELLS : goal.returns-then-cell-ge-RAM_CELLS
unfolding ask_cell
returns-then-cell-ge-RAM_CELLS c = rw (eq-eqb _ _ c.if-ram-ne-RAM_LENGTH.false, le-leb _ _ c.if-cell-ge-RAM_CELLS.true)

pub returns : goal.returns
unfolding ask_cell
returns c =
    rw (eq-eqb _ _ c.if-ram-ne-RAM_LENGTH.false, lt-leb _ _ c.if-cell-ge-RAM_CELLS.false)
    (asked _ _ _ _ _ _ c.array_of.ensures c.settings.ensures c.reads.ensures)

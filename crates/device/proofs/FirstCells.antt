-- The claim of specs/FirstCells.antt: what the remaining lines read as slices is of slices on screen, and these cells are of none.
-- Assumes nothing.
use Prim.Native.Nat.{ℕ, ◌+◌, ◌<◌}
use mathlib.Core.Path.{◌≡◌, sym, ap, ◌∙◌}
use mathlib.Core.Bool.{Bool, false, cond, ◌||◌, or-false}
use mathlib.Core.List.{List}
use native.Mathlib.Omega.{arith}
use borrow.Author.Tests.{eq-eqb, lt-leb}
use Rattle.facts.proofs.Tests.{iff}
use Rattle.cells.specs.Reading.{descriptor, code, slice, same_role}
use Rattle.cells.proofs.Bounds.{only_as}
use Rattle.cells.proofs.Roles.{by_role}
use Rattle.refusals.specs.Refusals.{accepted}
use Rattle.registers.specs.Registers.{settings_of}
use Rattle.walk.specs.declared.Walk.{Walk}
use Rattle.glyph.specs.Cells.{user_slice}
use Rattle.glyph.specs.Glyph.{user_cell}
use Rattle.line.proofs.Asks.{Allowed}
use Rattle.ahead.proofs.Remaining.{remaining_allowed}
use Rattle.device.specs.declared.Device.{Device}
use Rattle.device.specs.Device.{remaining_of, cells_left, ask_cell}
use Rattle.device.specs.FirstCells.{read_as, FirstCells}

module _ (d : Device) (ram : List ℕ) (n i : ℕ) (h : i < 2) where
  not-read : read_as slice d ram (user_cell n 0 + i) ≡ false
  unfolding user_slice same_role
  not-read =
      sym (iff false (read_as slice d ram (user_cell n 0 + i)) (λ t. absurd t)
      (λ t.
      let a = only_as Allowed (λ (v : Walk). Unit {0}) ram slice (remaining_of d) (remaining_allowed (settings_of d.registers) d.frame.left d.frame.walk) (user_cell n 0 + i) t in
      absurd (omega (arith, (a.on_screen tt).from))))

pub first_cells : FirstCells
unfolding ask_cell cells_left
first_cells d ram n i l m h =
    let c : ℕ = user_cell n 0 + i in
    let never = not-read d ram n i h in
    record {
      never = never;
      answer =
          rw (eq-eqb _ _ l, lt-leb 1024 c (omega arith))
          (ap (λ (b : Bool). accepted (cond b 1 0))
          (by_role.member ram (remaining_of d) c
          ∙ ap (λ (b : Bool). (read_as descriptor d ram c || read_as code d ram c) || b) never
          ∙ or-false (read_as descriptor d ram c || read_as code d ram c)));
    }

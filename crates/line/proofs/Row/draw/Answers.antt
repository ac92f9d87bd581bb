-- `Row::draw`: each turn draws one more character (`RowUpTo`, `row-drawn`); the row ends at an end of line, at a cut character, or where the room is full.
use Prim.Native.Nat.{ℕ, ◌+◌, ◌*◌, ◌≤◌, ◌<◌}
use mathlib.Core.Path.{◌≡◌}
use mathlib.Core.List.{List}
use native.Mathlib.Omega.{arith}
use lib.ListN.{length}
use Rattle.line.specs.declared.Pen.{Pen}
use Rattle.line.specs.declared.Coded.{Coded}
use Rattle.line.specs.Promises.{CodeShown}
use Rattle.line.proofs.Turns.{RowUpTo, Turn, row_holds, code-few, row_bound, row-full, row-drawn, row-ended, row_cut}
use Rattle.line.proofs.Row.draw.Goals as goal

turn : {ram font : List ℕ} {address : ℕ} {pen : Pen} {first w : ℕ} {out₀ : List ℕ} {x a n bits : ℕ} {out : List ℕ} {c : Coded}
    → RowUpTo ram font address pen first w out₀ x a n bits out → w ≤ length out₀ → x < w → CodeShown ram font a pen bits c
    → Turn ram font address pen first w out₀ x a n bits out c
turn upto fits more code = record { upto = upto; fits = fits; more = more; code = code }

pub loop-i-init : goal.loop-i-init
loop-i-init c =
    let start : c.args.first + 0 ≡ c.args.first = omega arith in
    rw start (row_holds _ _ _ _ _ _ _ c.even_address-a.result c.requires.0 c.even_address-a.ensures)

pub overflow_add-cells : goal.overflow_add-cells
overflow_add-cells c =
    omega (arith, row_bound _ _ _ _ _ _ _ _ _ _ _ _ c.requires.2 c.loop-i.invariant, code-few _ _ _ _ _ _ c.code_at-code.ensures)

pub returns-in_default : goal.returns-in_default
returns-in_default c =
    row-ended (turn c.loop-i.invariant c.requires.1 (omega (arith, c.loop-i-test.true)) c.code_at-code.ensures) c.in_default.is _ c.fill.ensures

pub returns-then-i-whole : goal.returns-then-i-whole
returns-then-i-whole c =
    row_cut (turn c.loop-i.invariant c.requires.1 (omega (arith, c.loop-i-test.true)) c.code_at-code.ensures) _ c.in-Some.is
    (omega (arith, c.if-i-whole.true)) _ c.put_cut.ensures

pub loop-i-preserved : goal.loop-i-preserved
loop-i-preserved c =
    let next : c.args.first + 12 * (c.loop-i.i + 1) ≡ c.args.first + 12 * c.loop-i.i + 12 = omega arith in
    rw (next, c.next_address-a.ensures)
    (row-drawn (turn c.loop-i.invariant c.requires.1 (omega (arith, c.loop-i-test.true)) c.code_at-code.ensures) _ c.in-Some.is
    (omega (arith, c.loop-i-test.true, c.if-i-whole.false)) _ c.put_twelve.ensures)

pub returns : goal.returns
returns c = row-full _ _ _ _ _ _ _ _ _ _ _ _ c.loop-i.invariant (omega (arith, c.loop-i-test.false))

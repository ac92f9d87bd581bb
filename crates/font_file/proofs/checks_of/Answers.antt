-- `checks_of`: what is summed up and what is left are the payload, modulo 65,536; then comes the heading.
use Prim.Native.Nat.{ℕ, ◌+◌, ◌-◌, ◌*◌, ◌%◌}
use mathlib.Core.Path.{◌≡◌, ap, ◌∙◌}
use mathlib.Core.List.{List, ◌∷◌}
use native.Mathlib.Numerals.{add-one}
use native.Mathlib.Omega.{arith}
use lib.ListN.{get_or, take, drop, length-drop}
use lib.Seq.{drop-cons}
use Rattle.font_file.specs.declared.CheckSums.{CheckSums}
use Rattle.font_file.specs.FontFile.{checked_length, heading_length, sum as whole, weighted_sum, sum_check, weighted_check}
use Rattle.font_file.specs.Columns.{column_count, row_count, column_sum, column_weighted}
use Rattle.font_file.proofs.Columns.{across, column_next, columns-whole}
use Rattle.font_file.proofs.checks_of.Goals as goal

-- a column goes from what is left to what is summed up: whole times 65,536 make no difference
moved : (w x u b y v all : ℕ) → (w + (x + u) + column_count * (b + (y + v))) % 65536 ≡ all
    → ((w + x % 65536) % 65536 + u + column_count * ((b + y) % 65536 + v)) % 65536 ≡ all
moved w x u b y v all e =
    let same : ((w + x % 65536) % 65536 + u + column_count * ((b + y) % 65536 + v)) % 65536 ≡ (w + (x + u) + column_count * (b + (y + v))) % 65536 = omega arith in same ∙ e

pub loop-at-init : goal.loop-at-init
loop-at-init c =
    let block = c.args.block.now in
    let all = columns-whole row_count (heading_length + 1) (drop heading_length block) (omega (arith, length-drop heading_length block)) in
    (omega arith, omega arith)

pub loop-at-preserved : goal.loop-at-preserved
unfolding whole weighted_sum
loop-at-preserved c =
    let l = c.loop-at in
    let block = c.args.block.now in
    let column = c.column_at-column.result in
    let s = column_next column_sum l.at column.sum block (omega arith) (ap (λ (r : CheckSums). r.sum) c.column_at-column.ensures) in
    let w = column_next column_weighted l.at column.weighted block (omega arith) (ap (λ (r : CheckSums). r.weighted) c.column_at-column.ensures) in
    rw (add-one (l.at + 1)) (
      omega (arith, ap whole s),
      moved l.weighted ((l.at + 1) * column.sum) _ l.by_row column.weighted _ _ (rw (s, w) at l.invariant.1),
    )

pub returns : goal.returns
unfolding whole weighted_sum across
returns c =
    let l = c.loop-at in
    let block = c.args.block.now in
    let none : heading_length + column_count - l.at ≡ 0 = omega arith in
    let parts : block ≡ get_or block 0 0 ∷ get_or block 1 0 ∷ get_or block 2 0 ∷ get_or block 3 0 ∷ drop heading_length block =
    rw (← drop-cons block 3 0 (omega arith), ← drop-cons block 2 0 (omega arith), ← drop-cons block 1 0 (omega arith)) (drop-cons block 0 0 (omega arith)) in
    let first = rw none at l.invariant.0 in
    let second = rw none at l.invariant.1 in
    let a = c.from-a.result in
    let b = c.from-b.result in
    let d = c.from-c.result in
    let e = c.from-d.result in
    let s : (l.sum + (a + b + d + e)) % 65536 ≡ sum_check (take checked_length block) = omega (arith, ap (λ (xs : List ℕ). whole (take checked_length xs)) parts) in
    let w : ((l.weighted + column_count * l.by_row % 65536) % 65536 + (a + 2 * b + 3 * d + 4 * e)) % 65536 ≡ weighted_check (take checked_length block) =
    omega (arith, ap (λ (xs : List ℕ). weighted_sum 1 (take checked_length xs)) parts) in
    λ i. record { sum = s i; weighted = w i }

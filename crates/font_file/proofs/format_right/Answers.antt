-- `format_right`: the three tests of `format_right`.
use Prim.Native.Nat.{ℕ, ◌+◌, ◌-◌, ◌≤◌}
use mathlib.Core.Path.{◌≡◌, sym, ap, ◌∙◌}
use mathlib.Core.List.{List}
use native.Mathlib.Omega.{arith}
use borrow.Author.Tests.{eq-eqb, eqb-true}
use lib.ListN.{take, drop}
use Rattle.facts.proofs.Parts.{drop-take}
use Rattle.font_file.specs.FontFile.{checked_length, heading_length, payload_length, all_zero, format_right}
use Rattle.font_file.proofs.format_right.Goals as goal
use Rattle.font_file.proofs.format_right.Goals.{then-word_at-from, else-word_at-from}

unused : (used : ℕ) (block : List ℕ) → used ≤ payload_length
    → take (checked_length - (heading_length + used)) (drop (heading_length + used) block) ≡ drop (heading_length + used) (take checked_length block)
unused used block h =
    let whole : heading_length + used + (checked_length - (heading_length + used)) ≡ checked_length = omega arith in
    sym (drop-take (heading_length + used) (checked_length - (heading_length + used)) block) ∙ ap (λ (n : ℕ). drop (heading_length + used) (take n block)) whole

pub returns-then-word_at-used : goal.returns-then-word_at-used
unfolding format_right
returns-then-word_at-used c =
    let used = c.used_length-used in
    elim c.if-word_at-from.branch [
      | then-word_at-from w ↦
          let number = sym c.word_at.ensures ∙ w.if-word_at-from.true ∙ c.from.ensures in
          let length = sym w.word_at-then-word_at-from.ensures ∙ eqb-true _ _ (sym w.value-is ∙ c.if-word_at-used.true) in
          rw (eq-eqb _ _ number, ← used.ensures.value, eq-eqb _ _ length)
          (c.all_zero.ensures ∙ ap all_zero (unused used.result c.args.block.now used.ensures.upper_bound))
      | else-word_at-from w ↦ absurd (w.if-word_at-from.false (eqb-true _ _ (sym w.value-is ∙ c.if-word_at-used.true)))
    ]

-- `pass_over`: each turn passes a descriptor over (`at_next`), or it begins its strip (`at_here`).
use Prim.Native.Nat.{ℕ, suc, ◌+◌, ◌-◌, ◌<◌}
use mathlib.Core.Path.{◌≡◌, sym, ap, ◌∙◌}
use native.Mathlib.Omega.{arith}
use mathlib.Core.List.{List}
use Rattle.std.specs.Prelude.{Option}
use Rattle.limits.specs.Limits.{ram_pairs}
use Rattle.walk.specs.Walk.{begins_at}
use Rattle.walk.proofs.Laws.{at_next, at_here, at_none}
use Rattle.walk.proofs.pass_over.Goals as goal

-- one more is left
more : (ram : List ℕ) (k a : ℕ) {r : Option ℕ} → k < ram_pairs → begins_at (ram_pairs - k) ram a ≡ r → begins_at (suc (ram_pairs - (k + 1))) ram a ≡ r
more ram k a h e =
    let one : suc (ram_pairs - (k + 1)) ≡ ram_pairs - k = omega arith in
    ap (λ (n : ℕ). begins_at n ram a) one ∙ e

pub returns-then-not-is_passed_over-clause-at : goal.returns-then-not-is_passed_over-clause-at
returns-then-not-is_passed_over-clause-at c =
    let l = c.loop in
    let ram = c.args.ram.now in
    sym (at_here ram _ l.at (sym c.is_passed_over.ensures ∙ c.if-not-is_passed_over.true)) ∙ more ram l.counter l.at c.loop-test.true l.invariant.1

pub loop-preserved : goal.loop-preserved
loop-preserved c =
    let l = c.loop in
    let ram = c.args.ram.now in (
      rw c.next_address-at.ensures (omega arith),
      rw c.next_address-at.ensures
          (sym (at_next ram _ l.at (sym c.is_passed_over.ensures ∙ c.if-not-is_passed_over.false)) ∙ more ram l.counter l.at c.loop-test.true l.invariant.1),
    )

pub returns-clause-at : goal.returns-clause-at
returns-clause-at c =
    let l = c.loop in
    let none : ram_pairs - l.counter ≡ 0 = omega (arith, c.loop-test.false) in
    sym (at_none c.args.ram.now l.at) ∙ rw none at l.invariant.1

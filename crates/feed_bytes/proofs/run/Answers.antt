-- `run`: the tests, then a turn is an event.
use Prim.Native.Nat.{ℕ, ◌+◌, ◌-◌, ◌%◌, ◌<◌}
use mathlib.Core.Path.{◌≡◌, refl, sym, ap, ◌∙◌}
use native.Mathlib.Omega.{arith}
use borrow.Author.Rules.{rules}
use lib.ListN.{set, get_or}
use Rattle.limits.specs.Limits.{address_space}
use Rattle.layout.specs.Layout.{state_number}
use Rattle.feed_bytes.proofs.Runs.{run_first, run_on, in_run, kind_at_lem, kind_before}
use Rattle.feed_bytes.proofs.run.Goals as goal

pub loop-k-init : goal.loop-k-init
loop-k-init g c =
    let m = g.K.EventKind in
    let a = c.args in
    let back : a.i - 1 + 1 ≡ a.i = omega (arith, c.requires.place.behind) in
    let few : c.counter_of-address.result % address_space < address_space = omega arith in (
      refl,
      refl,
      refl,
      omega (arith, back),
      rw back (omega arith),
      omega (arith, back, c.if-i-chunk.false),
      few,
      λ held.
          rw back
          (run_first m.STATE m.KIND m.does m.laws a.device.now a.ram.now a.chunk.now held a.i a.out.now (a.i - a.first)
          (c.counter_of-address.result % address_space) c.requires.device_len.0 c.requires.device_len.1 c.if-i-chunk.false
          (kind_before a.chunk.now held a.i m.KIND c.requires.place.behind (c.if-chunk-i.false ∙ c.KIND.ensures)) few
          (ap (λ (n : ℕ). n % address_space) (sym c.counter_of-address.ensures))
          (c.if-device-state_number.false ∙ c.state_number.ensures ∙ ap state_number c.STATE.ensures)),
    )

pub loop-k-preserved : goal.loop-k-preserved
loop-k-preserved g c =
    let m = g.K.EventKind in
    let a = c.args in
    let l = c.loop-k in
    let o = in_run a.chunk.now a.first a.i l.k c.requires.place.reached l.invariant.3 l.invariant.4 c.loop-k-test.true in
    let n : ℕ = l.k + 1 - a.first in
    let here : get_or a.chunk.now l.k 0 ≡ m.KIND = grind arith in (
      search rules,
      search rules,
      search rules,
      o.forth,
      o.events,
      o.within,
      omega (arith, c.next_address-address.ensures),
      λ held.
          rw c.next_address-address.ensures
          (run_on m.STATE m.KIND m.does m.laws l.device l.ram a.chunk.now held (l.k + 1) l.out n l.address (l.invariant.0 ∙ c.requires.device_len.0) (l.invariant.1 ∙ c.requires.device_len.1)
          o.inside (kind_at_lem a.chunk.now held l.k m.KIND here) l.invariant.6
          c.hear-byte.ensures.device c.hear-byte.ensures.ram
          (λ i. set (set l.out n 1) (o.second i) (c.hear-byte.ensures.answer i)) (omega arith) o.output (l.invariant.7 held)),
    )

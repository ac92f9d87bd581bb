-- `take_events`: a turn is an event, and what is left from the next place on is what was left.
use Prim.Native.Nat.{ℕ, ◌+◌, ◌-◌}
use mathlib.Core.List.{List}
use native.Mathlib.Nat.{le_trans}
use mathlib.Core.Path.{◌≡◌, refl, sym, ap, ◌∙◌}
use native.Mathlib.Omega.{arith}
use borrow.Author.Rules.{rules}
use borrow.Author.Tests.{lt-ltb}
use lib.ListN.{length}
use Rattle.bus.specs.Bus.{bad_kind}
use Rattle.capture.specs.declared.Feed.{Feed}
use Rattle.capture.specs.Places.{from}
use Rattle.capture.proofs.Laws.{from_bad, from_end, held_one}
use Rattle.interface.specs.Interface.{lent, bus_calls}
use Rattle.feed_bytes.specs.Turns.{Place}
use Rattle.feed_bytes.proofs.Feeds.{from-heard, all_taken}
use Rattle.feed_bytes.proofs.Runs.{next_place, goes_on, both_run, two_more}
use Rattle.feed_bytes.proofs.take_events.Goals as goal

pub loop-i-init : goal.loop-i-init
loop-i-init c =
    let a = c.args in
    let first : ℕ = 1 - c.held_bytes-first.result in
    let none : first - first ≡ 0 = omega arith in (
      refl,
      refl,
      refl,
      omega (arith, c.held_bytes-first.ensures, held_one a.feed, c.requires.chunk_in_bounds),
      omega arith,
      omega arith,
      omega arith,
      search rules,
      search rules,
      ap (from bus_calls (lent a.device.now a.ram.now) a.chunk.now c.held_kind-held.result first a.out.now) none,
    )

pub returns-then-kind-gt-STOP : goal.returns-then-kind-gt-STOP
returns-then-kind-gt-STOP c =
    let l = c.loop-i in
    let a = c.args in
    all_taken (lent a.device.now a.ram.now) a.feed a.chunk.now a.out.now _ _ c.held_kind-held.ensures c.held_bytes-first.ensures c.requires.feed_value c.requires.chunk_in_bounds
    (sym (from_bad bus_calls _ a.chunk.now _ l.i l.out _ c.loop-i-test.true (sym (ap bad_kind c.kind_at-kind.ensures) ∙ lt-ltb 3 _ c.if-kind-gt-STOP.true)) ∙ l.invariant.9)

pub run-i-requires-clause-place : goal.run-i-requires-clause-place
run-i-requires-clause-place c =
    let l = c.loop-i in
    next_place c.args.chunk.now l.out _ (1 - c.held_bytes-first.result) l.i _ l.invariant.4 l.invariant.6 l.invariant.3 c.put_output.auto.out (omega arith) (omega arith)

pub run-i-requires-in-loop-i-clause-place : goal.run-i-requires-in-loop-i-clause-place
run-i-requires-in-loop-i-clause-place c =
    let w = c.run-i in
    let l = c.loop-i in
    next_place c.args.chunk.now l.out _ (1 - c.held_bytes-first.result) l.i _ l.invariant.4 l.invariant.6 l.invariant.3
    (w.auto.out ∙ c.put_output.auto.out) w.ensures.forth w.ensures.events

pub loop-i-smaller : goal.loop-i-smaller
loop-i-smaller c =
    goes_on (length c.args.chunk.now) c.loop-i.i _ _ c.loop-i-test.true c.run-i.ensures.forth c.run-i-in-loop-i.ensures.forth

pub loop-i-preserved : goal.loop-i-preserved
loop-i-preserved c =
    let r = c.run-i-in-loop-i in
    let w = c.run-i in
    let b = c.hear-answer in
    let l = c.loop-i in
    let chunk : List ℕ = c.args.chunk.now in
    let first : ℕ = 1 - c.held_bytes-first.result in
    let held : ℕ = c.held_kind-held.result in
    let out = r.auto.out ∙ w.auto.out ∙ c.put_output.auto.out in
    let at : Place chunk r.new.out first r.result = next_place chunk l.out r.new.out first l.i r.result l.invariant.4 l.invariant.6 l.invariant.3 out
    (le_trans w.ensures.forth r.ensures.forth) (both_run (l.i + 2) w.result r.result w.ensures.forth w.ensures.events r.ensures.forth r.ensures.events) in (
      r.auto.device ∙ w.auto.device ∙ b.auto.device ∙ l.invariant.0,
      r.auto.ram ∙ w.auto.ram ∙ b.auto.ram ∙ l.invariant.1,
      out ∙ l.invariant.2,
      at.room,
      at.reached,
      r.ensures.within (w.ensures.within (omega (arith, c.loop-i-test.true))),
      at.events,
      search rules,
      search rules,
      r.ensures.left held
          ∙ w.ensures.left held
          ∙ from-heard l.device l.ram chunk held l.i l.out _ {o = record { device = b.new.device; ram = b.new.ram; answer = b.result }}
          (l.invariant.0 ∙ c.requires.device_len.0) (l.invariant.1 ∙ c.requires.device_len.1) l.invariant.7 l.invariant.8 c.loop-i-test.true
          c.kind_at-kind.ensures c.if-kind-gt-STOP.false c.of_kind.ensures b.ensures c.put_output.ensures (omega arith) (two_more l.i first l.invariant.4)
          ∙ l.invariant.9,
    )

pub returns : goal.returns
returns c =
    let l = c.loop-i in
    let a = c.args in
    let kind : ℕ = c.held_kind-held.result in
    let n : ℕ = l.i - (1 - c.held_bytes-first.result) in
    all_taken (lent a.device.now a.ram.now) a.feed a.chunk.now a.out.now _ _ c.held_kind-held.ensures c.held_bytes-first.ensures c.requires.feed_value c.requires.chunk_in_bounds
    (ap (λ (f : Feed). record { state = lent l.device l.ram; feed = f; out = l.out; written = n }) c.feed_at.ensures
    ∙ sym (from_end bus_calls _ a.chunk.now kind l.i l.out n c.loop-i-test.false)
    ∙ l.invariant.9)

-- `take_events`: each byte by what is held before it; behind the last nothing is left.
use Prim.Native.Nat.{ℕ}
use mathlib.Core.Bool.{true≢false}
use mathlib.Core.Path.{refl, sym, ap, ◌∙◌}
use mathlib.Core.List.{List}
use native.Mathlib.Omega.{arith}
use borrow.Author.Tests.{lt-ltb, le-ltb}
use lib.ListN.{length, get_or, drop, drop_of_length-le}
use Rattle.capture.specs.declared.Feed.{Feed}
use Rattle.capture.specs.Capture.{chip, bus_events, is_shut}
use Rattle.capture.specs.Places.{rest}
use Rattle.capture.proofs.Laws.{rest_end, next_kind, next_bad, room-kind, room-event, next-heard, taken-open, chunk_fed_lem}
use Rattle.capture.proofs.Feed.take_events.Goals as goal
use Rattle.capture.proofs.Feed.take_events.Goals.{in-Open, in-Half+else-kind-gt-STOP, in-Shut}

pub returns-then-kind-gt-STOP : goal.returns-then-kind-gt-STOP
returns-then-kind-gt-STOP c =
    let l = c.loop-byte in
    let a = c.args in
    chunk_fed_lem (chip a.device.now a.ram.now) a.self.now a.chunk.now a.out.now c.requires.chunk_in_bounds
    (sym (next_bad bus_events _ a.chunk.now _ l.out _ c.loop-byte-test.true c.in-Half.kind (lt-ltb 3 _ c.if-kind-gt-STOP.true))
    ∙ ap (λ (f : Feed). rest bus_events (chip l.device l.ram) f (drop l.byte-index a.chunk.now) l.out l.written) (sym c.in-Half.is)
    ∙ l.invariant.2)

pub loop-byte-preserved : goal.loop-byte-preserved
loop-byte-preserved c =
    let l = c.loop-byte in
    let chunk = c.args.chunk.now in
    elim c.match-self.branch [
      | in-Open w ↦
          rw (w.self-is, w.device-is, w.ram-is, w.out-is, w.written-is) (
            refl,
            room-kind l.self (get_or chunk l.byte-index 0) (length chunk) l.byte-index l.written (length l.out) w.in-Open.is c.loop-byte-test.true l.invariant.1 (omega arith),
            next_kind bus_events (chip l.device l.ram) chunk l.byte-index l.out l.written c.loop-byte-test.true (omega arith)
                ∙ ap (λ (f : Feed). rest bus_events (chip l.device l.ram) f (drop l.byte-index chunk) l.out l.written) (sym w.in-Open.is)
                ∙ l.invariant.2,
          )
      | in-Half+else-kind-gt-STOP w ↦ (
        rw w.self-is refl,
        rw (w.self-is, w.written-is)
            (room-event l.self w.in-Half.kind (length chunk) l.byte-index l.written (length l.out) w.in-Half.is c.loop-byte-test.true l.invariant.1 (omega arith) (omega arith)
            (omega (arith, c.match-self.auto.out, l.auto.out))),
        rw (w.self-is, w.device-is, w.ram-is, w.out-is, w.written-is) (next-heard (chip l.device l.ram) chunk l.byte-index w.in-Half.kind l.out l.written c.loop-byte-test.true (le-ltb 3 _ w.if-kind-gt-STOP.false)
            w.hear-answer.ensures w.of_kind.ensures w.put_output.ensures (omega arith) (omega arith)
            ∙ ap (λ (f : Feed). rest bus_events (chip l.device l.ram) f (drop l.byte-index chunk) l.out l.written) (sym w.in-Half.is)
            ∙ l.invariant.2),
      )
      | in-Shut w ↦ absurd (true≢false (sym (ap is_shut w.in-Shut.is) ∙ l.invariant.0))
    ]

pub returns : goal.returns
returns c =
    let l = c.loop-byte in
    let a = c.args in
    (λ j. record { chip = chip l.device l.ram; feed = l.self; out = l.out; reply = taken-open l.self l.written l.invariant.0 j })
    ∙ chunk_fed_lem (chip a.device.now a.ram.now) a.self.now a.chunk.now a.out.now c.requires.chunk_in_bounds
    (sym (ap (λ (xs : List ℕ). rest bus_events (chip l.device l.ram) l.self xs l.out l.written) (drop_of_length-le a.chunk.now {i = l.byte-index} (omega (arith, c.loop-byte-test.false)))
    ∙ rest_end bus_events _ l.self l.out l.written) ∙ l.invariant.2)

-- The proof that a feed is the run of its events (specs/Fed.antt).
-- Assumes nothing.
use Prim.Native.Nat.{ℕ}
use mathlib.Core.Path.{◌≡◌, refl, ap, ◌∙◌}
use mathlib.Core.List.{List, [], ◌∷◌, ◌++◌, map}
use lib.ListN.{length, drop}
use Rattle.runs.specs.Runs.{Entry, log, end}
use Rattle.refusals.specs.Refusals.{Reply, refused, Verdict, passed, failed}
use Rattle.bus.specs.declared.Event.{Event}
use Rattle.capture.specs.declared.Feed.{Feed}
use Rattle.capture.specs.Capture.{Logged, finished, feed_after, output_of, outputs, output_from, bus_events, feed_verdict, taken_reply, FeedOutcome, chunk_fed, feed_by, events_by, feed_chunk}
use Rattle.capture.proofs.Laws.{by_verdict, taken-value}
use Rattle.calls.specs.Calls.{feed, Answer}
use Rattle.calls.specs.OnePage.{State, chip_of, events, make, answer, after, heard_as, fed_by}
use Rattle.calls.specs.Fed.{FedAreBusEvents}

-- ---- fed events, and the bus events that they are

-- both leave the same
same-chip : (s : State) (es : List Logged) → end bus_events (chip_of s) es ≡ chip_of (end events s (map heard_as es))
unfolding end
same-chip s [] = refl
same-chip s (x ∷ es) = same-chip (events.after s (heard_as x)) es

-- and the bytes that are written are those of the replies
same_bytes : (s : State) (es : List Logged) → output_from bus_events (chip_of s) es ≡ outputs (log events s (map heard_as es))
unfolding log outputs
same_bytes s [] = refl
same_bytes s (x ∷ es) = ap (λ (l : List ℕ). output_of (bus_events.answer (chip_of s) x) ++ l) (same_bytes (events.after s (heard_as x)) es)

-- ---- a feed, by what its tests find

abbrev pub with_feed : Feed → State → State
with_feed f u = record { device = u.device; ram = u.ram; feed = f }

module _ (s : State) (chunk out : List ℕ) where
  abbrev pub found : Verdict
  found = feed_verdict s.feed (length s.ram) (length chunk) (length out)

  -- its events
  abbrev heard_by : Verdict → List Event
  heard_by v = map heard_as (events_by v s.feed chunk)

  -- the feed that it leaves
  abbrev pub left_by_lem : Verdict → Feed
  left_by_lem passed = feed_after s.feed chunk
  left_by_lem (failed r) = s.feed

  -- its reply, with so many bytes written
  abbrev reply_by : Verdict → ℕ → Reply
  reply_by passed n = taken_reply (feed_after s.feed chunk) n
  reply_by (failed r) n = refused r

  -- what it comes to, by the state that its events leave and by their answers
  abbrev outcome_by : Verdict → State → List (Entry Event Reply) → FeedOutcome
  outcome_by v u l =
      let written : List ℕ = outputs l in
      record { chip = chip_of u; feed = left_by_lem v; out = written ++ drop (length written) out; reply = reply_by v (length written) }

  -- that is what a feed of the chunk comes to
  fed_by_lem : feed_chunk (chip_of s) s.feed chunk out
      ≡ outcome_by found (end events s (fed_by s chunk out)) (log events s (fed_by s chunk out))
  unfolding feed_chunk feed_by chunk_fed events_by end log outputs
  fed_by_lem = by found
    where
      es : List Logged
      es = finished s.feed chunk

      by : (v : Verdict) → feed_by v (chip_of s) s.feed chunk out ≡ outcome_by v (end events s (heard_by v)) (log events s (heard_by v))
      by passed =
          λ i.
          let written : List ℕ = same_bytes s es i in
          record {
            chip = same-chip s es i;
            feed = feed_after s.feed chunk;
            out = written ++ drop (length written) out;
            reply = taken_reply (feed_after s.feed chunk) (length written);
          }
      by (failed r) = refl

  -- as a call it leaves what its events leave, but for the feed
  pub fed_after : (font : List ℕ) → after font s (feed chunk out) ≡ with_feed (left_by_lem found) (end events s (fed_by s chunk out))
  unfolding make
  fed_after font = ap (λ (o : FeedOutcome). record { device = o.chip.device; ram = o.chip.ram; feed = o.feed }) fed_by_lem

  -- and its answer is made of theirs
  abbrev pub told : List (Entry Event Reply) → Answer Reply
  told l = let o : FeedOutcome = outcome_by found s l in record { reply = o.reply; buffer = o.out }

  pub fed_answer : (font : List ℕ) → answer font s (feed chunk out) ≡ told (log events s (fed_by s chunk out))
  unfolding make
  fed_answer font = ap (λ (o : FeedOutcome). record { reply = o.reply; buffer = o.out }) fed_by_lem

  -- whatever its tests find, the value is the number of bytes written
  value_by : let n : ℕ = length (outputs (log events s (fed_by s chunk out))) in (reply_by found n).value ≡ n
  unfolding events_by log outputs
  value_by =
      by_verdict P s.feed (length s.ram) (length chunk) (length out) refl (λ shut. refl) refl (λ takes. taken-value (feed_after s.feed chunk) _)
    where
      P : Verdict → Type 0
      P v = let n : ℕ = length (outputs (log events s (heard_by v))) in (reply_by v n).value ≡ n

-- ---- the claim

pub fed_are_bus-events : FedAreBusEvents
fed_are_bus-events s chunk out =
    let e = fed_by_lem s chunk out in
    record {
      device = ap (λ (o : FeedOutcome). o.chip.device) e;
      ram = ap (λ (o : FeedOutcome). o.chip.ram) e;
      output = ap (λ (o : FeedOutcome). o.out) e;
      value = ap (λ (o : FeedOutcome). o.reply.value) e ∙ value_by s chunk out;
    }

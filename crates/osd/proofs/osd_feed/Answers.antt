-- `osd_feed`: the interface's own tests, then what the feed's tests find, pick the case of `feed_on`.
use mathlib.Core.Path.{sym, ap, ◌∙◌}
use native.Mathlib.Nat.{not-le_of_lt}
use lib.ListN.{length}
use Rattle.capture.specs.declared.Feed.{Feed}
use Rattle.capture.specs.Capture.{feed_verdict, verdict_in, play_chunk}
use Rattle.capture.proofs.Laws.{passed_takes}
use Rattle.interface.specs.Interface.{lent, bus_calls}
use Rattle.interface.proofs.Laws.{feed-not}
use Rattle.feed_bytes.proofs.Feeds.{feed-refused, feed-taken}
use Rattle.osd.proofs.osd_feed.Goals as goal

pub returns-then-device-ne-DEVICE_LENGTH : goal.returns-then-device-ne-DEVICE_LENGTH
returns-then-device-ne-DEVICE_LENGTH c = feed-not _ _ _ _ _ (λ h k l. c.if-device-ne-DEVICE_LENGTH.true h)

pub returns-then-feed-ne-FEED_LENGTH : goal.returns-then-feed-ne-FEED_LENGTH
returns-then-feed-ne-FEED_LENGTH c = feed-not _ _ _ _ _ (λ h k l. c.if-feed-ne-FEED_LENGTH.true k)

pub returns-then-chunk-gt-CHUNK_MAX : goal.returns-then-chunk-gt-CHUNK_MAX
returns-then-chunk-gt-CHUNK_MAX c = feed-not _ _ _ _ _ (λ h k l. not-le_of_lt c.if-chunk-gt-CHUNK_MAX.true l)

pub take_events-taken-requires-clause-device_len : goal.take_events-taken-requires-clause-device_len
take_events-taken-requires-clause-device_len c =
    let t = passed_takes _ _ _ _ (sym c.test.ensures ∙ ap verdict_in c.in-Ok.is) in
    (c.if-device-ne-DEVICE_LENGTH.false, t.ram-length, c.if-chunk-gt-CHUNK_MAX.false)

pub take_events-taken-requires-clause-feed_value : goal.take_events-taken-requires-clause-feed_value
take_events-taken-requires-clause-feed_value c =
    let t = passed_takes _ _ _ _ (sym c.test.ensures ∙ ap verdict_in c.in-Ok.is) in
    t.not_shut

pub take_events-taken-requires-clause-chunk_in_bounds : goal.take_events-taken-requires-clause-chunk_in_bounds
take_events-taken-requires-clause-chunk_in_bounds c =
    let t = passed_takes _ _ _ _ (sym c.test.ensures ∙ ap verdict_in c.in-Ok.is) in
    t.room

pub returns-in-Ok : goal.returns-in-Ok
returns-in-Ok c =
    let a = c.args in
    feed-taken _ _ _ _ _ c.if-device-ne-DEVICE_LENGTH.false c.if-feed-ne-FEED_LENGTH.false c.if-chunk-gt-CHUNK_MAX.false
    (ap (λ (f : Feed). feed_verdict f (length a.ram.now) (length a.chunk.now) (length a.out.now)) (sym c.feed_in-before.ensures)
    ∙ sym c.test.ensures ∙ ap verdict_in c.in-Ok.is)
    (c.take_events-taken.ensures ∙ ap (λ (f : Feed). play_chunk bus_calls (lent a.device.now a.ram.now) f a.chunk.now a.out.now) c.feed_in-before.ensures)
    c.write_feed.ensures c.fed.ensures

pub returns-in-Err : goal.returns-in-Err
returns-in-Err c =
    let a = c.args in
    feed-refused _ _ _ _ _ c.if-device-ne-DEVICE_LENGTH.false c.if-feed-ne-FEED_LENGTH.false c.if-chunk-gt-CHUNK_MAX.false
    (ap (λ (f : Feed). feed_verdict f (length a.ram.now) (length a.chunk.now) (length a.out.now)) (sym c.feed_in-before.ensures)
    ∙ sym c.test.ensures ∙ ap verdict_in c.in-Err.is)
    c.refuse.ensures

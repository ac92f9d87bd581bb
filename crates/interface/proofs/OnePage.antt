-- The proof of condition 3 over bytes (specs/OnePage.antt). A call that is taken answers and leaves what the device's call does, on the
-- records that the bytes are read as; one that is not taken changes nothing. And a bus call writes other bytes than a draw does, and so
-- do the events of a feed.
-- Assumes nothing.
use Prim.Native.Nat.{ℕ, ◌≤◌}
use mathlib.Core.Path.{◌≡◌, refl, sym, ap, ap₂, ◌∙◌, subst}
use mathlib.Core.Bool.{Bool, true, false, not, cond, ◌&&◌, true≢false}
use mathlib.Core.List.{List, [], ◌∷◌, map}
use native.Mathlib.Omega.{arith}
use borrow.Author.Tests.{eqb-true, eqb-false}
use lib.Dec.{eqb, ltb}
use lib.ListN.{length, set}
use Rattle.facts.proofs.Choice.{by_test}
use Rattle.runs.specs.Runs.{AsMade}
use Rattle.runs.proofs.Laws.{as_made-map, kept_by_each, end_read, Apart, reordered}
use Rattle.refusals.specs.Refusals.{Reply, accepted, Verdict, passed, failed}
use Rattle.bus.specs.Bus.{BusOutcome, bus_event}
use Rattle.device.specs.declared.Device.{Device}
use Rattle.device.specs.Device.{hear_event, DrawOutcome, draw_line, line_on, line_drawn, ask_cell}
use Rattle.device.proofs.Laws.{by_draw}
use Rattle.capture.specs.declared.Feed.{Feed}
use Rattle.capture.specs.Capture.{Logged, finished, feed_after, Chip, events_by}
use Rattle.calls.specs.Calls.{Call, draw, ask, event, feed, anew, pixel, Answer, is_event, bus_events_of, QuietChange, is_draw}
use Rattle.calls.specs.OnePage as device
use Rattle.calls.specs.OnePage.{heard_as}
use Rattle.calls.proofs.Calls.{View, draws, asks, acts, view}
use Rattle.calls.proofs.Quiet.{quiet-kept, quiet_if_write, quiet-events}
use Rattle.calls.proofs.OnePage.{late, same-draw, apart, still_unread}
use Rattle.layout.specs.Layout.{bus_at, registers_at, registers_length, frame_at, record_length, put, state_number, bus_bytes, frame_bytes, device_in}
use Rattle.layout.specs.FeedLayout.{feed_length, feed_bytes, feed_in}
use Rattle.facts.proofs.Parts.{sets_comm}
use Rattle.interface.specs.Interface.{answer_of, answer_not_taken, is_record, BusDone, heard_on, bus_on, DrawDone, drawn_on, draw_on, cell_on, pixel_on, feed_fresh_on, chunk_max, ChipBytes, bus_calls, FeedDone, chunk_fed_on, fed_on_by, verdict_on, feed_on, fed_events_on}
use Rattle.interface.specs.OnePage.{State, lent_in, make, answer, after, calls, fed_by, EachEvent, Quiet, QuietWrite, QuietRun, chip_in, reads, heard, OnePageBytes, QuietBytes, NoStaysBytes}
use Rattle.interface.proofs.Laws.{if_taken, both_tests, feed_tests, bus-is, draw-is}
use Rattle.interface.proofs.Crossing.{heard-sixteen, Taken, taken_back, all-taken, crossing}

-- ---- calls that are taken

-- by the lengths of the two records' buffers: what is not taken is refused with 255
unfoldable pub taken : (device feed : ℕ) → Call Logged → Bool
taken n k (draw line) = eqb n record_length
taken n k (ask cell) = eqb n record_length
taken n k (event x) = eqb n record_length && not (ltb 3 x.kind)
taken n k (feed chunk out) = eqb n record_length && (eqb k feed_length && not (ltb chunk_max (length chunk)))
taken n k anew = eqb k feed_length
taken n k (pixel lines frame x y) = eqb n record_length

abbrev pub taken_at : State → Call Logged → Bool
taken_at s c = taken (length s.device) (length s.feed) c

bus-taken : (s : State) (x : Logged) → taken_at s (event x) ≡ true → Taken (lent_in s) x
unfolding taken
bus-taken s x t = both_tests (length s.device) record_length x.kind 3 t

feed-taken : (s : State) (chunk out : List ℕ) → taken_at s (feed chunk out) ≡ true
    → (length s.device ≡ record_length) × (length s.feed ≡ feed_length) × (length chunk ≤ chunk_max)
unfolding taken
feed-taken s chunk out t = feed_tests s.device s.feed chunk t

-- the buffers keep their lengths, so what is taken stays so
pub same_length : (font : List ℕ) (s : State) (c : Call Logged)
    → (length (after font s c).device ≡ length s.device) × (length (after font s c).feed ≡ length s.feed)
unfolding make
same_length font s (draw line) = ((crossing.length-draw s.device s.ram font line).0, refl)
same_length font s (ask cell) = (refl, refl)
same_length font s (event x) = ((crossing.length-bus s.device s.ram x.kind x.byte).0, refl)
same_length font s (feed chunk out) = let l = crossing.length-feed s.device s.feed s.ram chunk out in (l.0, l.1)
same_length font s anew = (refl, crossing.length-feed-fresh s.feed)
same_length font s (pixel lines frame x y) = (refl, refl)

still_taken : (font : List ℕ) (s : State) (c d : Call Logged) → taken_at (after font s c) d ≡ taken_at s d
still_taken font s c d = let l = same_length font s c in ap₂ (λ (n k : ℕ). taken n k d) l.0 l.1

-- the buffer that a call may write, at entry
unfoldable pub buffer_of : Call Logged → List ℕ
buffer_of (draw line) = line
buffer_of (ask cell) = []
buffer_of (event x) = []
buffer_of (feed chunk out) = out
buffer_of anew = []
buffer_of (pixel lines frame x y) = []

-- a call that is not taken changes nothing
pub record Untouched (font : List ℕ) (s : State) (c : Call Logged) : Type 0 where
  pub state : after font s c ≡ s
  pub answers : answer font s c ≡ record { reply = answer_not_taken; buffer = buffer_of c }

pub untouched : (font : List ℕ) (s : State) (c : Call Logged) → taken_at s c ≡ false → Untouched font s c
unfolding taken buffer_of make draw_on cell_on pixel_on bus_on feed_on feed_fresh_on
untouched font s (draw line) t = record { state = rw t; answers = rw t }
untouched font s (ask cell) t = record { state = refl; answers = rw t }
untouched font s (event x) t = record { state = rw t; answers = rw t }
untouched font s (feed chunk out) t = record { state = rw t; answers = rw t }
untouched font s anew t = record { state = rw t; answers = rw t }
untouched font s (pixel lines frame x y) t = record { state = refl; answers = rw t }

-- ---- a call that is taken is the device's call

-- the device's state that bytes and a feed are read as
abbrev read_as : Feed → ChipBytes → device.State
read_as f l = record { device = device_in l.device; ram = l.ram; feed = f }

abbrev pub in_bytes : Answer Reply → Answer ℕ
in_bytes a = record { reply = answer_of a.reply; buffer = a.buffer }

-- a bus call that is taken leaves what the device's event leaves
event-read : (f : Feed) (l : ChipBytes) (x : Logged) → Taken l x → read_as f (bus_calls.after l x) ≡ (device.events).after (read_as f l) (heard_as x)
event-read f l x t = ap (λ (c : Chip). record { device = c.device; ram = c.ram; feed = f }) (taken_back l x t)

-- the events of a feed are taken, whatever its tests find
made-taken : (v : Verdict) (f : Feed) (chunk : List ℕ) (l : ChipBytes) → length l.device ≡ record_length → AsMade Taken bus_calls l (events_by v f chunk)
unfolding events_by AsMade
made-taken passed f chunk l h = all-taken f chunk l h
made-taken (failed r) f chunk l h = tt

-- what it leaves and answers; the bus calls that it makes are the device's events, and each is taken
pub record Carried (font : List ℕ) (s : State) (c : Call Logged) : Type 0 where
  pub state : reads (after font s c) ≡ device.after font (reads s) (heard c)
  pub answers : answer font s c ≡ in_bytes (device.answer font (reads s) (heard c))
  pub events : bus_events_of (device.fed_by (reads s)) (heard c) ≡ map heard_as (bus_events_of (fed_by s) c)
  pub each : EachEvent Taken s c

pub carried : (font : List ℕ) (s : State) (c : Call Logged) → taken_at s c ≡ true → Carried font s c
unfolding taken reads heard make device.make bus_events_of fed_events_on AsMade
carried font s (draw line) t =
    let d = crossing.draw s.device s.ram font line (eqb-true _ _ t) in
    record {
      state = λ i. record { device = d.0 i; ram = s.ram; feed = feed_in s.feed };
      answers = λ i. record { reply = d.2 i; buffer = d.1 i };
      events = refl;
      each = tt;
    }
carried font s (ask cell) t =
    let r = crossing.cell s.device s.ram cell (eqb-true _ _ t) in
    record { state = refl; answers = λ i. record { reply = r i; buffer = [] }; events = refl; each = tt }
carried font s (event x) t =
    let h = bus-taken s x t in
    let r = (crossing.bus s.device s.ram x.kind x.byte h.0 h.1).2 in
    record {
      state = event-read (feed_in s.feed) (lent_in s) x h;
      answers = λ i. record { reply = r i; buffer = [] };
      events = refl;
      each = (h, tt);
    }
carried font s (feed chunk out) t =
    let h = feed-taken s chunk out t in
    let f = crossing.feed s.device s.feed s.ram chunk out h.0 h.1 h.2 in
    record {
      state = λ i. record { device = f.0 i; ram = f.2 i; feed = f.1 i };
      answers = λ i. record { reply = f.4 i; buffer = f.3 i };
      events = rw t;
      each = rw t (made-taken (verdict_on s.feed s.ram chunk out) (feed_in s.feed) chunk (lent_in s) h.0);
    }
carried font s anew t =
    let f = crossing.feed-fresh s.feed (eqb-true _ _ t) in
    record {
      state = λ i. record { device = device_in s.device; ram = s.ram; feed = f.0 i };
      answers = λ i. record { reply = f.1 i; buffer = [] };
      events = refl;
      each = tt;
    }
carried font s (pixel lines frame x y) t =
    let r = crossing.pixel s.device s.ram font lines frame x y (eqb-true _ _ t) in
    record { state = refl; answers = λ i. record { reply = r i; buffer = [] }; events = refl; each = tt }

-- one after another
twice : (font : List ℕ) (s : State) (c d : Call Logged) → taken_at s c ≡ true → taken_at s d ≡ true
    → answer font (after font s c) d ≡ in_bytes (device.answer font (device.after font (reads s) (heard c)) (heard d))
twice font s c d t u =
    (carried font (after font s c) d (still_taken font s c d ∙ u)).answers
    ∙ ap (λ (v : device.State). in_bytes (device.answer font v (heard d))) (carried font s c t).state

-- ---- quiet, of the device's events

QuietTaken : State → Call Logged → Type 0
QuietTaken s c = taken_at s c ≡ true → device.EachEvent device.Quiet (reads s) (heard c)

-- events as they are made, quiet as the device's
QuietEvents : List Logged → device.State → Type 0
QuietEvents es u = AsMade device.Quiet device.events u (map heard_as es)

events-quiet : (f : Feed) (l : ChipBytes) (es : List Logged) → AsMade Taken bus_calls l es → AsMade QuietWrite bus_calls l es → QuietEvents es (read_as f l)
unfolding AsMade QuietEvents
events-quiet f l [] t h = tt
events-quiet f l (x ∷ es) t h = (
  quiet_if_write (read_as f l) (heard_as x) (λ w. subst (QuietChange (chip_in l)) (taken_back l x t.0) (h.0 (t.0.0, t.0.1, w))),
  subst (QuietEvents es) (event-read f l x t.0) (events-quiet f (bus_calls.after l x) es t.1 h.1),
)

-- a fed event that a bus call takes, quiet as the device's
abbrev QuietEvent : Feed → ChipBytes → Logged → Type 0
QuietEvent f l x = Taken l x × device.Quiet (read_as f l) (heard_as x)

events-lent : (f : Feed) (l : ChipBytes) (es : List Logged) → AsMade Taken bus_calls l es → QuietEvents es (read_as f l) → AsMade (QuietEvent f) bus_calls l es
unfolding AsMade QuietEvents
events-lent f l [] t q = tt
events-lent f l (x ∷ es) t q =
    ((t.0, q.0), events-lent f (bus_calls.after l x) es t.1 (subst (QuietEvents es) (sym (event-read f l x t.0)) q.1))

quiet-taken : (font : List ℕ) (s : State) (c : Call Logged) → EachEvent QuietWrite s c → QuietTaken s c
unfolding QuietTaken QuietEvents reads
quiet-taken font s c h t =
    let e = carried font s c t in
    rw e.events (events-quiet (feed_in s.feed) (lent_in s) (bus_events_of (fed_by s) c) e.each h)

quiet-run : (font : List ℕ) (s : State) (cs : List (Call Logged)) → QuietRun font s cs → AsMade QuietTaken (calls font) s cs
quiet-run font s cs q = as_made-map (EachEvent QuietWrite) QuietTaken (calls font) (quiet-taken font) s cs q

-- ---- the bytes: a bus call writes those of bus and registers, a draw those of the frame

-- whatever the event and the draw come to
apart-bytes : (xs : List ℕ) (o : BusOutcome) (d : DrawOutcome) → length o.registers.bytes ≡ registers_length
    → (drawn_on (heard_on xs o).device d).device ≡ (heard_on (drawn_on xs d).device o).device
unfolding drawn_on heard_on
apart-bytes xs o d k =
    by (eqb d.reply.refusal 0) (eqb o.reply.refusal 0) (eqb (state_number o.bus.state) 1)
  where
    frame : List ℕ
    frame = frame_bytes d.device.frame

    heard_by : Bool → Bool → List ℕ → List ℕ
    heard_by p q l = cond p (put bus_at (bus_bytes o.bus) (put registers_at o.registers.bytes l)) (cond q (set l bus_at 1) l)

    by : (t p q : Bool) → cond t (put frame_at frame (heard_by p q xs)) (heard_by p q xs) ≡ heard_by p q (cond t (put frame_at frame xs) xs)
    by false p q = refl
    by true true q =
        sets_comm (put registers_at o.registers.bytes xs) (bus_bytes o.bus) frame bus_at frame_at (omega arith)
        ∙ ap (put bus_at (bus_bytes o.bus)) (sets_comm xs o.registers.bytes frame registers_at frame_at (omega arith))
    by true false true = sets_comm xs (1 ∷ []) frame bus_at frame_at (omega arith)
    by true false false = refl

-- what an event comes to, and what it and a draw leave of what is lent
abbrev heard_at : Device → List ℕ → Logged → BusOutcome
heard_at d ram x = bus_event d.bus d.registers ram (heard_as x)

abbrev heard_lent : List ℕ → BusOutcome → ChipBytes
heard_lent xs o = record { device = (heard_on xs o).device; ram = o.ram }

abbrev drawn_lent : ChipBytes → DrawOutcome → ChipBytes
drawn_lent l d = record { device = (drawn_on l.device d).device; ram = l.ram }

heard-lent : (l : ChipBytes) (x : Logged) → Taken l x → heard_lent l.device (heard_at (device_in l.device) l.ram x) ≡ bus_calls.after l x
unfolding heard_on
heard-lent l x t = ap (λ (r : BusDone). record { device = r.device; ram = r.ram }) (bus-is l.device l.ram x.kind x.byte t.0 t.1)

module _ (font line : List ℕ) where
  -- what is lent, after a draw
  abbrev draw_lent : ChipBytes → ChipBytes
  draw_lent l = record { device = (draw_on l.device l.ram font line).device; ram = l.ram }

  drawn-lent : (l : ChipBytes) → length l.device ≡ record_length → drawn_lent l (draw_line (device_in l.device) l.ram font line) ≡ draw_lent l
  drawn-lent l h = ap (λ (r : DrawDone). record { device = r.device; ram = l.ram }) (draw-is l.device h l.ram font line)

  module _ (l : ChipBytes) (x : Logged) (t : Taken l x) where
    -- the event after the draw comes to the same
    heard_late : heard_at (device_in (draw_lent l).device) l.ram x ≡ heard_at (device_in l.device) l.ram x
    heard_late =
        ap (λ (d : Device). heard_at d l.ram x) (crossing.draw l.device l.ram font line t.0).0
        ∙ by_draw (device_in l.device) l.ram font line (λ (o : DrawOutcome). heard_at o.device l.ram x ≡ heard_at (device_in l.device) l.ram x)
        (λ r. refl) (unfold line_drawn line_on in λ r. refl)

    -- the draw after the quiet event draws the same; so the bytes are the same
    same-lent : (f : Feed) → device.Quiet (read_as f l) (heard_as x) → draw_lent (bus_calls.after l x) ≡ bus_calls.after (draw_lent l) x
    unfolding late drawn_on hear_event
    same-lent f q =
        let e = heard_as x in
        let o : BusOutcome = heard_at (device_in l.device) l.ram x in
        let d : DrawOutcome = draw_line (device_in l.device) l.ram font line in
        sym (drawn-lent (bus_calls.after l x) ((crossing.length-bus l.device l.ram x.kind x.byte).0 ∙ t.0))
        ∙ ap₂ drawn_lent (sym (heard-lent l x t))
        (ap (λ (c : Chip). draw_line c.device c.ram font line) (taken_back l x t) ∙ same-draw (device_in l.device) l.ram e q.settings q.cells font line)
        ∙ ap (λ (b : List ℕ). record { device = b; ram = o.ram }) (apart-bytes l.device o d (heard-sixteen l.device l.ram e t.0))
        ∙ ap₂ heard_lent (ap (λ (u : ChipBytes). u.device) (drawn-lent l t.0)) (sym heard_late)
        ∙ heard-lent (draw_lent l) x ((crossing.length-draw l.device l.ram font line).0 ∙ t.0, t.1)

-- ---- a feed and a draw

-- the draw after the feed's events, or before them; the feed's record is written alike
fed_late : (font : List ℕ) (s : State) (chunk out line : List ℕ) → taken_at s (feed chunk out) ≡ true
    → device.EachEvent device.Quiet (reads s) (feed chunk out)
    → after font (after font s (feed chunk out)) (draw line) ≡ after font (after font s (draw line)) (feed chunk out)
unfolding taken QuietEvents bus_events_of make reads feed_on fed_on_by chunk_fed_on events_by
fed_late font s chunk out line t q = rw (t, still_taken font s (draw line) (feed chunk out) ∙ t) (by (verdict_on s.feed s.ram chunk out) q)
  where
    f : Feed
    f = feed_in s.feed

    left : FeedDone → State
    left r = record { device = r.device; ram = r.ram; feed = r.feed }

    by : (v : Verdict) → QuietEvents (events_by v f chunk) (reads s)
        → after font (left (fed_on_by v s.device s.feed s.ram chunk out)) (draw line)
        ≡ left (fed_on_by v (draw_lent font line (lent_in s)).device s.feed s.ram chunk out)
    by passed q =
        let e = end_read (QuietEvent f) bus_calls bus_calls (draw_lent font line) (λ l x t. same-lent font line l x t.0 f t.1) (lent_in s) (finished f chunk)
        (events-lent f (lent_in s) (finished f chunk) (all-taken f chunk (lent_in s) (feed-taken s chunk out t).0) q) in
        λ i. record { device = (e i).device; ram = (e i).ram; feed = feed_bytes (feed_after f chunk) }
    by (failed r) q = refl

-- ---- condition 3

-- a call that the second run makes last, and a draw: the bytes are the same either way
draw_late : (font : List ℕ) (s : State) (e : Call Logged) (line : List ℕ) → is_event e ≡ true → taken_at s e ≡ true
    → device.EachEvent device.Quiet (reads s) (heard e) → after font (after font s e) (draw line) ≡ after font (after font s (draw line)) e
unfolding is_event heard
draw_late font s (draw other) line p t q = absurd (true≢false (sym p))
draw_late font s (ask cell) line p t q = absurd (true≢false (sym p))
draw_late font s (event x) line p t q = unfold make reads bus_events_of AsMade in
    let l = same-lent font line (lent_in s) x (bus-taken s x t) (feed_in s.feed) q.0 in
    λ i. record { device = (l i).device; ram = (l i).ram; feed = s.feed }
draw_late font s (feed chunk out) line p t q = fed_late font s chunk out line t q
draw_late font s anew line p t q = unfold make in refl
draw_late font s (pixel lines frame x y) line p t q = unfold make in refl

-- the device's call is of the same kind
pub same_kind : (c : Call Logged) → (is_event (heard c) ≡ is_event c) × (is_draw (heard c) ≡ is_draw c)
unfolding is_event is_draw heard
same_kind (draw line) = (refl, refl)
same_kind (ask cell) = (refl, refl)
same_kind (event x) = (refl, refl)
same_kind (feed chunk out) = (refl, refl)
same_kind anew = (refl, refl)
same_kind (pixel lines frame x y) = (refl, refl)

module _ (font : List ℕ) (s : State) (e c : Call Logged) (p : is_event e ≡ true) (o : is_event c ≡ false) (q : QuietTaken s e) where
  either_way : {c : Call Logged} → View c → is_event c ≡ false → taken_at s e ≡ true → after font (after font s e) c ≡ after font (after font s c) e
  unfolding QuietTaken
  either_way (draws line) o t = draw_late font s e line p t (q t)
  either_way (asks cell) o t = unfold make in refl
  either_way (acts a d) o t = absurd (true≢false (sym a ∙ o))

  -- two calls that are taken, by the device's two calls; the bytes are the same as well
  apart-taken : taken_at s e ≡ true → taken_at s c ≡ true → Apart QuietTaken (calls font) (calls font) s e c
  unfolding QuietTaken
  apart-taken t u =
      let a = apart font (reads s) (heard e) (heard c) ((same_kind e).0 ∙ p) ((same_kind c).0 ∙ o) (q t) in
      record {
        other = twice font s e c t u ∙ ap in_bytes a.other ∙ sym (carried font s c u).answers;
        own = twice font s c e u t ∙ ap in_bytes a.own ∙ sym (carried font s e t).answers;
        either_way = either_way (view c) o t;
        still = λ _. subst (λ (v : device.State). device.EachEvent device.Quiet v (heard e)) (sym (carried font s c u).state) a.still;
      }

  -- a call that is not taken is not taken after the other one either
  apart-not-event : taken_at s e ≡ false → Apart QuietTaken (calls font) (calls font) s e c
  unfolding QuietTaken
  apart-not-event n =
      let n' : taken_at (after font s c) e ≡ false = still_taken font s c e ∙ n in
      let first : Untouched font s e = untouched font s e n in
      let last : Untouched font (after font s c) e = untouched font (after font s c) e n' in
      record {
        other = ap (λ (v : State). answer font v c) first.state;
        own = last.answers ∙ sym first.answers;
        either_way = ap (λ (v : State). after font v c) first.state ∙ sym last.state;
        still = λ t. absurd (true≢false (sym t ∙ n'));
      }

  apart-not_other : taken_at s c ≡ false → Apart QuietTaken (calls font) (calls font) s e c
  apart-not_other n =
      let first : Untouched font s c = untouched font s c n in
      let last : Untouched font (after font s e) c = untouched font (after font s e) c (still_taken font s e c ∙ n) in
      record {
        other = last.answers ∙ sym first.answers;
        own = ap (λ (v : State). answer font v e) first.state;
        either_way = last.state ∙ ap (λ (v : State). after font v e) (sym first.state);
        still = subst (λ (v : State). QuietTaken v e) (sym first.state) q;
      }

  apart-calls : Apart QuietTaken (calls font) (calls font) s e c
  apart-calls = by_test (taken_at s e) (λ t. by_test (taken_at s c) (apart-taken t) apart-not_other) apart-not-event

pub one-page-bytes : OnePageBytes
one-page-bytes font s cs q = reordered QuietTaken (calls font) (apart-calls font) s cs (quiet-run font s cs q)

-- ---- a no of the cell question

-- the answer 0 is that of a device's record, and says no
zero-long : (xs ram : List ℕ) (cell : ℕ) → cell_on xs ram cell ≡ 0 → length xs ≡ record_length
unfolding cell_on
zero-long xs ram cell =
    if_taken (λ (n : ℕ). n ≡ 0 → length xs ≡ record_length) (is_record xs) _ answer_not_taken (λ t e. eqb-true _ _ t) (λ e. absurd (eqb-false answer_not_taken 0 refl e))

zero_no : (xs ram : List ℕ) (cell : ℕ) → cell_on xs ram cell ≡ 0 → ask_cell (device_in xs) ram cell ≡ accepted 0
zero_no xs ram cell n = by _ (sym (crossing.cell xs ram cell (zero-long xs ram cell n)) ∙ n)
  where
    by : (r : Reply) → answer_of r ≡ 0 → r ≡ accepted 0
    by r e = let p : r.refusal ≡ 0 = omega arith in let q : r.value ≡ 0 = omega arith in λ i. record { refusal = p i; value = q i }

-- it stays a no
still_no : (font : List ℕ) (cell : ℕ) (s : State) (c : Call Logged) → QuietTaken s c → cell_on s.device s.ram cell ≡ 0
    → cell_on (after font s c).device (after font s c).ram cell ≡ 0
unfolding QuietTaken reads
still_no font cell s c q n =
    by_test (taken_at s c)
    (λ t.
    crossing.cell _ _ cell ((same_length font s c).0 ∙ zero-long s.device s.ram cell n)
    ∙ ap (λ (v : device.State). answer_of (ask_cell v.device v.ram cell)) (carried font s c t).state
    ∙ ap answer_of (still_unread font cell (reads s) (heard c) (q t) (zero_no s.device s.ram cell n)))
    (λ t. rw (untouched font s c t).state n)

pub no_stays_bytes : NoStaysBytes
no_stays_bytes font s cs cell q n =
    kept_by_each QuietTaken (calls font) (λ (u : State). cell_on u.device u.ram cell ≡ 0) (still_no font cell) s cs (quiet-run font s cs q) n

-- ---- which bus calls are quiet

-- one that is not taken is
if_taken-quiet : (s : State) (x : Logged) → (Taken (lent_in s) x → Quiet (lent_in s) x) → Quiet (lent_in s) x
unfolding make
if_taken-quiet s x q =
    by_test (taken_at s (event x)) (λ t. q (bus-taken s x t))
    (λ t.
    subst (λ (u : State). QuietChange (chip_in (lent_in s)) (chip_in (lent_in u))) (sym (untouched [] s (event x) t).state)
    (quiet-kept (record { ram = refl; registers = refl })))

heard-quiet : (s : State) (x : Logged) → device.Quiet (reads s) (heard_as x) → Quiet (lent_in s) x
unfolding reads
heard-quiet s x q = if_taken-quiet s x (λ h. subst (QuietChange (chip_in (lent_in s))) (sym (taken_back (lent_in s) x h)) q)

pub quiet-bytes : QuietBytes
unfolding reads
quiet-bytes =
    record {
      events = heard-quiet;
      asked_no = λ s byte w n. heard-quiet s (record { kind = 1; byte = byte }) (quiet-events.asked_no (reads s) byte w (zero_no s.device s.ram _ n));
      not_taken = λ s x h. if_taken-quiet s x (λ t. absurd (h t.0 t.1));
    }

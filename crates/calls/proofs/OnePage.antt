-- The proof of condition 3 (specs/OnePage.antt): a quiet event is pushed past each later draw and question, one at a time;
-- and so is a quiet feed, since it is the run of its events (specs/Fed.antt).
-- Assumes nothing.
use Prim.Native.Nat.{ℕ, zero, suc, ◌-◌}
use mathlib.Core.Path.{◌≡◌, refl, sym, ap, ap₂, ◌∙◌, subst}
use mathlib.Core.Bool.{true, false, not, cond, true≢false}
use mathlib.Core.List.{List, [], ◌++◌}
use native.Mathlib.Numerals.{sub-one}
use lib.Dec.{T, eqb, leb}
use lib.ListN.{length, drop}
use Rattle.runs.specs.Runs.{log, end}
use Rattle.runs.proofs.Laws.{as_made-map, kept_by_each, Apart, all_apart, reordered}
use Rattle.cells.specs.Reading.{bind, value, cells, among, Alike}
use Rattle.cells.proofs.Laws.{cells-bind, value_alike, cells_alike, alike_left, alike_right, unread_right}
use Rattle.refusals.specs.declared.Refusal.TheVariants.{RamLength, CellRange}
use Rattle.refusals.specs.Refusals.{Reply, accepted, refused, Verdict, passed, failed}
use Rattle.registers.specs.declared.Registers.{Registers}
use Rattle.registers.specs.declared.Settings.{Settings}
use Rattle.registers.specs.Registers.{settings_of}
use Rattle.raster.specs.Raster.{width_of}
use Rattle.bus.specs.declared.Event.{Event}
use Rattle.bus.proofs.Laws.{bus_event-length}
use Rattle.walk.specs.declared.Walk.{Walk}
use Rattle.line.specs.Line.{scan, paint}
use Rattle.ahead.specs.Ahead.{remaining}
use Rattle.device.specs.declared.Device.{Device}
use Rattle.device.specs.Device.{hear_event, DrawOutcome, draw_verdict, draw_by, draw_line, next_scan, pixels_of, line_on, line_drawn, cells_left, ask_cell}
use Rattle.device.proofs.Laws.{drawable, by_draw, draw-same}
use Rattle.pixel.specs.Ask.{ask_pixel}
use Rattle.capture.specs.declared.Feed.{Feed}
use Rattle.capture.specs.Capture.{fresh_feed}
use Rattle.calls.specs.Calls.{Call, draw, ask, event, feed, anew, pixel, Answer, is_event, bus_events_of}
use Rattle.calls.specs.OnePage.{State, events, make, answer, after, calls, fed_by, EachEvent, Quiet, QuietWrite, OnePage}
use Rattle.calls.specs.Use.{WritesAlone, NoStays}
use Rattle.calls.proofs.Calls.{View, draws, asks, acts, view}
use Rattle.calls.proofs.Fed.{with_feed, left_by_lem, found, told, fed_after, fed_answer}
use Rattle.calls.proofs.Quiet.{quiet_if_write, says_no}

-- ---- the remaining lines: the next one, then the others

remaining-more : (s : Settings) (n : ℕ) (w : Walk) → T (not (eqb n 0))
    → remaining s n w ≡ bind (scan s w) (λ x. remaining s (n - 1) x.walk)
unfolding remaining
remaining-more s zero w t = absurd t
remaining-more s (suc n) w t =
    ap (λ (m : ℕ). bind (scan s w) (λ x. remaining s m x.walk)) (sym (sub-one (suc n)))

-- the cells of the remaining lines are those of the next line, and then those of the lines after it
cells_left-more : (d : Device) (ram : List ℕ) → T (not (eqb d.frame.left 0))
    → cells_left d ram ≡ cells ram (next_scan d) ++ cells_left (line_on d ram) ram
unfolding cells_left line_on
cells_left-more d ram t =
    ap (cells ram) (remaining-more (settings_of d.registers) d.frame.left d.frame.walk t)
    ∙ cells-bind ram (next_scan d) (λ x. remaining (settings_of d.registers) (d.frame.left - 1) x.walk)

-- ---- a draw after a quiet event

-- a draw, with the event made after it
unfoldable pub late : List ℕ → Event → DrawOutcome → DrawOutcome
late ram e x = record { device = (hear_event x.device ram e).device; line = x.line; reply = x.reply }

module _ (d : Device) (ram : List ℕ) (e : Event)
    (same : settings_of (hear_event d ram e).device.registers ≡ settings_of d.registers)
    (alike : Alike (cells_left d ram) ram (hear_event d ram e).ram) where
  -- the next line is the same program, and reads and finds the same
  same-scan : next_scan (hear_event d ram e).device ≡ next_scan d
  unfolding hear_event
  same-scan = ap (λ (x : Settings). scan x d.frame.walk) same

  alike_line : T (not (eqb d.frame.left 0)) → Alike (cells ram (next_scan d)) ram (hear_event d ram e).ram
  alike_line t =
      alike_left (cells ram (next_scan d)) (cells_left (line_on d ram) ram) ram (hear_event d ram e).ram
      (subst (λ (l : List ℕ). Alike l ram (hear_event d ram e).ram) (cells_left-more d ram t) alike)

  alike_later : T (not (eqb d.frame.left 0)) → Alike (cells_left (line_on d ram) ram) ram (hear_event d ram e).ram
  alike_later t =
      alike_right (cells ram (next_scan d)) (cells_left (line_on d ram) ram) ram (hear_event d ram e).ram
      (subst (λ (l : List ℕ). Alike l ram (hear_event d ram e).ram) (cells_left-more d ram t) alike)

  same-value : T (not (eqb d.frame.left 0)) → value (hear_event d ram e).ram (next_scan (hear_event d ram e).device) ≡ value ram (next_scan d)
  same-value t =
      ap (value (hear_event d ram e).ram) same-scan ∙ value_alike ram (hear_event d ram e).ram (next_scan d) (alike_line t)

  same-cells : T (not (eqb d.frame.left 0)) → cells (hear_event d ram e).ram (next_scan (hear_event d ram e).device) ≡ cells ram (next_scan d)
  same-cells t =
      ap (cells (hear_event d ram e).ram) same-scan ∙ cells_alike ram (hear_event d ram e).ram (next_scan d) (alike_line t)

  same-drawn : (font line : List ℕ) → T (not (eqb d.frame.left 0))
      → line_drawn (hear_event d ram e).device (hear_event d ram e).ram font line ≡ late ram e (line_drawn d ram font line)
  unfolding line_drawn late line_on pixels_of hear_event
  same-drawn font line t =
      λ i.
      record {
        device =
            record {
              bus = (hear_event d ram e).device.bus;
              registers = (hear_event d ram e).device.registers;
              frame = record { left = d.frame.left - 1; number = d.frame.number; walk = (same-value t i).walk };
              next = d.next;
            };
        line = paint (same i) font d.frame.number (same-value t i).row ++ drop (width_of (same i).ld) line;
        reply = accepted (length (same-cells t i));
      }

  -- whatever the draw's tests find, the draw after the event is the draw before it, with the event made after
  same_verdict : (font line : ℕ) → draw_verdict (hear_event d ram e).device (length (hear_event d ram e).ram) font line ≡ draw_verdict d (length ram) font line
  unfolding draw_verdict hear_event
  same_verdict font line =
      rw (bus_event-length d.bus d.registers ram e, ap (λ (x : Settings). x.ld) same)

  same_by : (font line : List ℕ) (v : Verdict) → (v ≡ passed → T (not (eqb d.frame.left 0)))
      → draw_by v (hear_event d ram e).device (hear_event d ram e).ram font line ≡ late ram e (draw_by v d ram font line)
  unfolding draw_by
  same_by font line passed h = same-drawn font line (h refl)
  same_by font line (failed r) h = unfold late in refl

  pub same-draw : (font line : List ℕ) → draw_line (hear_event d ram e).device (hear_event d ram e).ram font line ≡ late ram e (draw_line d ram font line)
  unfolding draw_line
  same-draw font line =
      ap (λ (v : Verdict). draw_by v (hear_event d ram e).device (hear_event d ram e).ram font line) (same_verdict (length font) (length line))
      ∙ same_by font line (draw_verdict d (length ram) (length font) (length line)) (λ v. (drawable d (length ram) (length font) (length line) v).left)

  -- the remaining lines read the same cells, so the cell question is answered alike
  same_left : cells_left (hear_event d ram e).device (hear_event d ram e).ram ≡ cells_left d ram
  unfolding cells_left hear_event
  same_left =
      ap (λ (x : Settings). cells (hear_event d ram e).ram (remaining x d.frame.left d.frame.walk)) same
      ∙ cells_alike ram (hear_event d ram e).ram (remaining (settings_of d.registers) d.frame.left d.frame.walk) alike

  same-ask : (c : ℕ) → ask_cell (hear_event d ram e).device (hear_event d ram e).ram c ≡ ask_cell d ram c
  unfolding ask_cell hear_event
  same-ask c =
      ap₂ (λ (n : ℕ) (l : List ℕ).
      cond (not (eqb n 1024)) (refused RamLength) (cond (leb 1024 c) (refused CellRange) (accepted (cond (among c l) 1 0))))
      (bus_event-length d.bus d.registers ram e) same_left

-- ---- a quiet event and a later draw

-- the event is answered as before, and leaves the same RAM
same_hears : (font : List ℕ) (s : State) (e : Event) (line : List ℕ)
    → ((hear_event (draw_line s.device s.ram font line).device s.ram e).reply ≡ (hear_event s.device s.ram e).reply)
    × ((hear_event (draw_line s.device s.ram font line).device s.ram e).ram ≡ (hear_event s.device s.ram e).ram)
same_hears font s e line =
    by_draw s.device s.ram font line
    (λ (x : DrawOutcome).
    ((hear_event x.device s.ram e).reply ≡ (hear_event s.device s.ram e).reply)
    × ((hear_event x.device s.ram e).ram ≡ (hear_event s.device s.ram e).ram))
    (λ r. (refl, refl))
    (unfold line_drawn hear_event line_on in λ t. (refl, refl))

-- and stays quiet
draw-apart : (font line : List ℕ) (s : State) (e : Event) → Quiet s e → Apart Quiet events (calls font) s e (draw line)
unfolding make late
draw-apart font line s e q =
    let d = same-draw s.device s.ram e q.settings q.cells font line in
    record {
      other = ap (λ (x : DrawOutcome). record { reply = x.reply; buffer = x.line }) d;
      own = (same_hears font s e line).0;
      either_way = λ i. record { device = (d i).device; ram = sym (same_hears font s e line).1 i; feed = s.feed };
      still =
          by_draw s.device s.ram font line (λ (x : DrawOutcome). Quiet (record { device = x.device; ram = s.ram; feed = s.feed }) e) (λ r. q)
          (unfold line_drawn hear_event line_on in λ r. record { cells = alike_later s.device s.ram e q.settings q.cells r.left; settings = q.settings });
    }

-- a question keeps everything
ask-apart : (font : List ℕ) (cell : ℕ) (s : State) (e : Event) → Quiet s e → Apart Quiet events (calls font) s e (ask cell)
unfolding make
ask-apart font cell s e q =
    record {
      other = ap (λ (r : Reply). record { reply = r; buffer = [] }) (same-ask s.device s.ram e q.settings q.cells cell);
      own = refl;
      either_way = refl;
      still = q;
    }

-- ---- a call that the second run makes last, by the bus events that it makes

pub record ByEvents (font : List ℕ) (s : State) (e : Call Event) : Type 0 where
  -- it leaves what they leave, but for the feed
  pub feed : Feed
  pub leaves : after font s e ≡ with_feed feed (end events s (bus_events_of (fed_by s) e))
  -- so it does after a draw, and if they are answered alike there, so is the call
  pub drawn : (line : List ℕ) → let u : State = after font s (draw line) in after font u e ≡ with_feed feed (end events u (bus_events_of (fed_by u) e))
  pub own : (line : List ℕ) → let u : State = after font s (draw line) in
      log events u (bus_events_of (fed_by u) e) ≡ log events s (bus_events_of (fed_by s) e) → answer font u e ≡ answer font s e

-- a draw keeps what a feed's tests look at, and RAM and registers, which are all that a question about a pixel looks at
pub by_events : (font : List ℕ) (s : State) (e : Call Event) → is_event e ≡ true → ByEvents font s e
unfolding is_event bus_events_of make end
by_events font s (draw line) p = absurd (true≢false (sym p))
by_events font s (ask cell) p = absurd (true≢false (sym p))
by_events font s (event e) p =
    record {
      feed = s.feed;
      leaves = refl;
      drawn = λ line. refl;
      own = λ line same. ap (λ (r : Reply). record { reply = r; buffer = [] }) (same_hears font s e line).0;
    }
by_events font s (feed chunk out) p =
    record {
      feed = left_by_lem s chunk out (found s chunk out);
      leaves = fed_after s chunk out font;
      drawn = λ line. fed_after (after font s (draw line)) chunk out font;
      own = λ line same. fed_answer (after font s (draw line)) chunk out font ∙ ap (told s chunk out) same ∙ sym (fed_answer s chunk out font);
    }
by_events font s anew p = record { feed = fresh_feed; leaves = refl; drawn = λ line. refl; own = λ line same. refl }
by_events font s (pixel lines frame x y) p =
    record {
      feed = s.feed;
      leaves = refl;
      drawn = λ line. refl;
      own = λ line same.
          ap (λ (r : Registers). record { reply = ask_pixel r s.ram font lines frame x y; buffer = [] }) (draw-same s.device s.ram font line);
    }

-- ---- condition 3

-- every event is quiet, since every write is
call-quiet : (u : State) (c : Call Event) → EachEvent QuietWrite u c → EachEvent Quiet u c
call-quiet u c = as_made-map QuietWrite Quiet events quiet_if_write u (bus_events_of (fed_by u) c)

pub writes_alone : WritesAlone
writes_alone font s cs q = as_made-map (EachEvent QuietWrite) (EachEvent Quiet) (calls font) call-quiet s cs q

-- draws and questions do not look at the feed
pub apart : (font : List ℕ) (s : State) (e c : Call Event) → is_event e ≡ true → is_event c ≡ false → EachEvent Quiet s e
    → Apart (EachEvent Quiet) (calls font) (calls font) s e c
unfolding make is_event
apart font s e c p o h = by (view c) o
  where
    b : ByEvents font s e
    b = by_events font s e p

    by : {c : Call Event} → View c → is_event c ≡ false → Apart (EachEvent Quiet) (calls font) (calls font) s e c
    by (draws line) o =
        let a = all_apart Quiet events (calls font) (draw line) (draw-apart font line) s (bus_events_of (fed_by s) e) h in
        record {
          other = ap (λ (x : State). answer font x (draw line)) b.leaves ∙ a.other;
          own = b.own line a.own;
          either_way = ap (λ (x : State). after font x (draw line)) b.leaves ∙ ap (with_feed b.feed) a.either_way ∙ sym (b.drawn line);
          still = a.still;
        }
    by (asks cell) o =
        let a = all_apart Quiet events (calls font) (ask cell) (ask-apart font cell) s (bus_events_of (fed_by s) e) h in
        record { other = ap (λ (x : State). answer font x (ask cell)) b.leaves ∙ a.other; own = refl; either_way = refl; still = h }
    by (acts t n) o = absurd (true≢false (sym t ∙ o))

pub one-page : OnePage
one-page font s cs q = reordered (EachEvent Quiet) (calls font) (apart font) s cs (writes_alone font s cs q)

-- ---- a no of the cell question stays a no

-- the lines after the next one read no cell that the remaining lines do not
later_unread : (d : Device) (ram : List ℕ) (cell : ℕ) → T (not (eqb d.frame.left 0)) → ask_cell d ram cell ≡ accepted 0
    → ask_cell (line_on d ram) ram cell ≡ accepted 0
unfolding ask_cell
later_unread d ram cell t n =
    let h = says_no (not (eqb (length ram) 1024)) (leb 1024 cell) (among cell (cells_left d ram)) n in
    let later : among cell (cells_left (line_on d ram) ram) ≡ false =
    unread_right cell (cells ram (next_scan d)) (cells_left (line_on d ram) ram) (sym (ap (among cell) (cells_left-more d ram t)) ∙ h.2) in
    rw (h.0, h.1, later)

pub still_unread : (font : List ℕ) (cell : ℕ) (u : State) (c : Call Event) → EachEvent Quiet u c → ask_cell u.device u.ram cell ≡ accepted 0
    → ask_cell (after font u c).device (after font u c).ram cell ≡ accepted 0
unfolding make is_event
still_unread font cell u c h n = by (view c) h
  where
    by : {c : Call Event} → View c → EachEvent Quiet u c → ask_cell (after font u c).device (after font u c).ram cell ≡ accepted 0
    by (draws line) h =
        by_draw u.device u.ram font line (λ (x : DrawOutcome). ask_cell x.device u.ram cell ≡ accepted 0)
        (λ r. n) (unfold line_drawn in λ r. later_unread u.device u.ram cell r.left n)
    by (asks other) h = n
    by (acts {c = c} t d) h = ap (λ (x : Answer Reply). x.reply) (apart font u c (ask cell) t refl h).other ∙ n

pub no_stays : NoStays
no_stays font s cs cell q n =
    kept_by_each (EachEvent Quiet) (calls font) (λ (u : State). ask_cell u.device u.ram cell ≡ accepted 0) (still_unread font cell) s cs
    (writes_alone font s cs q) n

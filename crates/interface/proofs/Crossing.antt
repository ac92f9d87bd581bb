-- What the bytes hold after a call is read as the record that the device's function leaves.
-- Assumes nothing.
use Prim.Native.Nat.{ℕ, ◌+◌, ◌%◌, ◌≤◌, ◌<◌}
use mathlib.Core.Path.{◌≡◌, refl, sym, ap, ap₂, subst, ◌∙◌}
use mathlib.Core.Bool.{Bool, true, false, not, cond, ◌&&◌, ◌||◌}
use mathlib.Core.List.{List, [], ◌∷◌, ◌++◌}
use native.Mathlib.Decide.{ℕ_discrete, dec_lt}
use native.Mathlib.Omega.{arith}
use borrow.Author.Tests.{eq-eqb, eqb-true, eqb-false, ltb-false, leb-false}
use lib.Dec.{T, eqb, leb}
use lib.ListN.{length, get_or, drop, length-append, length-set, length-take, length-drop, get_or-eq_default}
use Rattle.facts.proofs.Choice.{either}
use Rattle.facts.proofs.Parts.{get_d_part}
use Rattle.limits.specs.Limits.{ram_length, font_length, bad_line_count}
use Rattle.runs.specs.Runs.{end, AsMade}
use Rattle.runs.proofs.Laws.{kept_by_each, end_read, log-read}
use Rattle.cells.specs.Reading.{value, among}
use Rattle.refusals.specs.Refusals.{number_of, Reply, refused, Verdict, passed, failed, refuse_if}
use Rattle.refusals.specs.declared.Unheard.{Unheard}
use Rattle.refusals.specs.declared.Unheard.TheVariants as unheard
use Rattle.refusals.specs.declared.Refusal.{Refusal}
use Rattle.refusals.specs.declared.Refusal.TheVariants.{NotAcknowledged, PixelRange}
use Rattle.refusals.proofs.Laws.{not-zero, at_least_five}
use Rattle.buffers.specs.Buffers.{Bytes}
use Rattle.font_file.specs.FontFile.{block_count, WriteOutcome, ReadOutcome}
use Rattle.font_file.proofs.Outcomes.{write_cases, read_cases, write_silent, read_silent, write-length, read_length}
use Rattle.registers.specs.declared.Registers.{Registers}
use Rattle.registers.specs.Registers.{settings_of}
use Rattle.bus.specs.declared.BusState.{BusState}
use Rattle.bus.specs.declared.BusState.TheVariants.{Deaf, Slave}
use Rattle.bus.specs.declared.Bus.{Bus}
use Rattle.bus.specs.declared.Event.{Event}
use Rattle.bus.specs.declared.Event.TheVariants.{Start, Byte, Fetch, Stop}
use Rattle.bus.specs.Unheard.{Applies, unknown_slave, byte-deaf, fetch_deaf, deafens, state_after}
use Rattle.bus.specs.Bus.{event_of, BusOutcome, bus_event, bad_kind, last_kind}
use Rattle.bus.proofs.Claims.{reasons}
use Rattle.bus.proofs.Unheard.{bus}
use Rattle.bus.proofs.Laws.{bus_event-refused, bus_event-length, bus_event-sixteen, value-byte}
use Rattle.raster.specs.Raster.{width_of}
use Rattle.line.proofs.Claims.{line-pixels}
use Rattle.line.proofs.Laws.{paint-length}
use Rattle.device.specs.declared.Device.{Device}
use Rattle.device.specs.Device.{fresh_device, EventOutcome, hear_event, StartOutcome, in_frame, start_frame, DrawOutcome, not_drawn, next_scan, pixels_of, line_on, line_width, line_drawn, draw_line, cells_left, ask_cell}
use Rattle.device.proofs.Laws.{by_start, by_draw}
use Rattle.device.proofs.ReadCount.{read_count}
use Rattle.capture.specs.declared.Feed.{Feed}
use Rattle.capture.specs.declared.Feed.TheVariants.{Open, Half, Shut}
use Rattle.capture.specs.Capture.{Logged, fresh_feed, finished, feed_after, outputs, output_from, Chip, chip, bus_events, taken_reply, FeedOutcome, chunk_fed, feed_by, feed_chunk}
use Rattle.capture.proofs.Laws.{held_one, output-room, by_verdict, taken-value}
use Rattle.pixel.specs.Pixel.{pixel_at}
use Rattle.pixel.specs.Ask.{pixel_verdict, pixel_by, ask_pixel}
use Rattle.pixel.proofs.Lines as pixel
use Rattle.layout.specs.Layout.{bus_at, registers_at, registers_length, record_length, part, is_deaf, registers_in, put_bus, put_state, put_registers, register_bytes, put_next, device_in}
use Rattle.layout.specs.FeedLayout.{feed_length, feed_in}
use Rattle.layout.proofs.Laws.{put_bus-length, put_registers-length, put_next-length, put_frame-length, with_bus, with_registers, read_back, event-back, deaf-back, draw-back, start_back, feed-back}
use Rattle.interface.specs.Interface.{answer_of, reply_in, answer_not_taken, is_record, Done, fresh_on, BusDone, ignored_on, heard_on, bus_on, started_on, start_on, DrawDone, drawn_on, draw_on, pixel_on, is_feed, chunk_max, FeedMade, feed_fresh_on, ChipBytes, lent, bus_calls, FeedDone, not_fed_on, chunk_fed_on, fed_on_by, verdict_on, lengths_taken, feed_on, font_write_on, font_read_on, Crossing}
use Rattle.interface.specs.OnePage.{chip_in}
use Rattle.interface.proofs.Laws.{if_taken, ignored_same, fresh-not, bus-is, bus-not_record, bus-not-kind, start-not, draw-not, cell-not, pixel-not, feed-fresh-not, feed-not, cell-is, pixel-is, feed_tests, feed-is}

-- ---- an event that is not acknowledged

abbrev is_byte : Event → Bool
is_byte Start = false
is_byte (Byte x) = true
is_byte Fetch = false
is_byte Stop = false

byte-kind : (kind byte : ℕ) → T (is_byte (event_of kind byte)) → kind ≡ 1
byte-kind kind byte = by (eqb kind 0) (eqb kind 1) (eqb kind 2) refl
  where
    by : (a b c : Bool) → eqb kind 1 ≡ b → T (is_byte (cond a Start (cond b (Byte byte) (cond c Fetch Stop)))) → kind ≡ 1
    by true b c p t = absurd t
    by false true c p t = eqb-true kind 1 p
    by false false true p t = absurd t
    by false false false p t = absurd t

-- ---- the record after an event

-- what an event leaves, read back: the bus and the registers are new, the rest stays
abbrev After : List ℕ → Bus → Registers → Device
After xs b r = with_bus b (with_registers r (device_in xs))

sixteen : (xs : List ℕ) → length xs ≡ record_length → length (device_in xs).registers.bytes ≡ registers_length
sixteen xs h = simp (length-take, length-drop) (omega arith)

-- the registers after an event are sixteen
pub heard-sixteen : (xs ram : List ℕ) (e : Event) → length xs ≡ record_length → length (bus_event (device_in xs).bus (device_in xs).registers ram e).registers.bytes ≡ registers_length
heard-sixteen xs ram e h = bus_event-sixteen (device_in xs).bus (device_in xs).registers ram e ∙ sixteen xs h

-- not acknowledged, for a reason
module _ (xs : List ℕ) where
  abbrev state : BusState
  state = (device_in xs).bus.state

  ignored_is : (why : Unheard) → ignored_on (is_deaf (state_after why state)) xs ≡ ignored_on (deafens why) xs
  ignored_is why = by (deafens why)
    where
      by : (t : Bool) → ignored_on (is_deaf (cond t Deaf state)) xs ≡ ignored_on t xs
      by true = refl
      by false = ignored_same xs

  unheard-back : (why : Unheard) → length xs ≡ record_length → device_in (ignored_on (deafens why) xs) ≡ with_bus (bus (state_after why state) (device_in xs).bus.counter) (device_in xs)
  unheard-back why h = by (deafens why)
    where
      by : (t : Bool) → device_in (ignored_on t xs) ≡ with_bus (bus (cond t Deaf state) (device_in xs).bus.counter) (device_in xs)
      by true = deaf-back xs h
      by false = refl

module _ (xs ram : List ℕ) (e : Event) where
  abbrev its_bus : Bus
  its_bus = (device_in xs).bus

  abbrev its_registers : Registers
  its_registers = (device_in xs).registers

  abbrev outcome : BusOutcome
  outcome = bus_event its_bus its_registers ram e

  unheard_on : {why : Unheard} → length ram ≡ 1024 → Applies why its_bus.state e
      → heard_on xs outcome ≡ record { device = ignored_on (deafens why) xs; ram = ram; answer = answer_of (refused (NotAcknowledged why)) }
  unfolding heard_on
  unheard_on {why} l a = ap (heard_on xs) (reasons.answered why its_bus its_registers ram e l a) ∙ rw (not-zero (NotAcknowledged why), ignored_is xs why)

  heard-back : length xs ≡ record_length → device_in (heard_on xs outcome).device ≡ After xs outcome.bus outcome.registers
  unfolding heard_on
  heard-back h = by (eqb outcome.reply.refusal 0) refl (ℕ_discrete (length ram) 1024)
    where
      by : (t : Bool) → eqb outcome.reply.refusal 0 ≡ t → Dec (length ram ≡ 1024)
          → device_in (cond t (put_bus outcome.bus (put_registers outcome.registers xs)) (ignored_on (is_deaf outcome.bus.state) xs)) ≡ After xs outcome.bus outcome.registers
      by true p l = event-back outcome.bus outcome.registers xs (heard-sixteen xs ram e h) h
      by false p (no m) = rw (sym (bus_event-refused its_bus its_registers ram e m)) (ap device_in (ignored_same xs))
      by false p (yes l) =
          let w = reasons.some its_bus its_registers ram e l (eqb-false _ _ p) in
          rw (reasons.answered w.0 its_bus its_registers ram e l w.1) (ap device_in (ignored_is xs w.0) ∙ unheard-back xs w.0 h)

-- ---- the record after a frame start and a draw

-- each case of the call: what is read back, and that a refused one writes no byte
start_cases : (xs : List ℕ) (lines : ℕ) → length xs ≡ record_length
    → let o : StartOutcome = start_frame (device_in xs) lines in
    (device_in (started_on xs o).device ≡ o.device) × ((o.reply.refusal ≡ 0 → ⊥) → (started_on xs o).device ≡ xs)
unfolding started_on in_frame
start_cases xs lines h =
    by_start (λ (o : StartOutcome). (device_in (started_on xs o).device ≡ o.device) × ((o.reply.refusal ≡ 0 → ⊥) → (started_on xs o).device ≡ xs))
    d lines
    (refl, λ n. refl)
    (start_back (in_frame d lines).frame (in_frame d lines).next xs h, λ n. absurd (n refl))
  where
    d : Device
    d = device_in xs

-- W bytes written at the front of a buffer that has them
line-length : (d : Device) (ram font line : List ℕ) → line_width d ≤ length line → length (line_drawn d ram font line).line ≡ length line
unfolding line_drawn pixels_of
line-length d ram font line h =
    let w = paint-length (settings_of d.registers) font d.frame.number (value ram (next_scan d)).row in
    simp (length-append, length-drop) (omega (arith, w))

draw_cases : (xs ram font line : List ℕ) → length xs ≡ record_length
    → let o : DrawOutcome = draw_line (device_in xs) ram font line in
    (device_in (drawn_on xs o).device ≡ o.device)
    × ((o.reply.refusal ≡ 0 → ⊥) → ((drawn_on xs o).device ≡ xs) × (o.line ≡ line))
    × (length o.line ≡ length line)
unfolding drawn_on
draw_cases xs ram font line h =
    by_draw d ram font line
    (λ (o : DrawOutcome).
    (device_in (drawn_on xs o).device ≡ o.device)
    × ((o.reply.refusal ≡ 0 → ⊥) → ((drawn_on xs o).device ≡ xs) × (o.line ≡ line))
    × (length o.line ≡ length line))
    (λ r. not_written r)
    (unfold line_drawn line_on in λ ready. (
      draw-back (line_on d ram).frame xs h,
      λ n. absurd (n refl),
      line-length d ram font line ready.room,
    ))
  where
    d : Device
    d = device_in xs

    not_written : (r : Refusal)
        → (device_in (drawn_on xs (not_drawn d line r)).device ≡ d)
        × ((number_of r ≡ 0 → ⊥) → ((drawn_on xs (not_drawn d line r)).device ≡ xs) × (line ≡ line))
        × (length line ≡ length line)
    not_written r = rw (not-zero r) (refl, λ n. (refl, refl), refl)

-- ---- a refused event

-- for whatever reason but an unknown slave address no byte changes
unheard_still : (xs : List ℕ) (why : Unheard) {s : BusState} {e : Event} → Applies why s e → (device_in xs).bus.state ≡ s → (T (is_byte e) → s ≡ Slave → ⊥)
    → ignored_on (deafens why) xs ≡ xs
unheard_still xs unheard.Idle a p u = refl
unheard_still xs unheard.NotAddressed (unknown_slave x m n) p u = absurd (u tt refl)
unheard_still xs unheard.NotAddressed (byte-deaf x) p u = ap (λ (s : BusState). ignored_on (is_deaf s) xs) (sym p) ∙ ignored_same xs
unheard_still xs unheard.NotAddressed fetch_deaf p u = ap (λ (s : BusState). ignored_on (is_deaf s) xs) (sym p) ∙ ignored_same xs
unheard_still xs unheard.Reading a p u = refl
unheard_still xs unheard.Writing a p u = refl

silence : (xs ram : List ℕ) (kind byte : ℕ) → (kind ≡ 1 → (device_in xs).bus.state ≡ Slave → length ram ≡ 1024 → ⊥)
    → ((hear_event (device_in xs) ram (event_of kind byte)).reply.refusal ≡ 0 → ⊥) → ((bus_on xs ram kind byte).device ≡ xs) × ((bus_on xs ram kind byte).ram ≡ ram)
unfolding bus_on heard_on hear_event
silence xs ram kind byte u n = if_taken Still (is_record xs && not (bad_kind kind)) _ _ (λ t. by (ℕ_discrete (length ram) 1024)) (refl, refl)
  where
    Still : BusDone → Type 0
    Still d = (d.device ≡ xs) × (d.ram ≡ ram)

    e : Event
    e = event_of kind byte

    by : Dec (length ram ≡ 1024) → Still (heard_on xs (outcome xs ram e))
    by (yes l) =
        let w = reasons.some (its_bus xs ram e) (its_registers xs ram e) ram e l n in
        let o = unheard_on xs ram e l w.1 in (
          ap (λ (d : BusDone). d.device) o ∙ unheard_still xs w.0 w.1 refl (λ c d. u (byte-kind kind byte c) d l),
          ap (λ (d : BusDone). d.ram) o,
        )
    by (no m) = rw (sym (bus_event-refused (its_bus xs ram e) (its_registers xs ram e) ram e m)) (ignored_same xs, refl)

start_silence : (xs : List ℕ) (lines : ℕ) → ((start_frame (device_in xs) lines).reply.refusal ≡ 0 → ⊥) → (start_on xs lines).device ≡ xs
unfolding start_on
start_silence xs lines n = if_taken (λ (r : Done). r.device ≡ xs) (is_record xs) _ _ (λ e. (start_cases xs lines (eqb-true _ _ e)).1 n) refl

draw_silence : (xs ram font line : List ℕ) → ((draw_line (device_in xs) ram font line).reply.refusal ≡ 0 → ⊥)
    → ((draw_on xs ram font line).device ≡ xs) × ((draw_on xs ram font line).line ≡ line)
unfolding draw_on drawn_on
draw_silence xs ram font line n =
    if_taken (λ (r : DrawDone). (r.device ≡ xs) × (r.line ≡ line)) (is_record xs) _ _ (λ e. (draw_cases xs ram font line (eqb-true _ _ e)).1 n) (refl, refl)

deafness : (xs ram : List ℕ) (byte : ℕ) → length xs ≡ record_length → length ram ≡ ram_length → (device_in xs).bus.state ≡ Slave → (byte ≡ 0xBA → ⊥) → (byte ≡ 0xBB → ⊥)
    → bus_on xs ram 1 byte ≡ record { device = put_state Deaf xs; ram = ram; answer = answer_of (refused (NotAcknowledged unheard.NotAddressed)) }
deafness xs ram byte h k s a b =
    sym (bus-is xs ram 1 byte h (omega arith))
    ∙ unheard_on xs ram (Byte byte) k (subst (λ (t : BusState). Applies unheard.NotAddressed t (Byte byte)) (sym s) (unknown_slave byte a b))

unheard_by : (xs ram : List ℕ) (kind byte : ℕ) (why : Unheard) → length xs ≡ record_length → kind ≤ last_kind
    → (hear_event (device_in xs) ram (event_of kind byte)).reply.refusal ≡ number_of (NotAcknowledged why)
    → bus_on xs ram kind byte ≡ record { device = ignored_on (deafens why) xs; ram = ram; answer = answer_of (refused (NotAcknowledged why)) }
unfolding hear_event
unheard_by xs ram kind byte why h k p = sym (bus-is xs ram kind byte h k) ∙ by (ℕ_discrete (length ram) 1024)
  where
    e : Event
    e = event_of kind byte

    by : Dec (length ram ≡ 1024) → heard_on xs (outcome xs ram e) ≡ record { device = ignored_on (deafens why) xs; ram = ram; answer = answer_of (refused (NotAcknowledged why)) }
    by (yes l) = unheard_on xs ram e l (reasons.only why (its_bus xs ram e) (its_registers xs ram e) ram e p)
    by (no m) = absurd (omega (arith, at_least_five why, ap (λ (x : BusOutcome). x.reply.refusal) (bus_event-refused (its_bus xs ram e) (its_registers xs ram e) ram e m), p))

-- ---- lengths

fresh-length : (xs : List ℕ) → length (fresh_on xs).device ≡ length xs
unfolding fresh_on fresh_device
fresh-length xs = if_taken (λ (r : Done). length r.device ≡ length xs) (is_record xs) _ _ (λ e. sym (eqb-true _ _ e)) refl

-- puts keep the length, so a call does, whether it is taken or refused
abbrev Long : List ℕ → List ℕ → Type 0
Long xs l = length l ≡ length xs

bus-length : (xs ram : List ℕ) (kind byte : ℕ)
    → (length (bus_on xs ram kind byte).device ≡ length xs) × (length (bus_on xs ram kind byte).ram ≡ length ram)
unfolding bus_on heard_on hear_event
bus-length xs ram kind byte =
    let o : BusOutcome = bus_event (device_in xs).bus (device_in xs).registers ram (event_of kind byte) in
    either (λ (r : BusDone). Long xs r.device × Long ram r.ram) (is_record xs && not (bad_kind kind)) _ _ (
      either (Long xs) (eqb o.reply.refusal 0) _ _ (put_bus-length o.bus (put_registers o.registers xs) ∙ put_registers-length o.registers xs)
          (either (Long xs) (is_deaf o.bus.state) _ _ (length-set xs bus_at _) refl),
      bus_event-length (device_in xs).bus (device_in xs).registers ram (event_of kind byte),
    )
    (refl, refl)

start-length : (xs : List ℕ) (lines : ℕ) → length (start_on xs lines).device ≡ length xs
unfolding start_on started_on
start-length xs lines =
    let o : StartOutcome = start_frame (device_in xs) lines in
    either (λ (r : Done). Long xs r.device) (is_record xs) _ _
    (either (Long xs) (eqb o.reply.refusal 0) _ _
    (put_frame-length o.device.frame (put_next o.device.next xs) ∙ put_next-length o.device.next xs) refl) refl

draw-length : (xs ram font line : List ℕ)
    → (length (draw_on xs ram font line).device ≡ length xs) × (length (draw_on xs ram font line).line ≡ length line)
unfolding draw_on drawn_on
draw-length xs ram font line =
    let o : DrawOutcome = draw_line (device_in xs) ram font line in
    if_taken (λ (r : DrawDone). Long xs r.device × Long line r.line) (is_record xs) _ _
    (λ e. (either (Long xs) (eqb o.reply.refusal 0) _ _ (put_frame-length o.device.frame xs) refl, (draw_cases xs ram font line (eqb-true _ _ e)).2))
    (refl, refl)

-- ---- the answers, and the other buffers

bus-whole : (xs ram : List ℕ) (kind byte : ℕ) → length xs ≡ record_length → kind ≤ last_kind
    → let o : EventOutcome = hear_event (device_in xs) ram (event_of kind byte) in
    let r : BusDone = bus_on xs ram kind byte in (device_in r.device ≡ o.device) × (r.ram ≡ o.ram) × (r.answer ≡ answer_of o.reply)
unfolding heard_on hear_event
bus-whole xs ram kind byte h k = rw (← (bus-is xs ram kind byte h k)) (heard-back xs ram (event_of kind byte) h, refl, refl)

start-whole : (xs : List ℕ) (lines : ℕ) → length xs ≡ record_length
    → let o : StartOutcome = start_frame (device_in xs) lines in
    let r : Done = start_on xs lines in (device_in r.device ≡ o.device) × (r.answer ≡ answer_of o.reply)
unfolding start_on started_on
start-whole xs lines h = rw (eq-eqb _ _ h) ((start_cases xs lines h).0, refl)

draw-whole : (xs ram font line : List ℕ) → length xs ≡ record_length
    → let o : DrawOutcome = draw_line (device_in xs) ram font line in
    let r : DrawDone = draw_on xs ram font line in (device_in r.device ≡ o.device) × (r.line ≡ o.line) × (r.answer ≡ answer_of o.reply)
unfolding draw_on drawn_on
draw-whole xs ram font line h = rw (eq-eqb _ _ h) ((draw_cases xs ram font line h).0, refl, refl)

fresh-read : (xs : List ℕ) → length xs ≡ record_length → (device_in (fresh_on xs).device ≡ fresh_device) × ((fresh_on xs).answer ≡ 0)
unfolding fresh_on fresh_device
fresh-read xs h = rw (eq-eqb _ _ h) (read_back fresh_device refl, refl)

-- ---- a feed

feed-fresh-read : (fs : List ℕ) → length fs ≡ feed_length → (feed_in (feed_fresh_on fs).feed ≡ fresh_feed) × ((feed_fresh_on fs).answer ≡ 0)
unfolding feed_fresh_on
feed-fresh-read fs h = rw (eq-eqb _ _ h) (refl, refl)

feed-fresh-length : (fs : List ℕ) → length (feed_fresh_on fs).feed ≡ length fs
unfolding feed_fresh_on
feed-fresh-length fs = if_taken (λ (r : FeedMade). length r.feed ≡ length fs) (is_feed fs) _ _ (λ e. sym (eqb-true _ _ e)) refl

-- a fed event that a bus call takes
abbrev pub Taken : ChipBytes → Logged → Type 0
Taken l x = (length l.device ≡ record_length) × (x.kind ≤ last_kind)

-- it leaves what the device's event leaves
pub taken_back : (l : ChipBytes) (x : Logged) → Taken l x → chip_in (bus_calls.after l x) ≡ bus_events.after (chip_in l) x
taken_back l x t =
    let b = bus-whole l.device l.ram x.kind x.byte t.0 t.1 in λ i. chip (b.0 i) (b.1 i)

-- all events that a chunk finishes are taken: their kinds are good, and the record keeps its length
pub all-taken : (f : Feed) (chunk : List ℕ) (l : ChipBytes) → length l.device ≡ record_length → AsMade Taken bus_calls l (finished f chunk)
unfolding finished AsMade
all-taken f [] l h = tt
all-taken Open (kind ∷ more) l h = all-taken (Half kind) more l h
all-taken Shut (x ∷ more) l h = tt
all-taken (Half kind) (x ∷ more) l h = by (bad_kind kind) refl (all-taken Open more (bus_calls.after l e) ((bus-length l.device l.ram kind x).0 ∙ h))
  where
    e : Logged
    e = record { kind = kind; byte = x }

    by : (b : Bool) → bad_kind kind ≡ b → AsMade Taken bus_calls (bus_calls.after l e) (finished Open more)
        → AsMade Taken bus_calls l (cond b [] (e ∷ finished Open more))
    by true p k = tt
    by false p k = ((h, ltb-false _ _ p), k)

-- no more bytes are written than a value can count, so the answer's value is their number
module _ (l : ChipBytes) (f : Feed) (chunk : List ℕ) (h : length chunk ≤ chunk_max) where
  abbrev written : List ℕ
  written = output_from bus_calls l (finished f chunk)

  written-most : length written ≤ chunk_max
  written-most = omega (arith, output-room bus_calls l f chunk, held_one f)

  pub written-value : (reply_in (answer_of (taken_reply (feed_after f chunk) (length written)))).value ≡ length written
  written-value = omega (arith, written-most, taken-value (feed_after f chunk) (length written))

module _ (xs fs ram chunk out : List ℕ) where
  abbrev its : ChipBytes
  its = lent xs ram

  abbrev made : List Logged
  made = finished (feed_in fs) chunk

  abbrev Crossed : FeedDone → FeedOutcome → Type 0
  Crossed r o =
      (device_in r.device ≡ o.chip.device) × (feed_in r.feed ≡ o.feed) × (r.ram ≡ o.chip.ram) × (r.out ≡ o.out)
      × (r.answer ≡ answer_of o.reply)

  -- every buffer keeps its length
  abbrev Kept : FeedDone → Type 0
  Kept r = Long xs r.device × Long fs r.feed × Long ram r.ram × Long out r.out

  module _ (h : length xs ≡ record_length) where
    all_made : AsMade Taken bus_calls its made
    all_made = all-taken (feed_in fs) chunk its h

    -- the chunk's events leave the same on the bytes, and write the same
    same_end : chip_in (end bus_calls its made) ≡ end bus_events (chip_in its) made
    same_end = end_read Taken bus_calls bus_events chip_in taken_back its made all_made

    same-written : output_from bus_calls its made ≡ output_from bus_events (chip_in its) made
    same-written = ap outputs (log-read Taken bus_calls bus_events chip_in taken_back (λ l x. refl) its made all_made)

    made-length : Long xs (end bus_calls its made).device × Long ram (end bus_calls its made).ram
    made-length =
        kept_by_each Taken bus_calls (λ (u : ChipBytes). Long xs u.device × Long ram u.ram)
        (λ u x t i. let b = bus-length u.device u.ram x.kind x.byte in (b.0 ∙ i.0, b.1 ∙ i.1))
        its made all_made (refl, refl)

    fed_back : (v : Verdict) → Crossed (fed_on_by v xs fs ram chunk out) (feed_by v (chip_in its) (feed_in fs) chunk out)
    unfolding fed_on_by chunk_fed_on feed_by chunk_fed
    fed_back passed = (
      ap (λ (c : Chip). c.device) same_end,
      feed-back (feed_after (feed_in fs) chunk),
      ap (λ (c : Chip). c.ram) same_end,
      ap (λ (w : List ℕ). w ++ drop (length w) out) same-written,
      ap (λ (w : List ℕ). answer_of (taken_reply (feed_after (feed_in fs) chunk) (length w))) same-written,
    )
    fed_back (failed r) = (refl, refl, refl, refl, refl)

    feed-whole : length fs ≡ feed_length → length chunk ≤ chunk_max
        → Crossed (feed_on xs fs ram chunk out) (feed_chunk (chip_in its) (feed_in fs) chunk out)
    unfolding feed_chunk
    feed-whole k l = rw (← (feed-is xs h fs ram chunk out k l)) (fed_back (verdict_on fs ram chunk out))

    fed_kept : length fs ≡ feed_length → length chunk ≤ chunk_max → Kept (fed_on_by (verdict_on fs ram chunk out) xs fs ram chunk out)
    unfolding fed_on_by chunk_fed_on
    fed_kept k l =
        by_verdict (λ (v : Verdict). Kept (fed_on_by v xs fs ram chunk out)) (feed_in fs) (length ram) (length chunk) (length out)
        (refl, refl, refl, refl)
        (λ shut. (refl, refl, refl, refl))
        (refl, refl, refl, refl)
        (λ takes. (made-length.0, sym k, made-length.1, simp (length-append, length-drop) (omega (arith, takes.room, output-room bus_calls its (feed_in fs) chunk))))

  feed-kept : Kept (feed_on xs fs ram chunk out)
  unfolding feed_on
  feed-kept =
      if_taken Kept (lengths_taken xs fs chunk) _ _
      (λ t. let p = feed_tests xs fs chunk t in fed_kept p.0 p.1 p.2)
      (refl, refl, refl, refl)

  -- what the tests refuse
  feed_silence : (r : Refusal) → length xs ≡ record_length → length fs ≡ feed_length → length chunk ≤ chunk_max → verdict_on fs ram chunk out ≡ failed r
      → feed_on xs fs ram chunk out ≡ not_fed_on xs fs ram out (answer_of (refused r))
  unfolding fed_on_by
  feed_silence r h k l v = sym (feed-is xs h fs ram chunk out k l) ∙ ap (λ (w : Verdict). fed_on_by w xs fs ram chunk out) v

  -- the value has 16 bits
  value-most : length chunk ≤ chunk_max → (feed_chunk (chip (device_in xs) ram) (feed_in fs) chunk out).reply.value ≤ chunk_max
  unfolding feed_chunk feed_by chunk_fed
  value-most h =
      let c : Chip = chip (device_in xs) ram in
      by_verdict (λ (v : Verdict). (feed_by v c (feed_in fs) chunk out).reply.value ≤ chunk_max) (feed_in fs) (length ram) (length chunk) (length out)
      (omega arith) (λ shut. omega arith) (omega arith)
      (λ takes.
      omega (
        arith,
        taken-value (feed_after (feed_in fs) chunk) (length (output_from bus_events c (finished (feed_in fs) chunk))),
        output-room bus_events c (feed_in fs) chunk,
        held_one (feed_in fs),
      ))

-- ---- values

-- a part of bytes is bytes, so an event's value is a byte
part_bytes : (xs : List ℕ) (at n : ℕ) → Bytes xs → Bytes (part at n xs)
part_bytes xs at n h i = by (dec_lt i n)
  where
    by : Dec (i < n) → get_or (part at n xs) i 0 < 256
    by (yes l) = rw (get_d_part xs at n i 0 l) (h (at + i))
    by (no l) = rw (get_or-eq_default (part at n xs) 0 {n = i} (simp length-take (omega arith))) (omega arith)

bus-value : (xs ram : List ℕ) (kind byte : ℕ) → Bytes xs → Bytes ram → (hear_event (device_in xs) ram (event_of kind byte)).reply.value < 256
unfolding hear_event
bus-value xs ram kind byte h k =
    value-byte (device_in xs).bus (device_in xs).registers ram (event_of kind byte) (part_bytes xs registers_at registers_length h) k

cell-value : (d : Device) (ram : List ℕ) (c : ℕ) → (ask_cell d ram c).value ≤ 1
unfolding ask_cell
cell-value d ram c =
    let P : Reply → Type 0 = λ r. r.value ≤ 1 in
    either P (not (eqb (length ram) ram_length)) _ _ (omega arith)
    (either P (leb ram_length c) _ _ (omega arith) (either (λ (n : ℕ). n ≤ 1) (among c (cells_left d ram)) _ _ (omega arith) (omega arith)))

pixel-value : (r : Registers) (ram font : List ℕ) (lines frame x y : ℕ) → (ask_pixel r ram font lines frame x y).value < 16
unfolding ask_pixel pixel_verdict pixel_by
pixel-value r ram font lines frame x y =
    either P (not (eqb (length ram) ram_length)) _ _ (omega arith)
    (either P (not (eqb (length font) font_length)) _ _ (omega arith)
    (either P (bad_line_count lines) _ _ (omega arith) (by (leb width x) refl)))
  where
    width : ℕ
    width = width_of (settings_of r).ld

    P : Verdict → Type 0
    P v = (pixel_by v (pixel_at r ram font (frame % 64) x y)).value < 16

    by : (t : Bool) → leb width x ≡ t → P (refuse_if (t || leb lines y) PixelRange passed)
    by true e = omega arith
    by false e =
        either P (leb lines y) _ _ (omega arith)
        (subst (λ (n : ℕ). n < 16) (pixel.pixel-is r ram font (frame % 64) x y (leb-false _ _ e)) ((line-pixels r font (frame % 64) _).below x))

-- ---- one pixel

pixel_by_registers : (xs ys ram font : List ℕ) (lines frame x y : ℕ) → length xs ≡ length ys
    → register_bytes xs ≡ register_bytes ys
    → pixel_on xs ram font lines frame x y ≡ pixel_on ys ram font lines frame x y
unfolding pixel_on
pixel_by_registers xs ys ram font lines frame x y e p =
    ap₂ (λ (n : ℕ) (bytes : List ℕ). cond (eqb n record_length) (answer_of (ask_pixel (registers_in bytes) ram font lines frame x y)) answer_not_taken) e p

-- ---- the claim

pub crossing : Crossing
unfolding font_write_on font_read_on
crossing =
    record {
      fresh = fresh-read;
      bus = bus-whole;
      start = start-whole;
      draw = draw-whole;
      cell = λ xs ram c h. sym (cell-is xs h ram c);
      pixel = λ xs ram font lines frame x y h. sym (pixel-is xs h ram font lines frame x y);
      feed-fresh = feed-fresh-read;
      feed = feed-whole;
      font-write = λ font file. (refl, refl);
      font-read = λ file font. (refl, refl);
      pixel_alone = pixel_by_registers;
      not_taken = λ xs ram font line kind byte lines c frame x y h. (
        sym (fresh-not xs h),
        sym (bus-not_record xs ram kind byte h),
        sym (start-not xs lines h),
        sym (draw-not xs ram font line h),
        sym (cell-not xs ram c h),
        sym (pixel-not xs ram font lines frame x y h),
      );
      feed-not-taken = λ xs fs ram chunk out h. sym (feed-not xs fs ram chunk out h);
      feed-not-made = λ fs h. sym (feed-fresh-not fs h);
      no_kind = λ xs ram kind byte k. sym (bus-not-kind xs ram kind byte k);
      length-fresh = fresh-length;
      length-bus = bus-length;
      length-start = start-length;
      length-draw = draw-length;
      length-feed-fresh = feed-fresh-length;
      length-feed = feed-kept;
      length-font-write = write-length;
      length-font-read = read_length;
      apart = λ r h. let a : (reply_in (answer_of r)).refusal ≡ r.refusal = omega arith in let b : (reply_in (answer_of r)).value ≡ r.value = omega arith in λ i. record { refusal = a i; value = b i };
      value-bus = bus-value;
      value-start = λ xs lines. by_start (λ (o : StartOutcome). o.reply.value ≡ 0) (device_in xs) lines refl refl;
      value-draw = λ xs. read_count (device_in xs);
      value_cell = λ xs. cell-value (device_in xs);
      value-pixel = λ xs. pixel-value (device_in xs).registers;
      value-feed = value-most;
      value-font-write = λ font file. write_cases (λ (o : WriteOutcome). o.reply.value ≡ 0) font file (λ f l. refl) refl;
      value-font-read = λ file font. read_cases (λ (o : ReadOutcome). o.reply.value < block_count) file font (λ f l g. omega arith) (λ r h. omega arith);
      silent_start = start_silence;
      silent_draw = draw_silence;
      silent_bus = silence;
      silent_feed = feed_silence;
      deaf = deafness;
      unheard = unheard_by;
      silent_font-write = write_silent;
      silent_font-read = read_silent;
    }

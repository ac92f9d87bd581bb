-- The witnesses (specs/Witnesses.antt), each by computing the two runs.
-- Assumes nothing.
use Prim.Native.Nat.{ℕ}
use mathlib.Core.Path.{◌≡◌, refl, sym, ap, subst}
use mathlib.Core.Bool.{Bool, true, false, not, ◌&&◌, ◌||◌, beq}
use mathlib.Core.List.{List, [], ◌∷◌}
use borrow.Author.Tests.{eqb-true, eqb-false}
use lib.Dec.{T, eqb, eqb→eq}
use lib.ListN.{get_or}
use mir.Facts.{and_yes}
use Rattle.runs.specs.Runs.{Machine, Entry, log, end, AsMade, select, others_of, SameRuns}
use Rattle.cells.specs.Reading.{Role, descriptor, code, slice, same_role, bind, fmap, value, cells, cells_as, among, Alike}
use Rattle.refusals.specs.Refusals.{Reply}
use Rattle.registers.specs.declared.Settings.{Settings}
use Rattle.registers.specs.Registers.{settings_of, page_of}
use Rattle.raster.specs.Raster.{before_first, following, is_last, interpolated, slice_number}
use Rattle.bus.specs.declared.Event.{Event}
use Rattle.bus.specs.declared.Event.TheVariants.{Byte}
use Rattle.bus.specs.Bus.{step, ram_with, registers_with, answer_to, taken, bus_event}
use Rattle.walk.specs.Walk.{walk_from, strip_of, over, next_strip, begun, advanced, next_line}
use Rattle.glyph.specs.Glyph.{glyph_of, in_ram, of_bytes}
use Rattle.paint.specs.Pixels.{ink_of, columns, twelve_columns}
use Rattle.line.specs.Line.{codes_by, row_by, shown_by, scan_by, shown_of, character, painted, paint}
use Rattle.ahead.specs.Ahead.{remaining}
use Rattle.device.specs.Device.{fresh_device, hear_event, start_frame, in_frame, pixels_of, line_on, line_drawn, draw_verdict, draw_by, draw_line, cells_left, ask_cell, remaining_of}
use Rattle.pixel.specs.Pixel.{falls_in, ended, row_pixel, pixel_at}
use Rattle.pixel.specs.Ask.{pixel_verdict, pixel_by, ask_pixel}
use Rattle.capture.specs.Capture.{finished, feed_after, outputs, feed_verdict, chunk_fed, feed_by, events_by, feed_chunk}
use Rattle.calls.specs.Calls.{Call, draw, event, Answer, is_event, bus_events_of}
use Rattle.calls.specs.OnePage.{State, events, make, calls, fed_by, EachEvent, effect_of, Stores, QuietWrite}
use Rattle.calls.specs.Witnesses.{addressing, write, font, heard, starts, traffic, picture, buffer, turning, first_line, Changes}
use Rattle.calls.specs.Witnesses.{Setting, LD, DD, CH, OSD, FBK, FL, but, ButSetting, ButCell, ready, Seen, Witnesses}

-- ---- tests that show a list to be quiet

-- each of the cells holds the same byte in both RAMs
alike_test : List ℕ → List ℕ → List ℕ → Bool
alike_test [] ram ram' = true
alike_test (c ∷ cs) ram ram' = eqb (get_or ram' c 0) (get_or ram c 0) && alike_test cs ram ram'

alike_if : (cs ram ram' : List ℕ) → T (alike_test cs ram ram') → Alike cs ram ram'
unfolding alike_test Alike among
alike_if [] ram ram' t c m = absurd m
alike_if (x ∷ cs) ram ram' t c m = by (eqb c x) refl m (alike_if cs ram ram' passed.1 c)
  where
    passed : T (eqb (get_or ram' x 0) (get_or ram x 0)) × T (alike_test cs ram ram')
    passed = and_yes (eqb (get_or ram' x 0) (get_or ram x 0)) (alike_test cs ram ram') t

    by : (b : Bool) → eqb c x ≡ b → T (b || among c cs) → (T (among c cs) → get_or ram' c 0 ≡ get_or ram c 0) → get_or ram' c 0 ≡ get_or ram c 0
    by true e m h = subst (λ (y : ℕ). get_or ram' y 0 ≡ get_or ram y 0) (sym (eqb-true c x e)) (eqb→eq (get_or ram' x 0) (get_or ram x 0) passed.0)
    by false e m h = h m

-- the settings are the same
same_test : Settings → Settings → Bool
same_test s t =
    eqb s.ld t.ld
    && (eqb s.dd t.dd && (eqb s.ch t.ch && (beq s.osd t.osd && (eqb s.fbk t.fbk && eqb s.fl t.fl))))

same_bool : (a b : Bool) → T (beq a b) → a ≡ b
same_bool true true t = refl
same_bool true false t = absurd t
same_bool false true t = absurd t
same_bool false false t = refl

same_if : (s t : Settings) → T (same_test s t) → s ≡ t
unfolding same_test
same_if s t passed =
    let (ld, later) = and_yes (eqb s.ld t.ld) _ passed in
    let (dd, later) = and_yes (eqb s.dd t.dd) _ later in
    let (ch, later) = and_yes (eqb s.ch t.ch) _ later in
    let (osd, later) = and_yes (beq s.osd t.osd) _ later in
    let (fbk, fl) = and_yes (eqb s.fbk t.fbk) _ later in
    λ i.
    record {
      ld = eqb→eq s.ld t.ld ld i;
      dd = eqb→eq s.dd t.dd dd i;
      ch = eqb→eq s.ch t.ch ch i;
      osd = same_bool s.osd t.osd osd i;
      fbk = eqb→eq s.fbk t.fbk fbk i;
      fl = eqb→eq s.fl t.fl fl i;
    }

-- an event is quiet, write or not
event_test : State → Event → Bool
event_test s e =
    alike_test (cells_left s.device s.ram) s.ram (hear_event s.device s.ram e).ram
    && same_test (settings_of (hear_event s.device s.ram e).device.registers) (settings_of s.device.registers)

event_if : (s : State) (e : Event) → T (event_test s e) → QuietWrite s e
unfolding event_test
event_if s e t =
    let (alike, same) = and_yes (alike_test (cells_left s.device s.ram) s.ram (hear_event s.device s.ram e).ram) _ t in
    λ _. record { cells = alike_if _ _ _ alike; settings = same_if _ _ same }

-- each call of a list passes a test as it is made
run_test : {C A : Type 0} → (State → C → Bool) → Machine State C A → State → List C → Bool
run_test test m s [] = true
run_test test m s (c ∷ cs) = test s c && run_test test m (m.after s c) cs

-- what a test shows of a call holds of each call that passes it
as_made_if : {C A : Type 0} (P : State → C → Type 0) (test : State → C → Bool) (m : Machine State C A) → ((s : State) (c : C) → T (test s c) → P s c)
    → (s : State) (cs : List C) → T (run_test test m s cs) → AsMade P m s cs
unfolding run_test AsMade
as_made_if P test m f s [] t = tt
as_made_if P test m f s (c ∷ cs) t =
    let (first, later) = and_yes (test s c) _ t in
    (f s c first, as_made_if P test m f (m.after s c) cs later)

-- each event of a call is quiet
quiet_test : State → Call Event → Bool
quiet_test s c = run_test event_test events s (bus_events_of (fed_by s) c)

quiet_if : (s : State) (c : Call Event) → T (quiet_test s c) → EachEvent QuietWrite s c
unfolding quiet_test
quiet_if s c t = as_made_if QuietWrite event_test events event_if s (bus_events_of (fed_by s) c) t

-- ---- a test that shows two runs to differ

-- a pixel of a log's first line
pixel_in : ℕ → List (Entry (Call Event) (Answer Reply)) → ℕ
pixel_in i [] = 0
pixel_in i (x ∷ xs) = get_or x.answer.buffer i 0

-- it is the same in both runs. To open this test opens all that a witness computes
pixel_test : ℕ → State → List (Call Event) → Bool
unfolding addressing write font heard starts traffic picture buffer turning first_line but ready alike_test same_test event_test
    run_test quiet_test pixel_in make is_event bus_events_of Stores fresh_device hear_event start_frame in_frame pixels_of line_on line_drawn draw_verdict draw_by draw_line
    cells_left ask_cell log end select step ram_with registers_with answer_to taken bus_event settings_of remaining scan_by next_line walk_from
    over next_strip begun advanced strip_of row_by shown_by codes_by glyph_of in_ram bind fmap value cells cells_as same_role among before_first following is_last
    interpolated slice_number paint painted character shown_of twelve_columns ink_of columns of_bytes
    finished feed_after outputs feed_verdict chunk_fed feed_by events_by feed_chunk falls_in ended row_pixel pixel_at pixel_verdict pixel_by ask_pixel
pixel_test i s cs =
    eqb (pixel_in i (select (λ x. not (is_event x.call)) (log (calls font) s cs))) (pixel_in i (log (calls font) s (others_of (calls font) cs)))

-- what differs in a number is not the same
apart : {A : Type 0} (f : A → ℕ) (x y : A) → eqb (f x) (f y) ≡ false → x ≡ y → ⊥
apart f x y n e = eqb-false (f x) (f y) n (ap f e)

differ_if : (i : ℕ) (s : State) (cs : List (Call Event)) → pixel_test i s cs ≡ false → SameRuns (calls font) s cs → ⊥
unfolding pixel_test
differ_if i s cs n r = apart (pixel_in i) _ _ n r.others

-- ---- the witnesses

changes : Changes picture turning
unfolding pixel_test
changes =
    record {
      quiet = as_made_if (EachEvent QuietWrite) quiet_test (calls font) quiet_if picture turning tt;
      accepted = refl;
      registers = apart page_of _ _ refl;
      ram = apart (λ (ram : List ℕ). get_or ram 0x020 0) _ _ refl;
      next_frame = apart (λ (line : List ℕ). get_or line 36 0) _ _ refl;
    }

-- a write that is quiet but for one setting, seen at a pixel
by_setting : (k : Setting) (a x i : ℕ) → Stores (effect_of (ready a) (Byte x))
    → T (alike_test (cells_left (ready a).device (ready a).ram) (ready a).ram (hear_event (ready a).device (ready a).ram (Byte x)).ram)
    → settings_of (hear_event (ready a).device (ready a).ram (Byte x)).device.registers
    ≡ but k (settings_of (ready a).device.registers) (settings_of (hear_event (ready a).device (ready a).ram (Byte x)).device.registers)
    → pixel_test i (ready a) (event (Byte x) ∷ draw buffer ∷ []) ≡ false → Seen (ButSetting k) a x
by_setting k a x i w c s d =
    record { stores = w; else_quiet = record { cells = alike_if _ _ _ c; settings = s }; differ = differ_if i _ _ d }

-- what is computed of each role
each_role : (P : Role → Type 0) → P descriptor → P code → P slice → (q : Role) → P q
each_role P d c s descriptor = d
each_role P d c s code = c
each_role P d c s slice = s

-- the cell is read in role q if that is r
abbrev ReadAs : Role → ℕ → Role → Type 0
ReadAs r a q = among a (cells_as q (ready a).ram (remaining_of (ready a).device)) ≡ same_role q r

-- a write that is quiet but for one cell, its own, seen at the first character's first pixel
by_cell : (r : Role) (a x : ℕ) → Stores (effect_of (ready a) (Byte x)) → ReadAs r a descriptor → ReadAs r a code → ReadAs r a slice
    → T (alike_test (select (λ c. not (eqb c a)) (cells_left (ready a).device (ready a).ram)) (ready a).ram
    (hear_event (ready a).device (ready a).ram (Byte x)).ram)
    → settings_of (hear_event (ready a).device (ready a).ram (Byte x)).device.registers ≡ settings_of (ready a).device.registers
    → pixel_test 36 (ready a) (event (Byte x) ∷ draw buffer ∷ []) ≡ false → Seen (ButCell r a) a x
by_cell r a x w q₁ q₂ q₃ c s d =
    record {
      stores = w;
      else_quiet = record { reads = each_role (ReadAs r a) q₁ q₂ q₃; cells = alike_if _ _ _ c; settings = s };
      differ = differ_if 36 _ _ d;
    }

pub witnesses : Witnesses
unfolding pixel_test
witnesses =
    record {
      changes = changes;
      ld = by_setting LD 0x3FF0 0x04 48 tt tt refl refl;
      dd = by_setting DD 0x3FF1 0x05 36 tt tt refl refl;
      ch = by_setting CH 0x3FF2 0x06 36 tt tt refl refl;
      osd = by_setting OSD 0x3FF3 0x00 36 tt tt refl refl;
      fbk = by_setting FBK 0x3FF3 0xC0 0 tt tt refl refl;
      fl = by_setting FL 0x3FF3 0xA0 36 tt tt refl refl;
      descriptor = by_cell descriptor 0x001 0x80 tt refl refl refl tt refl refl;
      code = by_cell code 0x010 0x90 tt refl refl refl tt refl refl;
      fed_code = differ_if 36 _ _ refl;
      slice = by_cell slice 0x0C1 0x00 tt refl refl refl tt refl refl;
    }

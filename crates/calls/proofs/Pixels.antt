-- The proof that the pixel asked for is the one that is drawn (specs/Pixels.antt): while RAM and registers stay put, each accepted draw brings
-- the walk one line on, and no other call moves it.
-- Assumes nothing.
use Prim.Native.Nat.{ℕ, suc, ◌+◌, ◌-◌, ◌%◌, ◌≤◌, ◌<◌}
use mathlib.Core.Path.{◌≡◌, refl, sym, ap, ◌∙◌, subst}
use mathlib.Core.Bool.{cond}
use mathlib.Core.List.{List, [], ◌∷◌}
use native.Mathlib.Nat.{zero-add, add-zero}
use native.Mathlib.Omega.{arith}
use lib.Dec.{eqb}
use lib.ListN.{length, get_or}
use Rattle.limits.specs.Limits.{ram_length, font_length, frame_lines}
use Rattle.runs.specs.Runs.{end}
use Rattle.runs.proofs.Laws.{kept_by_each, counted}
use Rattle.cells.specs.Reading.{value}
use Rattle.refusals.specs.Refusals.{accepted}
use Rattle.refusals.proofs.Laws.{not-zero}
use Rattle.registers.specs.declared.Registers.{Registers}
use Rattle.registers.specs.Registers.{settings_of, page_of}
use Rattle.raster.specs.Raster.{width_of}
use Rattle.bus.specs.declared.Event.{Event}
use Rattle.walk.specs.Walk.{walk_from}
use Rattle.walk.proofs.Lines.{walk_after, one_more}
use Rattle.line.specs.Line.{Scanned, shown_row, scan, paint}
use Rattle.line.proofs.Strips.{scan-value}
use Rattle.device.specs.declared.Frame.{Frame}
use Rattle.device.specs.Device.{hear_event, StartOutcome, in_frame, DrawOutcome, pixels_of, line_on, line_drawn, line_width, draw_line}
use Rattle.device.proofs.Laws.{start-passed, by_draw, draw-same, draw-passed, line_at}
use Rattle.pixel.specs.Pixel.{pixel_at}
use Rattle.pixel.proofs.Laws.{ask-passed}
use Rattle.pixel.proofs.Lines.{pixel-is}
use Rattle.calls.specs.Calls.{Call, ask, event, is_draw, bus_events_of, drew}
use Rattle.calls.specs.OnePage.{State, events, make, answer, after, calls, fed_by, EachEvent}
use Rattle.calls.specs.Pixels.{started, StayPut, StayingPut, accepts, SamePixel, PixelsAgree}
use Rattle.calls.proofs.Calls.{View, draws, asks, acts, view}
use Rattle.calls.proofs.OnePage.{by_events}
use Rattle.calls.proofs.Quiet.{same_unstored, same-refused}

-- ---- calls that leave RAM and registers as they are

-- what its events do, a call does
call-put : (font : List ℕ) (s : State) (c : Call Event) → EachEvent (λ u e. StayPut font u (event e)) s c → StayPut font s c
unfolding make
call-put font s c = by (view c)
  where
    by : {c : Call Event} → View c → EachEvent (λ u e. StayPut font u (event e)) s c → StayPut font s c
    by (draws line) h = record { ram = refl; registers = draw-same s.device s.ram font line }
    by (asks cell) h = record { ram = refl; registers = refl }
    by (acts {c = c} t d) h =
        let e = (by_events font s c t).leaves in
        let kept =
        kept_by_each (λ u x. StayPut font u (event x)) events (λ (u : State). (u.ram ≡ s.ram) × (u.device.registers ≡ s.device.registers))
        (λ u x p i. (p.ram ∙ i.0, p.registers ∙ i.1)) s (bus_events_of (fed_by s) c) h (refl, refl)
        in
        record { ram = ap (λ (u : State). u.ram) e ∙ kept.0; registers = ap (λ (u : State). u.device.registers) e ∙ kept.1 }

pub staying_put : StayingPut
unfolding make
staying_put = record { calls = call-put; events = λ font s e n. same_unstored s e n; refused = λ font s e n. same-refused s e n }

-- ---- events leave the frame as it is

events_frame : (u : State) (es : List Event) → (end events u es).device.frame ≡ u.device.frame
unfolding end hear_event
events_frame u [] = refl
events_frame u (e ∷ es) = events_frame (events.after u e) es

-- ---- what the lines of a frame bring

module _ (font : List ℕ) (r : Registers) (mem : List ℕ) (f lines : ℕ) where
  -- after n of them
  pub record At (n : ℕ) (u : State) : Type 0 where
    ram : u.ram ≡ mem
    registers : u.device.registers ≡ r
    number : u.device.frame.number ≡ f
    left : u.device.frame.left ≡ lines - n
    walk : u.device.frame.walk ≡ walk_after mem (settings_of r).ch n (walk_from (page_of r))

  -- a call that leaves the frame as it is draws no line
  frame_kept : (n : ℕ) (u : State) (c : Call Event) → At n u → StayPut font u c → (after font u c).device.frame ≡ u.device.frame → At (n + 0) (after font u c)
  frame_kept n u c i p e =
      subst (λ (m : ℕ). At m (after font u c)) (sym (add-zero n))
      (record {
        ram = p.ram ∙ i.ram;
        registers = p.registers ∙ i.registers;
        number = ap (λ (x : Frame). x.number) e ∙ i.number;
        left = ap (λ (x : Frame). x.left) e ∙ i.left;
        walk = ap (λ (x : Frame). x.walk) e ∙ i.walk;
      })

  -- where an accepted draw brings the walk
  walk_on : (n : ℕ) (u : State) → At n u
      → (value u.ram (scan (settings_of u.device.registers) u.device.frame.walk)).walk
      ≡ walk_after mem (settings_of r).ch (n + 1) (walk_from (page_of r))
  walk_on n u i =
      let more : suc n ≡ n + 1 = omega arith in
      (λ j. (value (i.ram j) (scan (settings_of (i.registers j)) (i.walk j))).walk)
      ∙ ap (λ (z : Scanned). z.walk) (scan-value shown_row mem (settings_of r) (walk_after mem (settings_of r).ch n (walk_from (page_of r))))
      ∙ sym (one_more mem (settings_of r).ch n (walk_from (page_of r)))
      ∙ ap (λ (k : ℕ). walk_after mem (settings_of r).ch k (walk_from (page_of r))) more

  -- the lines that a call draws
  abbrev drawn_by : State → Call Event → ℕ
  drawn_by u c = drew accepts (record { call = c; answer = answer font u c })

  -- one call
  pub one-call : (n : ℕ) (u : State) (c : Call Event) → StayPut font u c → At n u → At (n + drawn_by u c) (after font u c)
  unfolding make is_draw
  one-call n u c p i = by (view c) p
    where
      by : {c : Call Event} → View c → StayPut font u c → At (n + drawn_by u c) (after font u c)
      by (draws line) p =
          by_draw u.device u.ram font line
          (λ (o : DrawOutcome). At (n + cond (eqb o.reply.refusal 0) 1 0) (record { device = o.device; ram = u.ram; feed = u.feed }))
          (λ q. rw (not-zero q, add-zero) i)
          (unfold line_drawn line_on in λ ready.
          record { ram = i.ram; registers = i.registers; number = i.number; left = omega (arith, i.left); walk = walk_on n u i })
      by (asks cell) p = frame_kept n u (ask cell) i p refl
      by (acts {c = c} t d) p =
          rw d (frame_kept n u c i p (ap (λ (v : State). v.device.frame) (by_events font u c t).leaves ∙ events_frame u (bus_events_of (fed_by u) c)))

  -- the pixel that the next line has at x
  at_pixel : (n x : ℕ) (u : State) → At n u → x < width_of (settings_of r).ld → get_or (pixels_of u.device u.ram font) x 0 ≡ pixel_at r mem font f x n
  unfolding pixels_of
  at_pixel n x u i h =
      (λ j. get_or (paint (settings_of (i.registers j)) font (i.number j) (value (i.ram j) (scan (settings_of (i.registers j)) (i.walk j))).row) x 0)
      ∙ pixel-is r mem font f x n h

-- ---- the claim

module _ (font : List ℕ) (s : State) (lines frame : ℕ) (h : 1 ≤ lines) (k : lines ≤ frame_lines) where
  -- after n lines of a frame that starts on s
  abbrev pub Lines : ℕ → State → Type 0
  Lines n u = At font s.device.registers s.ram (frame % 64) lines n u

  pub none_yet : (started s lines).device.frame.number ≡ frame % 64 → Lines 0 (started s lines)
  none_yet number =
      let start = start-passed s.device lines h k in
      record {
        ram = refl;
        registers = ap (λ (o : StartOutcome). o.device.registers) start ∙ unfold in_frame in refl;
        number = number;
        left = ap (λ (o : StartOutcome). o.device.frame.left) start ∙ unfold in_frame in omega arith;
        walk = ap (λ (o : StartOutcome). o.device.frame.walk) start ∙ unfold in_frame walk_after in refl;
      }

  pub same-pixel : (u : State) (x y : ℕ) (line : List ℕ) → Lines y u → length s.ram ≡ ram_length → length font ≡ font_length
      → y < lines → x < line_width s.device → line_width s.device ≤ length line → SamePixel font s u lines frame x y line
  same-pixel u x y line i a b v w room =
      let wide : line_width u.device ≡ line_width s.device = ap (λ (q : Registers). width_of (settings_of q).ld) i.registers in
      let passed : draw_line u.device u.ram font line ≡ line_drawn u.device u.ram font line =
      draw-passed u.device u.ram font line (ap length i.ram ∙ a) b (λ e. omega (arith, i.left))
      (omega (arith, room, wide))
      in
      record {
        drawn = ap (λ (o : DrawOutcome). o.reply.refusal) passed ∙ unfold line_drawn in refl;
        pixel =
            ask-passed s.device.registers s.ram font lines frame x y a b h k w v
            ∙ ap accepted
            (sym
            (ap (λ (o : DrawOutcome). get_or o.line x 0) passed
            ∙ line_at u.device u.ram font line x (omega (arith, w, wide))
            ∙ at_pixel font s.device.registers s.ram (frame % 64) lines y x u i w));
      }

pub pixels_agree : PixelsAgree
pixels_agree font s lines frame x y cs line a b h k number put count v w room =
    let u : State = end (calls font) (started s lines) cs in
    let i = counted (StayPut font) (calls font) (drew accepts) (Lines font s lines frame h k) (one-call font _ _ _ _) 0 (started s lines) cs put
    (none_yet font s lines frame h k number) in
    same-pixel font s lines frame h k u x y line (subst (λ (n : ℕ). Lines font s lines frame h k n u) (zero-add _ ∙ count) i) a b v w room

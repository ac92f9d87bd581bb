-- The proof that unused bits are 0 in every device that calls can reach (specs/Reach.antt): of the calls only an event, fed or not,
-- touches the registers, and a store masks its byte.
-- Assumes nothing.
use Prim.Native.Nat.{ℕ, zero, suc, ◌-◌, ◌%◌, ◌≤◌, ◌<◌, max}
use mathlib.Core.Path.{◌≡◌, refl, sym, ◌∙◌, subst}
use mathlib.Core.List.{List, [], ◌∷◌}
use native.Mathlib.Decide.{dec_lt}
use native.Mathlib.Omega.{arith}
use lib.ListN.{length, get_or, get_or-eq_default}
use lib.Bits.{bit_and, and_le_r, and_zero_l}
use Rattle.facts.proofs.Choice.{either}
use Rattle.runs.specs.Runs.{end}
use Rattle.registers.specs.declared.Registers.{Registers}
use Rattle.registers.specs.Registers.{kept, fresh_registers}
use Rattle.registers.proofs.Laws.{Masked, fresh_masked, stored_masked}
use Rattle.bus.specs.declared.Event.{Event}
use Rattle.bus.specs.declared.Effect.{Effect}
use Rattle.bus.specs.declared.Effect.TheVariants.{Acknowledge, Ignore, Store, Load}
use Rattle.bus.specs.Bus.{BusOutcome, step, is_register, registers_with, taken}
use Rattle.bus.proofs.Laws.{by_event, bus_event-sixteen}
use Rattle.device.specs.declared.Device.{Device}
use Rattle.device.specs.Device.{fresh_device, hear_event, StartOutcome, in_frame, start_frame}
use Rattle.device.proofs.Laws.{by_start, draw-same}
use Rattle.calls.specs.Calls.{Call, bus_events_of}
use Rattle.calls.specs.OnePage.{State, events, make, after, fed_by}
use Rattle.calls.specs.Reach.{Reachable, fresh, reset, start, call, UnusedBits}
use Rattle.calls.proofs.Calls.{View, draws, asks, acts, view}
use Rattle.calls.proofs.OnePage.{by_events}

-- ---- what each call does to the registers

-- what is kept from call to call
record Whole (r : Registers) : Type 0 where
  masked : Masked r
  sixteen : length r.bytes ≡ 16

fresh-whole : Whole fresh_registers
fresh-whole = record { masked = fresh_masked; sixteen = refl }

with_masked : (f : Effect) (r : Registers) → Masked r → Masked (registers_with f r)
unfolding registers_with
with_masked Acknowledge r h = h
with_masked (Ignore why) r h = h
with_masked (Store a x) r h = either Masked (is_register a) _ _ (stored_masked r (a - 0x3FF0) x h) h
with_masked (Load a) r h = h

event-whole : (d : Device) (ram : List ℕ) (e : Event) → Whole d.registers → Whole (hear_event d ram e).device.registers
unfolding hear_event
event-whole d ram e h =
    record {
      masked =
          by_event (λ (o : BusOutcome). Masked o.registers) d.bus d.registers ram e h.masked
          (unfold taken in with_masked (step d.bus e).effect d.registers h.masked);
      sixteen = bus_event-sixteen d.bus d.registers ram e ∙ h.sixteen;
    }

start-same : (d : Device) (lines : ℕ) → (start_frame d lines).device.registers ≡ d.registers
unfolding in_frame
start-same d lines = by_start (λ (o : StartOutcome). o.device.registers ≡ d.registers) d lines refl refl

-- a call leaves of the registers what its events leave
events-whole : (u : State) (es : List Event) → Whole u.device.registers → Whole (end events u es).device.registers
unfolding end
events-whole u [] k = k
events-whole u (e ∷ es) k = events-whole (events.after u e) es (event-whole u.device u.ram e k)

call-whole : (font : List ℕ) (s : State) (c : Call Event) → Whole s.device.registers → Whole (after font s c).device.registers
unfolding make
call-whole font s c h = by (view c)
  where
    by : {c : Call Event} → View c → Whole (after font s c).device.registers
    by (draws line) = subst Whole (sym (draw-same s.device s.ram font line)) h
    by (asks cell) = h
    by (acts {c = c} t d) =
        subst (λ (u : State). Whole u.device.registers) (sym (by_events font s c t).leaves) (events-whole s (bus_events_of (fed_by s) c) h)

reach_whole : {d : Device} → Reachable d → Whole d.registers
unfolding fresh_device
reach_whole fresh = fresh-whole
reach_whole (reset p) = fresh-whole
reach_whole (start {d} p lines) = subst Whole (sym (start-same d lines)) (reach_whole p)
reach_whole (call {d} p ram font f c) = call-whole font (record { device = d; ram = ram; feed = f }) c (reach_whole p)

-- ---- a byte with kept bits only is below 256

largest : List ℕ → ℕ
largest [] = 0
largest (x ∷ xs) = max x (largest xs)

largest_at : (xs : List ℕ) (i : ℕ) → get_or xs i 0 ≤ largest xs
unfolding largest
largest_at [] i = omega arith
largest_at (x ∷ xs) zero = omega arith
largest_at (x ∷ xs) (suc i) = omega (arith, largest_at xs i)

kept_byte : (i : ℕ) → get_or kept i 0 ≤ 255
unfolding largest
kept_byte i = largest_at kept i

module _ (r : Registers) (h : Whole r) where
  unused_at : (i : ℕ) → bit_and (get_or r.bytes i 0) (get_or kept i 0) ≡ get_or r.bytes i 0
  unfolding Masked
  unused_at i = by (dec_lt i 16)
    where
      by : Dec (i < 16) → bit_and (get_or r.bytes i 0) (get_or kept i 0) ≡ get_or r.bytes i 0
      by (yes k) =
          let e : i % 16 ≡ i = omega arith in
          subst (λ (j : ℕ). bit_and (get_or r.bytes j 0) (get_or kept j 0) ≡ get_or r.bytes j 0) e (h.masked i)
      by (no k) = rw (get_or-eq_default r.bytes 0 {n = i} (omega (arith, h.sixteen))) (and_zero_l (get_or kept i 0))

  byte_at_lem : (i : ℕ) → get_or r.bytes i 0 < 256
  byte_at_lem i = omega (arith, unused_at i, and_le_r (get_or r.bytes i 0) (get_or kept i 0), kept_byte i)

-- ---- the claim

pub unused-bits : UnusedBits
unused-bits d p =
    let h : Whole d.registers = reach_whole p in
    record { sixteen = h.sixteen; bytes = byte_at_lem d.registers h; unused = unused_at d.registers h }

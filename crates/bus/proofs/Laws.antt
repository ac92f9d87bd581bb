-- What callers use of the bus's definition.
-- Assumes nothing.
use Prim.Native.Nat.{ℕ, ◌-◌, ◌%◌, ◌<◌}
use mathlib.Core.Path.{◌≡◌, refl, sym, ap, ◌∙◌}
use mathlib.Core.Bool.{not}
use mathlib.Core.List.{List}
use native.Mathlib.Omega.{arith}
use lib.Dec.{eqb}
use borrow.Author.Tests.{eq-eqb, ne_eqb}
use lib.ListN.{length, get_or, length-set}
use Rattle.limits.specs.Limits.{first_register}
use Rattle.facts.proofs.Choice.{either}
use Rattle.refusals.specs.declared.Refusal.TheVariants.{RamLength}
use Rattle.refusals.specs.Refusals.{refused}
use Rattle.registers.specs.declared.Registers.{Registers}
use Rattle.bus.specs.declared.Bus.{Bus}
use Rattle.bus.specs.declared.BusState.{BusState}
use Rattle.bus.specs.declared.Step.{Step}
use Rattle.bus.specs.declared.Event.{Event}
use Rattle.bus.specs.declared.Effect.{Effect}
use Rattle.bus.specs.declared.Effect.TheVariants.{Acknowledge, Ignore, Store, Load}
use Rattle.bus.specs.Bus.{BusOutcome, bus_event, step, byte_at, ram_with, registers_with, answer_to, bus_reply, taken, is_ram, is_register}

with_length : (f : Effect) (ram : List ℕ) → length (ram_with f ram) ≡ length ram
unfolding ram_with
with_length Acknowledge ram = refl
with_length (Ignore why) ram = refl
with_length (Store a x) ram = either (λ (l : List ℕ). length l ≡ length ram) (is_ram a) _ ram (length-set ram a x) refl
with_length (Load a) ram = refl

with_sixteen : (f : Effect) (r : Registers) → length (registers_with f r).bytes ≡ length r.bytes
unfolding registers_with
with_sixteen Acknowledge r = refl
with_sixteen (Ignore why) r = refl
with_sixteen (Store a x) r = either (λ (s : Registers). length s.bytes ≡ length r.bytes) (is_register a) _ r (length-set r.bytes _ _) refl
with_sixteen (Load a) r = refl

-- what holds of a refused event and of a taken one holds of an event
pub by_event : (P : BusOutcome → Type 0) (b : Bus) (r : Registers) (ram : List ℕ) (e : Event)
    → P (record { bus = b; registers = r; ram = ram; reply = refused RamLength }) → P (taken (step b e) r ram) → P (bus_event b r ram e)
unfolding bus_event
by_event P b r ram e h k = either P (not (eqb (length ram) 1024)) _ _ h k

-- an event keeps the RAM's length, and the registers'
pub bus_event-length : (b : Bus) (r : Registers) (ram : List ℕ) (e : Event) → length (bus_event b r ram e).ram ≡ length ram
bus_event-length b r ram e =
    by_event (λ (o : BusOutcome). length o.ram ≡ length ram) b r ram e refl (unfold taken in with_length (step b e).effect ram)

pub bus_event-sixteen : (b : Bus) (r : Registers) (ram : List ℕ) (e : Event) → length (bus_event b r ram e).registers.bytes ≡ length r.bytes
bus_event-sixteen b r ram e =
    by_event (λ (o : BusOutcome). length o.registers.bytes ≡ length r.bytes) b r ram e refl (unfold taken in with_sixteen (step b e).effect r)

-- where registers and RAM hold bytes, so does an event's answer
answer-byte : (f : Effect) (r : Registers) (ram : List ℕ) → ((i : ℕ) → get_or r.bytes i 0 < 256) → ((i : ℕ) → get_or ram i 0 < 256)
    → (bus_reply (answer_to f r ram)).value < 256
unfolding answer_to
answer-byte Acknowledge r ram h k = omega arith
answer-byte (Ignore why) r ram h k = omega arith
answer-byte (Store a x) r ram h k = omega arith
answer-byte (Load a) r ram h k =
    either (λ (n : ℕ). n < 256) (is_ram a) _ _ (k a) (either (λ (n : ℕ). n < 256) (is_register a) _ _ (h ((a - first_register) % 16)) (omega arith))

pub value-byte : (b : Bus) (r : Registers) (ram : List ℕ) (e : Event) → ((i : ℕ) → get_or r.bytes i 0 < 256) → ((i : ℕ) → get_or ram i 0 < 256)
    → (bus_event b r ram e).reply.value < 256
value-byte b r ram e h k =
    by_event (λ (o : BusOutcome). o.reply.value < 256) b r ram e (omega arith) (unfold taken in answer-byte (step b e).effect r ram h k)

-- a state that is known to be s does what s does
pub byte_at_lem : (b : Bus) (x : ℕ) {s : BusState} → b.state ≡ s → byte_at s b x ≡ byte_at b.state b x
byte_at_lem b x e = ap (λ (s : BusState). byte_at s b x) (sym e)

-- ---- a whole event

-- refused for the RAM's length
pub bus_event-refused : (b : Bus) (r : Registers) (ram : List ℕ) (e : Event) → (length ram ≡ 1024 → ⊥)
    → ◌≡◌ {A = BusOutcome} (record { bus = b; registers = r; ram = ram; reply = refused RamLength }) (bus_event b r ram e)
unfolding bus_event
bus_event-refused b r ram e h = rw (ne_eqb _ _ h)

-- heard: the bus's step, and its effect f on registers and RAM
pub bus_event-heard : (b : Bus) (r : Registers) (ram : List ℕ) (e : Event) → length ram ≡ 1024 → (s : Step) → s ≡ step b e
    → {f : Effect} → s.effect ≡ f → taken (record { bus = s.bus; effect = f }) r ram ≡ bus_event b r ram e
unfolding bus_event
bus_event-heard b r ram e h s p q =
    rw (eq-eqb _ _ h) (ap (λ (f : Effect). taken (record { bus = s.bus; effect = f }) r ram) (sym q) ∙ ap (λ (t : Step). taken t r ram) p)

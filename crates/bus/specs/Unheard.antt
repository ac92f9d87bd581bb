-- Document 02, K6: why an event is not acknowledged, number by number, and the claim that the bus answers so (specs/Bus.antt).
-- Assumes nothing.
use Rattle.std.specs.Prelude.{ℕ, ◌≡◌, Bool, true, false, cond, List, ◌↔◌, length}
use Rattle.limits.specs.Limits.{ram_length}
use Rattle.refusals.specs.declared.Unheard.{Unheard}
use Rattle.refusals.specs.declared.Unheard.TheVariants as unheard
use Rattle.refusals.specs.declared.Refusal.TheVariants.{NotAcknowledged}
use Rattle.refusals.specs.Refusals.{number_of, refused}
use Rattle.registers.specs.declared.Registers.{Registers}
use Rattle.bus.specs.declared.Event.{Event}
use Rattle.bus.specs.declared.Event.TheVariants.{Byte, Fetch}
use Rattle.bus.specs.declared.BusState.{BusState}
use Rattle.bus.specs.declared.BusState.TheVariants.{Idle, Deaf, Slave, High, Low, Write, Read}
use Rattle.bus.specs.declared.Bus.{Bus}
use Rattle.bus.specs.Bus.{bus_event}

-- the reason that applies to an event, by what the bus waits for
pub data Applies : Unheard → BusState → Event → Type 0 where
  -- 5: a host byte or a fetch while idle
  byte_idle : (x : ℕ) → Applies unheard.Idle Idle (Byte x)
  fetch_idle : Applies unheard.Idle Idle Fetch
  -- 12: an unknown slave address, or any byte or fetch while deaf
  unknown_slave : (x : ℕ) → (x ≡ 0xBA → ⊥) → (x ≡ 0xBB → ⊥) → Applies unheard.NotAddressed Slave (Byte x)
  byte-deaf : (x : ℕ) → Applies unheard.NotAddressed Deaf (Byte x)
  fetch_deaf : Applies unheard.NotAddressed Deaf Fetch
  -- 13: a host byte while reading
  byte_reading : (x : ℕ) → Applies unheard.Reading Read (Byte x)
  -- 14: a fetch while the device waits for the slave address, for the high or low byte of the internal address, or for write data
  fetch_slave : Applies unheard.Writing Slave Fetch
  fetch_high : Applies unheard.Writing High Fetch
  fetch_low : (high : ℕ) → Applies unheard.Writing (Low high) Fetch
  fetch_write : Applies unheard.Writing Write Fetch

-- after 12 the device is deaf, else its state is as it was
abbrev pub deafens : Unheard → Bool
deafens unheard.Idle = false
deafens unheard.NotAddressed = true
deafens unheard.Reading = false
deafens unheard.Writing = false

abbrev pub state_after : Unheard → BusState → BusState
state_after why s = cond (deafens why) Deaf s

-- document 01's 5: any other slave address; a host byte while idle, deaf or reading; a fetch while not reading
pub data Unacknowledged : BusState → Event → Type 0 where
  other_slave : (x : ℕ) → (x ≡ 0xBA → ⊥) → (x ≡ 0xBB → ⊥) → Unacknowledged Slave (Byte x)
  byte_while_idle : (x : ℕ) → Unacknowledged Idle (Byte x)
  byte_while_deaf : (x : ℕ) → Unacknowledged Deaf (Byte x)
  byte_while_reading : (x : ℕ) → Unacknowledged Read (Byte x)
  fetch_while_not_reading : (s : BusState) → (s ≡ Read → ⊥) → Unacknowledged s Fetch

-- the claim, for every bus, registers and RAM; RAM of another length than 1,024 is refused 1 before any of these
pub record Reasons : Type 0 where
  -- the reason that applies is the answer, with 255; counter, registers and RAM are as before
  pub answered : (why : Unheard) (b : Bus) (r : Registers) (ram : List ℕ) (e : Event) → length ram ≡ ram_length → Applies why b.state e
      → bus_event b r ram e ≡ record { bus = record { state = state_after why b.state; counter = b.counter }; registers = r; ram = ram; reply = refused (NotAcknowledged why) }
  -- no event is answered so unless the reason applies
  pub only : (why : Unheard) (b : Bus) (r : Registers) (ram : List ℕ) (e : Event) → (bus_event b r ram e).reply.refusal ≡ number_of (NotAcknowledged why)
      → Applies why b.state e
  -- to each event that is not acknowledged exactly one applies, to the others none
  pub some : (b : Bus) (r : Registers) (ram : List ℕ) (e : Event) → length ram ≡ ram_length → ((bus_event b r ram e).reply.refusal ≡ 0 → ⊥)
      → (why : Unheard) × Applies why b.state e
  pub one : (why other : Unheard) (s : BusState) (e : Event) → Applies why s e → Applies other s e → why ≡ other
  pub none : (why : Unheard) (b : Bus) (r : Registers) (ram : List ℕ) (e : Event) → (bus_event b r ram e).reply.refusal ≡ 0 → Applies why b.state e → ⊥
  -- together they are document 01's 5
  pub together : (s : BusState) (e : Event) → Unacknowledged s e ↔ ((why : Unheard) × Applies why s e)

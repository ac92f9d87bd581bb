-- Document 01, "Bus": events, the address counter, stores and fetches; and document 02, K6: why an event is not acknowledged.
-- Assumes nothing.
use Rattle.std.specs.Prelude.{ℕ, ◌+◌, ◌-◌, ◌*◌, ◌%◌, Bool, not, cond, List, eqb, leb, ltb, length, get_or, set, replicate, Result, Ok, Err}
use Rattle.limits.specs.Limits.{ram_length, address_space, first_register}
use Rattle.refusals.specs.declared.Unheard.{Unheard}
use Rattle.refusals.specs.declared.Unheard.TheVariants as unheard
use Rattle.refusals.specs.declared.Refusal.{Refusal}
use Rattle.refusals.specs.declared.Refusal.TheVariants.{RamLength, NotAcknowledged}
use Rattle.refusals.specs.Refusals.{Reply, refused, reply_of}
use Rattle.registers.specs.declared.Registers.{Registers}
use Rattle.registers.specs.Registers.{stored, fetched}
use Rattle.bus.specs.declared.Event.{Event}
use Rattle.bus.specs.declared.Event.TheVariants.{Start, Byte, Fetch, Stop}
use Rattle.bus.specs.declared.BusState.{BusState}
use Rattle.bus.specs.declared.BusState.TheVariants.{Idle, Deaf, Slave, High, Low, Write, Read}
use Rattle.bus.specs.declared.Bus.{Bus}
use Rattle.bus.specs.declared.Effect.{Effect}
use Rattle.bus.specs.declared.Effect.TheVariants.{Acknowledge, Ignore, Store, Load}
use Rattle.bus.specs.declared.Step.{Step}

-- a reset sets the bus to idle and the counter to 0
abbrev pub fresh_bus : Bus
fresh_bus = record { state = Idle; counter = 0 }

-- a fresh device has 1,024 RAM cells, all zero; for the rest of it see the device's freshDevice
abbrev pub fresh_ram : List ℕ
fresh_ram = replicate ram_length 0

-- an event by its number, for those who number them: 0 start, 1 a byte from the host, 2 a fetch, else stop
abbrev pub event_of : ℕ → ℕ → Event
event_of kind byte = cond (eqb kind 0) Start (cond (eqb kind 1) (Byte byte) (cond (eqb kind 2) Fetch Stop))

-- the last of these numbers, a stop's
abbrev pub last_kind : ℕ
last_kind = 3

-- a number that is no event's
abbrev pub bad_kind : ℕ → Bool
bad_kind kind = ltb last_kind kind

-- ---- the state and the counter

-- the address that the counter holds, 0000 to 3FFF
abbrev pub address : Bus → ℕ
address b = b.counter % address_space

-- the address after another: after 3FFF comes 0000 (H)
abbrev pub next_address : ℕ → ℕ
next_address a = (a + 1) % address_space

-- the bus waits for something else, and the event is answered so; the counter stays
abbrev pub goes : Bus → BusState → Effect → Step
goes b s e = record { bus = record { state = s; counter = b.counter }; effect = e }

-- the counter goes up by 1; the state stays
abbrev pub steps : Bus → Effect → Step
steps b e = record { bus = record { state = b.state; counter = next_address (address b) }; effect = e }

-- only the low byte sets the address counter, to high mod 64 times 256 plus low
abbrev pub sets_counter : ℕ → ℕ → Step
sets_counter high low = record { bus = record { state = Write; counter = high % 64 * 256 + low }; effect = Acknowledge }

-- nothing changes, and the event is not acknowledged, for this reason
abbrev pub ignores : Bus → Unheard → Step
ignores b why = goes b b.state (Ignore why)

-- a slave address: BA writes, BB reads; any other is not acknowledged (12), and the device is deaf until start or stop
abbrev pub slave : Bus → ℕ → Step
slave b x = cond (eqb x 0xBA) (goes b High Acknowledge) (cond (eqb x 0xBB) (goes b Read Acknowledge) (goes b Deaf (Ignore unheard.NotAddressed)))

-- a byte from the host: not acknowledged while idle (5), deaf (12) or reading (13)
abbrev pub byte_at : BusState → Bus → ℕ → Step
byte_at Idle b x = ignores b unheard.Idle
byte_at Deaf b x = ignores b unheard.NotAddressed
byte_at Slave b x = slave b x
-- next the high then the low byte of the internal address (H)
byte_at High b x = goes b (Low x) Acknowledge
byte_at (Low high) b x = sets_counter high x
-- then each host byte is stored at the counter and acknowledged
byte_at Write b x = steps b (Store (address b) x)
byte_at Read b x = ignores b unheard.Reading

-- each fetch answers the byte at the counter, and the counter goes up likewise; a fetch while not reading changes nothing: while idle (5),
-- while deaf (12), or while the device waits for an address or for write data (14)
abbrev pub fetch_at : BusState → Bus → Step
fetch_at Idle b = ignores b unheard.Idle
fetch_at Deaf b = ignores b unheard.NotAddressed
fetch_at Slave b = ignores b unheard.Writing
fetch_at High b = ignores b unheard.Writing
fetch_at (Low high) b = ignores b unheard.Writing
fetch_at Write b = ignores b unheard.Writing
fetch_at Read b = steps b (Load (address b))

-- start, in any state: the next host byte is the slave address. Stop: idle
unfoldable pub step : Bus → Event → Step
step b Start = goes b Slave Acknowledge
step b (Byte x) = byte_at b.state b x
step b Fetch = fetch_at b.state b
step b Stop = goes b Idle Acknowledge

-- ---- the address space: cells 0000 to 03FF are RAM, 3FF0 to 3FFF registers. An address is at most 3FFF

abbrev pub is_ram : ℕ → Bool
is_ram a = ltb a ram_length

abbrev pub is_register : ℕ → Bool
is_register a = leb first_register a

-- elsewhere (H) a store is acknowledged and dropped
unfoldable pub ram_with : Effect → List ℕ → List ℕ
ram_with Acknowledge ram = ram
ram_with (Ignore why) ram = ram
ram_with (Store a x) ram = cond (is_ram a) (set ram a x) ram
ram_with (Load a) ram = ram

unfoldable pub registers_with : Effect → Registers → Registers
registers_with Acknowledge r = r
registers_with (Ignore why) r = r
registers_with (Store a x) r = cond (is_register a) (stored r (a - first_register) x) r
registers_with (Load a) r = r

-- elsewhere (H) a fetch answers 0
abbrev pub byte_in : ℕ → Registers → List ℕ → ℕ
byte_in a r ram = cond (is_ram a) (get_or ram a 0) (cond (is_register a) (fetched r (a - first_register)) 0)

-- the byte given with every acknowledged event but a fetch is 0
unfoldable pub answer_to : Effect → Registers → List ℕ → Result ℕ Refusal
answer_to Acknowledge r ram = Ok 0
answer_to (Ignore why) r ram = Err (NotAcknowledged why)
answer_to (Store a x) r ram = Ok 0
answer_to (Load a) r ram = Ok (byte_in a r ram)

-- document 01's numbers for an answer: the refusal and the byte
abbrev pub bus_reply : Result ℕ Refusal → Reply
bus_reply = reply_of (λ x. x) refused

-- ---- a whole event

-- what an event leaves and says
pub record BusOutcome : Type 0 where
  pub bus : Bus
  pub registers : Registers
  pub ram : List ℕ
  pub reply : Reply

unfoldable pub taken : Step → Registers → List ℕ → BusOutcome
taken s r ram =
    record {
      bus = s.bus;
      registers = registers_with s.effect r;
      ram = ram_with s.effect ram;
      reply = bus_reply (answer_to s.effect r ram);
    }

-- order of refusals: 1; then 5, 12, 13 or 14, of which at most one applies (specs/Unheard.antt)
unfoldable pub bus_event : Bus → Registers → List ℕ → Event → BusOutcome
bus_event b r ram e =
    cond (not (eqb (length ram) ram_length))
    (record { bus = b; registers = r; ram = ram; reply = refused RamLength })
    (taken (step b e) r ram)

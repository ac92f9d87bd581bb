-- What a host can act on: events that are quiet, and answers that stay true (specs/OnePage.antt), stated for every device record and RAM.
-- Assumes nothing.
use Rattle.std.specs.Prelude.{ℕ, ◌/◌, ◌%◌, ◌≤◌, ◌<◌, ◌≡◌, List, get_or}
use Rattle.limits.specs.Limits.{ram_length, address_space, first_register}
use Rattle.runs.specs.Runs.{end, AsMade}
use Rattle.refusals.specs.Refusals.{accepted}
use Rattle.bus.specs.declared.Event.{Event}
use Rattle.bus.specs.declared.Event.TheVariants.{Byte}
use Rattle.bus.specs.declared.Effect.TheVariants.{Store}
use Rattle.bus.specs.declared.BusState.TheVariants.{Write}
use Rattle.bus.specs.Bus.{address}
use Rattle.device.specs.Device.{hear_event, ask_cell}
use Rattle.calls.specs.Calls.{Call}
use Rattle.calls.specs.OnePage.{State, calls, EachEvent, effect_of, Stores, Quiet, QuietRun}

-- the claim that these events are quiet
pub record QuietEvents : Type 0 where
  -- a data byte to a cell of which the question says no
  pub asked_no : (s : State) (x : ℕ) → s.device.bus.state ≡ Write → ask_cell s.device s.ram (address s.device.bus) ≡ accepted 0
      → Quiet s (Byte x)
  -- every refused event: not acknowledged, or RAM of another length
  pub refused : (s : State) (e : Event) → ((hear_event s.device s.ram e).reply.refusal ≡ 0 → ⊥) → Quiet s e
  -- a start, a stop, a fetch, a slave or internal address byte
  pub no_store : (s : State) (e : Event) → (Stores (effect_of s e) → ⊥) → Quiet s e
  -- the byte that is already there: in RAM, in DD and in CH (for the other registers see below)
  pub same_byte : (s : State) (e : Event) (a x : ℕ) → effect_of s e ≡ Store a x → a < ram_length → get_or s.ram a 0 ≡ x → Quiet s e
  pub same_delay : (s : State) (e : Event) (x : ℕ) → effect_of s e ≡ Store 0x3FF1 x → x % 256 ≡ get_or s.device.registers.bytes 1 0 → Quiet s e
  pub same_height : (s : State) (e : Event) (x : ℕ) → effect_of s e ≡ Store 0x3FF2 x → x % 64 ≡ get_or s.device.registers.bytes 2 0 % 64 → Quiet s e
  -- an empty address
  pub empty : (s : State) (e : Event) (a x : ℕ) → effect_of s e ≡ Store a x → ram_length ≤ a → a < first_register → Quiet s e
  -- registers 3FF4 to 3FFF
  pub other_register : (s : State) (e : Event) (a x : ℕ) → effect_of s e ≡ Store a x → 0x3FF4 ≤ a → a < address_space → Quiet s e
  -- VSP and HSP, LD as it is
  pub sync_edges : (s : State) (e : Event) (x : ℕ) → effect_of s e ≡ Store 0x3FF0 x → x % 64 ≡ get_or s.device.registers.bytes 0 0 % 64 → Quiet s e
  -- P, with OSD, FBK and FL as they are
  pub page : (s : State) (e : Event) (x : ℕ) → effect_of s e ≡ Store 0x3FF3 x → x / 16 % 16 ≡ get_or s.device.registers.bytes 3 0 / 16 % 16 → Quiet s e

-- ---- lists

-- the claim of condition 3 asks of the bus writes alone that they be quiet: then all bus events of the list are, the fed ones too
abbrev pub WritesAlone : Type 0
WritesAlone = (font : List ℕ) (s : State) (cs : List (Call Event)) → QuietRun font s cs → AsMade (EachEvent Quiet) (calls font) s cs

-- a no of the cell question stays a no over later draws, cell questions, quiet events, quiet feeds, feeds made anew and questions about a pixel
abbrev pub NoStays : Type 0
NoStays =
    (font : List ℕ) (s : State) (cs : List (Call Event)) (cell : ℕ) → QuietRun font s cs → ask_cell s.device s.ram cell ≡ accepted 0
    → ask_cell (end (calls font) s cs).device (end (calls font) s cs).ram cell ≡ accepted 0

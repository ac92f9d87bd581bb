-- The events of a run: what one does to the record and the RAM apart from the record's bus part, and what it answers.
-- Assumes nothing.
use Rattle.std.specs.Prelude.{ℕ, ◌%◌, ◌≤◌, ◌≡◌, List, length}
use Rattle.limits.specs.Limits.{ram_length, address_space}
use Rattle.refusals.specs.Refusals.{accepted}
use Rattle.bus.specs.declared.BusState.{BusState}
use Rattle.bus.specs.declared.Bus.{Bus}
use Rattle.bus.specs.declared.Effect.TheVariants.{Store}
use Rattle.bus.specs.Bus.{event_of, last_kind, next_address, ram_with, byte_in}
use Rattle.device.specs.Device.{hear_event}
use Rattle.layout.specs.Layout.{record_length, state_number, put_bus, state_byte, device_in}
use Rattle.interface.specs.Interface.{BusDone, bus_on}
use Rattle.bus_bytes.specs.Steps.{stored_on}

-- a data byte and a fetch at an address, with the byte on the bus
abbrev pub stores : ℕ → ℕ → List ℕ → List ℕ → BusDone
stores a x xs ram = record { device = stored_on a x xs; ram = ram_with (Store a x) ram; answer = 0 }

abbrev pub loads : ℕ → ℕ → List ℕ → List ℕ → BusDone
loads a x xs ram = record { device = xs; ram = ram; answer = byte_in a (device_in xs).registers ram }

-- the bus in a state, with its counter at an address
abbrev pub at : BusState → ℕ → Bus
at s a = record { state = s; counter = a }

-- a record xs that differs from ys in the bus part alone, with the bus in a state and its counter at an address
pub record Ahead (s : BusState) (a : ℕ) (xs ys : List ℕ) : Type 0 where
  pub long : length xs ≡ record_length
  pub counted : (device_in xs).bus.counter % address_space ≡ a
  pub over : (b : Bus) → put_bus b xs ≡ put_bus b ys
  pub same : (device_in ys).registers ≡ (device_in xs).registers
  pub in_state : state_byte xs ≡ state_number s

-- events of a kind, that a bus in a state hears: each is acknowledged and does so to ys, and the bus part is put with the counter gone up
pub record RunLaws (s : BusState) (kind : ℕ) (does : ℕ → ℕ → List ℕ → List ℕ → BusDone) : Type 0 where
  pub known : kind ≤ last_kind
  pub heard : (xs ys ram : List ℕ) (a x : ℕ) → Ahead s a xs ys → length ram ≡ ram_length
      → bus_on xs ram kind x ≡ record { device = put_bus (at s (next_address a)) (does a x ys ram).device; ram = (does a x ys ram).ram; answer = (does a x ys ram).answer }
  pub reply : (xs ys ram : List ℕ) (a x : ℕ) → Ahead s a xs ys → length ram ≡ ram_length
      → (hear_event (device_in xs) ram (event_of kind x)).reply ≡ accepted (does a x ys ram).answer

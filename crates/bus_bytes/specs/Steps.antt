-- A bus event on the record's bytes, step by step: what the promises of inner functions cite. The interface's own promises do not speak of
-- these.
-- Assumes nothing.
use Rattle.std.specs.Prelude.{ℕ, ◌<◌, List}
use Rattle.limits.specs.Limits.{address_space}
use Rattle.bus.specs.declared.Event.{Event}
use Rattle.bus.specs.declared.Step.{Step}
use Rattle.bus.specs.declared.Effect.{Effect}
use Rattle.bus.specs.declared.Effect.TheVariants.{Acknowledge, Ignore, Store, Load}
use Rattle.bus.specs.Bus.{registers_with, step, taken}
use Rattle.layout.specs.Layout.{put_registers, device_in}
use Rattle.interface.specs.Interface.{BusDone, heard_on}

-- an address that a step of the bus asks for is at most 3FFF
abbrev pub InSpace : Effect → Type 0
InSpace Acknowledge = Unit
InSpace (Ignore why) = Unit
InSpace (Store a x) = a < address_space
InSpace (Load a) = a < address_space

-- a step of the bus, and an event to a record and RAM of the right lengths
abbrev pub step_on : List ℕ → List ℕ → Step → BusDone
step_on xs ram s = heard_on xs (taken s (device_in xs).registers ram)

abbrev pub event_on : List ℕ → List ℕ → Event → BusDone
event_on xs ram e = step_on xs ram (step (device_in xs).bus e)

-- what a store to an address leaves of the record: the registers after it, in their place
abbrev pub stored_on : ℕ → ℕ → List ℕ → List ℕ
stored_on a x xs = put_registers (registers_with (Store a x) (device_in xs).registers) xs

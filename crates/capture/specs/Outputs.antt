-- Document 02, K6: K1's output bytes do not change.
-- Assumes nothing.
use Rattle.std.specs.Prelude.{ℕ, ◌≡◌, cond, List, [], ◌∷◌, eqb, length}
use Rattle.limits.specs.Limits.{ram_length}
use Rattle.runs.specs.Runs.{Machine}
use Rattle.refusals.specs.declared.Unheard.TheVariants as unheard
use Rattle.refusals.specs.declared.Refusal.TheVariants.{NotAcknowledged}
use Rattle.refusals.specs.Refusals.{Reply, refused}
use Rattle.bus.specs.declared.Event.{Event}
use Rattle.device.specs.declared.Device.{Device}
use Rattle.device.specs.Device.{hear_event}
use Rattle.capture.specs.Capture.{Logged, output_of, output_from, Chip, bus_events}

-- the answers as they were before K6: 5 for every event that is not acknowledged
abbrev pub as_five : Reply → Reply
as_five r = cond (eqb r.refusal 0) r (refused (NotAcknowledged unheard.Idle))

abbrev pub old_events : Machine Chip Logged Reply
old_events = record { answer = λ c x. as_five (bus_events.answer c x); after = bus_events.after; is_event = bus_events.is_event }

-- the claim, for every device, and every RAM that a feed takes. Over the bytes that C sees a feed writes the same (Crossing's feed)
pub record SameOutputs : Type 0 where
  -- the bytes of a run of events
  pub run : (c : Chip) (es : List Logged) → length c.ram ≡ ram_length → output_from bus_events c es ≡ output_from old_events c es
  -- for an event that is not acknowledged they are 0 and 255, for whichever reason
  pub unheard : (d : Device) (ram : List ℕ) (e : Event) → length ram ≡ ram_length → ((hear_event d ram e).reply.refusal ≡ 0 → ⊥)
      → output_of (hear_event d ram e).reply ≡ 0 ∷ 255 ∷ []

-- The output bytes of events that are not acknowledged: whichever reason applies, its number is not 0 and its value is 255.
-- Assumes nothing.
use Prim.Native.Nat.{ℕ}
use mathlib.Core.Path.{◌≡◌, refl, ap, ap₂, ◌∙◌}
use mathlib.Core.Bool.{Bool, true, false, cond}
use mathlib.Core.List.{List, [], ◌∷◌, ◌++◌}
use borrow.Author.Tests.{eqb-false}
use lib.Dec.{eqb}
use lib.ListN.{length}
use Rattle.runs.specs.Runs.{log}
use Rattle.refusals.specs.declared.Unheard.TheVariants as unheard
use Rattle.refusals.specs.declared.Refusal.TheVariants.{NotAcknowledged}
use Rattle.refusals.specs.Refusals.{Reply, refused}
use Rattle.refusals.proofs.Laws.{not-zero}
use Rattle.bus.specs.declared.Event.{Event}
use Rattle.bus.specs.Bus.{event_of, BusOutcome}
use Rattle.bus.proofs.Laws.{bus_event-length}
use Rattle.bus.proofs.Claims.{reasons}
use Rattle.device.specs.declared.Device.{Device}
use Rattle.device.specs.Device.{hear_event}
use Rattle.capture.specs.Capture.{Logged, output_of, outputs, output_from, Chip, bus_events}
use Rattle.capture.specs.Outputs.{as_five, old_events, SameOutputs}

module _ (d : Device) (ram : List ℕ) (e : Event) (h : length ram ≡ 1024) where
  abbrev reply : Reply
  reply = (hear_event d ram e).reply

  unheard-output : (reply.refusal ≡ 0 → ⊥) → output_of reply ≡ 0 ∷ 255 ∷ []
  unfolding hear_event
  unheard-output n =
      let w = reasons.some d.bus d.registers ram e h n in
      ap (λ (o : BusOutcome). output_of o.reply) (reasons.answered w.0 d.bus d.registers ram e h w.1) ∙ rw (not-zero (NotAcknowledged w.0))

  same-output : output_of reply ≡ output_of (as_five reply)
  same-output = by (eqb reply.refusal 0) refl
    where
      by : (t : Bool) → eqb reply.refusal 0 ≡ t → output_of reply ≡ output_of (cond t reply (refused (NotAcknowledged unheard.Idle)))
      by true p = refl
      by false p = unheard-output (eqb-false _ _ p)

same-run : (c : Chip) (es : List Logged) → length c.ram ≡ 1024 → output_from bus_events c es ≡ output_from old_events c es
unfolding log outputs hear_event
same-run c [] h = refl
same-run c (x ∷ es) h =
    let e : Event = event_of x.kind x.byte in
    ap₂ (λ (l m : List ℕ). l ++ m)
    (same-output c.device c.ram e h)
    (same-run (bus_events.after c x) es (bus_event-length c.device.bus c.device.registers c.ram e ∙ h))

pub same-outputs : SameOutputs
same-outputs = record { run = same-run; unheard = unheard-output }

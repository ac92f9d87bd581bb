-- `hear`: a start, a stop, or the step of the bus, applied.
use mathlib.Core.Path.{subst, sym, ap, ◌∙◌}
use borrow.Author.Rules.{rules}
use Rattle.bus.specs.declared.Step.{Step}
use Rattle.bus_bytes.specs.Steps.{InSpace, event_on}
use Rattle.bus_bytes.proofs.Events.{step_in_space, started-slave, stopped_idle}
use Rattle.bus_bytes.proofs.hear.Goals as goal

pub returns-in-Start : goal.returns-in-Start
returns-in-Start c = started-slave _ _ _ c.go.ensures ∙ ap (event_on c.args.device.now c.args.ram.now) (sym c.in-Start.is)

pub returns-in-Stop : goal.returns-in-Stop
returns-in-Stop c = stopped_idle _ _ _ c.go-in-Stop.ensures ∙ ap (event_on c.args.device.now c.args.ram.now) (sym c.in-Stop.is)

pub apply-requires : goal.apply-requires
apply-requires c = (
  search rules,
  search rules,
  subst (λ (s : Step). InSpace s.effect) (sym c.take-step.ensures) (step_in_space c.bus_of.result c.args.event),
)

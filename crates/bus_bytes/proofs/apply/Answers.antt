-- `apply`: the cases of the effect.
use mathlib.Core.Path.{subst, ◌∙◌}
use borrow.Author.Rules.{rules}
use Rattle.bus_bytes.specs.Steps.{InSpace}
use Rattle.bus_bytes.proofs.Events.{applied_acknowledge, applied_ignore, applied_store, applied_load}
use Rattle.bus_bytes.proofs.apply.Goals as goal

pub store-requires : goal.store-requires
store-requires c =
    (search rules, search rules, subst InSpace c.in-Store.is c.requires.2)

pub load-byte-requires : goal.load-byte-requires
load-byte-requires c =
    (search rules, search rules, subst InSpace c.in-Load.is c.requires.2)

pub returns-in-Acknowledge : goal.returns-in-Acknowledge
returns-in-Acknowledge c = applied_acknowledge _ _ _ c.args.step c.write_bus.ensures c.in-Acknowledge.is

pub returns-in-Ignore : goal.returns-in-Ignore
returns-in-Ignore c = applied_ignore _ _ _ c.args.step _ _ c.in-Ignore.is c.ignore.ensures c.refuse.ensures

pub returns-in-Store : goal.returns-in-Store
returns-in-Store c =
    applied_store _ _ _ c.args.step c.write_bus-in-Store.ensures _ _ _ _ c.in-Store.is c.store.ensures.registers c.store.ensures.cells

pub returns-in-Load : goal.returns-in-Load
returns-in-Load c =
    applied_load _ _ _ c.args.step c.write_bus-in-Load.ensures _ _ c.in-Load.is (c.from.ensures ∙ c.load-byte.ensures)

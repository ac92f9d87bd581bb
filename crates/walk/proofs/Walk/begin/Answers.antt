-- `Walk::begin`: the strip that begins is not over (`strip_of-begun`).
use mathlib.Core.Path.{sym, ap, ◌∙◌}
use native.Mathlib.Omega.{arith}
use Rattle.limits.specs.Limits.{ram_pairs}
use Rattle.walk.specs.Walk.{over}
use Rattle.walk.proofs.Laws.{strip_of-begun, begins_some}
use Rattle.walk.proofs.Walk.begin.Goals as goal

pub advance-requires : goal.advance-requires
advance-requires c =
    let a = c.args in
    let first = c.even_address-first in
    let found = begins_some a.ram.now ram_pairs a.ch first.result c.in-Some.at (omega (arith, first.ensures)) (sym c.begins_at.ensures.at ∙ c.in-Some.is) in
    ap over c.of_descriptor.ensures ∙ strip_of-begun _ _ _ found.begins

-- `read_next`: the step of the bus in its reading state.
use mathlib.Core.Path.{◌∙◌}
use Rattle.bus_bytes.proofs.Events.{fetched-next}
use Rattle.bus_bytes.proofs.read_next.Goals as goal

pub returns : goal.returns
returns c =
    let up = c.count_up-address in
    fetched-next _ _ _ up.result up.ensures.address _ c.requires.0 c.requires.2 up.ensures.bus (c.from.ensures ∙ c.load.ensures)

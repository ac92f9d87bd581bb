-- `write_next`: the step of the bus in its writing state.
use Rattle.bus_bytes.proofs.Events.{written_next}
use Rattle.bus_bytes.proofs.write_next.Goals as goal

pub returns : goal.returns
returns c =
    let up = c.count_up-address in
    written_next _ _ _ up.result up.ensures.address c.args.x _ _ c.requires.2 up.ensures.bus c.store.ensures.registers c.store.ensures.cells

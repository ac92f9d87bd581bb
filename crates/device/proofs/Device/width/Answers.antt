-- `Device::width`: the width of LD, by what its parts promise; LD is below 64.
use native.Mathlib.Omega.{arith}
use Rattle.registers.proofs.Laws.{ld_bound_lem}
use Rattle.device.proofs.Device.width.Goals as goal

pub returns : goal.returns
returns c =
    let s = c.settings.ensures in
    (rw (c.width.ensures, s), omega (arith, rw (← s) at (ld_bound_lem c.args.self.now.registers)))

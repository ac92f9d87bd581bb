-- `store`: the tests on the address pick the case of `stored_on`.
use Rattle.std.proofs.Common.{arith}
use Rattle.bus_bytes.proofs.Events.{set_register, set-none}
use Rattle.bus_bytes.proofs.store.Goals as goal

pub returns-then-address-lt-RAM_END-clause-registers : goal.returns-then-address-lt-RAM_END-clause-registers
returns-then-address-lt-RAM_END-clause-registers c = set-none _ _ _ (omega arith)

pub returns-then-address-ge-FIRST_REGISTER-clause-registers : goal.returns-then-address-ge-FIRST_REGISTER-clause-registers
returns-then-address-ge-FIRST_REGISTER-clause-registers c =
    set_register _ _ c.args.device.now c.if-address-ge-FIRST_REGISTER.true c.requires.2

pub returns-else-address-ge-FIRST_REGISTER-clause-registers : goal.returns-else-address-ge-FIRST_REGISTER-clause-registers
returns-else-address-ge-FIRST_REGISTER-clause-registers c = set-none _ _ _ c.if-address-ge-FIRST_REGISTER.false

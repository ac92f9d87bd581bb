-- `load`: a register's byte where it stands in the record.
use Rattle.std.proofs.Common.{◌≡◌, ◌-◌, ◌%◌, arith, sym}
use borrow.Author.Tests.{le-ltb, le-leb}
use Rattle.limits.specs.Limits.{first_register}
use Rattle.layout.specs.Layout.{registers_at, registers_length}
use Rattle.facts.proofs.Parts.{get_d_part}
use Rattle.bus_bytes.proofs.load.Goals as goal

pub returns-then-address-ge-FIRST_REGISTER : goal.returns-then-address-ge-FIRST_REGISTER
returns-then-address-ge-FIRST_REGISTER c =
    let i = c.args.address - first_register in
    let few : i % 16 ≡ i = omega (arith, c.requires.2) in
    rw (le-ltb _ _ c.if-address-lt-RAM_END.false, le-leb _ _ c.if-address-ge-FIRST_REGISTER.true, few)
    (sym (get_d_part c.args.device.now registers_at registers_length i 0 (omega (arith, c.requires.2))))

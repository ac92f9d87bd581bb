-- `write_device`: the bus part, then the registers, then the rest.
use Rattle.std.proofs.Common.{◌≡◌, List, ℕ, length, ap, ◌∙◌, rules}
use Rattle.layout.specs.Layout.{put_registers, put_next, put_frame}
use Rattle.layout.proofs.Laws.{whole-put}
use Rattle.layout.proofs.write_device.Goals as goal

pub returns : goal.returns
returns c =
    let sixteen : length c.args.whole.registers.bytes ≡ 16 = search rules in
    c.write_start.ensures
    ∙ ap (λ (l : List ℕ). put_frame c.args.whole.frame (put_next c.args.whole.next l))
    (c.write_registers.ensures ∙ ap (put_registers c.args.whole.registers) c.write_bus.ensures)
    ∙ whole-put c.args.whole c.args.device.now c.requires sixteen

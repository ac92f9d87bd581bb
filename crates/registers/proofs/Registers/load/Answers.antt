-- `Registers::load`: all sixteen are loaded.
use Rattle.std.proofs.Common.{sym, ap, ◌∙◌, List, arith}
use Rattle.std.proofs.lemmas.List.{ext_get_or}
use Rattle.registers.specs.declared.Registers.{Registers}
use Rattle.registers.specs.Registers.{kept, loaded}
use Rattle.registers.proofs.Laws.{zip_length, zip_at}
use Rattle.registers.proofs.Registers.load.Goals as goal

pub returns : goal.returns
unfolding loaded
returns c =
    let bytes = c.args.bytes.now in
    ap {B = Registers} (λ (b : List _). record { bytes = b })
    (ext_get_or 0 c.loop-i.next _ (omega (arith, zip_length bytes kept, c.loop-i.invariant.0, c.requires))
    λ i h. c.loop-i.invariant.1 i (omega arith) ∙ sym (zip_at bytes kept i))

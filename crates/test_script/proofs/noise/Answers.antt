-- A byte goes over from the noise that is left to what is written.
use Rattle.std.proofs.Common.{refl, arith}
use Rattle.test_script.proofs.Laws.{noise_more, noise_whole}
use Rattle.test_script.proofs.noise.Goals as goal

pub loop-byte-preserved : goal.loop-byte-preserved
loop-byte-preserved c =
    let l = c.loop-byte in
    noise_more _ _ _ _ l.bytes l.byte-index l.now _ _ (omega arith) l.auto.bytes c.mix-now.ensures refl l.invariant

pub returns : goal.returns
returns c = noise_whole _ _ _ _ _ c.loop-byte.byte-index c.loop-byte.now (omega arith) c.loop-byte.auto.bytes c.loop-byte.invariant

-- A byte is mixed, and is left no more.
use Rattle.std.proofs.Common.{arith}
use Rattle.test_script.proofs.Laws.{mixed-more, mixed-end}
use Rattle.test_script.proofs.mix_all.Goals as goal

pub loop-byte-preserved : goal.loop-byte-preserved
loop-byte-preserved c =
    mixed-more _ _ c.loop-byte.byte-index c.loop-byte.now _ _ _ (omega arith) c.mix-now.ensures c.from.ensures c.loop-byte.invariant

pub returns : goal.returns
returns c = mixed-end _ _ c.loop-byte.byte-index c.loop-byte.now _ (omega arith) c.loop-byte.invariant

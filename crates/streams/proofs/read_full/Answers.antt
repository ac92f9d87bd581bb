-- A read behind what is there already makes it longer.
use Rattle.std.proofs.Common.{rules}
use Rattle.streams.proofs.Known.{Consumes-behind}
use Rattle.streams.proofs.read_full.Goals as goal

pub loop-done-preserved : goal.loop-done-preserved
loop-done-preserved g c = record {
  same_length = search rules;
  in_bounds = search rules;
  bytes = Consumes-behind _ _ _ c.loop-done.buffer _ _ _ c.in_ok-n.n (search rules) (search rules) c.loop-done.invariant.bytes c.in_ok-n.ensures.bytes.0;
}

-- A write behind what is written already makes it longer.
use Rattle.std.proofs.Common.{rules}
use Rattle.streams.proofs.Known.{Appends-behind}
use Rattle.streams.proofs.write_all.Goals as goal

pub loop-done-preserved : goal.loop-done-preserved
loop-done-preserved g c = record {
  in_bounds = search rules;
  bytes = Appends-behind _ _ _ c.args.bytes.now c.loop-done.done c.in_ok-taken.taken c.loop-done.invariant.bytes c.in_ok-taken.ensures.bytes;
}

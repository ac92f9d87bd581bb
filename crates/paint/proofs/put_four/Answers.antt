-- `put_four`: four bytes set.
use Rattle.paint.proofs.Spread.{four_put}
use Rattle.paint.proofs.put_four.Goals as goal

pub returns : goal.returns
returns c = rw c.to_le_bytes.ensures (four_put c.args.out.now c.args.pixels c.requires)

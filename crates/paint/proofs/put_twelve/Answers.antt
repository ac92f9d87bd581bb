-- `put_twelve`: three parts of four columns.
use Rattle.paint.proofs.Spread.{twelve-put}
use Rattle.paint.proofs.put_twelve.Goals as goal

pub returns : goal.returns
returns c =
    twelve-put c.args.out.now _ _ _ c.args.columns c.requires c.put_four.ensures c.put_four-2.ensures c.put_four-3.ensures

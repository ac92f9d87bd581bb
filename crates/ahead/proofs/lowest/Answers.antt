-- `lowest`: as long as no bit was passed that is set, the first that is left is the lowest.
use Rattle.ahead.proofs.Marks.{no_zeros}
use Rattle.ahead.proofs.lowest.Goals as goal

pub returns-then-x-ne0 : goal.returns-then-x-ne0
returns-then-x-ne0 c =
    let z = no_zeros c.args.x c.ranges.x.fits c.requires in
    c.lowest_of_8.ensures c.args.x (record { zeros = z.zeros; after = z.after; some = c.if-x-ne0.true })

pub returns : goal.returns
returns c =
    let x = c.args.x in
    c.lowest_of_8-2.ensures x (c.pass_zeros.ensures.1 x (c.pass_zeros-by_16.ensures.1 x (no_zeros x c.ranges.x.fits c.requires)))

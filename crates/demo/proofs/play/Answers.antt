-- The feed's answer tells the end.
use Rattle.std.proofs.Common.{ap}
use Rattle.capture.specs.Capture.{FeedOutcome}
use Rattle.demo.specs.Picture.{Host, end_of}
use Rattle.demo.proofs.play.Goals as goal

pub returns : goal.returns
returns c =
    let taken = rw c.fresh-feed.ensures at c.take.ensures in
    rw c.end_of.ensures (ap {B = Host} (λ (o : FeedOutcome). record { chip = o.chip; traffic = end_of o.reply }) taken)

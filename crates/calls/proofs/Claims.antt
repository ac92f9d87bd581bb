-- Each claim of this crate's specs, with its proof.
-- Assumes nothing.
use Rattle.calls.specs.Fed.{FedAreBusEvents}
use Rattle.calls.specs.OnePage.{OnePage}
use Rattle.calls.specs.Pixels.{StayingPut, PixelsAgree}
use Rattle.calls.specs.Reach.{UnusedBits}
use Rattle.calls.specs.Use.{QuietEvents, WritesAlone, NoStays}
use Rattle.calls.specs.Witnesses.{Witnesses}
use Rattle.calls.proofs.Fed as fed
use Rattle.calls.proofs.OnePage as page
use Rattle.calls.proofs.Pixels as pixels
use Rattle.calls.proofs.Quiet as quiet
use Rattle.calls.proofs.Reach as reach
use Rattle.calls.proofs.Witnesses as witness

pub one-page : OnePage
one-page = page.one-page

pub staying_put : StayingPut
staying_put = pixels.staying_put

pub pixels_agree : PixelsAgree
pixels_agree = pixels.pixels_agree

pub fed_are_bus-events : FedAreBusEvents
fed_are_bus-events = fed.fed_are_bus-events

pub quiet-events : QuietEvents
quiet-events = quiet.quiet-events

pub writes_alone : WritesAlone
writes_alone = page.writes_alone

pub no_stays : NoStays
no_stays = page.no_stays

pub unused-bits : UnusedBits
unused-bits = reach.unused-bits

pub witnesses : Witnesses
witnesses = witness.witnesses

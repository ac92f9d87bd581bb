-- The claims of specs/, each with its proof.
-- Assumes nothing.
use Rattle.interface.specs.Cuts.{AnyCutBytes, TwoCutsBytes}
use Rattle.interface.specs.Interface.{Crossing}
use Rattle.interface.specs.OnePage.{OnePageBytes, QuietBytes, NoStaysBytes}
use Rattle.interface.specs.Pixels.{StayPutBytes, PixelsAgreeBytes}
use Rattle.interface.proofs.Crossing as interface
use Rattle.interface.proofs.Cuts as cuts
use Rattle.interface.proofs.OnePage as page
use Rattle.interface.proofs.Pixels as pixels

pub crossing : Crossing
crossing = interface.crossing

pub any_cut-bytes : AnyCutBytes
any_cut-bytes = cuts.any_cut-bytes

pub two_cuts_bytes : TwoCutsBytes
two_cuts_bytes = cuts.two_cuts_bytes

pub one-page-bytes : OnePageBytes
one-page-bytes = page.one-page-bytes

pub quiet-bytes : QuietBytes
quiet-bytes = page.quiet-bytes

pub no_stays_bytes : NoStaysBytes
no_stays_bytes = page.no_stays_bytes

pub stay_put-bytes : StayPutBytes
stay_put-bytes = pixels.stay_put-bytes

pub pixels_agree_bytes : PixelsAgreeBytes
pixels_agree_bytes = pixels.pixels_agree_bytes

-- Each claim of this crate's specs, with its proof.
-- Assumes nothing.
use Rattle.bus.specs.Unheard.{Reasons}
use Rattle.bus.proofs.Unheard as unheard

pub reasons : Reasons
reasons = unheard.reasons

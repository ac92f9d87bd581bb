-- Each claim of this crate's specs, with its proof.
-- Assumes nothing.
use Rattle.capture.specs.Cuts.{AnyCut}
use Rattle.capture.specs.Outputs.{SameOutputs}
use Rattle.capture.proofs.Cuts as cuts
use Rattle.capture.proofs.Outputs as outputs

pub any_cut : AnyCut
any_cut = cuts.any_cut

pub same-outputs : SameOutputs
same-outputs = outputs.same-outputs

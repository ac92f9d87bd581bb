-- `device_of`: the parts of a fresh device, and the registers from their part of the input.
use native.Mathlib.Omega.{arith}
use mathlib.Core.Path.{ap, ◌∙◌}
use lib.ListN.{length, length-take, length-drop}
use Rattle.report.specs.Report.{bench_device}
use Rattle.report.proofs.device_of.Goals as goal

pub load-requires : goal.load-requires
load-requires c = ap length c.part.ensures ∙ simp (length-take, length-drop) (omega arith)

pub returns : goal.returns
unfolding bench_device
returns c = rw (c.fresh.ensures, c.load.ensures, c.part.ensures)

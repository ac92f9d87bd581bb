-- Each claim of this crate's specs, with its proof.
-- Assumes nothing.
use Rattle.device.specs.FirstCells.{FirstCells}
use Rattle.device.specs.ReadCount.{ReadCount}
use Rattle.device.specs.ZeroSpacing.{ZeroSpacing}
use Rattle.device.proofs.FirstCells as first
use Rattle.device.proofs.ReadCount as count
use Rattle.device.proofs.ZeroSpacing as zero

pub first_cells : FirstCells
first_cells = first.first_cells

pub read_count : ReadCount
read_count = count.read_count

pub zero_spacing : ZeroSpacing
zero_spacing = zero.zero_spacing

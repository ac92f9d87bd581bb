-- Each claim of this crate's specs, with its proof.
-- Assumes nothing.
use Rattle.line.specs.Asked.{SlicesAsked}
use Rattle.line.specs.Edges.{Edges}
use Rattle.line.specs.Rules.{MostCells, LinePixels}
use Rattle.line.specs.Seams.{Seams}
use Rattle.line.proofs.Asks as asks
use Rattle.line.proofs.Edges as table
use Rattle.line.proofs.Rules as rules
use Rattle.line.proofs.Seams as seam

pub edges : Edges
edges = table.edges

pub most-cells : MostCells
most-cells = rules.most-cells

pub slices-asked : SlicesAsked
slices-asked = asks.slices-asked

pub line-pixels : LinePixels
line-pixels = rules.line-pixels

pub seams : Seams
seams = seam.seams

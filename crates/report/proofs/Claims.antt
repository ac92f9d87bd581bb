-- Each claim of this crate's specs, with its proof.
-- Assumes nothing.
use Rattle.report.specs.Example.{BenchExample}
use Rattle.report.specs.Parts.{JoinedParts}
use Rattle.report.proofs.Example as example
use Rattle.report.proofs.Parts as parts

pub bench_example : BenchExample
bench_example = example.bench_example

pub joined_parts : JoinedParts
joined_parts = parts.joined_parts

-- `put_pixels`: the part is the digits of the pixels.
use native.Mathlib.Omega.{arith}
use lib.ListN.{length-map}
use Rattle.buffers.specs.Buffers.{hex_digit}
use Rattle.facts.proofs.Parts.{put-part}
use borrow.Author.Rules.{rules}
use Rattle.report.proofs.put_pixels.Goals as goal

pub returns : goal.returns
returns c =
    let a = c.args in
    let digits = length-map a.pixels.now hex_digit in
    record {
      long = digits;
      next = search rules;
      written =
          put-part a.out.now _ _ a.at _ c.copy_pixels.ensures (omega arith) (omega arith);
    }

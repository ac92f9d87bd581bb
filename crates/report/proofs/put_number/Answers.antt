-- `put_number`: the part is the number in decimal.
use Prim.Native.Nat.{◌+◌, ◌-◌}
use mathlib.Core.Path.{◌≡◌}
use borrow.Rule.Slice.PartMut.{mid_len}
use lib.ListN.{length, take, drop}
use native.Mathlib.Omega.{arith}
use Rattle.facts.proofs.Parts.{put-part}
use Rattle.report.specs.Report.{places_of}
use Rattle.report.proofs.Texts.{decimal-length}
use borrow.Author.Rules.{rules}
use Rattle.report.proofs.put_number.Goals as goal

pub returns : goal.returns
returns c =
    let a = c.args in
    let e = c.places.result in
    let long = decimal-length a.number in
    let room = mid_len a.at (a.at + e) a.out.now (omega arith) in
    let all : length (take (a.at + e - a.at) (drop a.at a.out.now)) ≡ places_of a.number = omega arith in
    record {
      long = long;
      next = search rules;
      written =
          put-part a.out.now _ _ a.at _ (rw all at c.copy_digits.ensures) (omega arith) (omega arith);
    }

-- The digits that are left and what is written from i on are all the digits.
use Rattle.std.proofs.Common.{◌≡◌, ◌++◌, length, drop}
use Rattle.test_script.specs.Script.{digits_of}
use Rattle.test_script.proofs.hex_digits.Given as goal

abbrev pub invariant-loop-i : goal.invariant-loop-i
invariant-loop-i l = digits_of l.i l.rest ++ drop l.i l.out ≡ digits_of (length l.initial.out) l.number

-- `copy_pixels`: what is written and the digits that are left are all of them.
use mathlib.Core.Path.{◌≡◌}
use mathlib.Core.List.{◌++◌, map}
use lib.ListN.{take, drop}
use Rattle.buffers.specs.Buffers.{hex_digit}
use Rattle.report.proofs.copy_pixels.Given as goal

abbrev pub invariant-loop-i : goal.invariant-loop-i
invariant-loop-i l = take l.i l.out ++ drop l.i (map hex_digit l.pixels) ≡ map hex_digit l.pixels

-- `copy_pixels`: what is written and the digits that are left are all of them.
use mathlib.Core.Path.{sym, ◌∙◌}
use mathlib.Core.List.{map}
use native.Mathlib.Omega.{arith}
use lib.ListN.{length-map, get_or-map}
use Rattle.facts.proofs.Written.{written-more}
use Rattle.buffers.specs.Buffers.{hex_digit}
use Rattle.report.proofs.copy_pixels.Goals as goal

pub loop-i-preserved : goal.loop-i-preserved
loop-i-preserved c =
    let l = c.loop-i in
    let pixels = c.args.pixels.now in
    let long = length-map pixels hex_digit in
    written-more (map hex_digit pixels) l.out l.i _ (hex_digit 0) (omega arith) (omega arith) l.invariant
    (c.hex_digit.ensures ∙ sym (get_or-map hex_digit pixels l.i 0))

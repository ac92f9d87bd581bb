-- How a line's strip is found, descriptor by descriptor: what the promises of the walk once round RAM cite. The pixel's own promise does not speak
-- of it.
-- Assumes nothing.
use Rattle.std.specs.Prelude.{ℕ, zero, suc, ◌-◌, cond, List, ltb}
use Rattle.std.specs.declared.ops.ControlFlow.{ControlFlow}
use Rattle.std.specs.declared.ops.ControlFlow.TheVariants.{Break, Continue}
use Rattle.walk.specs.Walk.{next}
use Rattle.pixel.specs.declared.StripLine.{StripLine}
use Rattle.pixel.specs.Pixel.{pair_at, lines_of, line_at}

-- k descriptors from an address on: line y falls in the strip of one of them, or lies past them all, so many lines on
unfoldable pub round_of : (k : ℕ) (ram : List ℕ) (ch a y : ℕ) → ControlFlow StripLine ℕ
round_of zero ram ch a y = Continue y
round_of (suc k) ram ch a y =
    cond (ltb y (lines_of ch (pair_at ram a)))
    (Break (line_at ram a y))
    (round_of k ram ch (next a) (y - lines_of ch (pair_at ram a)))

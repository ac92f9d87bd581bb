-- `draw`: the walk's next line, then a line of its strip.
use mathlib.Core.Path.{◌≡◌}
use native.Mathlib.Omega.{arith}
use Rattle.registers.proofs.Laws.{ld_bound_lem, fbk_bound}
use Rattle.walk.specs.Walk.{walked}
use Rattle.line.proofs.Strips.{walked_line, line-drawn, line-cells}
use Rattle.line.proofs.draw.Goals as goal

pub draw_strip-read-requires-clause-on_line : goal.draw_strip-read-requires-clause-on_line
unfolding walked
draw_strip-read-requires-clause-on_line c = rw (c.next_line-walked.ensures, c.settings-settings.ensures) (walked_line _ _ _)

pub draw_strip-read-requires-clause-ld_bound : goal.draw_strip-read-requires-clause-ld_bound
draw_strip-read-requires-clause-ld_bound c =
    let r = c.args.registers in
    let e = c.settings-settings.ensures in
    (rw e (ld_bound_lem r), rw e (fbk_bound r), rw e c.requires.registers_in_bounds)

pub overflow_add-result : goal.overflow_add-result
overflow_add-result c =
    omega (arith, c.narrow.ensures, line-cells _ _ _ _ _ _ _ _ _ _ c.settings-settings.ensures c.next_line-walked.ensures c.draw_strip-read.ensures)

pub returns : goal.returns
returns c =
    let e : c.narrow.result ≡ c.draw_strip-read.result =
    omega (arith, c.narrow.ensures, line-cells _ _ _ _ _ _ _ _ _ _ c.settings-settings.ensures c.next_line-walked.ensures c.draw_strip-read.ensures)
    in
    rw e (line-drawn _ _ _ _ _ _ _ _ _ _ c.settings-settings.ensures c.next_line-walked.ensures c.draw_strip-read.ensures)

-- `Search::look_frame`: the strip on screen, and then the lines from the next descriptor on.
use Prim.Native.Nat.{ℕ, min}
use mathlib.Core.Path.{ap, ◌∙◌}
use Rattle.ahead.proofs.Looks.{frame_first, frame_later}
use Rattle.ahead.proofs.Search.look_frame.Goals as goal

pub returns-in_err-look_strip : goal.returns-in_err-look_strip
returns-in_err-look_strip c =
    let a = c.args in
    let e = c.min-k.ensures ∙ ap (λ (x : ℕ). min x a.left) c.lines_left.ensures in
    rw c.from_residual.ensures
    (frame_first a.self.now a.left a.walk _ c.requires e c.in_err-look_strip.ensures)

pub returns : goal.returns
returns c =
    let a = c.args in
    let e = c.min-k.ensures ∙ ap (λ (x : ℕ). min x a.left) c.lines_left.ensures in
    frame_later a.self.now a.left a.walk _ c.requires e c.in_ok-look_strip.ensures c.look_lines.result c.look_lines.ensures

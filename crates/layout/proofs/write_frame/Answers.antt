-- `write_frame`: the frame with its strip packed, put in its place.
use Prim.Native.Nat.{ℕ}
use mathlib.Core.Path.{ap, ◌∙◌}
use mathlib.Core.List.{List}
use Rattle.layout.specs.Layout.{frame_at, put, frame_with}
use Rattle.layout.proofs.write_frame.Goals as goal

pub returns : goal.returns
returns c =
    c.put.ensures
    ∙ ap (λ (l : List ℕ). put frame_at l c.args.device.now) (c.frame_bytes-bytes.ensures ∙ ap (frame_with c.args.frame) c.pack.ensures)

-- `put`: a copy over the part.
use Prim.Native.Nat.{◌-◌}
use mathlib.Core.Path.{◌≡◌}
use lib.ListN.{length, drop, length-take, length-drop}
use native.Mathlib.Omega.{arith}
use Rattle.facts.proofs.Parts.{copied}
use Rattle.buffers.proofs.put.Goals as goal

pub returns : goal.returns
returns c =
    let xs = c.args.out.now in
    let all : c.copy.result ≡ length c.args.bytes.now = omega (arith, c.copy.ensures.count, length-take (length xs - c.args.at) (drop c.args.at xs), length-drop c.args.at xs) in
    copied xs c.args.bytes.now c.args.at (length xs - c.args.at) _ c.requires (omega arith) (rw all at c.copy.ensures.bytes)

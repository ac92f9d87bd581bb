-- `frame_bytes`: each number of two bytes, its low byte first.
use Rattle.std.proofs.Common.{rules, ◌≡◌, ◌<◌, ◌/◌, ◌%◌, ℕ}
use native.Mathlib.Omega.{arith}
use Rattle.layout.proofs.frame_bytes.Goals as goal

high : (n : ℕ) → n < 65536 → n / 256 % 256 ≡ n / 256
high n h = omega (arith, h)

pub returns : goal.returns
returns c =
    let f = c.args.frame in
    let p = c.args.strip in
    rw (
      c.to_le_bytes.ensures,
      c.to_le_bytes-2.ensures,
      c.to_le_bytes-3.ensures,
      c.to_le_bytes-4.ensures,
      high f.left (search rules),
      high f.walk.descriptor (search rules),
      high p.address (search rules),
      high p.line (search rules),
    )

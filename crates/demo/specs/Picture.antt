-- The picture: the traffic of a host, then each line of the frame mixed with the camera's line by fast blanking.
-- Assumes nothing.
use Rattle.std.specs.Prelude.{ℕ, suc, ◌+◌, ◌*◌, ◌/◌, ◌%◌, cond, List, [], ◌∷◌, ◌++◌, eqb, drop, replicate, Result, Ok, Err}
use Rattle.refusals.specs.Refusals.{Reply}
use Rattle.device.specs.declared.Device.{Device}
use Rattle.device.specs.Device.{DrawOutcome, draw_line, line_width}
use Rattle.capture.specs.Capture.{fresh_feed, Chip, chip, FeedOutcome, feed_chunk}
use Rattle.demo.specs.declared.BadKind.{BadKind}
use Rattle.demo.specs.declared.camera.Colour.{Colour}
use Rattle.demo.specs.Camera.{rgb, camera}

-- ---- the host's traffic

-- an input, the font and the traffic, has at most so many bytes
abbrev pub input_length : ℕ
input_length = 65536

-- what the traffic leaves, and how it ends
pub record Host : Type 0 where
  pub chip : Chip
  pub traffic : Result Unit BadKind

-- by the reply of a feed with a RAM of 1,024 bytes and room: it refuses nothing but a bad kind. An event has two bytes of output, and is
-- counted from 1
abbrev pub end_of : Reply → Result Unit BadKind
end_of r = cond (eqb r.refusal 0) (Ok tt) (Err (record { event = r.value / 2 + 1 }))

-- the traffic is one chunk for a feed made anew. The output is as long as the longest input, so it has room; the RAM has 1,024 bytes: the
-- traffic is taken (`play` asks for both)
abbrev pub played : Device → List ℕ → List ℕ → Host
played d ram traffic =
    let o : FeedOutcome = feed_chunk (chip d ram) fresh_feed traffic (replicate input_length 0) in
    record { chip = o.chip; traffic = end_of o.reply }

-- ---- mixing

-- a colour's part is on or off, by the lowest bit
abbrev pub full : ℕ → ℕ
full bit = 255 * (bit % 2)

-- a pixel is 8 FBLK + 4 R + 2 G + B: with FBLK 1 the overlay's colour, with FBLK 0 the camera's pixel
unfoldable pub mix : ℕ → Colour → Colour
mix pixel behind = cond (eqb (pixel / 8 % 2) 1) (rgb (full (pixel / 4)) (full (pixel / 2)) (full pixel)) behind

-- line y from column x on, three bytes a pixel
unfoldable pub mixed : ℕ → ℕ → List ℕ → List ℕ
mixed y x [] = []
mixed y x (pixel ∷ more) =
    let c : Colour = mix pixel (camera x y) in
    c.r ∷ c.g ∷ c.b ∷ mixed y (suc x) more

-- ---- the frame's next line

pub record LineOutcome : Type 0 where
  pub device : Device
  pub out : List ℕ

abbrev pub line_outcome : Device → List ℕ → LineOutcome
line_outcome d out = record { device = d; out = out }

-- a draw and what it left in the line buffer, mixed
abbrev pub mixed_draw : DrawOutcome → ℕ → LineOutcome
mixed_draw o y = line_outcome o.device (mixed y 0 o.line)

-- the line buffer has W bytes, all 0: where the draw is refused, the camera's line stands alone. Later bytes stay
abbrev pub picture_line : Device → List ℕ → List ℕ → ℕ → List ℕ → LineOutcome
picture_line d ram font y out =
    let m : LineOutcome = mixed_draw (draw_line d ram font (replicate (line_width d) 0)) y in
    line_outcome m.device (m.out ++ drop (3 * line_width d) out)

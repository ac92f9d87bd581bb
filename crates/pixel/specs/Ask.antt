-- Request K5, the call: the pixel (specs/Pixel.antt), or a refusal.
-- Assumes nothing.
use Rattle.std.specs.Prelude.{ℕ, ◌||◌, List, Result, leb, length}
use Rattle.limits.specs.Limits.{bad_line_count}
use Rattle.refusals.specs.declared.Refusal.{Refusal}
use Rattle.refusals.specs.declared.Refusal.TheVariants.{FrameLines, PixelRange}
use Rattle.refusals.specs.Refusals.{Reply, accepted, refused, reply_of, Verdict, passed, failed, refuse_if}
use Rattle.registers.specs.declared.Registers.{Registers}
use Rattle.registers.specs.Registers.{settings_of}
use Rattle.raster.specs.Raster.{width_of}
use Rattle.device.specs.Device.{frame_number, lent_verdict}
use Rattle.pixel.specs.Pixel.{pixel_at}

-- document 01's numbers: the value is the pixel
abbrev pub pixel_reply : Result ℕ Refusal → Reply
pixel_reply = reply_of (λ p. p) refused

-- order of refusals: 1, 2, by the lengths that are lent, 6, then 11 for x at W or beyond, or y at the line count or beyond
unfoldable pub pixel_verdict : Registers → (ram font lines x y : ℕ) → Verdict
pixel_verdict r ram font lines x y =
    lent_verdict ram font
    (refuse_if (bad_line_count lines) FrameLines (refuse_if (leb (width_of (settings_of r).ld) x || leb lines y) PixelRange passed))

-- by what they find
unfoldable pub pixel_by : Verdict → ℕ → Reply
pixel_by passed p = accepted p
pixel_by (failed r) p = refused r

-- the pixel or a refusal, from RAM, registers, font, line count and frame number (taken modulo 64) alone
unfoldable pub ask_pixel : Registers → List ℕ → List ℕ → (lines frame x y : ℕ) → Reply
ask_pixel r ram font lines frame x y =
    pixel_by (pixel_verdict r (length ram) (length font) lines x y) (pixel_at r ram font (frame_number frame) x y)

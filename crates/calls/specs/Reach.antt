-- Document 01, "Registers": unused bits read 0, in every device that a fresh device and earlier calls can reach.
-- Assumes nothing.
use Rattle.std.specs.Prelude.{ℕ, ◌<◌, ◌≡◌, List, length, get_or}
use Rattle.std.specs.Int.Bits.{bit_and}
use Rattle.registers.specs.declared.Registers.{Registers}
use Rattle.registers.specs.Registers.{kept}
use Rattle.bus.specs.declared.Event.{Event}
use Rattle.device.specs.declared.Device.{Device}
use Rattle.device.specs.Device.{fresh_device, start_frame}
use Rattle.capture.specs.declared.Feed.{Feed}
use Rattle.calls.specs.Calls.{Call}
use Rattle.calls.specs.OnePage.{after}

-- a fresh device, and what a reset, a frame start and each call of the list (specs/Calls.antt) leave of a device that was reached, refused calls
-- too. At each call RAM, font, buffers, feed and numbers may be any, of any length
pub data Reachable : Device → Type 0 where
  fresh : Reachable fresh_device
  reset : {d : Device} → Reachable d → Reachable fresh_device
  start : {d : Device} → Reachable d → (lines : ℕ) → Reachable (start_frame d lines).device
  call : {d : Device} → Reachable d → (ram font : List ℕ) (f : Feed) (c : Call Event)
      → Reachable (after font (record { device = d; ram = ram; feed = f }) c).device

-- sixteen bytes, each with kept bits only: masked by them it stays, so its unused bits are 0
pub record KeptBits (r : Registers) : Type 0 where
  pub sixteen : length r.bytes ≡ 16
  pub bytes : (i : ℕ) → get_or r.bytes i 0 < 256
  pub unused : (i : ℕ) → bit_and (get_or r.bytes i 0) (get_or kept i 0) ≡ get_or r.bytes i 0

-- the claim
abbrev pub UnusedBits : Type 0
UnusedBits = (d : Device) → Reachable d → KeptBits d.registers

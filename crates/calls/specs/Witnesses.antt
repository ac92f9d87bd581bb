-- Witnesses that the claim of condition 3 (specs/OnePage.antt) bites: a quiet list does something, and no part of quiet can be left out.
-- All are of one picture, which a host makes of a fresh device and a fresh RAM.
-- Assumes nothing.
use Rattle.std.specs.Prelude.{ℕ, zero, suc, ◌/◌, ◌%◌, ◌≡◌, not, List, [], ◌∷◌, ◌++◌, map, eqb, length, replicate}
use Rattle.limits.specs.Limits.{font_length}
use Rattle.runs.specs.Runs.{log, end, select, SameRuns}
use Rattle.cells.specs.Reading.{Role, same_role, cells_as, among, Alike}
use Rattle.registers.specs.declared.Settings.{Settings}
use Rattle.registers.specs.Registers.{settings_of}
use Rattle.bus.specs.declared.Event.{Event}
use Rattle.bus.specs.declared.Event.TheVariants.{Start, Byte, Fetch, Stop}
use Rattle.bus.specs.Bus.{fresh_ram}
use Rattle.device.specs.Device.{fresh_device, hear_event, start_frame, draw_line, remaining_of, cells_left}
use Rattle.capture.specs.Capture.{fresh_feed}
use Rattle.calls.specs.Calls.{Call, draw, ask, event, feed, anew, pixel}
use Rattle.calls.specs.OnePage.{State, calls, effect_of, Stores, QuietRun}
use Rattle.calls.specs.Pixels.{started}

-- ---- a host's traffic

-- a start, the slave address for writing, and an internal address: the next byte is stored there
unfoldable pub addressing : ℕ → List Event
addressing a = Start ∷ Byte 0xBA ∷ Byte (a / 256) ∷ Byte (a % 256) ∷ []

-- bytes stored from an address on
unfoldable pub write : ℕ → List ℕ → List Event
write a bytes = addressing a ++ map Byte bytes ++ Stop ∷ []

-- a font, all foreground
unfoldable pub font : List ℕ
font = replicate font_length 255

-- after these events
unfoldable pub heard : List Event → State → State
heard es s = end (calls font) s (map event es)

-- after n frame starts, each of so many lines
unfoldable pub starts : ℕ → ℕ → State → State
starts zero lines s = s
starts (suc n) lines s = starts n lines (started s lines)

-- ---- the picture

-- two pages in RAM, and the settings
unfoldable pub traffic : List Event
traffic =
    -- page 0: a strip of characters, its codes from 010 on
    write 0x000 (0x10 ∷ 0xC0 ∷ [])
    -- user character 5, white, flashing; font character 65, white
    ++ write 0x010 (0xF0 ∷ 0x85 ∷ 0x70 ∷ 0x41 ∷ [])
    -- page 1: a strip of characters, its codes from 020 on
    ++ write 0x040 (0x20 ∷ 0xC0 ∷ [])
    -- font character 65, white
    ++ write 0x020 (0x70 ∷ 0x41 ∷ [])
    -- slices 1 and 2 of user character 5: all foreground
    ++ write 0x0C0 (0xFF ∷ 0x0F ∷ 0xFF ∷ 0x0F ∷ [])
    -- LD 3, so W is 48; DD 4, so characters start at pixel 36 and one code is read; CH 18; OSD 1, FBK 0, FL 0, P 0
    ++ write 0x3FF0 (0x03 ∷ 0x04 ∷ 0x12 ∷ 0x80 ∷ [])

-- frame 16 has begun, of two lines, none of them drawn
unfoldable pub picture : State
picture = starts 17 2 (heard traffic (record { device = fresh_device; ram = fresh_ram; feed = fresh_feed }))

-- a line buffer, with room for one character more
unfoldable pub buffer : List ℕ
buffer = replicate 60 0

-- ---- a quiet list does something

-- P becomes 1; a draw; do the remaining lines read cell 020?; it gets another byte, from a capture that is fed in two chunks, cut
-- within the event and with a draw between them, and the code there is blue; the feed, which holds a half again, is made anew; the pixel that
-- is blue now; a fetch
unfoldable pub turning : List (Call Event)
turning =
    map event (write 0x3FF3 (0x81 ∷ []))
    ++ draw buffer ∷ ask 0x020
    ∷ feed (0 ∷ 0 ∷ 1 ∷ 0xBA ∷ 1 ∷ 0x00 ∷ 1 ∷ 0x20 ∷ 1 ∷ []) (replicate 8 0)
    ∷ draw buffer
    ∷ feed (0x10 ∷ 3 ∷ 0 ∷ 1 ∷ []) (replicate 5 0)
    ∷ anew
    ∷ pixel 2 16 36 0
    ∷ map event (Start ∷ Byte 0xBB ∷ Fetch ∷ Stop ∷ [])

-- the first line of a frame that starts now
unfoldable pub first_line : State → List ℕ
first_line s = (draw_line (start_frame s.device 2).device s.ram font buffer).line

-- its writes are quiet and none of its calls is refused; it changes the registers, the RAM and the next frame
pub record Changes (s : State) (cs : List (Call Event)) : Type 0 where
  pub quiet : QuietRun font s cs
  pub accepted : map (λ x. x.answer.reply.refusal) (log (calls font) s cs) ≡ replicate (length cs) 0
  pub registers : (end (calls font) s cs).device.registers ≡ s.device.registers → ⊥
  pub ram : (end (calls font) s cs).ram ≡ s.ram → ⊥
  pub next_frame : first_line (end (calls font) s cs) ≡ first_line s → ⊥

-- ---- no part of quiet can be left out

pub data Setting : Type 0 where
  LD DD CH OSD FBK FL : Setting

-- the settings s, but one of them as in t
unfoldable pub but : Setting → Settings → Settings → Settings
but LD s t = record { ld = t.ld; dd = s.dd; ch = s.ch; osd = s.osd; fbk = s.fbk; fl = s.fl }
but DD s t = record { ld = s.ld; dd = t.dd; ch = s.ch; osd = s.osd; fbk = s.fbk; fl = s.fl }
but CH s t = record { ld = s.ld; dd = s.dd; ch = t.ch; osd = s.osd; fbk = s.fbk; fl = s.fl }
but OSD s t = record { ld = s.ld; dd = s.dd; ch = s.ch; osd = t.osd; fbk = s.fbk; fl = s.fl }
but FBK s t = record { ld = s.ld; dd = s.dd; ch = s.ch; osd = s.osd; fbk = t.fbk; fl = s.fl }
but FL s t = record { ld = s.ld; dd = s.dd; ch = s.ch; osd = s.osd; fbk = s.fbk; fl = t.fl }

-- quiet, but for one setting
pub record ButSetting (k : Setting) (s : State) (e : Event) : Type 0 where
  pub cells : Alike (cells_left s.device s.ram) s.ram (hear_event s.device s.ram e).ram
  pub settings : settings_of (hear_event s.device s.ram e).device.registers
      ≡ but k (settings_of s.device.registers) (settings_of (hear_event s.device s.ram e).device.registers)

-- quiet, but for one cell, which the remaining lines read in one role and in no other
pub record ButCell (r : Role) (c : ℕ) (s : State) (e : Event) : Type 0 where
  pub reads : (q : Role) → among c (cells_as q s.ram (remaining_of s.device)) ≡ same_role q r
  pub cells : Alike (select (λ x. not (eqb x c)) (cells_left s.device s.ram)) s.ram (hear_event s.device s.ram e).ram
  pub settings : settings_of (hear_event s.device s.ram e).device.registers ≡ settings_of s.device.registers

-- the picture, with a byte to come for an address
unfoldable pub ready : ℕ → State
ready a = heard (addressing a) picture

-- this byte is a bus write, quiet in this weaker sense; with a draw after it the two runs differ
pub record Seen (Q : State → Event → Type 0) (a x : ℕ) : Type 0 where
  pub stores : Stores (effect_of (ready a) (Byte x))
  pub else_quiet : Q (ready a) (Byte x)
  pub differ : SameRuns (calls font) (ready a) (event (Byte x) ∷ draw buffer ∷ []) → ⊥

-- ---- the witnesses

pub record Witnesses : Type 0 where
  -- a page change, an unread cell by a fed capture, a fetch
  pub changes : Changes picture turning
  -- LD 4: one character more
  pub ld : Seen (ButSetting LD) 0x3FF0 0x04
  -- DD 5: characters start at pixel 39
  pub dd : Seen (ButSetting DD) 0x3FF1 0x05
  -- CH 6: the strip's first line shows slice 3, which is background
  pub ch : Seen (ButSetting CH) 0x3FF2 0x06
  -- OSD 0: every pixel 0
  pub osd : Seen (ButSetting OSD) 0x3FF3 0x00
  -- FBK 1: plain pixels have FBLK 1
  pub fbk : Seen (ButSetting FBK) 0x3FF3 0xC0
  -- FL 2: hides the flashing character from frame 16 on
  pub fl : Seen (ButSetting FL) 0x3FF3 0xA0
  -- the descriptor's DE becomes 0: no code is read
  pub descriptor : Seen (ButCell Role.descriptor 0x001) 0x001 0x80
  -- the code's foreground becomes blue
  pub code : Seen (ButCell Role.code 0x010) 0x010 0x90
  -- the same byte, fed in a capture
  pub fed_code : SameRuns (calls font) (ready 0x010) (feed (1 ∷ 0x90 ∷ []) (0 ∷ 0 ∷ []) ∷ draw buffer ∷ []) → ⊥
  -- PX11 to PX8 of the user character's slice 1 become background
  pub slice : Seen (ButCell Role.slice 0x0C1) 0x0C1 0x00

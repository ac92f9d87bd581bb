-- The calls that a host makes: what each returns and leaves, refused calls too. Of document 01: the reset of "Registers", the frame
-- start of "Walk of a frame", "Refusal numbers" with their order, and the cell question.
-- Assumes nothing.
use Rattle.std.specs.Prelude.{ℕ, ◌+◌, ◌-◌, ◌%◌, Bool, not, cond, List, ◌++◌, eqb, leb, ltb, length, drop, Result}
use Rattle.limits.specs.Limits.{ram_length, font_length, bad_line_count}
use Rattle.cells.specs.Reading.{Reading, value, cells, among}
use Rattle.refusals.specs.declared.Refusal.{Refusal}
use Rattle.refusals.specs.declared.Refusal.TheVariants.{RamLength, FontLength, LineLength, NoLine, FrameLines, CellRange}
use Rattle.refusals.specs.Refusals.{Reply, accepted, refused, reply_of, Verdict, passed, failed, refuse_if}
use Rattle.registers.specs.Registers.{fresh_registers, settings_of, page_of}
use Rattle.raster.specs.Raster.{width_of}
use Rattle.bus.specs.declared.Event.{Event}
use Rattle.bus.specs.Bus.{fresh_bus, BusOutcome, bus_event}
use Rattle.walk.specs.declared.Walk.{Walk}
use Rattle.walk.specs.Walk.{walk_from}
use Rattle.line.specs.Line.{Scanned, scan, paint}
use Rattle.ahead.specs.Ahead.{remaining}
use Rattle.device.specs.declared.Device.{Device}

-- ---- document 01's numbers for each answer

-- an accepted frame start has no number of its own
abbrev pub start_reply : Result Unit Refusal → Reply
start_reply = reply_of (λ _. 0) refused

-- the value of a drawn line is its read count
abbrev pub draw_reply : Result ℕ Refusal → Reply
draw_reply = reply_of (λ n. n) refused

-- yes is 1, no is 0
abbrev pub cell_reply : Result Bool Refusal → Reply
cell_reply = reply_of (λ yes. cond yes 1 0) refused

-- ---- reset

-- a reset stops the frame and makes the next frame number 0; it takes no RAM, so none is touched. A fresh device is as after a reset.
-- With no line left, the frame's number and walk are our choice: the next frame start sets both before any call reads them
unfoldable pub fresh_device : Device
fresh_device =
    record {
      bus = fresh_bus;
      registers = fresh_registers;
      frame = record { left = 0; number = 0; walk = walk_from 0 };
      next = 0;
    }

-- ---- bus event

-- what an event leaves and says
pub record EventOutcome : Type 0 where
  pub device : Device
  pub ram : List ℕ
  pub reply : Reply

-- an event touches the bus, the registers and the RAM, and nothing else of the device
unfoldable pub hear_event : Device → List ℕ → Event → EventOutcome
hear_event d ram e =
    let o : BusOutcome = bus_event d.bus d.registers ram e in
    record {
      device = record { bus = o.bus; registers = o.registers; frame = d.frame; next = d.next };
      ram = o.ram;
      reply = o.reply;
    }

-- ---- frame start

-- frame numbers are 0 to 63 and round again
abbrev pub frame_number : ℕ → ℕ
frame_number n = n % 64

-- what a frame start leaves and says
pub record StartOutcome : Type 0 where
  pub device : Device
  pub reply : Reply

-- it takes P now, and takes the next frame number, 0 to 63 and round again; a start during a frame begins anew
unfoldable pub in_frame : Device → ℕ → Device
in_frame d lines =
    record {
      bus = d.bus;
      registers = d.registers;
      frame = record { left = lines; number = frame_number d.next; walk = walk_from (page_of d.registers) };
      next = frame_number (frame_number d.next + 1);
    }

-- a frame start names its lines, 1 to 2,048; else refusal 6
unfoldable pub start_frame : Device → ℕ → StartOutcome
start_frame d lines =
    cond (bad_line_count lines)
    (record { device = d; reply = refused FrameLines })
    (record { device = in_frame d lines; reply = accepted 0 })

-- ---- draw

-- what a draw leaves and says
pub record DrawOutcome : Type 0 where
  pub device : Device
  pub line : List ℕ
  pub reply : Reply

-- the program that the frame's next line is
abbrev pub next_scan : Device → Reading Scanned
next_scan d = scan (settings_of d.registers) d.frame.walk

-- the line's pixels
unfoldable pub pixels_of : Device → List ℕ → List ℕ → List ℕ
pixels_of d ram font = paint (settings_of d.registers) font d.frame.number (value ram (next_scan d)).row

-- the device with one line fewer to draw, and the walk where the line has brought it
unfoldable pub line_on : Device → List ℕ → Device
line_on d ram =
    record {
      bus = d.bus;
      registers = d.registers;
      frame = record { left = d.frame.left - 1; number = d.frame.number; walk = (value ram (next_scan d)).walk };
      next = d.next;
    }

-- W
abbrev pub line_width : Device → ℕ
line_width d = width_of (settings_of d.registers).ld

-- a refused draw leaves device and line buffer unchanged
abbrev pub not_drawn : Device → List ℕ → Refusal → DrawOutcome
not_drawn d line r = record { device = d; line = line; reply = refused r }

-- a draw writes W bytes; later bytes stay. It reports how many RAM cells the line read
unfoldable pub line_drawn : Device → (ram font line : List ℕ) → DrawOutcome
line_drawn d ram font line =
    record {
      device = line_on d ram;
      line = pixels_of d ram font ++ drop (line_width d) line;
      reply = accepted (length (cells ram (next_scan d)));
    }

-- RAM and font are tested first where both are lent, by their lengths: 1, 2
abbrev pub lent_verdict : (ram font : ℕ) → Verdict → Verdict
lent_verdict ram font later = refuse_if (not (eqb ram ram_length)) RamLength (refuse_if (not (eqb font font_length)) FontLength later)

-- order of refusals: 1, 2, 4, 3
unfoldable pub draw_verdict : Device → (ram font line : ℕ) → Verdict
draw_verdict d ram font line =
    lent_verdict ram font (refuse_if (eqb d.frame.left 0) NoLine (refuse_if (ltb line (line_width d)) LineLength passed))

-- by what they find
unfoldable pub draw_by : Verdict → Device → (ram font line : List ℕ) → DrawOutcome
draw_by passed d ram font line = line_drawn d ram font line
draw_by (failed r) d ram font line = not_drawn d line r

unfoldable pub draw_line : Device → (ram font line : List ℕ) → DrawOutcome
draw_line d ram font line = draw_by (draw_verdict d (length ram) (length font) (length line)) d ram font line

-- ---- cell question

-- the program that the frame's remaining lines are, with the registers as they stand
abbrev pub remaining_of : Device → Reading Walk
remaining_of d = remaining (settings_of d.registers) d.frame.left d.frame.walk

-- every cell that these lines read, with the RAM as it stands and nothing written on the way
unfoldable pub cells_left : Device → List ℕ → List ℕ
cells_left d ram = cells ram (remaining_of d)

-- the cell question (document 01's term). Order of refusals: 1, 8. Without a running frame the cell question answers no
unfoldable pub ask_cell : Device → List ℕ → ℕ → Reply
ask_cell d ram c =
    cond (not (eqb (length ram) ram_length))
    (refused RamLength)
    (cond (leb ram_length c) (refused CellRange) (accepted (cond (among c (cells_left d ram)) 1 0)))

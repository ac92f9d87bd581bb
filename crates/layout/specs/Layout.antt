-- The device record in 32 bytes, as a host lends them: parts at offsets. Numbers of two bytes have their low byte first.
--
--   0 - 3    the bus
--     0      bus state: 0 idle, 1 deaf, 2 slave address next, 3 high byte next, 4 low byte next, 5 writing, 6 reading
--     1      the high byte that state 4 holds, else 0
--     2, 3   address counter
--   4 - 19   registers 3FF0 to 3FFF
--   20       next frame number
--   21 - 31  the frame
--     21     frame number
--     22, 23 lines of the frame left; 0: no frame, or all its lines drawn
--     24, 25 address of the next descriptor
--     26     strip on screen: bit 0 characters (else spacing), bit 1 ZY, bit 2 DE; bit 3: where the strip has no line left, the rest of
--            the frame is plain (K9)
--     27     characters: height (CH as taken); spacing: lines left
--     28, 29 characters: code address; spacing: 0
--     30, 31 characters: scan line of the strip; spacing: 0
--
-- Any 32 bytes are read as some record: another bus state is idle; byte 1 is read in state 4 only, of byte 26 only bits 0 to 3, and
-- bytes 28 to 31 (like bits 1 and 2 of byte 26) for characters only.
-- Assumes nothing.
use Rattle.std.specs.Prelude.{ℕ, ◌+◌, ◌/◌, ◌%◌, ◌≤◌, ◌≡◌, Bool, cond, List, [], ◌∷◌, ◌++◌, eqb, length, get_or, set, take, drop}
use Rattle.std.proofs.lemmas.List.Edits.{sets}
use Rattle.buffers.specs.Buffers.{word, word_bytes}
use Rattle.registers.specs.declared.Registers.{Registers}
use Rattle.bus.specs.declared.BusState.{BusState}
use Rattle.bus.specs.declared.BusState.TheVariants.{Idle, Deaf, Slave, High, Low, Write, Read}
use Rattle.bus.specs.declared.Bus.{Bus}
use Rattle.walk.specs.declared.Strip.{Strip}
use Rattle.walk.specs.declared.Strip.TheVariants.{Spacing, Characters}
use Rattle.device.specs.declared.Frame.{Frame}
use Rattle.device.specs.declared.Device.{Device}
use Rattle.layout.specs.declared.Packed.{Packed}

-- ---- parts at offsets

-- where each part begins, and its length
abbrev pub bus_at : ℕ
bus_at = 0

abbrev pub bus_length : ℕ
bus_length = 4

abbrev pub registers_at : ℕ
registers_at = 4

abbrev pub registers_length : ℕ
registers_length = 16

abbrev pub next_at : ℕ
next_at = 20

abbrev pub next_length : ℕ
next_length = 1

abbrev pub frame_at : ℕ
frame_at = 21

abbrev pub frame_length : ℕ
frame_length = 11

abbrev pub record_length : ℕ
record_length = 32

-- the part of n bytes at an offset
abbrev pub part : ℕ → ℕ → List ℕ → List ℕ
part at n xs = take n (drop at xs)

-- the record with these bytes put at an offset, one after the other; all other bytes stay
abbrev pub put : ℕ → List ℕ → List ℕ → List ℕ
put at bytes xs = sets xs at bytes

-- where they fit, that is: what stands before them, they, and what stands behind them
abbrev pub PutInPlace : Type 0
PutInPlace =
    (at : ℕ) (bytes xs : List ℕ) → at + length bytes ≤ length xs
    → put at bytes xs ≡ take at xs ++ (bytes ++ drop (at + length bytes) xs)

-- Below, each part has its own bytes, and is read from its own bytes: no part's definitions know where it stands. What calls leave is said by
-- the parts put in their places, so no definition above this file knows it either.

-- ---- the bus

abbrev pub state_number : BusState → ℕ
state_number Idle = 0
state_number Deaf = 1
state_number Slave = 2
state_number High = 3
state_number (Low high) = 4
state_number Write = 5
state_number Read = 6

-- deaf, by the number
abbrev pub is_deaf : BusState → Bool
is_deaf s = eqb (state_number s) (state_number Deaf)

abbrev pub held_high : BusState → ℕ
held_high Idle = 0
held_high Deaf = 0
held_high Slave = 0
held_high High = 0
held_high (Low high) = high
held_high Write = 0
held_high Read = 0

abbrev pub bus_bytes : Bus → List ℕ
bus_bytes b = state_number b.state ∷ held_high b.state ∷ word_bytes b.counter

abbrev pub state_of : ℕ → ℕ → BusState
state_of n held =
    cond (eqb n 1) Deaf
    (cond (eqb n 2) Slave (cond (eqb n 3) High (cond (eqb n 4) (Low held) (cond (eqb n 5) Write (cond (eqb n 6) Read Idle)))))

abbrev pub bus_in : List ℕ → Bus
bus_in bytes = record { state = state_of (get_or bytes 0 0) (get_or bytes 1 0); counter = word bytes 2 }

-- ---- the registers, as they are

abbrev pub registers_in : List ℕ → Registers
registers_in bytes = record { bytes = bytes }

-- ---- the next frame number, as it is

abbrev pub next_bytes : ℕ → List ℕ
next_bytes n = n ∷ []

abbrev pub next_in : List ℕ → ℕ
next_in bytes = get_or bytes 0 0

-- ---- the frame

-- the strip on screen as numbers. Its kind also has the walk's `plain` (K9)
abbrev pub packed : Bool → Strip → Packed
packed plain (Spacing left) = record { kind = cond plain 8 0; lines = left; address = 0; line = 0 }
packed plain (Characters address height zoom enabled line) =
    record { kind = 1 + cond zoom 2 0 + cond enabled 4 0 + cond plain 8 0; lines = height; address = address; line = line.0 }

abbrev pub strip_in : ℕ → ℕ → ℕ → ℕ → Strip
strip_in kind lines address line =
    cond (eqb (kind % 2) 0)
    (Spacing lines)
    (Characters address lines (eqb (kind / 2 % 2) 1) (eqb (kind / 4 % 2) 1) (record { 0 = line }))

-- with its strip as numbers
abbrev pub frame_with : Frame → Packed → List ℕ
frame_with f p =
    f.number ∷ (word_bytes f.left ++ (word_bytes f.walk.descriptor ++ (p.kind ∷ p.lines ∷ (word_bytes p.address ++ word_bytes p.line))))

abbrev pub frame_bytes : Frame → List ℕ
frame_bytes f = frame_with f (packed f.walk.plain f.walk.strip)

abbrev pub frame_in : List ℕ → Frame
frame_in bytes =
    record {
      left = word bytes 1;
      number = get_or bytes 0 0;
      walk =
          record {
            descriptor = word bytes 3;
            strip = strip_in (get_or bytes 5 0) (get_or bytes 6 0) (word bytes 7) (word bytes 9);
            plain = eqb (get_or bytes 5 0 / 8 % 2) 1;
          };
    }

-- ---- parts put in their places

-- the record with another bus
abbrev pub put_bus : Bus → List ℕ → List ℕ
put_bus b xs = put bus_at (bus_bytes b) xs

-- with another number for its state, and no other byte
abbrev pub put_state : BusState → List ℕ → List ℕ
put_state s xs = set xs bus_at (state_number s)

-- with other registers
abbrev pub put_registers : Registers → List ℕ → List ℕ
put_registers r xs = put registers_at r.bytes xs

-- with another next frame number
abbrev pub put_next : ℕ → List ℕ → List ℕ
put_next n xs = put next_at (next_bytes n) xs

-- with another frame
abbrev pub put_frame : Frame → List ℕ → List ℕ
put_frame f xs = put frame_at (frame_bytes f) xs

-- ---- bytes looked at in their places

-- the number of the bus's state
abbrev pub state_byte : List ℕ → ℕ
state_byte xs = get_or xs bus_at 0

-- the registers' bytes
abbrev pub register_bytes : List ℕ → List ℕ
register_bytes xs = part registers_at registers_length xs

-- ---- the whole record

abbrev pub device_bytes : Device → List ℕ
device_bytes d = bus_bytes d.bus ++ (d.registers.bytes ++ (next_bytes d.next ++ frame_bytes d.frame))

abbrev pub device_in : List ℕ → Device
device_in xs =
    record {
      bus = bus_in (part bus_at bus_length xs);
      registers = registers_in (part registers_at registers_length xs);
      frame = frame_in (part frame_at frame_length xs);
      next = next_in (part next_at next_length xs);
    }

-- reading back what was written gives the same record. (That there are sixteen registers is what the array's type says.)
abbrev pub ReadBack : Type 0
ReadBack = (d : Device) → length d.registers.bytes ≡ registers_length → device_in (device_bytes d) ≡ d

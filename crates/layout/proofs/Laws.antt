-- Reading back what was written: each part by itself, and the record with a part put in its place.
-- Assumes nothing.
use Prim.Native.Nat.{ℕ, ◌+◌, ◌/◌, ◌%◌, ◌≤◌, ◌<◌}
use mathlib.Core.Path.{◌≡◌, refl, sym, ap, ◌∙◌}
use mathlib.Core.Bool.{Bool, true, false, cond}
use mathlib.Core.List.{List, ◌++◌, append_assoc}
use native.Mathlib.Omega.{arith}
use borrow.Author.Tests.{eqb-true}
use lib.Dec.{T, eqb}
use lib.ListN.{length, get_or, take, drop, set, length-append, length-set}
use lib.Seq.{length-take-le, take_at, drop_at, drop-drop, get_or-set_same, get_or-set_other, sets, sets-eq, length-sets}
use Rattle.buffers.proofs.Laws.{word_read}
use Rattle.registers.specs.declared.Registers.{Registers}
use Rattle.bus.specs.declared.BusState.{BusState}
use Rattle.bus.specs.declared.BusState.TheVariants.{Idle, Deaf, Slave, High, Low, Write, Read}
use Rattle.bus.specs.declared.Bus.{Bus}
use Rattle.walk.specs.declared.Strip.{Strip}
use Rattle.walk.specs.declared.Strip.TheVariants.{Spacing, Characters}
use Rattle.device.specs.declared.Frame.{Frame}
use Rattle.device.specs.declared.Device.{Device}
use Rattle.capture.specs.declared.Feed.TheVariants.{Open, Half, Shut}
use Rattle.layout.specs.Layout.{bus_at, bus_length, registers_at, registers_length, next_at, next_length, frame_at, frame_length, record_length, part, put, PutInPlace, state_number, held_high, bus_bytes, state_of, bus_in, registers_in, next_bytes, next_in, packed, strip_in, frame_bytes, frame_in, put_bus, put_state, state_byte, put_registers, put_next, put_frame, device_bytes, device_in, ReadBack}
use Rattle.layout.specs.FeedLayout.{FeedReadBack}
use Rattle.facts.proofs.Parts.{fit, get_d_part, part-put, sets-append, sets-all, set-part}

-- ---- a part put in its place

pub put_in_place : PutInPlace
put_in_place at bytes xs h = sets-eq bytes xs at h ∙ append_assoc (take at xs) bytes (drop (at + length bytes) xs)

in_front : (b : Bus) (xs : List ℕ) → length xs ≡ record_length → put_bus b xs ≡ bus_bytes b ++ drop bus_length xs
in_front b xs h = sets-eq (bus_bytes b) xs bus_at (omega arith)

-- the record keeps its length
pub put_bus-length : (b : Bus) (xs : List ℕ) → length (put_bus b xs) ≡ length xs
put_bus-length b xs = length-sets xs bus_at (bus_bytes b)

pub put_registers-length : (r : Registers) (xs : List ℕ) → length (put_registers r xs) ≡ length xs
put_registers-length r xs = length-sets xs registers_at r.bytes

pub put_next-length : (n : ℕ) (xs : List ℕ) → length (put_next n xs) ≡ length xs
put_next-length n xs = length-sets xs next_at (next_bytes n)

pub put_frame-length : (f : Frame) (xs : List ℕ) → length (put_frame f xs) ≡ length xs
put_frame-length f xs = length-sets xs frame_at (frame_bytes f)

-- ---- each part by itself

state-back : (s : BusState) → state_of (state_number s) (held_high s) ≡ s
state-back Idle = refl
state-back Deaf = refl
state-back Slave = refl
state-back High = refl
state-back (Low high) = refl
state-back Write = refl
state-back Read = refl

strip-back : (r : Bool) (s : Strip) → strip_in (packed r s).kind (packed r s).lines (packed r s).address (packed r s).line ≡ s
strip-back false (Spacing left) = refl
strip-back false (Characters address height false false line) = refl
strip-back false (Characters address height false true line) = refl
strip-back false (Characters address height true false line) = refl
strip-back false (Characters address height true true line) = refl
strip-back true (Spacing left) = refl
strip-back true (Characters address height false false line) = refl
strip-back true (Characters address height false true line) = refl
strip-back true (Characters address height true false line) = refl
strip-back true (Characters address height true true line) = refl

plain_back : (r : Bool) (s : Strip) → eqb ((packed r s).kind / 8 % 2) 1 ≡ r
plain_back false (Spacing left) = refl
plain_back false (Characters address height false false line) = refl
plain_back false (Characters address height false true line) = refl
plain_back false (Characters address height true false line) = refl
plain_back false (Characters address height true true line) = refl
plain_back true (Spacing left) = refl
plain_back true (Characters address height false false line) = refl
plain_back true (Characters address height false true line) = refl
plain_back true (Characters address height true false line) = refl
plain_back true (Characters address height true true line) = refl

bus-back : (b : Bus) → bus_in (bus_bytes b) ≡ b
bus-back b = rw (state-back b.state, word_read b.counter)

frame_back : (f : Frame) → frame_in (frame_bytes f) ≡ f
frame_back f =
    let w = f.walk in
    let p = packed w.plain w.strip in
    rw (word_read f.left, word_read w.descriptor, word_read p.address, word_read p.line, strip-back w.plain w.strip, plain_back w.plain w.strip)

-- a state other than idle is read from its own number
pub numbered : (n held k : ℕ) → state_number (state_of n held) ≡ k → 0 < k → n ≡ k
numbered n held k = by (eqb n 1) (eqb n 2) (eqb n 3) (eqb n 4) (eqb n 5) (eqb n 6) refl refl refl refl refl refl
  where
    by : (a b c d e f : Bool) → eqb n 1 ≡ a → eqb n 2 ≡ b → eqb n 3 ≡ c → eqb n 4 ≡ d → eqb n 5 ≡ e → eqb n 6 ≡ f
        → state_number (cond a Deaf (cond b Slave (cond c High (cond d (Low held) (cond e Write (cond f Read Idle)))))) ≡ k → 0 < k → n ≡ k
    by true b c d e f p q r s t u z h = eqb-true _ _ p ∙ z
    by false true c d e f p q r s t u z h = eqb-true _ _ q ∙ z
    by false false true d e f p q r s t u z h = eqb-true _ _ r ∙ z
    by false false false true e f p q r s t u z h = eqb-true _ _ s ∙ z
    by false false false false true f p q r s t u z h = eqb-true _ _ t ∙ z
    by false false false false false true p q r s t u z h = eqb-true _ _ u ∙ z
    by false false false false false false p q r s t u z h = absurd (omega arith)

-- ---- the bus's state, seen by its number

pub state-byte : (xs : List ℕ) → get_or (part bus_at bus_length xs) 0 0 ≡ state_byte xs
state-byte xs = get_d_part xs bus_at bus_length 0 0 (omega arith)

-- in a bus that was put
pub state-put : (b : Bus) (xs : List ℕ) → length xs ≡ record_length → state_byte (put_bus b xs) ≡ state_number b.state
state-put b xs h = ap state_byte (in_front b xs h)

-- ---- the record with a part put in its place

-- a device from its parts
abbrev of : (ℕ → ℕ → List ℕ) → Device
of p =
    record {
      bus = bus_in (p bus_at bus_length);
      registers = registers_in (p registers_at registers_length);
      frame = frame_in (p frame_at frame_length);
      next = next_in (p next_at next_length);
    }

-- n bytes at an offset are one of the parts: the same as it, and apart from all others
abbrev IsPart : ℕ → ℕ → Type 0
IsPart at n = T (fit at n bus_at bus_length) × T (fit at n registers_at registers_length) × T (fit at n next_at next_length) × T (fit at n frame_at frame_length)

-- it is read, and all other parts are as they were
put-part : (at n : ℕ) (bs xs : List ℕ) → length bs ≡ n → at + n ≤ length xs → IsPart at n
    → device_in (put at bs xs) ≡ of (λ from m. cond (eqb from at) bs (part from m xs))
put-part at n bs xs l h t = λ i. record {
  bus = bus_in (read bus_at bus_length t.0 i);
  registers = registers_in (read registers_at registers_length t.1 i);
  next = next_in (read next_at next_length t.2 i);
  frame = frame_in (read frame_at frame_length t.3 i);
}
  where
    read : (from m : ℕ) → T (fit at n from m) → part from m (put at bs xs) ≡ cond (eqb from at) bs (part from m xs)
    read from m u = part-put xs bs at n from m l h u

-- all parts put in their places are the whole record
pub whole-put : (d : Device) (xs : List ℕ) → length xs ≡ record_length → length d.registers.bytes ≡ registers_length
    → put_frame d.frame (put_next d.next (put_registers d.registers (put_bus d.bus xs)))
    ≡ device_bytes d
whole-put d xs h l =
    let rest : List ℕ = next_bytes d.next ++ frame_bytes d.frame in
    let r : List ℕ = d.registers.bytes in
    let ys : List ℕ = put_bus d.bus xs in
    let e : next_at ≡ registers_at + length r = omega arith in
    ap (λ (k : ℕ). sets (put registers_at r ys) k rest) e
    ∙ sets-append ys r rest registers_at
    ∙ sets-all xs (device_bytes d) (omega (arith, length-append r rest))

pub read_back : ReadBack
read_back d l =
    let r : List ℕ = d.registers.bytes in
    let rest : List ℕ = next_bytes d.next ++ frame_bytes d.frame in
    let behind : drop registers_length (r ++ rest) ≡ rest = drop_at r rest registers_length l in
    let frame : drop (registers_length + next_length) (r ++ rest) ≡ frame_bytes d.frame = sym (drop-drop next_length registers_length (r ++ rest)) ∙ ap (drop next_length) behind in
    λ i. record {
      bus = bus-back d.bus i;
      registers = registers_in (take_at r rest registers_length l i);
      frame = (ap (λ (ys : List ℕ). frame_in (take frame_length ys)) frame ∙ frame_back d.frame) i;
      next = next_in (take next_length (behind i));
    }

-- ---- what a call writes

-- a device with another part
abbrev pub with_bus : Bus → Device → Device
with_bus b d = record { bus = b; registers = d.registers; frame = d.frame; next = d.next }

abbrev pub with_registers : Registers → Device → Device
with_registers r d = record { bus = d.bus; registers = r; frame = d.frame; next = d.next }

abbrev pub with_frame : Frame → Device → Device
with_frame f d = record { bus = d.bus; registers = d.registers; frame = f; next = d.next }

abbrev pub with_next : ℕ → Device → Device
with_next n d = record { bus = d.bus; registers = d.registers; frame = d.frame; next = n }

-- a bus
pub bus-put : (b : Bus) (xs : List ℕ) → length xs ≡ record_length → device_in (put_bus b xs) ≡ with_bus b (device_in xs)
bus-put b xs h =
    put-part bus_at bus_length (bus_bytes b) xs refl (omega arith) (tt, tt, tt, tt)
    ∙ ap (λ (c : Bus). with_bus c (device_in xs)) (bus-back b)

-- put over another
pub put-over : (b c : Bus) (xs : List ℕ) → length xs ≡ record_length → put_bus b (put_bus c xs) ≡ put_bus b xs
put-over b c xs h =
    in_front b (put_bus c xs) (put_bus-length c xs ∙ h)
    ∙ ap (λ (l : List ℕ). bus_bytes b ++ drop bus_length l) (in_front c xs h)
    ∙ sym (in_front b xs h)

-- an event: bus and registers
pub event-back : (b : Bus) (r : Registers) (xs : List ℕ) → length r.bytes ≡ registers_length → length xs ≡ record_length
    → device_in (put_bus b (put_registers r xs)) ≡ with_bus b (with_registers r (device_in xs))
event-back b r xs l h =
    bus-put b (put_registers r xs) (put_registers-length r xs ∙ h)
    ∙ ap (with_bus b) (put-part registers_at registers_length r.bytes xs l (omega arith) (tt, tt, tt, tt))

-- one that turns the device deaf: the state alone
pub deaf-back : (xs : List ℕ) → length xs ≡ record_length
    → device_in (put_state Deaf xs) ≡ with_bus (record { state = Deaf; counter = (device_in xs).bus.counter }) (device_in xs)
deaf-back xs h =
    let p : List ℕ = part bus_at bus_length xs in
    let four : length p ≡ bus_length = length-take-le bus_length xs (omega arith) in
    ap device_in (set-part bus_at bus_length 0 xs 1 (omega arith))
    ∙ put-part bus_at bus_length (set p 0 1) xs (length-set p 0 1 ∙ four) (omega arith) (tt, tt, tt, tt)
    ∙ rw (get_or-set_same p 0 1 0 (omega arith), get_or-set_other p 0 2 1 0 (λ e. omega arith), get_or-set_other p 0 3 1 0 (λ e. omega arith))

-- a draw: the frame
pub draw-back : (f : Frame) (xs : List ℕ) → length xs ≡ record_length → device_in (put_frame f xs) ≡ with_frame f (device_in xs)
draw-back f xs h =
    put-part frame_at frame_length (frame_bytes f) xs refl (omega arith) (tt, tt, tt, tt)
    ∙ ap (λ (g : Frame). with_frame g (device_in xs)) (frame_back f)

-- a frame start: the frame and the next frame number
pub start_back : (f : Frame) (n : ℕ) (xs : List ℕ) → length xs ≡ record_length
    → device_in (put_frame f (put_next n xs)) ≡ with_frame f (with_next n (device_in xs))
start_back f n xs h =
    draw-back f (put_next n xs) (put_next-length n xs ∙ h)
    ∙ ap (with_frame f) (put-part next_at next_length (next_bytes n) xs refl (omega arith) (tt, tt, tt, tt))

-- ---- the feed's record

pub feed-back : FeedReadBack
feed-back Open = refl
feed-back (Half kind) = refl
feed-back Shut = refl

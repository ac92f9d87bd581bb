-- The interface for firmware (include/osd.h): each function does on the bytes of the record what the device's function does on the
-- record that they are read as. A font and its file cross as they are.
-- Assumes nothing.
use Rattle.std.specs.Prelude.{ℕ, ◌+◌, ◌*◌, ◌/◌, ◌%◌, ◌≤◌, ◌<◌, ◌≡◌, Bool, true, not, cond, ◌&&◌, List, [], eqb, ltb, length}
use Rattle.limits.specs.Limits.{ram_length, line_cells}
use Rattle.runs.specs.Runs.{Machine}
use Rattle.refusals.specs.declared.Unheard.{Unheard}
use Rattle.refusals.specs.declared.Unheard.TheVariants as unheard
use Rattle.refusals.specs.declared.Refusal.{Refusal}
use Rattle.refusals.specs.declared.Refusal.TheVariants.{NotAcknowledged}
use Rattle.refusals.specs.Refusals.{number_of, Reply, refused, Verdict, passed, failed}
use Rattle.buffers.specs.Buffers.{Bytes}
use Rattle.font_file.specs.FontFile.{block_count, WriteOutcome, write_font, ReadOutcome, read_font}
use Rattle.bus.specs.declared.BusState.TheVariants.{Deaf, Slave}
use Rattle.bus.specs.Bus.{event_of, last_kind, bad_kind, BusOutcome}
use Rattle.bus.specs.Unheard.{deafens}
use Rattle.device.specs.Device.{fresh_device, EventOutcome, hear_event, StartOutcome, start_frame, DrawOutcome, draw_line, ask_cell}
use Rattle.pixel.specs.Ask.{ask_pixel}
use Rattle.capture.specs.Capture.{Logged, fresh_feed, chip, feed_verdict, taken_reply, FeedOutcome, Played, play_chunk, events_by, feed_chunk}
use Rattle.layout.specs.Layout.{record_length, is_deaf, put_bus, put_state, put_registers, register_bytes, put_next, put_frame, device_bytes, device_in}
use Rattle.layout.specs.FeedLayout.{feed_length, feed_bytes, feed_in}

-- ---- answers: refusal × 65,536 + value

-- a value has 16 bits
abbrev pub value_bound : ℕ
value_bound = 65536

-- a reply as one number
abbrev pub answer_of : Reply → ℕ
answer_of r = r.refusal * value_bound + r.value

-- OSD_REFUSAL and OSD_VALUE of an answer
abbrev pub reply_in : ℕ → Reply
reply_in n = record { refusal = n / value_bound; value = n % value_bound }

-- an answer with refusal 0
abbrev pub is_accepted : ℕ → Bool
is_accepted n = ltb n value_bound

-- the interface's own refusal, before document 01's order: a device or feed buffer of another length, a kind above 3, a chunk of more
-- than 65,534 bytes
abbrev pub own_refusal : ℕ
own_refusal = 255

-- with value 0
abbrev pub answer_not_taken : ℕ
answer_not_taken = answer_of (record { refusal = own_refusal; value = 0 })

-- a device's record has its 32 bytes
abbrev pub is_record : List ℕ → Bool
is_record xs = eqb (length xs) record_length

-- a refused call writes no byte of the record
abbrev pub unless_refused : Reply → List ℕ → List ℕ → List ℕ
unless_refused r new xs = cond (eqb r.refusal 0) new xs

-- ---- osd_fresh, and osd_reset

-- what a call leaves of the record, and its answer
pub record Done : Type 0 where
  pub device : List ℕ
  pub answer : ℕ

-- the bytes of a fresh device
unfoldable pub fresh_on : List ℕ → Done
fresh_on xs = cond (is_record xs) (record { device = device_bytes fresh_device; answer = 0 }) (record { device = xs; answer = answer_not_taken })

-- ---- osd_bus: a bus event

-- what a bus call leaves of the record and the RAM, and its answer
pub record BusDone : Type 0 where
  pub device : List ℕ
  pub ram : List ℕ
  pub answer : ℕ

-- not acknowledged: no byte is written, unless the device is deaf thereafter; then its state's byte is
abbrev pub ignored_on : (deaf : Bool) → List ℕ → List ℕ
ignored_on deaf xs = cond deaf (put_state Deaf xs) xs

-- an acknowledged event puts the bus part and the registers; a refused one only that the device has turned deaf
unfoldable pub heard_on : List ℕ → BusOutcome → BusDone
heard_on xs o =
    record {
      device = unless_refused o.reply (put_bus o.bus (put_registers o.registers xs)) (ignored_on (is_deaf o.bus.state) xs);
      ram = o.ram;
      answer = answer_of o.reply;
    }

-- all that an event touches of a device
abbrev pub touched : EventOutcome → BusOutcome
touched o = record { bus = o.device.bus; registers = o.device.registers; ram = o.ram; reply = o.reply }

-- kind: 0 start, 1 host byte, 2 fetch, 3 stop; the byte is ignored unless the kind is 1
unfoldable pub bus_on : (xs ram : List ℕ) (kind byte : ℕ) → BusDone
bus_on xs ram kind byte =
    cond (is_record xs && not (bad_kind kind))
    (heard_on xs (touched (hear_event (device_in xs) ram (event_of kind byte))))
    (record { device = xs; ram = ram; answer = answer_not_taken })

-- ---- osd_frame_start: a frame start

-- an accepted start puts the frame and the next frame number
unfoldable pub started_on : List ℕ → StartOutcome → Done
started_on xs o =
    record {
      device = unless_refused o.reply (put_frame o.device.frame (put_next o.device.next xs)) xs;
      answer = answer_of o.reply;
    }

-- the device's frame start
unfoldable pub start_on : (xs : List ℕ) (lines : ℕ) → Done
start_on xs lines = cond (is_record xs) (started_on xs (start_frame (device_in xs) lines)) (record { device = xs; answer = answer_not_taken })

-- ---- osd_draw: the frame's next line

-- what a draw leaves of the record and the line buffer, and its answer
pub record DrawDone : Type 0 where
  pub device : List ℕ
  pub line : List ℕ
  pub answer : ℕ

-- an accepted draw puts the frame
unfoldable pub drawn_on : List ℕ → DrawOutcome → DrawDone
drawn_on xs o =
    record {
      device = unless_refused o.reply (put_frame o.device.frame xs) xs;
      line = o.line;
      answer = answer_of o.reply;
    }

-- the device's draw
unfoldable pub draw_on : (xs ram font line : List ℕ) → DrawDone
draw_on xs ram font line =
    cond (is_record xs) (drawn_on xs (draw_line (device_in xs) ram font line)) (record { device = xs; line = line; answer = answer_not_taken })

-- ---- osd_cell: the cell question

-- the device's answer; nothing is written
unfoldable pub cell_on : (xs ram : List ℕ) (cell : ℕ) → ℕ
cell_on xs ram cell = cond (is_record xs) (answer_of (ask_cell (device_in xs) ram cell)) answer_not_taken

-- ---- osd_pixel: one pixel (document 02, K5)

-- the pixel by the record's registers; nothing is written
unfoldable pub pixel_on : (xs ram font : List ℕ) (lines frame x y : ℕ) → ℕ
pixel_on xs ram font lines frame x y =
    cond (is_record xs) (answer_of (ask_pixel (device_in xs).registers ram font lines frame x y)) answer_not_taken

-- ---- osd_feed_fresh, and osd_feed: a capture in chunks (document 02, K1)

-- a feed's record has its 2 bytes
abbrev pub is_feed : List ℕ → Bool
is_feed fs = eqb (length fs) feed_length

-- the longest chunk, since a value has 16 bits: with one byte more and a half held its events could write 65,536 bytes
abbrev pub chunk_max : ℕ
chunk_max = 65534

-- what making a feed leaves of its record, and the answer
pub record FeedMade : Type 0 where
  pub feed : List ℕ
  pub answer : ℕ

-- the bytes of a feed made anew
unfoldable pub feed_fresh_on : List ℕ → FeedMade
feed_fresh_on fs = cond (is_feed fs) (record { feed = feed_bytes fresh_feed; answer = 0 }) (record { feed = fs; answer = answer_not_taken })

-- the bytes of the device's record and the RAM, as a feed is lent them
pub record ChipBytes : Type 0 where
  pub device : List ℕ
  pub ram : List ℕ

abbrev pub lent : (xs ram : List ℕ) → ChipBytes
lent xs ram = record { device = xs; ram = ram }

-- each fed event is one bus call; its answer is the reply whose number osd_bus gives (Crossing's bus)
abbrev pub bus_calls : Machine ChipBytes Logged Reply
bus_calls =
    record {
      answer = λ l x. (hear_event (device_in l.device) l.ram (event_of x.kind x.byte)).reply;
      after =
          λ l x.
          record { device = (bus_on l.device l.ram x.kind x.byte).device; ram = (bus_on l.device l.ram x.kind x.byte).ram };
      is_event = λ x. true;
    }

-- the bytes of all that is lent, but for the chunk, and the answer
pub record FeedDone : Type 0 where
  pub device : List ℕ
  pub feed : List ℕ
  pub ram : List ℕ
  pub out : List ℕ
  pub answer : ℕ

-- refused 255, 1, 10, or 9 by a feed already shut: no byte is written
abbrev pub not_fed_on : (xs fs ram out : List ℕ) (answer : ℕ) → FeedDone
not_fed_on xs fs ram out answer = record { device = xs; feed = fs; ram = ram; out = out; answer = answer }

-- what a chunk's events leave, with the feed's record written anew, and the answer
abbrev pub played_on : Played ChipBytes → FeedDone
played_on p =
    record {
      device = p.state.device;
      feed = feed_bytes p.feed;
      ram = p.state.ram;
      out = p.out;
      answer = answer_of (taken_reply p.feed p.written);
    }

-- taken: each event is one bus call
unfoldable pub chunk_fed_on : (xs fs ram chunk out : List ℕ) → FeedDone
chunk_fed_on xs fs ram chunk out = played_on (play_chunk bus_calls (lent xs ram) (feed_in fs) chunk out)

-- by what the feed's tests find
unfoldable pub fed_on_by : Verdict → (xs fs ram chunk out : List ℕ) → FeedDone
fed_on_by passed xs fs ram chunk out = chunk_fed_on xs fs ram chunk out
fed_on_by (failed r) xs fs ram chunk out = not_fed_on xs fs ram out (answer_of (refused r))

-- those tests, for the feed that its bytes are read as
abbrev pub verdict_on : (fs ram chunk out : List ℕ) → Verdict
verdict_on fs ram chunk out = feed_verdict (feed_in fs) (length ram) (length chunk) (length out)

-- the lengths that the interface takes
abbrev pub lengths_taken : (xs fs chunk : List ℕ) → Bool
lengths_taken xs fs chunk = is_record xs && (is_feed fs && not (ltb chunk_max (length chunk)))

-- the interface's own tests, then the feed's
unfoldable pub feed_on : (xs fs ram chunk out : List ℕ) → FeedDone
feed_on xs fs ram chunk out =
    cond (lengths_taken xs fs chunk) (fed_on_by (verdict_on fs ram chunk out) xs fs ram chunk out) (not_fed_on xs fs ram out answer_not_taken)

-- the events that a feed makes: none where it is refused before any event
unfoldable pub fed_events_on : (xs fs ram chunk out : List ℕ) → List Logged
fed_events_on xs fs ram chunk out = cond (lengths_taken xs fs chunk) (events_by (verdict_on fs ram chunk out) (feed_in fs) chunk) []

-- ---- osd_font_write, and osd_font_read: font files (document 02, K8). No record is lent, so nothing is refused with 255

-- the bytes of the buffer that a write may write, and its answer
pub record WriteDone : Type 0 where
  pub file : List ℕ
  pub answer : ℕ

-- a font into a file
unfoldable pub font_write_on : (font file : List ℕ) → WriteDone
font_write_on font file = let o : WriteOutcome = write_font font file in record { file = o.file; answer = answer_of o.reply }

-- the bytes of the buffer that a read may write, and its answer
pub record ReadDone : Type 0 where
  pub font : List ℕ
  pub answer : ℕ

-- a file into a font
unfoldable pub font_read_on : (file font : List ℕ) → ReadDone
font_read_on file font = let o : ReadOutcome = read_font file font in record { font = o.font; answer = answer_of o.reply }

-- ---- the claim: each function does on the bytes exactly what the device's function does on the record that they are read as

pub record Crossing : Type 0 where
  -- reset has the same definition: a device's reset leaves a fresh device
  pub fresh : (xs : List ℕ) → length xs ≡ record_length → (device_in (fresh_on xs).device ≡ fresh_device) × ((fresh_on xs).answer ≡ 0)
  pub bus : (xs ram : List ℕ) (kind byte : ℕ) → length xs ≡ record_length → kind ≤ last_kind
      → let o : EventOutcome = hear_event (device_in xs) ram (event_of kind byte) in
      let r : BusDone = bus_on xs ram kind byte in (device_in r.device ≡ o.device) × (r.ram ≡ o.ram) × (r.answer ≡ answer_of o.reply)
  pub start : (xs : List ℕ) (lines : ℕ) → length xs ≡ record_length
      → let o : StartOutcome = start_frame (device_in xs) lines in
      let r : Done = start_on xs lines in (device_in r.device ≡ o.device) × (r.answer ≡ answer_of o.reply)
  pub draw : (xs ram font line : List ℕ) → length xs ≡ record_length
      → let o : DrawOutcome = draw_line (device_in xs) ram font line in
      let r : DrawDone = draw_on xs ram font line in (device_in r.device ≡ o.device) × (r.line ≡ o.line) × (r.answer ≡ answer_of o.reply)
  pub cell : (xs ram : List ℕ) (c : ℕ) → length xs ≡ record_length → cell_on xs ram c ≡ answer_of (ask_cell (device_in xs) ram c)
  pub pixel : (xs ram font : List ℕ) (lines frame x y : ℕ) → length xs ≡ record_length
      → pixel_on xs ram font lines frame x y ≡ answer_of (ask_pixel (device_in xs).registers ram font lines frame x y)
  pub feed-fresh : (fs : List ℕ) → length fs ≡ feed_length → (feed_in (feed_fresh_on fs).feed ≡ fresh_feed) × ((feed_fresh_on fs).answer ≡ 0)
  pub feed : (xs fs ram chunk out : List ℕ) → length xs ≡ record_length → length fs ≡ feed_length → length chunk ≤ chunk_max
      → let o : FeedOutcome = feed_chunk (chip (device_in xs) ram) (feed_in fs) chunk out in
      let r : FeedDone = feed_on xs fs ram chunk out in
      (device_in r.device ≡ o.chip.device) × (feed_in r.feed ≡ o.feed) × (r.ram ≡ o.chip.ram) × (r.out ≡ o.out) × (r.answer ≡ answer_of o.reply)
  pub font-write : (font file : List ℕ)
      → let o : WriteOutcome = write_font font file in
      let r : WriteDone = font_write_on font file in (r.file ≡ o.file) × (r.answer ≡ answer_of o.reply)
  pub font-read : (file font : List ℕ)
      → let o : ReadOutcome = read_font file font in
      let r : ReadDone = font_read_on file font in (r.font ≡ o.font) × (r.answer ≡ answer_of o.reply)
  -- of the record's bytes a question about a pixel looks at the registers' alone
  pub pixel_alone : (xs ys ram font : List ℕ) (lines frame x y : ℕ) → length xs ≡ length ys
      → register_bytes xs ≡ register_bytes ys
      → pixel_on xs ram font lines frame x y ≡ pixel_on ys ram font lines frame x y
  -- refused with 255: nothing changes
  pub not_taken : (xs ram font line : List ℕ) (kind byte lines c frame x y : ℕ) → (length xs ≡ record_length → ⊥)
      → (fresh_on xs ≡ record { device = xs; answer = answer_not_taken })
      × (bus_on xs ram kind byte ≡ record { device = xs; ram = ram; answer = answer_not_taken })
      × (start_on xs lines ≡ record { device = xs; answer = answer_not_taken })
      × (draw_on xs ram font line ≡ record { device = xs; line = line; answer = answer_not_taken })
      × (cell_on xs ram c ≡ answer_not_taken)
      × (pixel_on xs ram font lines frame x y ≡ answer_not_taken)
  pub feed-not-taken : (xs fs ram chunk out : List ℕ) → (length xs ≡ record_length → length fs ≡ feed_length → length chunk ≤ chunk_max → ⊥)
      → feed_on xs fs ram chunk out ≡ not_fed_on xs fs ram out answer_not_taken
  pub feed-not-made : (fs : List ℕ) → (length fs ≡ feed_length → ⊥) → feed_fresh_on fs ≡ record { feed = fs; answer = answer_not_taken }
  pub no_kind : (xs ram : List ℕ) (kind byte : ℕ) → last_kind < kind → bus_on xs ram kind byte ≡ record { device = xs; ram = ram; answer = answer_not_taken }
  -- every buffer keeps its length, whatever it is
  pub length-fresh : (xs : List ℕ) → length (fresh_on xs).device ≡ length xs
  pub length-bus : (xs ram : List ℕ) (kind byte : ℕ)
      → (length (bus_on xs ram kind byte).device ≡ length xs) × (length (bus_on xs ram kind byte).ram ≡ length ram)
  pub length-start : (xs : List ℕ) (lines : ℕ) → length (start_on xs lines).device ≡ length xs
  pub length-draw : (xs ram font line : List ℕ)
      → (length (draw_on xs ram font line).device ≡ length xs) × (length (draw_on xs ram font line).line ≡ length line)
  pub length-feed-fresh : (fs : List ℕ) → length (feed_fresh_on fs).feed ≡ length fs
  pub length-feed : (xs fs ram chunk out : List ℕ)
      → (length (feed_on xs fs ram chunk out).device ≡ length xs) × (length (feed_on xs fs ram chunk out).feed ≡ length fs)
      × (length (feed_on xs fs ram chunk out).ram ≡ length ram) × (length (feed_on xs fs ram chunk out).out ≡ length out)
  pub length-font-write : (font file : List ℕ) → length (font_write_on font file).file ≡ length file
  pub length-font-read : (file font : List ℕ) → length (font_read_on file font).font ≡ length font
  -- OSD_REFUSAL and OSD_VALUE take an answer apart where its value fits 16 bits ..
  pub apart : (r : Reply) → r.value < value_bound → reply_in (answer_of r) ≡ r
  -- .. and each does: the byte on the bus, where the lent bytes are bytes
  pub value-bus : (xs ram : List ℕ) (kind byte : ℕ) → Bytes xs → Bytes ram → (hear_event (device_in xs) ram (event_of kind byte)).reply.value < 256
  pub value-start : (xs : List ℕ) (lines : ℕ) → (start_frame (device_in xs) lines).reply.value ≡ 0
  -- the cells that a line read
  pub value-draw : (xs ram font line : List ℕ) → (draw_line (device_in xs) ram font line).reply.value ≤ line_cells
  pub value_cell : (xs ram : List ℕ) (c : ℕ) → (ask_cell (device_in xs) ram c).value ≤ 1
  pub value-pixel : (xs ram font : List ℕ) (lines frame x y : ℕ) → (ask_pixel (device_in xs).registers ram font lines frame x y).value < 16
  -- the output bytes written
  pub value-feed : (xs fs ram chunk out : List ℕ) → length chunk ≤ chunk_max → (feed_chunk (chip (device_in xs) ram) (feed_in fs) chunk out).reply.value ≤ chunk_max
  pub value-font-write : (font file : List ℕ) → (write_font font file).reply.value ≡ 0
  -- a block's place
  pub value-font-read : (file font : List ℕ) → (read_font file font).reply.value < block_count
  -- a frame start, a draw or a bus call that the device's function refuses writes no byte of any buffer ..
  pub silent_start : (xs : List ℕ) (lines : ℕ) → ((start_frame (device_in xs) lines).reply.refusal ≡ 0 → ⊥) → (start_on xs lines).device ≡ xs
  pub silent_draw : (xs ram font line : List ℕ) → ((draw_line (device_in xs) ram font line).reply.refusal ≡ 0 → ⊥)
      → ((draw_on xs ram font line).device ≡ xs) × ((draw_on xs ram font line).line ≡ line)
  pub silent_bus : (xs ram : List ℕ) (kind byte : ℕ) → (kind ≡ 1 → (device_in xs).bus.state ≡ Slave → length ram ≡ ram_length → ⊥)
      → ((hear_event (device_in xs) ram (event_of kind byte)).reply.refusal ≡ 0 → ⊥)
      → ((bus_on xs ram kind byte).device ≡ xs) × ((bus_on xs ram kind byte).ram ≡ ram)
  -- .. except deaf after an unknown slave address: byte 0 is 1, and no other changes
  pub deaf : (xs ram : List ℕ) (byte : ℕ) → length xs ≡ record_length → length ram ≡ ram_length → (device_in xs).bus.state ≡ Slave → (byte ≡ 0xBA → ⊥) → (byte ≡ 0xBB → ⊥)
      → bus_on xs ram 1 byte ≡ record { device = put_state Deaf xs; ram = ram; answer = answer_of (refused (NotAcknowledged unheard.NotAddressed)) }
  -- by the refusal's number (document 02, K6): 5, 13 and 14 write no byte; 12 sets byte 0 to 1, and no other (in a deaf device it is 1 already:
  -- silent-bus). To which events each is answered: crate bus's specs/Unheard.antt
  pub unheard : (xs ram : List ℕ) (kind byte : ℕ) (why : Unheard) → length xs ≡ record_length → kind ≤ last_kind
      → (hear_event (device_in xs) ram (event_of kind byte)).reply.refusal ≡ number_of (NotAcknowledged why)
      → bus_on xs ram kind byte ≡ record { device = ignored_on (deafens why) xs; ram = ram; answer = answer_of (refused (NotAcknowledged why)) }
  -- a feed that its tests refuse, before any event, writes no byte of any buffer
  pub silent_feed : (xs fs ram chunk out : List ℕ) (r : Refusal) → length xs ≡ record_length → length fs ≡ feed_length → length chunk ≤ chunk_max
      → verdict_on fs ram chunk out ≡ failed r → feed_on xs fs ram chunk out ≡ not_fed_on xs fs ram out (answer_of (refused r))
  -- a font file that is refused, or a font that is not written, leaves every byte of the buffer
  pub silent_font-write : (font file : List ℕ) → ((write_font font file).reply.refusal ≡ 0 → ⊥) → (font_write_on font file).file ≡ file
  pub silent_font-read : (file font : List ℕ) → ((read_font file font).reply.refusal ≡ 0 → ⊥) → (font_read_on file font).font ≡ font

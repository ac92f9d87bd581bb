-- Document 02, K8: what a font file is for, as a claim about writing and reading.
-- Assumes nothing.
use Rattle.std.specs.Prelude.{ℕ, ◌+◌, ◌*◌, ◌/◌, ◌%◌, ◌≤◌, ◌<◌, ◌≡◌, false, List, [], ◌∷◌, ◌++◌, length, get_or, set, take, drop, replicate, Ok, Err}
use Rattle.buffers.specs.Buffers.{Bytes}
use Rattle.limits.specs.Limits.{font_length, font_file_length}
use Rattle.refusals.specs.declared.FileRefusal.{FileRefusal}
use Rattle.refusals.specs.declared.FileRefusal.TheVariants.{Length, Checks}
use Rattle.refusals.specs.Refusals.{accepted, file_refused}
use Rattle.font_file.specs.FontFile.{block_count, last_block, block_length, heading_length, payload_length, content_of, with_checks, block_test, lengths_fit, write_font, ReadOutcome, read_font}

-- the list with what stands at i and at j exchanged
abbrev pub exchanged : List ℕ → (i j : ℕ) → List ℕ
exchanged xs i j = set (set xs i (get_or xs j 0)) j (get_or xs i 0)

-- where payload byte i stands in a file; i counts from 0 through the blocks, 504 in each. Below 4,608 it is byte i of the font, then padding
abbrev pub payload_at : ℕ → ℕ
payload_at i = block_length * (i / payload_length) + (heading_length + i % payload_length)

-- the block at a place
abbrev pub block_at : (place : ℕ) (file : List ℕ) → List ℕ
block_at place file = take block_length (drop (block_length * place) file)

-- a read that is refused with 16 and this place; the font buffer is as it was
abbrev pub bad_checks : (place : ℕ) (buffer : List ℕ) → ReadOutcome
bad_checks place buffer = record { font = buffer; reply = file_refused (Checks place) }

-- a font, a buffer for its file and one to read it into, of the right lengths; what the buffers hold does not matter
pub record Fit (font file buffer : List ℕ) : Type 0 where
  pub font-length : length font ≡ font_length
  pub file-length : length file ≡ font_file_length
  pub buffer-length : length buffer ≡ font_length

-- what the writer leaves in the file buffer
abbrev pub written : (font file : List ℕ) → List ℕ
written font file = (write_font font file).file

-- the example of include/osd.h: block 3, where characters 42 to 55 are all 0
abbrev pub FileExample : Type 0
FileExample = with_checks (content_of 3 (replicate payload_length 0)) ≡ (0x03 ∷ 0x00 ∷ 0xF8 ∷ 0x01 ∷ replicate payload_length 0) ++ (0xFC ∷ 0x00 ∷ 0xEF ∷ 0x02 ∷ [])

-- the claim
pub record FontFiles : Type 0 where
  -- a font written and read is the same font
  pub same-font : (font file buffer : List ℕ) → Fit font file buffer
      → ((write_font font file).reply ≡ accepted 0) × (read_font (written font file) buffer ≡ record { font = font; reply = accepted 0 })
  -- an accepted file is what the writer gives for the font read from it, in any buffer
  pub same-file : (file buffer other : List ℕ) → Bytes file → (read_font file buffer).reply ≡ accepted 0 → length other ≡ font_file_length
      → write_font (read_font file buffer).font other ≡ record { file = file; reply = accepted 0 }
  -- any one byte changed to any other value, of a number, a used length, the font, the padding or a check, is refused with 16 and the place of
  -- its block
  pub one_changed : (font file buffer : List ℕ) (i byte : ℕ) → Fit font file buffer → Bytes font → i < font_file_length → byte < 256
      → (byte ≡ get_or (written font file) i 0 → ⊥) → read_font (set (written font file) i byte) buffer ≡ bad_checks (i / block_length) buffer
  -- two unequal neighbouring payload bytes exchanged, in a block, or the last of a block with the first of the next, are refused with 16 and the
  -- place of the first one's block
  pub two_exchanged : (font file buffer : List ℕ) (i : ℕ) → Fit font file buffer → Bytes font → i + 1 < block_count * payload_length
      → (get_or (written font file) (payload_at i) 0 ≡ get_or (written font file) (payload_at (i + 1)) 0 → ⊥)
      → read_font (exchanged (written font file) (payload_at i) (payload_at (i + 1))) buffer ≡ bad_checks (i / payload_length) buffer
  -- a wrong length, shorter or longer, of font or file is refused with 15 by both calls, which leave the buffer
  pub wrong_length : (font file : List ℕ) → lengths_fit font file ≡ false
      → (write_font font file ≡ record { file = file; reply = file_refused Length }) × (read_font file font ≡ record { font = font; reply = file_refused Length })
  -- the first bad block is named: what its tests find is the answer, whatever stands in later blocks
  pub first_bad : (file buffer : List ℕ) (p : ℕ) (r : FileRefusal) → length file ≡ font_file_length → length buffer ≡ font_length → p < block_count
      → ((q : ℕ) → q < p → block_test q (block_at q file) ≡ Ok tt) → block_test p (block_at p file) ≡ Err r
      → read_font file buffer ≡ record { font = buffer; reply = file_refused r }
  -- and a file whose blocks all pass is accepted
  pub all_good : (file buffer : List ℕ) → length file ≡ font_file_length → length buffer ≡ font_length
      → ((q : ℕ) → q < block_count → block_test q (block_at q file) ≡ Ok tt) → (read_font file buffer).reply ≡ accepted 0
  -- 16 and 17 come with the block's place, 0 to 9: no answer has a larger number beside it
  pub place_range : (file buffer : List ℕ) → (read_font file buffer).reply.value ≤ last_block

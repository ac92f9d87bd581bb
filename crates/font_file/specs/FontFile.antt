-- Document 02, K8: a font file, that is a font in blocks that can be checked. Writing and reading it.
--
-- Ten blocks of 512 bytes, one after the other. Numbers of two bytes have their low byte first.
--
--   0, 1      block number, 0 to 9
--   2, 3      used length: 504, in block 9 it is 72
--   4 - 507   504 bytes of font (14 characters); unused bytes are 0
--   508, 509  check: the sum of bytes 0 to 507, modulo 65,536
--   510, 511  check: the sum of each of them times its position counted from 1, modulo 65,536
-- Assumes nothing.
use Rattle.std.specs.Prelude.{ℕ, zero, suc, ◌+◌, ◌-◌, ◌*◌, ◌%◌, Bool, not, cond, ◌&&◌, List, [], ◌∷◌, ◌++◌, eqb, length, take, drop, replicate, Result, Ok, Err}
use Rattle.std.specs.List.{list_all}
use Rattle.limits.specs.Limits.{font_length, font_file_length}
use Rattle.buffers.specs.Buffers.{word, word_bytes}
use Rattle.refusals.specs.declared.FileRefusal.{FileRefusal}
use Rattle.refusals.specs.declared.FileRefusal.TheVariants.{Length, Checks, Format}
use Rattle.refusals.specs.Refusals.{Reply, accepted, file_refused, reply_of}
use Rattle.font_file.specs.declared.CheckSums.{CheckSums}

-- ---- lengths

abbrev pub block_count : ℕ
block_count = 10

abbrev pub block_length : ℕ
block_length = 512

-- bytes of a block that its checks are over: 0 to 507
abbrev pub checked_length : ℕ
checked_length = 508

-- bytes of a block before those of the font
abbrev pub heading_length : ℕ
heading_length = 4

-- bytes of a block between heading and checks: font, and then padding
abbrev pub payload_length : ℕ
payload_length = 504

-- the last block's number, 9
abbrev pub last_block : ℕ
last_block = block_count - 1

-- how many of a block's payload are font: 504, and in the last what the others leave, 72
abbrev pub used_length : ℕ → ℕ
used_length number = cond (eqb number last_block) (font_length - last_block * payload_length) payload_length

-- ---- the checks

unfoldable pub sum : List ℕ → ℕ
sum [] = 0
sum (b ∷ bytes) = b + sum bytes

-- each byte times its position; the first byte's is given
unfoldable pub weighted_sum : ℕ → List ℕ → ℕ
weighted_sum position [] = 0
weighted_sum position (b ∷ bytes) = position * b + weighted_sum (suc position) bytes

abbrev pub sum_check : List ℕ → ℕ
sum_check bytes = sum bytes % 65536

abbrev pub weighted_check : List ℕ → ℕ
weighted_check bytes = weighted_sum 1 bytes % 65536

-- both, as the code's record
abbrev pub checks_of : List ℕ → CheckSums
checks_of bytes = record { sum = sum_check bytes; weighted = weighted_check bytes }

-- ---- writing

-- bytes 0 to 507 of a block: number, used length, its bytes of font, and 0 in the unused bytes
unfoldable pub content_of : (number : ℕ) (bytes : List ℕ) → List ℕ
content_of number bytes = word_bytes number ++ (word_bytes (used_length number) ++ (bytes ++ replicate (payload_length - length bytes) 0))

-- a whole block: its bytes 0 to 507, and the checks over them
unfoldable pub with_checks : (content : List ℕ) → List ℕ
with_checks content = content ++ (word_bytes (sum_check content) ++ word_bytes (weighted_check content))

-- so many blocks, numbered from `number` on, with what is left of the font
unfoldable pub blocks_of : (count number : ℕ) (rest : List ℕ) → List ℕ
blocks_of zero number rest = []
blocks_of (suc count) number rest =
    with_checks (content_of number (take payload_length rest)) ++ blocks_of count (suc number) (drop payload_length rest)

-- the file of a font
abbrev pub file_of : (font : List ℕ) → List ℕ
file_of font = blocks_of block_count 0 font

-- ---- reading

-- the checks that stand in a block are those over its bytes 0 to 507
unfoldable pub checks_right : (block : List ℕ) → Bool
checks_right block =
    let content : List ℕ = take checked_length block in
    eqb (word block checked_length) (sum_check content) && eqb (word block (checked_length + 2)) (weighted_check content)

-- every byte is 0
unfoldable pub all_zero : List ℕ → Bool
all_zero bytes = list_all (λ b. eqb b 0) bytes

-- the unused bytes of the block at this place
abbrev pub unused_in : (place : ℕ) (block : List ℕ) → List ℕ
unused_in place block = drop (heading_length + used_length place) (take checked_length block)

-- number, used length and padding are those of the block at this place
unfoldable pub format_right : (place : ℕ) (block : List ℕ) → Bool
format_right place block = eqb (word block 0) place && (eqb (word block 2) (used_length place) && all_zero (unused_in place block))

-- each block is tested for 16 and then 17, which come with its place
unfoldable pub block_test : (place : ℕ) (block : List ℕ) → Result (Unit {0}) FileRefusal
block_test place block =
    cond (not (checks_right block)) (Err (Checks place))
    (cond (not (format_right place block)) (Err (Format place))
    (Ok tt))

-- what a test finds; where it finds no fault, the later tests decide
unfoldable pub or_later : Result (Unit {0}) FileRefusal → Result (Unit {0}) FileRefusal → Result (Unit {0}) FileRefusal
or_later (Ok _) later = later
or_later (Err r) later = Err r

-- so many blocks in turn, from this place on
unfoldable pub blocks_test : (count place : ℕ) (file : List ℕ) → Result (Unit {0}) FileRefusal
blocks_test zero place file = Ok tt
blocks_test (suc count) place file = or_later (block_test place (take block_length file)) (blocks_test count (suc place) (drop block_length file))

-- the bytes of font in so many blocks, from this place on
unfoldable pub font_from : (count place : ℕ) (file : List ℕ) → List ℕ
font_from zero place file = []
font_from (suc count) place file =
    take (used_length place) (drop heading_length file) ++ font_from count (suc place) (drop block_length file)

-- the font in a file
abbrev pub font_in : (file : List ℕ) → List ℕ
font_in file = font_from block_count 0 file

-- ---- the calls: 15 comes first, and a refusal touches no buffer

-- the font has 4,608 bytes, and the file 5,120
abbrev pub lengths_fit : (font file : List ℕ) → Bool
lengths_fit font file = eqb (length font) font_length && eqb (length file) font_file_length

-- an answer as document 02 has it
abbrev pub file_reply : Result (Unit {0}) FileRefusal → Reply
file_reply = reply_of (λ _. 0) file_refused

abbrev pub length_test : (font file : List ℕ) → Result (Unit {0}) FileRefusal → Result (Unit {0}) FileRefusal
length_test font file later = cond (not (lengths_fit font file)) (Err Length) later

-- the file buffer after a call that writes, and the answer
pub record WriteOutcome : Type 0 where
  pub file : List ℕ
  pub reply : Reply

-- by what the tests find
unfoldable pub written_by : Result (Unit {0}) FileRefusal → (font file : List ℕ) → WriteOutcome
written_by (Ok _) font file = record { file = file_of font; reply = accepted 0 }
written_by (Err r) font file = record { file = file; reply = file_refused r }

-- a font, and the file buffer at entry
unfoldable pub write_font : (font file : List ℕ) → WriteOutcome
write_font font file = written_by (length_test font file (Ok tt)) font file

-- the font buffer after a call that reads, and the answer
pub record ReadOutcome : Type 0 where
  pub font : List ℕ
  pub reply : Reply

-- by what the tests find
unfoldable pub read_by : Result (Unit {0}) FileRefusal → (file font : List ℕ) → ReadOutcome
read_by (Ok _) file font = record { font = font_in file; reply = accepted 0 }
read_by (Err r) file font = record { font = font; reply = file_refused r }

-- a file, and the font buffer at entry
unfoldable pub read_font : (file font : List ℕ) → ReadOutcome
read_font file font = read_by (length_test font file (blocks_test block_count 0 file)) file font

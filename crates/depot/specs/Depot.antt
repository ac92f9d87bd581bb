-- What a depot's programs say of their input, in one line: good, or which block and what is wrong, with the refusal's number.
-- Assumes nothing.
use Rattle.std.specs.Prelude.{◌≡◌, ℕ, ◌+◌, ◌%◌, List, ◌∷◌, ◌++◌, ◌==◌, Result, Ok, Err}
use Rattle.std.specs.Bool.{MatchBool}
use Rattle.std.specs.declared.option.Option.{Option}
use Rattle.std.specs.Io.KnownBytes.{Appends}
use Rattle.buffers.specs.Buffers.{bytes_of}
use Rattle.refusals.specs.declared.FileRefusal.{FileRefusal}
use Rattle.refusals.specs.Refusals.{Reply}
use Rattle.refusals.specs.declared.FileRefusal.TheVariants.{Length, Checks, Format}
use Rattle.font_file.specs.FontFile.{file_reply, ReadOutcome, WriteOutcome}

-- a line that names a block by its place, one digit
abbrev pub placed : (before after : List ℕ) (place : ℕ) → List ℕ
placed before after place = before ++ (48 + place % 10) ∷ after

unfoldable pub line_of : Result (Unit {0}) FileRefusal → List ℕ
line_of (Ok _) = bytes_of "good\n"
line_of (Err Length) = bytes_of "refused 15: not 5120 bytes\n"
line_of (Err (Checks place)) = placed (bytes_of "refused 16: block ") (bytes_of ": checks wrong\n") place
line_of (Err (Format place)) = placed (bytes_of "refused 17: block ") (bytes_of ": other number, length or padding\n") place

-- what font_pack says of an input that is no font
unfoldable pub not_font : List ℕ
not_font = bytes_of "refused 15: not 4608 bytes\n"

-- ---- what the programs append to the known bytes of a writer

-- font_check: the line of the answer that has this reply
abbrev pub TellsReply : (old new : Option (List ℕ)) → Reply → Type 0
TellsReply old new r = (a : Result (Unit {0}) FileRefusal) × (file_reply a ≡ r) × Appends old new (line_of a)

-- font_unpack: the font that was read, or font_check's line
abbrev pub Unpacks : (old new : Option (List ℕ)) → ReadOutcome → Type 0
Unpacks old new o = MatchBool (o.reply.refusal == 0) (Appends old new o.font) (TellsReply old new o.reply)

-- font_pack: the file that was written, or that the input is no font
abbrev pub Packs : (old new : Option (List ℕ)) → WriteOutcome → Type 0
Packs old new o = MatchBool (o.reply.refusal == 0) (Appends old new o.file) (Appends old new not_font)

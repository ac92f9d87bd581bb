-- Document 01, "Refusal numbers", and the numbers that document 02's requests add: the table, and what stands in a refusal's other
-- number.
-- Assumes nothing.
use Rattle.std.specs.Prelude.{ℕ, Bool, cond, Result, Ok, Err}
use Rattle.refusals.specs.declared.Unheard.TheVariants.{Idle, NotAddressed, Reading, Writing}
use Rattle.refusals.specs.declared.FileRefusal.{FileRefusal}
use Rattle.refusals.specs.declared.FileRefusal.TheVariants.{Length, Checks, Format}
use Rattle.refusals.specs.declared.Refusal.{Refusal}
use Rattle.refusals.specs.declared.Refusal.TheVariants.{RamLength, FontLength, LineLength, NoLine, NotAcknowledged, FrameLines, BenchLength, CellRange, FeedShut, OutputRoom, PixelRange}

-- the column "No."
abbrev pub number_of : Refusal → ℕ
number_of RamLength = 1
number_of FontLength = 2
number_of LineLength = 3
number_of NoLine = 4
number_of (NotAcknowledged Idle) = 5
number_of FrameLines = 6
number_of BenchLength = 7
number_of CellRange = 8
number_of FeedShut = 9
number_of OutputRoom = 10
number_of PixelRange = 11
number_of (NotAcknowledged NotAddressed) = 12
number_of (NotAcknowledged Reading) = 13
number_of (NotAcknowledged Writing) = 14

-- an answer as document 01 has it: the refusal's number, 0 where the call is accepted, and the answer's own number
pub record Reply : Type 0 where
  pub refusal : ℕ
  pub value : ℕ

-- no refusal, and the answer's own number
abbrev pub accepted : ℕ → Reply
accepted v = record { refusal = 0; value = v }

-- the number beside a refusal, unless the call gives one of its own (9 for a bad kind does): 0, or 255 for the byte of an event that is
-- not acknowledged
abbrev pub value_in : Refusal → ℕ
value_in RamLength = 0
value_in FontLength = 0
value_in LineLength = 0
value_in NoLine = 0
value_in (NotAcknowledged why) = 255
value_in FrameLines = 0
value_in BenchLength = 0
value_in CellRange = 0
value_in FeedShut = 0
value_in OutputRoom = 0
value_in PixelRange = 0

-- a refusal with a number beside it
abbrev pub refused_with : Refusal → ℕ → Reply
refused_with r v = record { refusal = number_of r; value = v }

-- a refusal with its own
abbrev pub refused : Refusal → Reply
refused r = refused_with r (value_in r)

-- the refusals of font files (document 02, K8); 16 and 17 come with the block's place in the file
abbrev pub file_number_of : FileRefusal → ℕ
file_number_of Length = 15
file_number_of (Checks place) = 16
file_number_of (Format place) = 17

abbrev pub place_in : FileRefusal → ℕ
place_in Length = 0
place_in (Checks place) = place
place_in (Format place) = place

abbrev pub file_refused : FileRefusal → Reply
file_refused r = record { refusal = file_number_of r; value = place_in r }

-- an answer in numbers: its own where the call is accepted, else those of the refusal
abbrev pub reply_of : {T E : Type 0} → (T → ℕ) → (E → Reply) → Result T E → Reply
reply_of own numbers (Ok x) = accepted (own x)
reply_of own numbers (Err r) = numbers r

-- ---- the order of refusals

-- what a call's tests, made in their order, find
pub data Verdict : Type 0 where
  passed : Verdict
  failed : Refusal → Verdict

-- the call is refused where a test finds its fault; else the later tests decide
abbrev pub refuse_if : Bool → Refusal → Verdict → Verdict
refuse_if fault r later = cond fault (failed r) later

-- What is written of a number, and what an error leaves of a stream.
-- Assumes nothing.
use Rattle.std.specs.Prelude.{ℕ, ◌-◌, ◌≤◌, List, ◌++◌, false, length, replicate, take}
use Rattle.std.specs.Fmt.{digits}
use Rattle.std.specs.Io.KnownBytes.{Appends, Consumes}
use Rattle.std.specs.declared.option.Option.{Option}

-- hexadecimal digits in lower case, with zeros in front up to eight digits
abbrev pub hexadecimal : ℕ → List ℕ
hexadecimal n = replicate (8 - length (digits 16 false n)) 48 ++ digits 16 false n

-- an error came after the first of the bytes were written, none or some: known bytes grew by these
abbrev pub AppendsPart : Option (List ℕ) → Option (List ℕ) → List ℕ → Type 0
AppendsPart old new bytes = (n : ℕ) × Appends old new (take n bytes)

-- an error came after some bytes were read, or none: these stand at the start of the buffer
abbrev pub ConsumesPart : Option (List ℕ) → Option (List ℕ) → List ℕ → Type 0
ConsumesPart old new buffer = (n : ℕ) × (n ≤ length buffer) × Consumes old new (take n buffer)

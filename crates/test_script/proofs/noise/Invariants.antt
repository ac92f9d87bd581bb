-- What is written before a byte and the noise that is left are all the noise.
use Rattle.std.proofs.Common.{◌≡◌, ◌-◌, ◌++◌, length, take}
use Rattle.test_script.specs.Script.{noise_of}
use Rattle.test_script.proofs.noise.Given as goal

abbrev pub invariant-loop-byte : goal.invariant-loop-byte
invariant-loop-byte l =
    take l.byte-index l.bytes ++ noise_of (length l.initial.bytes - l.byte-index) l.now l.by l.unit ≡ noise_of (length l.initial.bytes) l.seed l.by l.unit

-- `Registers::load`: the registers before i are loaded.
use Rattle.std.proofs.Common.{ℕ, ◌≡◌, ◌<◌, length, get_or}
use lib.Bits.{bit_and}
use Rattle.registers.specs.Registers.{kept}
use Rattle.registers.proofs.Registers.load.Given as goal

abbrev pub invariant-loop-i : goal.invariant-loop-i
invariant-loop-i l = (length l.next ≡ 16) × ((k : ℕ) → k < l.i → get_or l.next k 0 ≡ bit_and (get_or l.bytes k 0) (get_or kept k 0))

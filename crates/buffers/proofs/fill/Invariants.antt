-- `fill`: the bytes before x are filled.
use Rattle.std.proofs.Common.{ℕ, ◌≡◌, ◌<◌, length, get_or}
use Rattle.buffers.proofs.fill.Given as goal

abbrev pub invariant-loop-x : goal.invariant-loop-x
invariant-loop-x l = (length l.out ≡ length l.initial.out) × ((k : ℕ) → k < l.x-index → get_or l.out k 0 ≡ l.byte)

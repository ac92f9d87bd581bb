-- `copy_cut`: the columns before i are written, where there is room for them.
use Rattle.std.proofs.Common.{ℕ, ◌≡◌, ◌<◌, length, get_or}
use Rattle.paint.proofs.copy_cut.Given as goal

abbrev pub invariant-loop-i : goal.invariant-loop-i
invariant-loop-i l =
    (length l.out ≡ length l.initial.out) × ((k : ℕ) → k < l.i → k < length l.out → get_or l.out k 0 ≡ get_or l.whole k 0)

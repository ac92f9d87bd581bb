-- `all_zero`: the sum so far.
use Rattle.std.proofs.Common.{◌≡◌, ◌*◌, ◌≤◌, take, sum}
use Rattle.font_file.proofs.all_zero.Given as goal

abbrev pub invariant-loop-byte : goal.invariant-loop-byte
invariant-loop-byte l = record { total : l.sum ≡ sum (take l.byte-index l.bytes); bound : l.sum ≤ 255 * l.byte-index }

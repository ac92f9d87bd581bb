-- The digest of what is left, begun with what is mixed so far, is the digest of all.
use Rattle.std.proofs.Common.{◌≡◌, drop}
use Rattle.test_script.specs.Script.{mixed}
use Rattle.test_script.proofs.mix_all.Given as goal

abbrev pub invariant-loop-byte : goal.invariant-loop-byte
invariant-loop-byte l = mixed l.now (drop l.byte-index l.bytes) l.by ≡ mixed l.sum l.bytes l.by

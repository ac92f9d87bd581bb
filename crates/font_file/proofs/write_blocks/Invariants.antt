-- `write_blocks`: with the blocks that are left, the buffer is the file.
use Prim.Native.Nat.{◌-◌, ◌*◌, ◌≤◌}
use mathlib.Core.Path.{◌≡◌}
use lib.ListN.{drop}
use lib.Seq.{sets}
use Rattle.std.specs.Slice.Iter.{chunks_rest, chunks_size}
use Rattle.font_file.specs.FontFile.{block_count, block_length, payload_length, blocks_of, file_of}
use Rattle.font_file.proofs.write_blocks.Given as goal

abbrev pub invariant-loop-number : goal.invariant-loop-number
invariant-loop-number l = record {
  last : l.number-iterator.a.end ≡ block_count;
  within : l.number-iterator.a.start ≤ block_count;
  size : chunks_size l.number-iterator.b ≡ payload_length;
  left : chunks_rest l.number-iterator.b ≡ drop (payload_length * l.number-iterator.a.start) l.font;
  made : sets l.file (block_length * l.number-iterator.a.start) (blocks_of (block_count - l.number-iterator.a.start) l.number-iterator.a.start (drop (payload_length * l.number-iterator.a.start) l.font)) ≡ file_of l.font;
}

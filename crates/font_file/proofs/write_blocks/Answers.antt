-- `write_blocks`: with the blocks that are left, the buffer is the file.
use Prim.Native.Nat.{ℕ, ◌+◌, ◌*◌}
use mathlib.Core.Path.{◌≡◌, refl, sym, ap, ◌∙◌}
use mathlib.Core.List.{List}
use mathlib.Core.Logic.{inl, inr}
use native.Mathlib.Omega.{arith}
use borrow.Author.Rules.{rules}
use lib.ListN.{length, take, drop, length-drop}
use Rattle.std.specs.Slice.Iter.{chunks_rest, chunks_size}
use Rattle.limits.specs.Limits.{font_file_length}
use Rattle.facts.proofs.Parts.{put-part, sets-all}
use Rattle.font_file.specs.FontFile.{block_count, block_length, payload_length, blocks_of, file_of}
use Rattle.font_file.proofs.Blocks.{block_of, block_length_lem}
use Rattle.font_file.proofs.Files.{blocks_read}
use Rattle.font_file.proofs.Turns.{put_turn, part_turn}
use Rattle.font_file.proofs.write_blocks.Goals as goal

pub loop-number-init : goal.loop-number-init
loop-number-init c =
    let it = c.into_iter-number-iterator.result in
    let font = c.args.font.now in
    let start : it.a.start ≡ 0 = search rules in
    let size : chunks_size it.b ≡ payload_length = search rules in
    let rest : chunks_rest it.b ≡ font = search rules in
    let long : length (file_of font) ≡ font_file_length = (blocks_read block_count 0 font refl c.told-font).0 in
    record { last = search rules; within = search rules; size = size; left = rw start rest; made = rw start (sets-all c.args.file.now _ (long ∙ sym c.requires)) }

pub loop-number-preserved : goal.loop-number-preserved
unfolding blocks_of
loop-number-preserved c =
    let it = c.loop-number.number-iterator in
    let i = c.loop-number.invariant in
    let font = c.args.font.now in
    let ((end, (some, number, start)), (size, (rest, long, more))) = c.in-Some.ensures.steps in
    let k : ℕ = it.a.start in
    let at : c.from-at.result ≡ k = c.from-at.ensures ∙ number in
    let turn = part_turn k c.next.new.self.a.start (chunks_size it.b) font (chunks_rest it.b) c.in-Some.part.now (chunks_rest c.next.new.self.b) c.told-font (omega arith) start i.left i.size rest long in
    let block : List ℕ = block_of k (take payload_length (drop (payload_length * k) font)) in
    let written : c.write_block.new.block ≡ block = c.write_block.ensures ∙ rw (number, turn.0) in
    let whole : length block ≡ block_length = block_length_lem k _ (ap length (sym turn.0) ∙ turn.2) in
    let place : ℕ = block_length * k in
    let put = put-part c.loop-number.file block _ place (place + block_length) written (omega arith) (omega arith) in
    record {
      last = end ∙ i.last;
      within = omega arith;
      size = size ∙ i.size;
      left = turn.1;
      made =
          rw (start, at, put)
          (put_turn payload_length block_length (λ k xs. block_of k (take payload_length xs)) blocks_of (λ count k xs. refl) k font
          c.loop-number.file block _ (omega arith) refl (omega arith) i.made);
    }

pub returns : goal.returns
unfolding blocks_of
returns c =
    let it = c.loop-number.number-iterator in
    let i = c.loop-number.invariant in
    let none : it.a.start ≡ block_count = elim c.in-None.ensures.steps [ inl w ↦ omega (arith, w.1) | inr w ↦ omega (arith, i.within, sym (length-drop (payload_length * it.a.start) c.args.font.now) ∙ ap length (sym i.left) ∙ w.1.1.0) ] in
    rw none at i.made

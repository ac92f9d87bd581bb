-- `test_blocks`: what the tests of the blocks that are left find is the answer.
use Prim.Native.Nat.{ℕ, ◌<◌}
use mathlib.Core.Path.{◌≡◌, sym, ap, ◌∙◌}
use mathlib.Core.List.{List}
use native.Mathlib.Omega.{arith}
use borrow.Author.Rules.{rules}
use lib.ListN.{get_or}
use Rattle.std.specs.Simd.{first_chunks}
use Rattle.std.proofs.lemmas.Result.{err_from_is_err_and}
use Rattle.font_file.specs.FontFile.{block_count, block_length, or_later, blocks_test}
use Rattle.font_file.specs.Checked.{block_at}
use Rattle.font_file.proofs.Turns.{test_turn, chunk_at}
use Rattle.font_file.proofs.test_blocks.Goals as goal

-- the chunk that is tested is the block at its place
tested : (chunks : List (List ℕ)) (file d : List ℕ) (k : ℕ) → k < block_count → chunks ≡ first_chunks block_length block_count file → get_or chunks k d ≡ block_at k file
tested chunks file d k h e = ap (λ (cs : List (List ℕ)). get_or cs k d) e ∙ chunk_at block_length block_count k file d h

pub loop-place-preserved : goal.loop-place-preserved
unfolding or_later
loop-place-preserved c =
    let l = c.loop-place in
    let file = c.args.file.now in
    let chunks : c.as_chunks.result.0.now ≡ first_chunks block_length block_count file = search rules in
    let good = rw (tested c.as_chunks.result.0.now file _ l.place (omega arith) chunks) at c.in_ok-test_block.ensures in
    sym (rw (← good) at (test_turn l.place file (omega arith))) ∙ l.invariant

pub returns-in_err-test_block : goal.returns-in_err-test_block
unfolding or_later
returns-in_err-test_block c =
    let l = c.loop-place in
    let file = c.args.file.now in
    let chunks : c.as_chunks.result.0.now ≡ first_chunks block_length block_count file = search rules in
    let bad = rw (tested c.as_chunks.result.0.now file _ l.place (omega arith) chunks) at c.in_err-test_block.ensures in
    let p = err_from_is_err_and c.from_residual.result c.from_residual.ensures.1 in
    rw (p.1, p.2) (sym (rw (← bad) at (test_turn l.place file (omega arith))) ∙ l.invariant)

pub returns : goal.returns
unfolding blocks_test
returns c =
    let none : c.loop-place.place ≡ block_count = omega (arith, c.as_chunks.ensures.front_len) in
    rw none at c.loop-place.invariant

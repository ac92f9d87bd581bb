-- `write_block`: the content, then the checks over it.
use Prim.Native.Nat.{ℕ, ◌+◌}
use mathlib.Core.Path.{◌≡◌, ap, ◌∙◌}
use mathlib.Core.List.{List, ◌++◌}
use native.Mathlib.Omega.{arith}
use borrow.Author.Rules.{rules}
use lib.ListN.{length, get_or, take}
use lib.Seq.{sets, take_all}
use Rattle.std.specs.Simd.{first_chunks}
use Rattle.buffers.specs.Buffers.{word_bytes}
use Rattle.facts.proofs.Parts.{part-put, sets_end, sets-append}
use Rattle.font_file.specs.declared.CheckSums.{CheckSums}
use Rattle.font_file.specs.FontFile.{block_length, checked_length, sum_check, weighted_check, content_of, with_checks}
use Rattle.font_file.proofs.Blocks.{two_bytes, content_length}
use Rattle.font_file.proofs.Turns.{chunk_at}
use Rattle.font_file.proofs.write_block.Goals as goal

-- the checks one behind the other, up to the end
checks-put : (block : List ℕ) (sum weighted : ℕ) → length block ≡ block_length
    → sets (sets block checked_length (word_bytes sum)) (checked_length + 2) (word_bytes weighted) ≡ take checked_length block ++ (word_bytes sum ++ word_bytes weighted)
checks-put block sum weighted l =
    sets-append block (word_bytes sum) (word_bytes weighted) checked_length ∙ sets_end block (word_bytes sum ++ word_bytes weighted) checked_length (omega arith)

pub returns : goal.returns
unfolding with_checks
returns c =
    let block = c.put_content.new.block in
    let sums = c.checks_of-checks.result in
    let chunks : c.as_chunks.result.0.now ≡ first_chunks block_length 1 block = search rules in
    let whole : (d : List ℕ) → get_or c.as_chunks.result.0.now 0 d ≡ block =
    λ d. ap (λ (cs : List (List ℕ)). get_or cs 0 d) chunks ∙ chunk_at block_length 1 0 block d (omega arith) ∙ take_all block_length block (omega arith) in
    let content : take checked_length block ≡ content_of c.args.number c.args.font.now =
    ap (take checked_length) c.put_content.ensures ∙ part-put c.args.block.now _ 0 checked_length 0 checked_length (content_length _ _ c.requires.1) (omega arith) tt in
    let sum : sums.sum ≡ sum_check (content_of c.args.number c.args.font.now) =
    ap (λ (r : CheckSums). r.sum) c.checks_of-checks.ensures ∙ ap (λ (xs : List ℕ). sum_check (take checked_length xs)) (whole _) ∙ ap sum_check content in
    let weighted : sums.weighted ≡ weighted_check (content_of c.args.number c.args.font.now) =
    ap (λ (r : CheckSums). r.weighted) c.checks_of-checks.ensures ∙ ap (λ (xs : List ℕ). weighted_check (take checked_length xs)) (whole _) ∙ ap weighted_check content in
    let first : c.to_le_bytes.result ≡ word_bytes sums.sum = c.to_le_bytes.ensures ∙ two_bytes sums.sum (omega arith) in
    let second : c.to_le_bytes-2.result ≡ word_bytes sums.weighted = c.to_le_bytes-2.ensures ∙ two_bytes sums.weighted (omega arith) in
    rw (c.put-2.ensures, c.put.ensures, first, second) (checks-put block sums.sum sums.weighted (omega arith) ∙ rw (content, sum, weighted))

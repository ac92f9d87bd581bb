-- `put_content`: heading, font and zeros, one behind the other.
use Prim.Native.Nat.{ℕ, ◌+◌, ◌-◌, ◌/◌, ◌%◌, ◌<◌}
use mathlib.Core.Path.{◌≡◌, ap, ◌∙◌}
use mathlib.Core.List.{List, [], ◌∷◌, ◌++◌}
use native.Mathlib.Omega.{arith}
use lib.ListN.{length, take, drop, replicate, length-take, length-drop, length-replicate}
use lib.Seq.{sets}
use Rattle.facts.proofs.Parts.{put-part, sets-append}
use Rattle.font_file.specs.FontFile.{block_length, checked_length, heading_length, payload_length, used_length, content_of}
use Rattle.font_file.proofs.Blocks.{used_most}
use Rattle.font_file.proofs.put_content.Goals as goal

-- number and used length, as the code has them
abbrev heading : ℕ → List ℕ → List ℕ
heading number font = number ∷ 0 ∷ length font % 256 ∷ length font / 256 ∷ []

-- one behind the other, they are the content
content-put : (block font : List ℕ) (number : ℕ) → number < 256 → length font ≡ used_length number
    → sets (sets (sets block 0 (heading number font)) heading_length font) (heading_length + length font) (replicate (checked_length - (heading_length + length font)) 0)
    ≡ sets block 0 (content_of number font)
unfolding content_of
content-put block font number f l =
    let used : ℕ = length font in
    let zeros : checked_length - (heading_length + used) ≡ payload_length - used = omega arith in
    let low : number % 256 ≡ number = omega arith in
    let high : number / 256 ≡ 0 = omega arith in
    rw (zeros, low, high, ← l)
    (sets-append (sets block 0 (heading number font)) font (replicate (payload_length - used) 0) heading_length
    ∙ sets-append block (heading number font) (font ++ replicate (payload_length - used) 0) 0)

pub returns : goal.returns
returns c =
    let block = c.args.block.now in
    let font = c.args.font.now in
    let filled = c.put-2.new.out in
    let at : ℕ = heading_length + length font in
    let k : ℕ = checked_length - at in
    let most = used_most c.args.number in
    let high : length font / 256 % 256 ≡ length font / 256 = omega arith in
    let puts : filled ≡ sets (sets block 0 (heading c.args.number font)) heading_length font = rw (c.put-2.ensures, c.put.ensures, c.to_le_bytes.ensures, high) in
    let long : length filled ≡ block_length = omega arith in
    let zeros : length (take k (drop at filled)) ≡ k = simp (length-take, length-drop) (omega arith) in
    put-part filled (replicate k 0) _ at checked_length (rw zeros at c.fill.ensures)
    (omega (arith, length-replicate {A = ℕ} k 0)) (omega arith)
    ∙ ap (λ (xs : List ℕ). sets xs at (replicate k 0)) puts
    ∙ content-put block font c.args.number c.ranges.number.fits c.requires.1

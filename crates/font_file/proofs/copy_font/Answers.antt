-- `copy_font`: with the bytes that are left, the buffer is the font in the file.
use Prim.Native.Nat.{ℕ, ◌+◌, ◌-◌, ◌*◌}
use mathlib.Core.Path.{◌≡◌, refl, sym, ◌∙◌}
use mathlib.Core.List.{List}
use native.Mathlib.Nat.{add-sub_cancel_left}
use native.Mathlib.Omega.{arith}
use lib.ListN.{length, take, drop, length-take, length-drop}
use lib.Seq.{drop-drop}
use Rattle.facts.proofs.Parts.{sets-all}
use Rattle.font_file.specs.FontFile.{block_count, block_length, heading_length, payload_length, used_length, font_from}
use Rattle.font_file.proofs.Files.{used_left, font-long}
use Rattle.font_file.proofs.Turns.{put_turn}
use Rattle.font_file.proofs.copy_font.Goals as goal

pub loop-place-init : goal.loop-place-init
loop-place-init c = sets-all c.args.font.now _ (font-long block_count 0 c.args.file.now refl c.told-file ∙ sym c.requires)

pub loop-place-preserved : goal.loop-place-preserved
unfolding font_from
loop-place-preserved c =
    let u = c.used_length-used in
    let l = c.loop-place in
    let file = c.args.file.now in
    let from : ℕ = block_length * l.place + heading_length in
    let part : List ℕ = take (from + u.result - from) (drop from file) in
    let same : part ≡ take (used_length l.place) (drop heading_length (drop (block_length * l.place) file)) =
    rw (add-sub_cancel_left from u.result, u.ensures.value, drop-drop heading_length (block_length * l.place) file) in
    let used : length part ≡ used_length l.place = simp (length-take, length-drop) (omega arith) in
    let next = l.place + 1 in
    let left = font-long (block_count - next) next (drop (block_length * next) file) (omega arith) (simp length-drop (omega arith)) in
    rw (rw (c.from.ensures, c.from-in-loop-place.ensures) at c.put.ensures)
    (put_turn block_length payload_length (λ k xs. take (used_length k) (drop heading_length xs)) font_from (λ count k xs. refl) l.place
    file l.font part _ (omega arith) same (omega (arith, used_left l.place (omega arith))) l.invariant)

pub returns : goal.returns
unfolding font_from
returns c =
    let l = c.loop-place in
    let none : block_count - l.place ≡ 0 = omega arith in
    rw none at l.invariant

-- `slice_bytes`: the part lies within the RAM or the font, and is the one that SET picks.
use Prim.Native.Nat.{ℕ, ◌+◌, ◌-◌, ◌%◌}
use mathlib.Core.Path.{◌≡◌, ap, ◌∙◌}
use native.Mathlib.Nat.{add-sub_cancel_left}
use native.Mathlib.Omega.{arith}
use borrow.Author.Tests.{eq-eqb, ne_eqb}
use mathlib.Core.List.{List}
use lib.ListN.{length, take, drop}
use Rattle.glyph.specs.Glyph.{font_byte, user_cell, slice_part}
use Rattle.glyph.proofs.Laws.{part_length}
use Rattle.glyph.proofs.slice_bytes.Goals as goal

two : (a : ℕ) (l : List ℕ) → take (a + 2 - a) (drop a l) ≡ take 2 (drop a l)
two a l = ap (λ (k : ℕ). take k (drop a l)) (add-sub_cancel_left a 2)

pub returns-then-high-eq0 : goal.returns-then-high-eq0
unfolding slice_part
returns-then-high-eq0 c =
    let a = c.args in
    let at : ℕ = font_byte (a.high % 128) a.slice.0 in
    let e = two at a.font.now in
    record { part = rw (eq-eqb _ _ c.if-high-eq0.true) e; two = ap length e ∙ part_length a.font.now at (omega (arith, c.told-font, c.requires.on_screen.to, c.requires.on_screen.from)) }

pub returns : goal.returns
unfolding slice_part
returns c =
    let a = c.args in
    let p = c.requires in
    let at : ℕ = user_cell (a.high % 128) a.slice.0 in
    let e = two at a.ram.now in
    record { part = rw (ne_eqb _ _ c.if-high-eq0.false) e; two = ap length e ∙ part_length a.ram.now at (omega (arith, c.told-ram, p.has_slices (ne_eqb _ _ c.if-high-eq0.false), p.on_screen.to)) }

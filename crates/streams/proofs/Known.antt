-- What reads took, and writes gave, one after the other.
use Rattle.std.proofs.Common.{◌≡◌, ℕ, ◌+◌, ◌-◌, ◌≤◌, List, ◌++◌, length, take, drop, sym, ap, ap₂, subst, ◌∙◌, drop_at, arith, length-drop, length-take-le}
use lib.Seq.{take-add, take-append-le, take_all}
use borrow.Rule.Slice.PartMut.{put_mid}
use Rattle.std.specs.declared.option.Option.{Option}
use Rattle.std.specs.Io.KnownBytes.{Appends, Consumes}
use Rattle.std.proofs.KnownBytes.{Appends-trans, Consumes-trans}
use Rattle.std.proofs.lemmas.Slice.{take-put_mid_below}

-- what was read into the part behind the front makes the front longer
pub Consumes-behind : (a b c : Option (List ℕ)) (old part : List ℕ) (at k n : ℕ) → at ≤ length old → n ≤ length part → Consumes a b (take at old)
    → Consumes b c (take n part) → Consumes a c (take (at + n) (put_mid at k old part))
Consumes-behind a b c old part at k n within fits before read =
    subst (Consumes a c) (sym (take-add at n (put_mid at k old part) ∙ ap₂ (λ (l m : List ℕ). l ++ m) (take-put_mid_below at k old part at (omega arith) within)
    (ap (take n) (drop_at (take at old) _ at (length-take-le at old within)) ∙ take-append-le n part _ fits)))
    (Consumes-trans a b c _ _ before read)

-- what was written of what is left behind the front makes the front longer
pub Appends-behind : (a b c : Option (List ℕ)) (bytes : List ℕ) (at n : ℕ) → Appends a b (take at bytes)
    → Appends b c (take n (take (length bytes - at) (drop at bytes))) → Appends a c (take (at + n) bytes)
Appends-behind a b c bytes at n before write =
    let left : take (length bytes - at) (drop at bytes) ≡ drop at bytes = take_all (length bytes - at) (drop at bytes) (omega (arith, length-drop at bytes)) in
    subst (Appends a c) (ap (λ l. take at bytes ++ take n l) left ∙ sym (take-add at n bytes)) (Appends-trans a b c _ _ before write)

-- The digits take the place of the first bytes of the text, and the byte behind them stands already.
use Rattle.std.proofs.Common.{◌≡◌, ℕ, suc, ◌+◌, ◌%◌, ◌<◌, List, [], ◌∷◌, ◌++◌, length, get_or, take, drop, replicate, OnOk, OnErr, ap, sym, subst, arith, ◌∙◌, append_assoc, length-append, length-take-le, drop-cons}
use Rattle.std.proofs.lemmas.Grind.{common_steps}
use lib.Seq.{take-append_seam}
use Rattle.std.specs.Io.KnownBytes.{Appends}
use Rattle.streams.specs.Streams.{AppendsPart}
use Rattle.test_script.specs.Script.{digits_of}
use Rattle.test_script.proofs.print_hex.Goals as goal

behind_first : (d xs : List ℕ) (n v : ℕ) → length d ≡ n → n < length xs → get_or xs n 0 ≡ v → take (n + 1) (d ++ drop n xs) ≡ d ++ v ∷ []
behind_first d xs n v e h k =
    let rest : List ℕ = drop (suc n) xs in
    let first : drop n xs ≡ v ∷ rest = drop-cons xs n 0 h ∙ ap (λ w. w ∷ rest) k in
    let parted : d ++ drop n xs ≡ (d ++ v ∷ []) ++ rest = ap (λ l. d ++ l) first ∙ sym (append_assoc d (v ∷ []) rest) in
    let long : n + 1 ≡ length (d ++ v ∷ []) = omega (arith, length-append d (v ∷ [])) in
    ap (take (n + 1)) parted ∙ ap (λ j. take j ((d ++ v ∷ []) ++ rest)) long ∙ take-append_seam (d ++ v ∷ []) rest

behind : (b n : ℕ) → n < 17 → get_or (replicate 17 b) n 0 ≡ b
behind b n h = grind (arith, common_steps)

-- what is written: the digits, and the byte behind them
written : (d digits : List ℕ) (b n : ℕ) → n < 17 → length d ≡ length (take n (replicate 17 b)) → d ≡ digits → take (n + 1) (d ++ drop n (replicate 17 b)) ≡ digits ++ b ∷ []
written d digits b n some long e =
    let front : length (take n (replicate 17 b)) ≡ n = length-take-le n (replicate 17 b) (omega arith) in
    behind_first d (replicate 17 b) n b (long ∙ front) (omega arith) (behind b n some) ∙ ap (λ l. l ++ b ∷ []) e

pub returns : goal.returns
returns g c =
    let b = c.args.behind in
    let n = c.args.places % 17 in
    let front : length (take n (replicate 17 b)) ≡ n = length-take-le n (replicate 17 b) (omega arith) in
    let text = written c.hex_digits.new.out (digits_of n c.args.number) b n (omega arith) c.hex_digits.auto.out (c.hex_digits.ensures ∙ ap (λ k. digits_of k c.args.number) front) in
    let old = g.W.Write.contents c.args.out.now in
    let new = g.W.Write.contents c.write_all.new.out in
    record {
      ok = subst (λ bs. OnOk c.write_all.result (Appends old new bs)) text c.write_all.ensures.ok;
      err = subst (λ bs. OnErr c.write_all.result (AppendsPart old new bs)) text c.write_all.ensures.err;
    }

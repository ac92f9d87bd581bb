-- What a hole of width eight with zeros in front writes.
use Rattle.std.proofs.Common.{◌≡◌, ℕ, ◌-◌, ◌^◌, [], ◌++◌, false, length, replicate, ap, append-nil, ◌∙◌, List, arith, rules}
use Rattle.std.specs.Fmt.{digits, char_count, padded_integral, format_spec}
use Rattle.streams.specs.Streams.{hexadecimal}
use Rattle.streams.proofs.write_hexadecimal.Goals as goal

padded : (n : ℕ) → padded_integral (format_spec 32 0 4 8 (2 ^ 64 - 1)) false [] (digits 16 false n) ≡ hexadecimal n
unfolding padded_integral char_count
padded n =
    let d : List ℕ = digits 16 false n in
    let same : 8 - length d - 0 - 0 ≡ 8 - length d = omega arith in
    ap (λ k. replicate k 48 ++ (d ++ [])) same ∙ ap (λ l. replicate (8 - length d) 48 ++ l) (append-nil d)

pub returns : goal.returns
returns g c = search (rules, padded)

-- `refusal_text`: `refused `, the number, a newline, one after the other (`Upto`).
use native.Mathlib.Omega.{arith}
use Rattle.buffers.specs.Buffers.{bytes_of}
use Rattle.report.specs.Report.{refusal_text}
use Rattle.report.proofs.Texts.{refusal-long, upto_none, upto_part, upto_whole, too_short}
use Rattle.report.proofs.refusal_text.Goals as goal

pub returns-then-out-places : goal.returns-then-out-places
returns-then-out-places c =
    let n = c.from-n.result in
    rw (← c.from-n.ensures) (too_short (refusal_text n) c.args.out.now (omega (arith, refusal-long n)))

pub returns : goal.returns
unfolding bytes_of
returns c =
    let u₁ = upto_part (upto_none c.args.out.now) c.put_word-a.ensures in
    rw (← c.from-n.ensures) (upto_whole (upto_part (upto_part u₁ c.put_number-b.ensures) c.put_word.ensures) (omega arith))

-- `heading`: `lines `, a number, ` width `, a number, a newline, one after the other (`Upto`).
use native.Mathlib.Omega.{arith}
use Rattle.buffers.specs.Buffers.{bytes_of}
use Rattle.report.specs.Report.{heading_text}
use Rattle.report.proofs.Texts.{heading_long, upto_none, upto_part, upto_whole, too_short}
use Rattle.report.proofs.heading.Goals as goal

pub returns-then-out-places : goal.returns-then-out-places
returns-then-out-places c =
    let a = c.args in
    too_short (heading_text a.lines a.width) a.out.now (omega (arith, heading_long a.lines a.width))

pub returns : goal.returns
unfolding bytes_of
returns c =
    let u₂ = upto_part (upto_part (upto_none c.args.out.now) c.put_word-a.ensures) c.put_number-b.ensures in
    let u₅ = upto_part (upto_part (upto_part u₂ c.put_word-c.ensures) c.put_number-d.ensures) c.put_word.ensures in
    upto_whole u₅ (omega arith)

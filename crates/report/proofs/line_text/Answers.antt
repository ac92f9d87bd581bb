-- `line_text`: the pixels, a space, the read count, a newline, one after the other (`Upto`).
use native.Mathlib.Omega.{arith}
use Rattle.buffers.specs.Buffers.{bytes_of}
use Rattle.report.specs.Report.{line_text}
use Rattle.report.proofs.Texts.{line-long, upto_none, upto_part, upto_whole, too_short}
use Rattle.report.proofs.line_text.Goals as goal

pub returns-then-out-pixels : goal.returns-then-out-pixels
returns-then-out-pixels c =
    let a = c.args in
    too_short (line_text a.pixels.now a.cells) a.out.now (omega (arith, line-long a.pixels.now a.cells))

pub returns : goal.returns
unfolding bytes_of
returns c =
    let u₂ = upto_part (upto_part (upto_none c.args.out.now) c.put_pixels-a.ensures) c.put_word-b.ensures in
    upto_whole (upto_part (upto_part u₂ c.put_number-c.ensures) c.put_word.ensures) (omega arith)

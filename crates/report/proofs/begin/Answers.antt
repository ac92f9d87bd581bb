-- `begin`: the test on the length picks the case of `bench_start`.
use borrow.Author.Tests.{eq-eqb, ne_eqb}
use Rattle.report.specs.Report.{bench_start}
use Rattle.report.proofs.begin.Goals as goal

pub returns-then-input-ne-INPUT_LENGTH : goal.returns-then-input-ne-INPUT_LENGTH
unfolding bench_start
returns-then-input-ne-INPUT_LENGTH c = rw (ne_eqb _ _ c.if-input-ne-INPUT_LENGTH.true, c.fresh.ensures)

pub returns-in-Ok : goal.returns-in-Ok
unfolding bench_start
returns-in-Ok c =
    rw (eq-eqb _ _ c.if-input-ne-INPUT_LENGTH.false, ← c.word_at.ensures, ← c.from-lines.ensures, ← c.device_of-device.ensures) c.in-Ok.ensures

pub returns-in-Err : goal.returns-in-Err
unfolding bench_start
returns-in-Err c =
    rw (eq-eqb _ _ c.if-input-ne-INPUT_LENGTH.false, ← c.word_at.ensures, ← c.from-lines.ensures, ← c.device_of-device.ensures) c.in-Err.ensures

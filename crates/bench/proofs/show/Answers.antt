-- Each call prints the next part.
use Rattle.std.proofs.Common.{◌≡◌, ◌+◌, ◌-◌, arith}
use Rattle.bench.proofs.Parts.{heading_first, line_next, no_lines}
use Rattle.bench.proofs.Reached.{first_part, next_part, last_part}
use Rattle.bench.proofs.show.Goals as goal

pub loop-init : goal.loop-init
loop-init g c =
    let all : c.args.device.now.frame.left - 0 ≡ c.args.device.now.frame.left = omega arith in
    rw all (first_part _ _ _ _ _ c.in_ok-print.ensures (heading_first _ _ _ _ _ _ (rw c.width.ensures.0 at c.heading-n.ensures)))

pub loop-preserved : goal.loop-preserved
loop-preserved g c =
    let left = c.args.device.now.frame.left - c.loop.counter in
    let less : c.args.device.now.frame.left - (c.loop.counter + 1) ≡ left - 1 = omega arith in
    rw less
    (next_part _ _ _ _ _ _ _ c.loop.invariant (line_next left _ _ _ _ _ _ c.next_text-n.result (omega arith) c.next_text-n.ensures)
    c.in_ok-print-2.ensures)

pub returns : goal.returns
returns g c = last_part _ _ _ _ c.loop.invariant (no_lines _ _ _ _ _ (omega arith))

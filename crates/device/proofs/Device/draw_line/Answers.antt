-- `Device::draw_line`: the tests, in their order, pick the case of `draw_line`.
use Prim.Native.Nat.{◌-◌}
use borrow.Author.Tests.{eq-eqb, ne_eqb, lt-ltb, le-ltb}
use Rattle.refusals.specs.Refusals.{accepted}
use Rattle.device.specs.Device.{draw_verdict, draw_by, draw_line, line_drawn, line_on, pixels_of}
use Rattle.device.proofs.Device.draw_line.Goals as goal

pub returns-then-font-ne-FONT_LENGTH : goal.returns-then-font-ne-FONT_LENGTH
unfolding draw_verdict draw_by draw_line
returns-then-font-ne-FONT_LENGTH c = rw (eq-eqb _ _ c.if-ram-ne-RAM_LENGTH.false, ne_eqb _ _ c.if-font-ne-FONT_LENGTH.true)

pub returns-then-line-width : goal.returns-then-line-width
unfolding draw_verdict draw_by draw_line
returns-then-line-width c =
    rw (
      eq-eqb _ _ c.if-ram-ne-RAM_LENGTH.false,
      eq-eqb _ _ c.if-font-ne-FONT_LENGTH.false,
      ne_eqb _ _ c.if-self-eq0.false,
      lt-ltb _ _ (rw c.width.ensures.0 at c.if-line-width.true),
    )

pub returns : goal.returns
unfolding draw_verdict draw_by draw_line line_drawn line_on pixels_of
returns c =
    let a = c.args.self.now in
    let e = c.draw-walked.ensures in
    rw (
      eq-eqb _ _ c.if-ram-ne-RAM_LENGTH.false,
      eq-eqb _ _ c.if-font-ne-FONT_LENGTH.false,
      ne_eqb _ _ c.if-self-eq0.false,
      le-ltb _ _ (rw c.width.ensures.0 at c.if-line-width.false),
      ← c.array_of.ensures,
      ← c.array_of-2.ensures,
    )
    (λ i.
    record {
      device =
          record {
            bus = a.bus;
            registers = a.registers;
            frame = record { left = a.frame.left - 1; number = a.frame.number; walk = e.walk i };
            next = a.next;
          };
      line = e.pixels i;
      reply = accepted (e.reads i);
    })

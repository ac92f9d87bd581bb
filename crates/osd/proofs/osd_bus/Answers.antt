-- `osd_bus`: refused, a data byte or a fetch, or any other event.
use Prim.Native.Nat.{ℕ}
use mathlib.Core.Path.{sym, ap}
use Rattle.interface.proofs.Laws.{bus-not_record, bus-not-kind}
use Rattle.bus_bytes.proofs.Events.{bus-refused, bus-heard}
use Rattle.bus.specs.declared.Event.TheVariants.{Byte, Fetch}
use Rattle.bus.specs.Bus.{event_of}
use Rattle.osd.proofs.osd_bus.Goals as goal

pub returns-then-device-ne-DEVICE_LENGTH : goal.returns-then-device-ne-DEVICE_LENGTH
returns-then-device-ne-DEVICE_LENGTH c = bus-not_record _ _ _ _ c.if-device-ne-DEVICE_LENGTH.true

pub returns-then-kind-gt-STOP : goal.returns-then-kind-gt-STOP
returns-then-kind-gt-STOP c = bus-not-kind _ _ _ _ c.if-kind-gt-STOP.true

pub returns-then-ram-ne-RAM_LENGTH : goal.returns-then-ram-ne-RAM_LENGTH
returns-then-ram-ne-RAM_LENGTH c = bus-refused _ _ _ _ c.if-device-ne-DEVICE_LENGTH.false c.if-kind-gt-STOP.false _ c.if-ram-ne-RAM_LENGTH.true c.refuse.ensures

pub returns-then-state-eq-READING : goal.returns-then-state-eq-READING
returns-then-state-eq-READING c =
    let b = c.args.byte in
    bus-heard _ _ _ b c.if-device-ne-DEVICE_LENGTH.false c.if-kind-gt-STOP.false Fetch _
    c.if-ram-ne-RAM_LENGTH.false (ap (λ (n : ℕ). event_of n b) (sym c.if-kind-eq-FETCH.true)) c.read_next.ensures

pub returns-then-state-eq-WRITING : goal.returns-then-state-eq-WRITING
returns-then-state-eq-WRITING c =
    let b = c.args.byte in
    bus-heard _ _ _ b c.if-device-ne-DEVICE_LENGTH.false c.if-kind-gt-STOP.false (Byte b) _
    c.if-ram-ne-RAM_LENGTH.false (ap (λ (n : ℕ). event_of n b) (sym c.if-kind-eq-HOST_BYTE.true)) c.write_next.ensures

pub returns : goal.returns
returns c =
    bus-heard _ _ _ c.args.byte c.if-device-ne-DEVICE_LENGTH.false c.if-kind-gt-STOP.false c.of_kind.result _
    c.if-ram-ne-RAM_LENGTH.false c.of_kind.ensures c.hear.ensures

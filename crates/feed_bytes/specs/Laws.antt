-- The laws of a run's events, of data bytes and of fetches, with their proofs: the code's own impls cite them, so they lie here.
-- Assumes nothing.
use Prim.Native.Nat.{ℕ, ◌%◌}
use mathlib.Core.Path.{◌≡◌, refl, sym, ap, ◌∙◌}
use mathlib.Core.List.{List}
use native.Mathlib.Omega.{arith}
use borrow.Author.Tests.{eq-eqb}
use lib.ListN.{length}
use Rattle.limits.specs.Limits.{address_space}
use Rattle.refusals.specs.Refusals.{accepted}
use Rattle.bus.specs.declared.BusState.TheVariants.{Write, Read}
use Rattle.bus.specs.declared.Event.TheVariants.{Byte, Fetch}
use Rattle.bus.specs.declared.Effect.TheVariants.{Store}
use Rattle.bus.specs.Bus.{event_of, step, ram_with, byte_in, answer_to, taken, bus_event, next_address}
use Rattle.device.specs.declared.Device.{Device}
use Rattle.device.specs.Device.{hear_event}
use Rattle.layout.specs.Layout.{put_bus, device_in}
use Rattle.layout.proofs.Laws.{state-byte, bus-put}
use Rattle.interface.specs.Interface.{bus_on}
use Rattle.bus_bytes.specs.Steps.{stored_on}
use Rattle.bus_bytes.proofs.Events.{stored_in_place, up, written_next, fetched-next, bus-heard}
use Rattle.feed_bytes.specs.Events.{stores, loads, at, Ahead, RunLaws}

module _ (xs ys ram : List ℕ) (a x : ℕ) where
  abbrev c : ℕ
  c = (device_in xs).bus.counter

  -- a data byte
  stored : Ahead Write a xs ys → length ram ≡ 1024 → bus_on xs ram 1 x
      ≡ record { device = put_bus (at Write (next_address a)) (stored_on a x ys); ram = ram_with (Store a x) ram; answer = 0 }
  stored g r =
      sym (bus-heard xs ram 1 x g.long (omega arith) (Byte x) _ r refl
      (written_next xs ram (put_bus (up Write (c % address_space)) xs) (c % address_space) refl x _ _ g.in_state refl refl refl))
      ∙ λ i. record { device = placed i; ram = ram_with (Store (g.counted i) x) ram; answer = 0 }
    where
      placed : stored_on (c % address_space) x (put_bus (up Write (c % address_space)) xs) ≡ put_bus (at Write (next_address a)) (stored_on a x ys)
      placed =
          (λ i. stored_on (g.counted i) x (put_bus (at Write (next_address (g.counted i))) xs))
          ∙ ap (stored_on a x) (g.over (at Write (next_address a)))
          ∙ stored_in_place a x (at Write (next_address a)) ys

  stored-reply : Ahead Write a xs ys → length ram ≡ 1024 → (hear_event (device_in xs) ram (event_of 1 x)).reply ≡ accepted 0
  unfolding hear_event bus_event taken step answer_to
  stored-reply g r = rw (eq-eqb _ _ r, state-byte xs, g.in_state)

  -- a fetch
  fetched : Ahead Read a xs ys → length ram ≡ 1024
      → bus_on xs ram 2 x ≡ record { device = put_bus (at Read (next_address a)) ys; ram = ram; answer = byte_in a (device_in ys).registers ram }
  fetched g r =
      sym (bus-heard xs ram 2 x g.long (omega arith) Fetch _ r refl
      (fetched-next xs ram (put_bus (up Read (c % address_space)) xs) (c % address_space) refl _ g.long g.in_state refl refl))
      ∙ λ i. record { device = placed i; ram = ram; answer = byte i }
    where
      placed : put_bus (up Read (c % address_space)) xs ≡ put_bus (at Read (next_address a)) ys
      placed = (λ i. put_bus (at Read (next_address (g.counted i))) xs) ∙ g.over (at Read (next_address a))

      byte : byte_in (c % address_space) (device_in (put_bus (up Read (c % address_space)) xs)).registers ram ≡ byte_in a (device_in ys).registers ram
      byte =
          ap (λ (d : Device). byte_in (c % address_space) d.registers ram) (bus-put (up Read (c % address_space)) xs g.long)
          ∙ λ i. byte_in (g.counted i) (sym g.same i) ram

  fetched-reply : Ahead Read a xs ys → length ram ≡ 1024
      → (hear_event (device_in xs) ram (event_of 2 x)).reply ≡ accepted (byte_in a (device_in ys).registers ram)
  fetched-reply g r = said ∙ λ i. accepted (byte_in (g.counted i) (sym g.same i) ram)
    where
      said : (hear_event (device_in xs) ram (event_of 2 x)).reply ≡ accepted (byte_in (c % address_space) (device_in xs).registers ram)
      said = unfold hear_event bus_event taken step answer_to in rw (eq-eqb _ _ r, state-byte xs, g.in_state)

pub stores_laws : RunLaws Write 1 stores
stores_laws =
    record {
      known = omega arith;
      heard = λ xs ys ram a x g r. stored xs ys ram a x g r;
      reply = λ xs ys ram a x g r. stored-reply xs ys ram a x g r;
    }

pub loads_laws : RunLaws Read 2 loads
loads_laws =
    record {
      known = omega arith;
      heard = λ xs ys ram a x g r. fetched xs ys ram a x g r;
      reply = λ xs ys ram a x g r. fetched-reply xs ys ram a x g r;
    }

-- A bus event on the bytes, from what the inner functions leave: the cases of the definitions.
-- Assumes nothing.
use Prim.Native.Nat.{ℕ, ◌+◌, ◌-◌, ◌%◌, ◌≤◌, ◌<◌}
use mathlib.Core.Path.{◌≡◌, refl, sym, ap, ◌∙◌}
use mathlib.Core.Bool.{Bool, true, false, cond}
use mathlib.Core.List.{List, [], ◌∷◌}
use native.Mathlib.Omega.{arith}
use borrow.Author.Tests.{eq-eqb, ne_eqb, le-leb, lt-leb}
use lib.Bits.{bit_and}
use lib.ListN.{length, get_or, set}
use Rattle.limits.specs.Limits.{address_space, first_register}
use Rattle.refusals.specs.declared.Unheard.{Unheard}
use Rattle.refusals.specs.declared.Refusal.TheVariants.{RamLength, NotAcknowledged}
use Rattle.refusals.specs.Refusals.{refused}
use Rattle.refusals.proofs.Laws.{not-zero}
use Rattle.registers.specs.Registers.{kept, stored}
use Rattle.bus.specs.declared.BusState.{BusState}
use Rattle.bus.specs.declared.BusState.TheVariants.{Idle, Slave, Write, Read}
use Rattle.bus.specs.declared.Bus.{Bus}
use Rattle.bus.specs.declared.Step.{Step}
use Rattle.bus.specs.declared.Event.{Event}
use Rattle.bus.specs.declared.Event.TheVariants.{Start, Byte, Fetch, Stop}
use Rattle.bus.specs.declared.Effect.{Effect}
use Rattle.bus.specs.declared.Effect.TheVariants.{Acknowledge, Ignore, Store, Load}
use Rattle.bus.specs.Bus.{event_of, address, goes, step, is_register, registers_with, ram_with, answer_to, taken, bus_event, byte_in, last_kind, next_address}
use Rattle.bus.proofs.Unheard.{Asks, asks}
use Rattle.device.specs.declared.Device.{Device}
use Rattle.layout.specs.Layout.{bus_at, registers_at, registers_length, record_length, state_number, is_deaf, bus_bytes, put_bus, state_byte, put_registers, device_in}
use Rattle.facts.proofs.Parts.{sets_comm, sets-part, set-part}
use Rattle.layout.proofs.Laws.{state-byte, bus-put}
use Rattle.interface.specs.Interface as face
use Rattle.interface.specs.Interface.{answer_of, ignored_on, heard_on, bus_on}
use Rattle.interface.proofs.Laws.{ignored_same, bus-is}
use Rattle.bus_bytes.specs.Steps.{InSpace, step_on, event_on, stored_on}

-- ---- the registers in their place

-- a store to one of them, or to none
module _ (a x : ℕ) where
  abbrev place : ℕ
  place = (a - first_register) % 16

  abbrev set_on : List ℕ → List ℕ
  set_on xs = cond (is_register a) (set xs (registers_at + place) (bit_and x (get_or kept place 0))) xs

  set_is : (xs : List ℕ) → set_on xs ≡ stored_on a x xs
  unfolding registers_with
  set_is xs = by (is_register a)
    where
      by : (t : Bool)
          → cond t (set xs (registers_at + place) (bit_and x (get_or kept place 0))) xs
          ≡ put_registers (cond t (stored (device_in xs).registers (a - first_register) x) (device_in xs).registers) xs
      by true = set-part registers_at registers_length place xs _ (omega arith)
      by false = sym (sets-part registers_at registers_length xs)

  pub set_register : (xs : List ℕ) → first_register ≤ a → a < address_space → set xs (registers_at + (a - first_register)) (bit_and x (get_or kept (a - first_register) 0)) ≡ stored_on a x xs
  set_register xs h k = let few : place ≡ a - first_register = omega arith in rw (le-leb _ _ h, few) at set_is xs

  pub set-none : (xs : List ℕ) → a < first_register → xs ≡ stored_on a x xs
  set-none xs h = rw (lt-leb _ _ h) at set_is xs

  -- before the bus's bytes are put, or after
  pub stored_in_place : (b : Bus) (xs : List ℕ) → stored_on a x (put_bus b xs) ≡ put_bus b (stored_on a x xs)
  stored_in_place b xs = sym (set_is (put_bus b xs)) ∙ by (is_register a) ∙ ap (put_bus b) (set_is xs)
    where
      v : ℕ
      v = bit_and x (get_or kept place 0)

      by : (t : Bool)
          → cond t (set (put_bus b xs) (registers_at + place) v) (put_bus b xs)
          ≡ put_bus b (cond t (set xs (registers_at + place) v) xs)
      by true = sets_comm xs (bus_bytes b) (v ∷ []) bus_at (registers_at + place) (omega arith)
      by false = refl

-- ---- what the bus asks of the cells

in_space : (b : Bus) (e : Event) (f : Effect) → Asks b e f → InSpace f
unfolding Asks
in_space b e Acknowledge k = tt
in_space b e (Ignore why) k = tt
in_space b e (Store a x) k = omega (arith, k)
in_space b e (Load a) k = omega (arith, k)

pub step_in_space : (b : Bus) (e : Event) → InSpace (step b e).effect
step_in_space b e = in_space b e (step b e).effect (asks b e)

module _ (xs ram ys : List ℕ) (s : Step) (e : ys ≡ put_bus s.bus xs) where
  -- registers that stay as they are
  stay : ys ≡ put_bus s.bus (put_registers (device_in xs).registers xs)
  stay = e ∙ ap (put_bus s.bus) (sym (sets-part registers_at registers_length xs))

  pub applied_acknowledge : s.effect ≡ Acknowledge
      → ◌≡◌ {A = face.BusDone} (record { device = ys; ram = ram; answer = 0 }) (step_on xs ram s)
  unfolding heard_on taken registers_with ram_with answer_to
  applied_acknowledge q = rw q (ap (λ (l : List ℕ). record { device = l; ram = ram; answer = 0 }) stay)

  pub applied_store : (a x : ℕ) (zs ram' : List ℕ) → s.effect ≡ Store a x → zs ≡ stored_on a x ys → ram' ≡ ram_with (Store a x) ram
      → ◌≡◌ {A = face.BusDone} (record { device = zs; ram = ram'; answer = 0 }) (step_on xs ram s)
  unfolding heard_on taken answer_to
  applied_store a x zs ram' q p r =
      let place = p ∙ ap (stored_on a x) e ∙ stored_in_place a x s.bus xs in rw q (λ i. record { device = place i; ram = r i; answer = 0 })

  pub applied_load : (a byte : ℕ) → s.effect ≡ Load a → byte ≡ byte_in a (device_in xs).registers ram
      → ◌≡◌ {A = face.BusDone} (record { device = ys; ram = ram; answer = byte }) (step_on xs ram s)
  unfolding heard_on taken registers_with ram_with answer_to
  applied_load a byte q p =
      let z : byte ≡ 0 + byte_in a (device_in xs).registers ram = omega (arith, p) in
      rw q (λ i. record { device = stay i; ram = ram; answer = z i })

pub applied_ignore : (xs ram ys : List ℕ) (s : Step) (why : Unheard) (a : ℕ) → s.effect ≡ Ignore why → ys ≡ ignored_on (is_deaf s.bus.state) xs
    → a ≡ answer_of (refused (NotAcknowledged why))
    → ◌≡◌ {A = face.BusDone} (record { device = ys; ram = ram; answer = a }) (step_on xs ram s)
unfolding heard_on taken registers_with ram_with answer_to
applied_ignore xs ram ys s why a q e p = rw (q, not-zero (NotAcknowledged why)) (λ i. record { device = e i; ram = ram; answer = p i })

-- a start and a stop: the counter stays
module _ (xs ram ys : List ℕ) where
  pub started-slave : ys ≡ put_bus (record { state = Slave; counter = (device_in xs).bus.counter }) xs
      → ◌≡◌ {A = face.BusDone} (record { device = ys; ram = ram; answer = 0 }) (event_on xs ram Start)
  unfolding step
  started-slave e = applied_acknowledge xs ram ys (goes (device_in xs).bus Slave Acknowledge) e refl

  pub stopped_idle : ys ≡ put_bus (record { state = Idle; counter = (device_in xs).bus.counter }) xs
      → ◌≡◌ {A = face.BusDone} (record { device = ys; ram = ram; answer = 0 }) (event_on xs ram Stop)
  unfolding step
  stopped_idle e = applied_acknowledge xs ram ys (goes (device_in xs).bus Idle Acknowledge) e refl

-- ---- a data byte and a fetch, seen by the number of the state

-- the bus with its counter gone up from an address
abbrev pub up : BusState → ℕ → Bus
up s a = record { state = s; counter = next_address a }

module _ (xs ram ys : List ℕ) (a : ℕ) (p : a ≡ address (device_in xs).bus) where
  pub written_next : (x : ℕ) (zs ram' : List ℕ) → state_byte xs ≡ state_number Write → ys ≡ put_bus (up Write a) xs → zs ≡ stored_on a x ys
      → ram' ≡ ram_with (Store a x) ram → ◌≡◌ {A = face.BusDone} (record { device = zs; ram = ram'; answer = 0 }) (event_on xs ram (Byte x))
  unfolding step
  written_next x zs ram' writing e q r =
      applied_store xs ram ys (record { bus = up Write a; effect = Store a x }) e a x zs ram' refl q r
      ∙ ap (λ (m : ℕ). step_on xs ram (record { bus = up Write m; effect = Store m x })) p
      ∙ ap (step_on xs ram) (sym by)
    where
      by : step (device_in xs).bus (Byte x) ≡ record { bus = up Write (address (device_in xs).bus); effect = Store (address (device_in xs).bus) x }
      by = rw (state-byte xs, writing)

  pub fetched-next : (byte : ℕ) → length xs ≡ record_length → state_byte xs ≡ state_number Read → ys ≡ put_bus (up Read a) xs
      → byte ≡ byte_in a (device_in ys).registers ram
      → ◌≡◌ {A = face.BusDone} (record { device = ys; ram = ram; answer = byte }) (event_on xs ram Fetch)
  unfolding step
  fetched-next byte h reading e q =
      applied_load xs ram ys (record { bus = up Read a; effect = Load a }) e a byte refl
      (q ∙ ap (λ (d : Device). byte_in a d.registers ram) (ap device_in e ∙ bus-put (up Read a) xs h))
      ∙ ap (λ (m : ℕ). step_on xs ram (record { bus = up Read m; effect = Load m })) p
      ∙ ap (step_on xs ram) (sym by)
    where
      by : step (device_in xs).bus Fetch ≡ record { bus = up Read (address (device_in xs).bus); effect = Load (address (device_in xs).bus) }
      by = rw (state-byte xs, reading)

-- ---- bus event

module _ (xs ram : List ℕ) (kind byte : ℕ) (h : length xs ≡ record_length) (k : kind ≤ last_kind) where
  -- refused for the RAM's length
  pub bus-refused : (a : ℕ) → (length ram ≡ 1024 → ⊥) → a ≡ answer_of (refused RamLength)
      → ◌≡◌ {A = face.BusDone} (record { device = xs; ram = ram; answer = a }) (bus_on xs ram kind byte)
  unfolding heard_on bus_event
  bus-refused a r p = by ∙ bus-is xs ram kind byte h k
    where
      by : ◌≡◌ {A = face.BusDone} (record { device = xs; ram = ram; answer = a }) (heard_on xs (bus_event (device_in xs).bus (device_in xs).registers ram (event_of kind byte)))
      by = rw (ne_eqb _ _ r) (λ i. record { device = sym (ignored_same xs) i; ram = ram; answer = p i })

  -- heard: the event of that number
  pub bus-heard : (e : Event) (o : face.BusDone) → length ram ≡ 1024 → e ≡ event_of kind byte → o ≡ event_on xs ram e → o ≡ bus_on xs ram kind byte
  unfolding bus_event
  bus-heard e o r q u = u ∙ ap (event_on xs ram) q ∙ by ∙ bus-is xs ram kind byte h k
    where
      by : event_on xs ram (event_of kind byte) ≡ heard_on xs (bus_event (device_in xs).bus (device_in xs).registers ram (event_of kind byte))
      by = rw (eq-eqb _ _ r)

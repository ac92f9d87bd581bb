-- Why an event is not acknowledged: by what the bus's step asks of the cells.
-- Assumes nothing.
use Prim.Native.Nat.{ℕ}
use mathlib.Core.Path.{◌≡◌, refl, sym, ap, subst, ◌∙◌}
use mathlib.Core.Bool.{Bool, true, false, cond}
use mathlib.Core.List.{List, []}
use native.Mathlib.Omega.{arith}
use borrow.Author.Tests.{eq-eqb, ne_eqb, eqb-false}
use lib.Dec.{eqb}
use lib.ListN.{length}
use Rattle.refusals.specs.declared.Unheard.{Unheard}
use Rattle.refusals.specs.declared.Unheard.TheVariants as unheard
use Rattle.refusals.specs.declared.Refusal.TheVariants.{NotAcknowledged}
use Rattle.refusals.specs.Refusals.{number_of, refused}
use Rattle.refusals.proofs.Laws.{at_least_five, same_number}
use Rattle.registers.specs.declared.Registers.{Registers}
use Rattle.registers.specs.Registers.{fresh_registers}
use Rattle.bus.specs.declared.Event.{Event}
use Rattle.bus.specs.declared.Event.TheVariants.{Start, Byte, Fetch, Stop}
use Rattle.bus.specs.declared.BusState.{BusState}
use Rattle.bus.specs.declared.BusState.TheVariants.{Idle, Deaf, Slave, High, Low, Write, Read}
use Rattle.bus.specs.declared.Bus.{Bus}
use Rattle.bus.specs.declared.Effect.{Effect}
use Rattle.bus.specs.declared.Effect.TheVariants.{Acknowledge, Ignore, Store, Load}
use Rattle.bus.specs.declared.Step.{Step}
use Rattle.bus.specs.Bus.{BusOutcome, address, goes, step, ram_with, registers_with, answer_to, bus_reply, taken, bus_event}
use Rattle.bus.specs.Unheard.{Applies, byte_idle, fetch_idle, unknown_slave, byte-deaf, fetch_deaf, byte_reading, fetch_slave, fetch_high, fetch_low, fetch_write, state_after, Unacknowledged, other_slave, byte_while_idle, byte_while_deaf, byte_while_reading, fetch_while_not_reading, Reasons}
use Rattle.bus.proofs.Laws.{by_event, bus_event-heard}

abbrev pub bus : BusState → ℕ → Bus
bus s c = record { state = s; counter = c }

-- where a reason applies, the step is to ignore the event for it
ignored : {why : Unheard} {s : BusState} {e : Event} (c : ℕ) → Applies why s e
    → step (bus s c) e ≡ goes (bus s c) (state_after why s) (Ignore why)
unfolding step
ignored c (byte_idle x) = refl
ignored c fetch_idle = refl
ignored c (unknown_slave x p q) = rw (ne_eqb _ _ p, ne_eqb _ _ q)
ignored c (byte-deaf x) = refl
ignored c fetch_deaf = refl
ignored c (byte_reading x) = refl
ignored c fetch_slave = refl
ignored c fetch_high = refl
ignored c (fetch_low high) = refl
ignored c fetch_write = refl

-- and the other way round: what a step asks of the cells. One that ignores an event does so for a reason that applies
unfoldable pub Asks : Bus → Event → Effect → Type 0
Asks b e Acknowledge = Unit
Asks b e (Ignore why) = Applies why b.state e
Asks b e (Store a x) = a ≡ address b
Asks b e (Load a) = a ≡ address b

asks_at : (s : BusState) (c : ℕ) (e : Event) → Asks (bus s c) e (step (bus s c) e).effect
unfolding step Asks
asks_at s c Start = tt
asks_at Idle c (Byte x) = byte_idle x
asks_at Deaf c (Byte x) = byte-deaf x
asks_at Slave c (Byte x) = by (eqb x 0xBA) (eqb x 0xBB) refl refl
  where
    b : Bus
    b = bus Slave c

    by : (p q : Bool) → eqb x 0xBA ≡ p → eqb x 0xBB ≡ q
        → Asks b (Byte x) (cond p (goes b High Acknowledge) (cond q (goes b Read Acknowledge) (goes b Deaf (Ignore unheard.NotAddressed)))).effect
    by true q h k = tt
    by false true h k = tt
    by false false h k = unknown_slave x (eqb-false _ _ h) (eqb-false _ _ k)
asks_at High c (Byte x) = tt
asks_at (Low high) c (Byte x) = tt
asks_at Write c (Byte x) = refl
asks_at Read c (Byte x) = byte_reading x
asks_at Idle c Fetch = fetch_idle
asks_at Deaf c Fetch = fetch_deaf
asks_at Slave c Fetch = fetch_slave
asks_at High c Fetch = fetch_high
asks_at (Low high) c Fetch = fetch_low high
asks_at Write c Fetch = fetch_write
asks_at Read c Fetch = refl
asks_at s c Stop = tt

pub asks : (b : Bus) (e : Event) → Asks b e (step b e).effect
asks b e = asks_at b.state b.counter e

-- ---- the claim

-- the reason that applies is the answer
answers : (why : Unheard) (b : Bus) (r : Registers) (ram : List ℕ) (e : Event) → length ram ≡ 1024 → Applies why b.state e
    → bus_event b r ram e ≡ record { bus = bus (state_after why b.state) b.counter; registers = r; ram = ram; reply = refused (NotAcknowledged why) }
unfolding taken registers_with ram_with answer_to
answers why b r ram e h a = sym (bus_event-heard b r ram e h (goes b (state_after why b.state) (Ignore why)) (sym (ignored b.counter a)) refl)

-- by what the step asks of the cells
module _ (b : Bus) (r : Registers) (ram : List ℕ) (e : Event) where
  -- where the answer is a refusal, it is for a reason that applies
  refused_by : (f : Effect) → Asks b e f → ((bus_reply (answer_to f r ram)).refusal ≡ 0 → ⊥)
      → (why : Unheard) × Applies why b.state e × ((bus_reply (answer_to f r ram)).refusal ≡ number_of (NotAcknowledged why))
  unfolding answer_to Asks
  refused_by Acknowledge k n = absurd (n refl)
  refused_by (Ignore why) k n = (why, k, refl)
  refused_by (Store a x) k n = absurd (n refl)
  refused_by (Load a) k n = absurd (n refl)

  why_only : (why : Unheard) → (bus_event b r ram e).reply.refusal ≡ number_of (NotAcknowledged why) → Applies why b.state e
  unfolding taken
  why_only why =
      by_event (λ (o : BusOutcome). o.reply.refusal ≡ number_of (NotAcknowledged why) → Applies why b.state e) b r ram e
      (λ p. absurd (omega (arith, at_least_five why, p)))
      (λ p.
      let w = refused_by (step b e).effect (asks b e) (λ z. omega (arith, at_least_five why, p, z)) in
      subst (λ (v : Unheard). Applies v b.state e) (same_number w.0 why (sym w.2 ∙ p)) w.1)

  why_some : length ram ≡ 1024 → ((bus_event b r ram e).reply.refusal ≡ 0 → ⊥) → (why : Unheard) × Applies why b.state e
  unfolding bus_event taken
  why_some h = rw (eq-eqb _ _ h) (λ n. let w = refused_by (step b e).effect (asks b e) n in (w.0, w.1))

  why_none : (why : Unheard) → (bus_event b r ram e).reply.refusal ≡ 0 → Applies why b.state e → ⊥
  unfolding taken answer_to
  why_none why p a =
      by_event (λ (o : BusOutcome). o.reply.refusal ≡ 0 → ⊥) b r ram e
      (λ q. omega (arith, q)) (rw (ignored b.counter a) (λ q. omega (arith, at_least_five why, q))) p

-- the number that a step gives, whatever registers and RAM hold
abbrev number : Step → ℕ
number s = (bus_reply (answer_to s.effect fresh_registers [])).refusal

-- an event has one answer, and so one reason
one_reason : (why other : Unheard) (s : BusState) (e : Event) → Applies why s e → Applies other s e → why ≡ other
unfolding answer_to
one_reason why other s e a o = same_number why other (ap number (sym (ignored 0 a) ∙ ignored 0 o))

-- ---- document 01's 5

-- a fetch while reading is answered 0
unread : {why : Unheard} {s : BusState} → Applies why s Fetch → s ≡ Read → ⊥
unfolding step answer_to
unread {why} a p = omega (arith, at_least_five why, ap number (ignored 0 (subst (λ (s : BusState). Applies why s Fetch) p a)))

unheard_fetch : (s : BusState) → (s ≡ Read → ⊥) → (why : Unheard) × Applies why s Fetch
unheard_fetch Idle n = (unheard.Idle, fetch_idle)
unheard_fetch Deaf n = (unheard.NotAddressed, fetch_deaf)
unheard_fetch Slave n = (unheard.Writing, fetch_slave)
unheard_fetch High n = (unheard.Writing, fetch_high)
unheard_fetch (Low high) n = (unheard.Writing, fetch_low high)
unheard_fetch Write n = (unheard.Writing, fetch_write)
unheard_fetch Read n = absurd (n refl)

has_reason : {s : BusState} {e : Event} → Unacknowledged s e → (why : Unheard) × Applies why s e
has_reason (other_slave x p q) = (unheard.NotAddressed, unknown_slave x p q)
has_reason (byte_while_idle x) = (unheard.Idle, byte_idle x)
has_reason (byte_while_deaf x) = (unheard.NotAddressed, byte-deaf x)
has_reason (byte_while_reading x) = (unheard.Reading, byte_reading x)
has_reason (fetch_while_not_reading s n) = unheard_fetch s n

was_five : {why : Unheard} {s : BusState} {e : Event} → Applies why s e → Unacknowledged s e
was_five (byte_idle x) = byte_while_idle x
was_five fetch_idle = fetch_while_not_reading Idle (unread fetch_idle)
was_five (unknown_slave x p q) = other_slave x p q
was_five (byte-deaf x) = byte_while_deaf x
was_five fetch_deaf = fetch_while_not_reading Deaf (unread fetch_deaf)
was_five (byte_reading x) = byte_while_reading x
was_five fetch_slave = fetch_while_not_reading Slave (unread fetch_slave)
was_five fetch_high = fetch_while_not_reading High (unread fetch_high)
was_five (fetch_low high) = fetch_while_not_reading (Low high) (unread (fetch_low high))
was_five fetch_write = fetch_while_not_reading Write (unread fetch_write)

pub reasons : Reasons
reasons =
    record {
      answered = answers;
      only = λ why b r ram e. why_only b r ram e why;
      some = why_some;
      one = one_reason;
      none = λ why b r ram e. why_none b r ram e why;
      together = λ s e. (has_reason, λ p. was_five p.1);
    }

-- Runs of events of one kind: the record's bus part may lag behind while a run lasts, since each event of it puts the bus part anew.
-- Assumes nothing.
use Prim.Native.Nat.{ℕ, suc, ◌+◌, ◌-◌, ◌*◌, ◌/◌, ◌%◌, ◌≤◌, ◌<◌}
use mathlib.Core.Path.{◌≡◌, refl, sym, ap, ◌∙◌}
use mathlib.Core.List.{List, [], ◌∷◌}
use native.Mathlib.Omega.{arith}
use borrow.Author.Tests.{ne_eqb}
use lib.ListN.{length, get_or}
use lib.Seq.{sets}
use Rattle.limits.specs.Limits.{address_space}
use Rattle.bus.specs.declared.BusState.{BusState}
use Rattle.bus.specs.Bus.{next_address}
use Rattle.device.specs.declared.Device.{Device}
use Rattle.capture.specs.Capture.{Played}
use Rattle.capture.specs.Places.{kind_at, from}
use Rattle.layout.specs.Layout.{record_length, state_number, put_bus, state_byte, device_in}
use Rattle.layout.proofs.Laws.{put_bus-length, state-put, bus-put, put-over}
use Rattle.interface.specs.Interface.{BusDone, ChipBytes, lent, bus_calls}
use Rattle.feed_bytes.specs.Events.{at, Ahead, RunLaws}
use Rattle.feed_bytes.specs.Turns.{Place}
use Rattle.feed_bytes.proofs.Feeds.{turn}

-- ---- a run, with the bus part lagging behind in ys: the counter is at a

module _ (s : BusState) (kind : ℕ) (does : ℕ → ℕ → List ℕ → List ℕ → BusDone) (laws : RunLaws s kind does)
    (ys ram chunk : List ℕ) (held j : ℕ) (out : List ℕ) (n a : ℕ) (h : length ys ≡ record_length) (r : length ram ≡ 1024) (l : j < length chunk) (k : kind_at chunk held j ≡ kind) where
  abbrev done : BusDone
  done = does a (get_or chunk j 0) ys ram

  abbrev behind : Played ChipBytes
  behind = from bus_calls (lent (put_bus (at s a) ys) ram) chunk held j out n

  -- an event of the run, wherever the bus part stands
  event : (xs : List ℕ) → Ahead s a xs ys → from bus_calls (lent xs ram) chunk held j out n
      ≡ from bus_calls (lent (put_bus (at s (next_address a)) done.device) done.ram) chunk held (suc (suc j)) (sets out n (1 ∷ done.answer ∷ [])) (suc (suc n))
  event xs g = turn xs ram chunk held j out n kind l k laws.known (laws.heard xs ys ram a (get_or chunk j 0) g r) (laws.reply xs ys ram a (get_or chunk j 0) g r)

  put : a < address_space → Ahead s a (put_bus (at s a) ys) ys
  put few =
      record {
        long = put_bus-length (at s a) ys ∙ h;
        counted = ap (λ (d : Device). d.bus.counter % address_space) (bus-put (at s a) ys h) ∙ omega arith;
        over = λ b. put-over b (at s a) ys h;
        same = sym (ap (λ (d : Device). d.registers) (bus-put (at s a) ys h));
        in_state = state-put (at s a) ys h;
      }

  -- the run begins: the bus part may be put first, where an event of the run follows
  pub run_first : a < address_space → (device_in ys).bus.counter % address_space ≡ a → state_byte ys ≡ state_number s → behind ≡ from bus_calls (lent ys ram) chunk held j out n
  run_first few c q =
      event (put_bus (at s a) ys) (put few) ∙ sym (event ys (record { long = h; counted = c; over = λ b. refl; same = refl; in_state = q }))

  -- and goes on
  pub run_on : a < address_space → {ys' ram' out' : List ℕ} {j' n' : ℕ} {p : Played ChipBytes} → ys' ≡ done.device → ram' ≡ done.ram → out' ≡ sets out n (1 ∷ done.answer ∷ []) → j' ≡ suc (suc j) → n' ≡ suc (suc n)
      → behind ≡ p → from bus_calls (lent (put_bus (at s (next_address a)) ys') ram') chunk held j' out' n' ≡ p
  run_on few d m o u v e =
      (λ i. from bus_calls (lent (put_bus (at s (next_address a)) (d i)) (m i)) chunk held (u i) (o i) (v i)) ∙ sym (event (put_bus (at s a) ys) (put few)) ∙ e

-- ---- the places of a run

-- behind the first event a kind stands before its byte
pub kind_before : (chunk : List ℕ) (held j k : ℕ) → 0 < j → get_or chunk (j - 1) 0 ≡ k → kind_at chunk held j ≡ k
kind_before chunk held j k h e = rw (ne_eqb j 0 (λ z. omega arith)) e

pub kind_at_lem : (chunk : List ℕ) (held j k : ℕ) → get_or chunk j 0 ≡ k → kind_at chunk held (j + 1) ≡ k
kind_at_lem chunk held j k e =
    let one : j + 1 - 1 ≡ j = omega arith in
    kind_before chunk held (j + 1) k (omega arith) (ap (λ (i : ℕ). get_or chunk i 0) one ∙ e)

-- runs one behind the other
pub both_run : (i j k : ℕ) → i ≤ j → (j - i) % 2 ≡ 0 → j ≤ k → (k - j) % 2 ≡ 0 → (k - i) % 2 ≡ 0
both_run i j k g d h e = omega (arith, d, e)

-- an event of a run that began at place i, with its kind at place k: its byte is in the chunk, and the run goes on behind it
pub record InRun (chunk : List ℕ) (first i k : ℕ) : Type 0 where
  pub inside : k + 1 < length chunk
  pub forth : i ≤ k + 2 + 1
  pub events : (k + 2 + 1 - i) % 2 ≡ 0
  pub within : k + 2 + 1 ≤ length chunk + 1
  pub second : k + 2 - first ≡ suc (k + 1 - first)
  pub output : k + 2 + 1 - first ≡ suc (suc (k + 1 - first))

pub in_run : (chunk : List ℕ) (first i k : ℕ) → first ≤ i → i ≤ k + 1 → (k + 1 - i) % 2 ≡ 0 → k < length chunk - 1 → InRun chunk first i k
in_run chunk first i k p f e h =
    record {
      inside = omega arith;
      forth = omega (arith, f);
      events = omega (arith, e, f);
      within = omega arith;
      second = omega (arith, p, f);
      output = omega (arith, p, f);
    }

-- the place behind an event, and the place behind the runs that follow it
pub next_place : (chunk out out' : List ℕ) (first i j : ℕ) → first ≤ i → (i - first) % 2 ≡ 0 → 2 * ((length chunk + 1 - first) / 2) ≤ length out
    → length out' ≡ length out → i + 2 ≤ j → (j - (i + 2)) % 2 ≡ 0 → Place chunk out' first j
next_place chunk out out' first i j f e r l g d =
    record { behind = omega arith; reached = omega arith; events = omega (arith, e, d); room = omega (arith, r, l) }

pub goes_on : (n i j k : ℕ) → i < n → i + 2 ≤ j → j ≤ k → n + 1 - k < n + 1 - i
goes_on n i j k l g h = omega arith

pub two_more : (i first : ℕ) → first ≤ i → i + 2 - first ≡ suc (suc (i - first))
two_more i first h = omega arith

-- The cases of the interface's own tests, and what an answer's number says.
-- Assumes nothing.
use Prim.Native.Nat.{ℕ, ◌≤◌, ◌<◌}
use mathlib.Core.Path.{◌≡◌, refl, sym, ap, ◌∙◌}
use mathlib.Core.Bool.{Bool, true, false, not, cond, ◌&&◌, and-false, and-eq-true_iff}
use mathlib.Core.List.{List}
use native.Mathlib.Decide.{ℕ_discrete}
use native.Mathlib.Omega.{arith}
use borrow.Author.Tests.{eq-eqb, ne_eqb, lt-ltb, le-ltb, eqb-true, ltb-false, not-true}
use lib.Dec.{eqb, ltb}
use lib.ListN.{length, set}
use lib.Seq.{set-get_or}
use Rattle.refusals.specs.Refusals.{Reply}
use Rattle.bus.specs.Bus.{event_of, bus_event, last_kind}
use Rattle.device.specs.Device.{hear_event, draw_line, ask_cell}
use Rattle.pixel.specs.Ask.{ask_pixel}
use Rattle.layout.specs.Layout.{bus_at, record_length, is_deaf, state_byte, device_in}
use Rattle.layout.specs.FeedLayout.{feed_length}
use Rattle.layout.proofs.Laws.{numbered, state-byte}
use Rattle.interface.specs.Interface as face
use Rattle.interface.specs.Interface.{value_bound, answer_of, is_accepted, answer_not_taken, is_record, fresh_on, ignored_on, heard_on, bus_on, start_on, drawn_on, draw_on, cell_on, pixel_on, is_feed, chunk_max, feed_fresh_on, not_fed_on, fed_on_by, verdict_on, lengths_taken, feed_on}

-- what holds of a call that the interface's own tests let through, and of one that they do not, holds of the call
pub if_taken : {A : Type 0} (P : A → Type 0) (t : Bool) (x y : A) → (t ≡ true → P x) → P y → P (cond t x y)
if_taken P true x y h k = h refl
if_taken P false x y h k = k

-- two tests that pass: a length, and a number that is not too large
pub both_tests : (n m k most : ℕ) → eqb n m && not (ltb most k) ≡ true → (n ≡ m) × (k ≤ most)
both_tests n m k most t =
    let p = (and-eq-true_iff (eqb n m) (not (ltb most k))).0 t in
    (eqb-true _ _ p.0, ltb-false _ _ (not-true _ p.1))

-- those of a feed: the lengths of both records and of the chunk
pub feed_tests : (xs fs chunk : List ℕ) → lengths_taken xs fs chunk ≡ true → (length xs ≡ record_length) × (length fs ≡ feed_length) × (length chunk ≤ chunk_max)
feed_tests xs fs chunk t =
    let p = (and-eq-true_iff (is_record xs) (is_feed fs && not (ltb chunk_max (length chunk)))).0 t in
    let q = both_tests (length fs) feed_length (length chunk) chunk_max p.1 in
    (eqb-true _ _ p.0, q.0, q.1)

-- ---- answers

-- the number of an answer says whether the call is accepted, if then its value has 16 bits
pub refusal-zero : (r : Reply) → (r.refusal ≡ 0 → r.value < value_bound) → is_accepted (answer_of r) ≡ eqb r.refusal 0
refusal-zero r h = by (ℕ_discrete r.refusal 0)
  where
    by : Dec (r.refusal ≡ 0) → is_accepted (answer_of r) ≡ eqb r.refusal 0
    by (yes e) = rw (eq-eqb _ _ e, lt-ltb (answer_of r) value_bound (omega (arith, h e)))
    by (no n) = rw (ne_eqb _ _ n, le-ltb (answer_of r) value_bound (omega arith))

-- ---- calls that the interface refuses

pub fresh-not : (xs : List ℕ) → (length xs ≡ record_length → ⊥) → ◌≡◌ {A = face.Done} (record { device = xs; answer = answer_not_taken }) (fresh_on xs)
unfolding fresh_on
fresh-not xs h = rw (ne_eqb _ _ h)

pub start-not : (xs : List ℕ) (lines : ℕ) → (length xs ≡ record_length → ⊥) → ◌≡◌ {A = face.Done} (record { device = xs; answer = answer_not_taken }) (start_on xs lines)
unfolding start_on
start-not xs lines h = rw (ne_eqb _ _ h)

pub draw-not : (xs ram font line : List ℕ) → (length xs ≡ record_length → ⊥)
    → ◌≡◌ {A = face.DrawDone} (record { device = xs; line = line; answer = answer_not_taken }) (draw_on xs ram font line)
unfolding draw_on
draw-not xs ram font line h = rw (ne_eqb _ _ h)

pub cell-not : (xs ram : List ℕ) (cell : ℕ) → (length xs ≡ record_length → ⊥) → answer_not_taken ≡ cell_on xs ram cell
unfolding cell_on
cell-not xs ram cell h = rw (ne_eqb _ _ h)

pub pixel-not : (xs ram font : List ℕ) (lines frame x y : ℕ) → (length xs ≡ record_length → ⊥) → answer_not_taken ≡ pixel_on xs ram font lines frame x y
unfolding pixel_on
pixel-not xs ram font lines frame x y h = rw (ne_eqb _ _ h)

pub feed-fresh-not : (fs : List ℕ) → (length fs ≡ feed_length → ⊥) → ◌≡◌ {A = face.FeedMade} (record { feed = fs; answer = answer_not_taken }) (feed_fresh_on fs)
unfolding feed_fresh_on
feed-fresh-not fs h = rw (ne_eqb _ _ h)

pub feed-not : (xs fs ram chunk out : List ℕ) → (length xs ≡ record_length → length fs ≡ feed_length → length chunk ≤ chunk_max → ⊥)
    → not_fed_on xs fs ram out answer_not_taken ≡ feed_on xs fs ram chunk out
unfolding feed_on
feed-not xs fs ram chunk out h =
    if_taken (λ (r : face.FeedDone). not_fed_on xs fs ram out answer_not_taken ≡ r) (lengths_taken xs fs chunk) _ _
    (λ t. let p = feed_tests xs fs chunk t in absurd (h p.0 p.1 p.2)) refl

-- ---- an event that is not acknowledged

-- where the state stays, no byte changes
pub ignored_same : (xs : List ℕ) → ignored_on (is_deaf (device_in xs).bus.state) xs ≡ xs
ignored_same xs = by (is_deaf (device_in xs).bus.state) refl
  where
    by : (t : Bool) → is_deaf (device_in xs).bus.state ≡ t → ignored_on t xs ≡ xs
    by true p =
        let one : state_byte xs ≡ 1 = sym (state-byte xs) ∙ numbered _ _ 1 (eqb-true _ _ p) (omega arith) in
        ap (set xs bus_at) (sym one) ∙ set-get_or xs bus_at 0
    by false p = refl

-- ---- bus event

pub bus-not_record : (xs ram : List ℕ) (kind byte : ℕ) → (length xs ≡ record_length → ⊥)
    → ◌≡◌ {A = face.BusDone} (record { device = xs; ram = ram; answer = answer_not_taken }) (bus_on xs ram kind byte)
unfolding bus_on
bus-not_record xs ram kind byte h = rw (ne_eqb _ _ h)

pub bus-not-kind : (xs ram : List ℕ) (kind byte : ℕ) → last_kind < kind
    → ◌≡◌ {A = face.BusDone} (record { device = xs; ram = ram; answer = answer_not_taken }) (bus_on xs ram kind byte)
unfolding bus_on
bus-not-kind xs ram kind byte k = rw (lt-ltb _ _ k, and-false (is_record xs))

module _ (xs ram : List ℕ) (kind byte : ℕ) (h : length xs ≡ record_length) (k : kind ≤ last_kind) where
  pub bus-is : heard_on xs (bus_event (device_in xs).bus (device_in xs).registers ram (event_of kind byte)) ≡ bus_on xs ram kind byte
  unfolding bus_on hear_event
  bus-is = rw (eq-eqb _ _ h, le-ltb _ _ k)

-- ---- the other calls, on a record that is one

module _ (xs : List ℕ) (h : length xs ≡ record_length) where
  pub draw-is : (ram font line : List ℕ) → drawn_on xs (draw_line (device_in xs) ram font line) ≡ draw_on xs ram font line
  unfolding draw_on
  draw-is ram font line = rw (eq-eqb _ _ h)

  pub cell-is : (ram : List ℕ) (cell : ℕ) → answer_of (ask_cell (device_in xs) ram cell) ≡ cell_on xs ram cell
  unfolding cell_on
  cell-is ram cell = rw (eq-eqb _ _ h)

  pub pixel-is : (ram font : List ℕ) (lines frame x y : ℕ)
      → answer_of (ask_pixel (device_in xs).registers ram font lines frame x y) ≡ pixel_on xs ram font lines frame x y
  unfolding pixel_on
  pixel-is ram font lines frame x y = rw (eq-eqb _ _ h)

  pub feed-is : (fs ram chunk out : List ℕ) → length fs ≡ feed_length → length chunk ≤ chunk_max
      → fed_on_by (verdict_on fs ram chunk out) xs fs ram chunk out ≡ feed_on xs fs ram chunk out
  unfolding feed_on
  feed-is fs ram chunk out k l = rw (eq-eqb _ _ h, eq-eqb _ _ k, le-ltb _ _ l)

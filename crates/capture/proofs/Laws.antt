-- The laws of a chunk: of each byte, of all bytes from a place on, of the room that the output takes, and of the tests before it.
-- Assumes nothing.
use Prim.Native.Nat.{ℕ, suc, ◌+◌, ◌-◌, ◌*◌, ◌/◌, ◌≤◌, ◌<◌}
use mathlib.Core.Path.{◌≡◌, refl, sym, ap, ◌∙◌}
use mathlib.Core.Bool.{Bool, true, false, not, cond, true≢false}
use mathlib.Core.List.{List, [], ◌∷◌, ◌++◌}
use native.Mathlib.Decide.{dec_lt}
use native.Mathlib.Nat.{add-zero, zero-add}
use native.Mathlib.Numerals.{sub-one}
use native.Mathlib.Omega.{arith}
use borrow.Author.Tests.{ne_eqb, lt-ltb, le-ltb, eqb-true, ltb-false}
use lib.Dec.{eqb, ltb}
use lib.ListN.{length, get_or, drop, drop_of_length-le}
use lib.Seq.{sets, drop-cons, sets-eq}
use Rattle.limits.specs.Limits.{ram_length}
use Rattle.runs.specs.Runs.{Machine, log, end}
use Rattle.refusals.specs.declared.Refusal.TheVariants.{RamLength, FeedShut, OutputRoom}
use Rattle.refusals.proofs.Laws.{failed-not}
use Rattle.refusals.specs.Refusals.{Reply, accepted, Verdict, passed, failed, refuse_if}
use Rattle.bus.specs.declared.Event.{Event}
use Rattle.bus.specs.Bus.{event_of, bad_kind}
use Rattle.device.specs.Device.{EventOutcome, hear_event}
use Rattle.capture.specs.declared.Feed.{Feed}
use Rattle.capture.specs.declared.Feed.TheVariants.{Open, Half, Shut}
use Rattle.capture.specs.Capture.{Logged, finished, feed_after, output_of, outputs, output_from, Chip, chip, bus_events, is_shut, held_bytes, held_kind, would_complete, feed_verdict, taken_reply, Played, play_chunk, taken_outcome, chunk_fed}
use Rattle.capture.specs.Places.{kind_at, feed_at, rest, from}

module _ {S : Type 0} (m : Machine S Logged Reply) where
  -- no byte left
  pub rest_end : (s : S) (f : Feed) (out : List ℕ) (n : ℕ) → rest m s f [] out n ≡ record { state = s; feed = f; out = out; written = n }
  unfolding rest finished feed_after log end outputs
  rest_end s f out n = λ i. record { state = s; feed = f; out = out; written = add-zero n i }

  -- a byte that completes an event of a bad kind: it is dropped, and all after it
  pub rest_bad : (s : S) (kind x : ℕ) (xs out : List ℕ) (n : ℕ) → bad_kind kind ≡ true
      → rest m s (Half kind) (x ∷ xs) out n ≡ record { state = s; feed = Shut; out = out; written = n }
  unfolding rest finished feed_after log end outputs
  rest_bad s kind x xs out n b = rw b (λ i. record { state = s; feed = Shut; out = out; written = add-zero n i })

  -- a byte that completes an event
  pub rest-event : (s : S) (kind x : ℕ) (xs out : List ℕ) (n : ℕ) → bad_kind kind ≡ false
      → let e : Logged = record { kind = kind; byte = x } in
      rest m s (Half kind) (x ∷ xs) out n ≡ rest m (m.after s e) Open xs (sets out n (output_of (m.answer s e))) (suc (suc n))
  unfolding rest finished feed_after log end outputs
  rest-event s kind x xs out n b =
      rw b
      (ap (λ (w : ℕ). record {
        state = end m next (finished Open xs);
        feed = feed_after Open xs;
        out = sets out n (output_of (m.answer s e) ++ output_from m next (finished Open xs));
        written = w;
      }) more)
    where
      e : Logged
      e = record { kind = kind; byte = x }

      next : S
      next = m.after s e

      more : n + suc (suc (length (output_from m next (finished Open xs)))) ≡ suc (suc n) + length (output_from m next (finished Open xs))
      more = omega arith

  -- from a place on with nothing held: the next byte, if there is one, is a kind
  pub rest_open : (s : S) (chunk : List ℕ) (held i : ℕ) (out : List ℕ) (n : ℕ) → i ≤ length chunk
      → rest m s Open (drop i chunk) out n ≡ rest m s (feed_at chunk held (suc i)) (drop (suc i) chunk) out n
  rest_open s chunk held i out n h = by (dec_lt i (length chunk))
    where
      by : Dec (i < length chunk) → rest m s Open (drop i chunk) out n ≡ rest m s (feed_at chunk held (suc i)) (drop (suc i) chunk) out n
      by (yes l) = unfold rest finished feed_after in rw (drop-cons chunk i 0 l, le-ltb (length chunk) (suc i) l, ne_eqb (suc i) 0 (λ e. omega arith), sub-one (suc i)) refl
      by (no l) =
          unfold rest finished feed_after in
          rw (drop_of_length-le chunk {i = i} (omega arith), drop_of_length-le chunk {i = suc i} (omega arith), lt-ltb (length chunk) (suc i) (omega arith)) refl

  -- ---- the byte at a place, by what is held before it

  module _ (s : S) (chunk : List ℕ) (i : ℕ) (out : List ℕ) (n : ℕ) (l : i < length chunk) where
    -- a kind
    pub next_kind : {j : ℕ} → j ≡ suc i → rest m s (Half (get_or chunk i 0)) (drop j chunk) out n ≡ rest m s Open (drop i chunk) out n
    unfolding rest finished feed_after
    next_kind e = rw (drop-cons chunk i 0 l, e)

    -- the byte of an event
    pub next_event : (kind : ℕ) → bad_kind kind ≡ false
        → let e : Logged = record { kind = kind; byte = get_or chunk i 0 } in
        rest m (m.after s e) Open (drop (suc i) chunk) (sets out n (output_of (m.answer s e))) (suc (suc n)) ≡ rest m s (Half kind) (drop i chunk) out n
    next_event kind b = rw (drop-cons chunk i 0 l) (sym (rest-event s kind _ _ out n b))

    -- of a bad kind
    pub next_bad : (kind : ℕ) → bad_kind kind ≡ true → rest m s (Half kind) (drop i chunk) out n ≡ record { state = s; feed = Shut; out = out; written = n }
    next_bad kind b = rw (drop-cons chunk i 0 l) (rest_bad s kind _ _ out n b)

  -- ---- from a place on where a byte completes an event, of a chunk with a kind held before it

  module _ (s : S) (chunk : List ℕ) (held i : ℕ) (out : List ℕ) (n : ℕ) where
    at_place : i < length chunk → from m s chunk held i out n ≡ rest m s (Half (kind_at chunk held i)) (get_or chunk i 0 ∷ drop (suc i) chunk) out n
    at_place l = rw (drop-cons chunk i 0 l, le-ltb (length chunk) i (omega arith))

    -- its event, and what is left from the next place on
    pub from-event : i < length chunk → bad_kind (kind_at chunk held i) ≡ false
        → let e : Logged = record { kind = kind_at chunk held i; byte = get_or chunk i 0 } in
        from m s chunk held i out n ≡ rest m (m.after s e) (feed_at chunk held (suc (suc i))) (drop (suc (suc i)) chunk) (sets out n (output_of (m.answer s e))) (suc (suc n))
    from-event l b =
        at_place l
        ∙ rest-event s (kind_at chunk held i) (get_or chunk i 0) (drop (suc i) chunk) out n b
        ∙ rest_open _ chunk held (suc i) _ (suc (suc n)) l

    pub from_bad : i < length chunk → bad_kind (kind_at chunk held i) ≡ true → from m s chunk held i out n ≡ record { state = s; feed = Shut; out = out; written = n }
    from_bad l b = at_place l ∙ rest_bad s (kind_at chunk held i) (get_or chunk i 0) (drop (suc i) chunk) out n b

    -- behind the end
    pub from_end : length chunk ≤ i → from m s chunk held i out n ≡ record { state = s; feed = feed_at chunk held i; out = out; written = n }
    from_end l = rw (drop_of_length-le chunk {i = i} l) (rest_end s (feed_at chunk held i) out n)

  -- the first place, by what is held
  pub from_first : (s : S) (f : Feed) (chunk out : List ℕ) (kind bytes : ℕ) → kind ≡ held_kind f → bytes ≡ held_bytes f → is_shut f ≡ false
      → from m s chunk kind (1 - bytes) out 0 ≡ rest m s f chunk out 0
  from_first s Open chunk out kind bytes k b h = rw b (sym (rest_open s chunk kind 0 out 0 (omega arith)))
  from_first s (Half x) chunk out kind bytes k b h = rw (b, le-ltb (length chunk) 0 (omega arith), k)
  from_first s Shut chunk out kind bytes k b h = absurd (true≢false h)

pub held_one : (f : Feed) → held_bytes f ≤ 1
held_one Open = omega arith
held_one (Half kind) = omega arith
held_one Shut = omega arith

-- ---- the room that the output takes

-- two bytes an event, and no more events than the chunk would complete
pub output-room : {S : Type 0} (m : Machine S Logged Reply) (s : S) (f : Feed) (xs : List ℕ)
    → length (output_from m s (finished f xs)) ≤ 2 * would_complete f (length xs)
unfolding finished log outputs
output-room m s f [] = omega arith
output-room m s Open (kind ∷ more) =
    let h : length (output_from m s (finished Open (kind ∷ more))) ≤ 2 * would_complete (Half kind) (length more) = output-room m s (Half kind) more in
    omega (arith, h)
output-room m s Shut (x ∷ more) = omega arith
output-room m s (Half kind) (x ∷ more) = by (bad_kind kind) (output-room m (m.after s e) Open more)
  where
    e : Logged
    e = record { kind = kind; byte = x }

    by : (b : Bool) → length (output_from m (m.after s e) (finished Open more)) ≤ 2 * would_complete Open (length more)
        → length (output_from m s (cond b [] (e ∷ finished Open more))) ≤ 2 * would_complete (Half kind) (suc (length more))
    by true h = omega arith
    by false h = omega (arith, h)

-- room for what is left is room for what is left behind a kind, and behind the byte of an event, which takes two bytes
pub room-kind : (f : Feed) (kind long i n room : ℕ) {j : ℕ} → f ≡ Open → i < long → n + 2 * would_complete f (long - i) ≤ room → j ≡ suc i
    → n + 2 * would_complete (Half kind) (long - j) ≤ room
room-kind f kind long i n room {j} e l h k =
    let b : n + 2 * ((0 + (long - i)) / 2) ≤ room = rw e at h in omega (arith, b, k)

pub room-event : (f : Feed) (kind long i n room : ℕ) {j m left : ℕ} → f ≡ Half kind → i < long → n + 2 * would_complete f (long - i) ≤ room → j ≡ suc i
    → m ≡ suc (suc n) → left ≡ room → m + 2 * would_complete Open (long - j) ≤ left
room-event f kind long i n room {j} {m} {left} e l h k p q =
    let b : n + 2 * ((1 + (long - i)) / 2) ≤ room = rw e at h in omega (arith, b, k, p, q)

-- what is left of a whole chunk has its output in front of the buffer, where there is room
pub rest-whole : {S : Type 0} (m : Machine S Logged Reply) (s : S) (f : Feed) (chunk out : List ℕ) → 2 * would_complete f (length chunk) ≤ length out
    → rest m s f chunk out 0 ≡ play_chunk m s f chunk out
unfolding rest
rest-whole m s f chunk out h =
    let written : List ℕ = output_from m s (finished f chunk) in
    let zeros : 0 + length written ≡ length written = zero-add (length written) in
    let front = sets-eq written out 0 (omega (arith, output-room m s f chunk)) ∙ ap (λ (k : ℕ). written ++ drop k out) zeros in
    λ i. record { state = end m s (finished f chunk); feed = feed_after f chunk; out = front i; written = zeros i }

-- ---- the tests

-- a chunk that is taken: the feed is open, and the output has room
pub record Takes (f : Feed) (ram chunk out : ℕ) : Type 0 where
  pub ram-length : ram ≡ ram_length
  pub not_shut : is_shut f ≡ false
  pub room : 2 * would_complete f chunk ≤ out

-- what holds of each refusal and of a chunk that is taken holds of what the tests find
pub by_verdict : (P : Verdict → Type 0) (f : Feed) (ram chunk out : ℕ) → P (failed RamLength) → (is_shut f ≡ true → P (failed FeedShut))
    → P (failed OutputRoom) → (Takes f ram chunk out → P passed) → P (feed_verdict f ram chunk out)
unfolding feed_verdict
by_verdict P f ram chunk out h i j k = by (eqb ram ram_length) (is_shut f) (ltb out (2 * would_complete f chunk)) refl refl refl
  where
    by : (a b c : Bool) → eqb ram ram_length ≡ a → is_shut f ≡ b → ltb out (2 * would_complete f chunk) ≡ c
        → P (refuse_if (not a) RamLength (refuse_if b FeedShut (refuse_if c OutputRoom passed)))
    by false b c p q r = h
    by true true c p q r = i q
    by true false true p q r = j
    by true false false p q r = k (record { ram-length = eqb-true _ _ p; not_shut = q; room = ltb-false _ _ r })

-- where they find nothing it is taken
pub passed_takes : (f : Feed) (ram chunk out : ℕ) → feed_verdict f ram chunk out ≡ passed → Takes f ram chunk out
passed_takes f ram chunk out =
    by_verdict (λ (v : Verdict). v ≡ passed → Takes f ram chunk out) f ram chunk out
    (λ e. absurd (failed-not RamLength e)) (λ s e. absurd (failed-not FeedShut e)) (λ e. absurd (failed-not OutputRoom e)) (λ t e. t)

-- ---- the device's chunk

-- an event that was heard: what is left behind its byte is what was left
pub next-heard : (c : Chip) (chunk : List ℕ) (i kind : ℕ) (out : List ℕ) (n : ℕ) {o : EventOutcome} {e : Event} {out' : List ℕ} {i' n' : ℕ}
    → i < length chunk → bad_kind kind ≡ false → o ≡ hear_event c.device c.ram e → e ≡ event_of kind (get_or chunk i 0)
    → out' ≡ sets out n (output_of o.reply) → i' ≡ suc i → n' ≡ suc (suc n)
    → rest bus_events (chip o.device o.ram) Open (drop i' chunk) out' n' ≡ rest bus_events c (Half kind) (drop i chunk) out n
next-heard c chunk i kind out n l b p e q j k = rw (q, j, k, p, e) (next_event bus_events c chunk i out n l kind b)

-- the value of a chunk that was taken, whatever feed it leaves
pub taken-value : (f : Feed) (n : ℕ) → (taken_reply f n).value ≡ n
taken-value Open n = refl
taken-value (Half kind) n = refl
taken-value Shut n = refl

-- where no kind was bad it is accepted
pub taken-open : (f : Feed) (n : ℕ) → is_shut f ≡ false → accepted n ≡ taken_reply f n
taken-open Open n h = refl
taken-open (Half kind) n h = refl
taken-open Shut n h = absurd (true≢false h)

-- what a chunk leaves, by what is left of it at its start
pub chunk_fed_lem : (c : Chip) (f : Feed) (chunk out : List ℕ) {r : Played Chip} → 2 * would_complete f (length chunk) ≤ length out
    → r ≡ rest bus_events c f chunk out 0 → taken_outcome r ≡ chunk_fed c f chunk out
unfolding chunk_fed
chunk_fed_lem c f chunk out h e = ap taken_outcome (e ∙ rest-whole bus_events c f chunk out h)

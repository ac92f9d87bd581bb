-- A chunk's events on the bytes: an answer's two bytes, a turn of the loop, and the cases of a feed.
-- Assumes nothing.
use Prim.Native.Nat.{ℕ, suc, ◌-◌, ◌*◌, ◌%◌, ◌≤◌, ◌<◌}
use mathlib.Core.Path.{◌≡◌, refl, sym, ap, ap₂, ◌∙◌}
use mathlib.Core.Bool.{Bool, false, cond}
use mathlib.Core.List.{List, [], ◌∷◌}
use native.Mathlib.Omega.{arith}
use borrow.Author.Tests.{le-ltb}
use lib.ListN.{length, get_or}
use lib.Seq.{sets}
use Rattle.refusals.specs.declared.Refusal.{Refusal}
use Rattle.refusals.specs.Refusals.{Reply, refused, Verdict, passed, failed}
use Rattle.bus.specs.declared.Event.{Event}
use Rattle.bus.specs.Bus.{event_of, bad_kind, last_kind}
use Rattle.buffers.specs.Buffers.{Bytes}
use Rattle.device.specs.Device.{hear_event}
use Rattle.capture.specs.declared.Feed.{Feed}
use Rattle.capture.specs.Capture.{output_of, is_shut, held_bytes, held_kind, would_complete, taken_reply, Played, play_chunk}
use Rattle.capture.specs.Places.{kind_at, from}
use Rattle.capture.proofs.Laws.{from-event, from_first, rest-whole}
use Rattle.layout.specs.Layout.{record_length, device_in}
use Rattle.interface.specs.Interface.{answer_of, is_accepted, BusDone, heard_on, bus_on, chunk_max, ChipBytes, lent, bus_calls, FeedDone, not_fed_on, played_on, chunk_fed_on, fed_on_by, verdict_on, feed_on}
use Rattle.layout.specs.FeedLayout.{feed_length, feed_bytes, feed_in}
use Rattle.interface.proofs.Claims.{crossing}
use Rattle.interface.proofs.Laws.{refusal-zero, bus-is, feed-is}
use Rattle.bus_bytes.specs.Steps.{event_on}
use Rattle.bus_bytes.proofs.Events.{bus-heard}
use Rattle.feed_bytes.specs.Turns.{output_in}

-- ---- an answer's two bytes

-- where the value is a byte, the number of an answer holds both
output-is : (r : Reply) (answer : ℕ) → r.value < 256 → answer ≡ answer_of r → output_in answer ≡ output_of r
output-is r answer h e =
    let byte : answer % 256 ≡ r.value = omega arith in
    ap₂ (λ (t : Bool) (v : ℕ). cond t 1 0 ∷ v ∷ []) (ap is_accepted e ∙ refusal-zero r (λ z. omega arith)) byte

-- ---- a turn

-- the byte at a place completes an event that is heard so
pub turn : (xs ram chunk : List ℕ) (held j : ℕ) (out : List ℕ) (n kind : ℕ) → j < length chunk → kind_at chunk held j ≡ kind → kind ≤ last_kind → {o : BusDone} {w : Reply}
    → bus_on xs ram kind (get_or chunk j 0) ≡ o → (hear_event (device_in xs) ram (event_of kind (get_or chunk j 0))).reply ≡ w
    → from bus_calls (lent xs ram) chunk held j out n ≡ from bus_calls (lent o.device o.ram) chunk held (suc (suc j)) (sets out n (output_of w)) (suc (suc n))
turn xs ram chunk held j out n kind l k few p q =
    let x : ℕ = get_or chunk j 0 in
    let o = ap (λ (z : ℕ). bus_on xs ram z x) k ∙ p in
    let w = ap (λ (z : ℕ). (hear_event (device_in xs) ram (event_of z x)).reply) k ∙ q in
    from-event bus_calls (lent xs ram) chunk held j out n l (ap bad_kind k ∙ le-ltb _ _ few)
    ∙ λ i. from bus_calls (lent (o i).device (o i).ram) chunk held (suc (suc j)) (sets out n (output_of (w i))) (suc (suc n))

-- an event that was heard: what is left from the next place on is what was left
pub from-heard : (xs ram chunk : List ℕ) (held i : ℕ) (out : List ℕ) (n : ℕ) {o : BusDone} {out' : List ℕ} {kind i' n' : ℕ} {e : Event}
    → length xs ≡ record_length → length ram ≡ 1024 → Bytes xs → Bytes ram → i < length chunk → kind ≡ kind_at chunk held i → kind ≤ last_kind
    → e ≡ event_of kind (get_or chunk i 0) → o ≡ event_on xs ram e → out' ≡ sets out n (output_in o.answer) → i' ≡ suc (suc i) → n' ≡ suc (suc n)
    → from bus_calls (lent o.device o.ram) chunk held i' out' n' ≡ from bus_calls (lent xs ram) chunk held i out n
unfolding heard_on hear_event
from-heard xs ram chunk held i out n {o} {out'} {kind} {e} l r h k m p b w q u j v =
    let x : ℕ = get_or chunk i 0 in
    let on : o ≡ bus_on xs ram kind x = bus-heard xs ram kind x l b e o r w q in
    let two : output_in o.answer ≡ output_of (hear_event (device_in xs) ram (event_of kind x)).reply =
    output-is _ _ (crossing.value-bus xs ram kind x h k) (ap (λ (r : BusDone). r.answer) (on ∙ sym (bus-is xs ram kind x l b)))
    in
    let written = u ∙ ap (sets out n) two in
    (λ z. from bus_calls (lent o.device o.ram) chunk held (j z) (written z) (v z))
    ∙ sym (turn xs ram chunk held i out n kind m (sym p) b (sym on) refl)

-- what a chunk's events leave, by what is left of it at its first place
pub all_taken : (c : ChipBytes) (f : Feed) (chunk out : List ℕ) (kind bytes : ℕ) {r : Played ChipBytes} → kind ≡ held_kind f → bytes ≡ held_bytes f → is_shut f ≡ false
    → 2 * would_complete f (length chunk) ≤ length out → r ≡ from bus_calls c chunk kind (1 - bytes) out 0 → r ≡ play_chunk bus_calls c f chunk out
all_taken c f chunk out kind bytes k b s h e = e ∙ from_first bus_calls c f chunk out kind bytes k b s ∙ rest-whole bus_calls c f chunk out h

-- ---- a feed

-- let through by the interface's own tests: by the tests of the feed
module _ (xs fs ram chunk out : List ℕ) (h : length xs ≡ record_length) (k : length fs ≡ feed_length) (l : length chunk ≤ chunk_max) where
  pub feed-refused : {r : Refusal} {a : ℕ} → verdict_on fs ram chunk out ≡ failed r → a ≡ answer_of (refused r) → not_fed_on xs fs ram out a ≡ feed_on xs fs ram chunk out
  unfolding fed_on_by
  feed-refused v p =
      ap (not_fed_on xs fs ram out) p ∙ ap (λ (v : Verdict). fed_on_by v xs fs ram chunk out) (sym v) ∙ feed-is xs h fs ram chunk out k l

  -- taken: what its events leave, and the feed's record written anew
  pub feed-taken : {p : Played ChipBytes} {gs : List ℕ} {a : ℕ} → verdict_on fs ram chunk out ≡ passed → p ≡ play_chunk bus_calls (lent xs ram) (feed_in fs) chunk out
      → gs ≡ feed_bytes p.feed → a ≡ answer_of (taken_reply p.feed p.written)
      → ◌≡◌ {A = FeedDone} (record { device = p.state.device; feed = gs; ram = p.state.ram; out = p.out; answer = a }) (feed_on xs fs ram chunk out)
  unfolding fed_on_by chunk_fed_on
  feed-taken {p = p} v e g q =
      (λ i. record { device = p.state.device; feed = g i; ram = p.state.ram; out = p.out; answer = q i })
      ∙ ap played_on e
      ∙ ap (λ (v : Verdict). fed_on_by v xs fs ram chunk out) (sym v)
      ∙ feed-is xs h fs ram chunk out k l

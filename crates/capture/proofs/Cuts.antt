-- The proof that a cut does not matter (specs/Cuts.antt): two chunks do what one chunk of both does, whatever the record of the feed is.
-- Assumes nothing.
use Prim.Native.Nat.{ℕ}
use mathlib.Core.Path.{◌≡◌, refl, sym, ap, ap₂, ◌∙◌}
use mathlib.Core.Bool.{Bool, true, false, cond, true≢false}
use mathlib.Core.List.{List, [], ◌∷◌, ◌++◌, append-nil}
use lib.ListN.{length, take}
use lib.Seq.{take-append_seam}
use Rattle.runs.specs.Runs.{Machine, Entry, log, end, AsMade}
use Rattle.runs.proofs.Laws.{end-append, log-append}
use Rattle.refusals.specs.declared.Refusal.TheVariants.{FeedShut}
use Rattle.refusals.specs.Refusals.{Reply, Verdict}
use Rattle.bus.specs.Bus.{bad_kind}
use Rattle.capture.specs.declared.Feed.{Feed}
use Rattle.capture.specs.declared.Feed.TheVariants.{Open, Half, Shut}
use Rattle.capture.specs.Capture.{Logged, finished, feed_after, output_of, outputs, output_from, bus_events, is_shut, taken_reply, FeedOutcome, not_fed, chunk_fed, feed_by, feed_chunk}
use Rattle.capture.specs.Cuts.{Chunk, ChunkAnswer, Feeding, feeds, written_in, joined, whole, Fits, SameCut, SameCuts, AnyCut}
use Rattle.capture.proofs.Laws.{by_verdict, taken-value}

-- ---- a chunk behind another

pub shut_is : (f : Feed) → is_shut f ≡ true → f ≡ Shut
shut_is Open h = absurd (true≢false (sym h))
shut_is (Half kind) h = absurd (true≢false (sym h))
shut_is Shut h = refl

pub shut_finishes : (xs : List ℕ) → finished Shut xs ≡ []
unfolding finished
shut_finishes [] = refl
shut_finishes (x ∷ xs) = refl

pub shut_stays : (xs : List ℕ) → feed_after Shut xs ≡ Shut
unfolding feed_after
shut_stays [] = refl
shut_stays (x ∷ xs) = refl

finished-append : (f : Feed) (xs ys : List ℕ) → finished f (xs ++ ys) ≡ finished f xs ++ finished (feed_after f xs) ys
unfolding finished feed_after
finished-append f [] ys = refl
finished-append Open (x ∷ xs) ys = finished-append (Half x) xs ys
finished-append Shut (x ∷ xs) ys = sym (shut_finishes ys)
finished-append (Half kind) (x ∷ xs) ys = by (bad_kind kind) (finished-append Open xs ys)
  where
    e : Logged
    e = record { kind = kind; byte = x }

    by : (b : Bool) → finished Open (xs ++ ys) ≡ finished Open xs ++ finished (feed_after Open xs) ys
        → cond b [] (e ∷ finished Open (xs ++ ys)) ≡ cond b [] (e ∷ finished Open xs) ++ finished (cond b Shut (feed_after Open xs)) ys
    by true h = sym (shut_finishes ys)
    by false h = ap (λ (l : List Logged). e ∷ l) h

pub after-append : (f : Feed) (xs ys : List ℕ) → feed_after f (xs ++ ys) ≡ feed_after (feed_after f xs) ys
unfolding feed_after
after-append f [] ys = refl
after-append Open (x ∷ xs) ys = after-append (Half x) xs ys
after-append Shut (x ∷ xs) ys = sym (shut_stays ys)
after-append (Half kind) (x ∷ xs) ys = by (bad_kind kind) (after-append Open xs ys)
  where
    by : (b : Bool) → feed_after Open (xs ++ ys) ≡ feed_after (feed_after Open xs) ys
        → cond b Shut (feed_after Open (xs ++ ys)) ≡ feed_after (cond b Shut (feed_after Open xs)) ys
    by true h = sym (shut_stays ys)
    by false h = h

outputs-append : (xs ys : List (Entry Logged Reply)) → outputs (xs ++ ys) ≡ outputs xs ++ outputs ys
unfolding outputs
outputs-append [] ys = refl
outputs-append (x ∷ xs) ys = ap (λ (l : List ℕ). output_of x.answer ++ l) (outputs-append xs ys)

module _ {S : Type 0} (m : Machine S Logged Reply) (s : S) (f : Feed) (xs ys : List ℕ) where
  -- the state after both, and the output of both
  pub end_both : end m s (finished f (xs ++ ys)) ≡ end m (end m s (finished f xs)) (finished (feed_after f xs) ys)
  end_both = ap (end m s) (finished-append f xs ys) ∙ end-append m s (finished f xs) (finished (feed_after f xs) ys)

  pub output_both : output_from m s (finished f (xs ++ ys)) ≡ output_from m s (finished f xs) ++ output_from m (end m s (finished f xs)) (finished (feed_after f xs) ys)
  output_both =
      ap (output_from m s) (finished-append f xs ys)
      ∙ ap outputs (log-append m s (finished f xs) (finished (feed_after f xs) ys))
      ∙ outputs-append (log m s (finished f xs)) _

-- ---- chunks

-- feeds of which each that is good leaves and writes what its bytes alone say, and two chunks the same as one chunk of both
module _ {S : Type 0} (m : Machine S Chunk ChunkAnswer) (Good : Reply → Type 0) (next : S → List ℕ → S) (out : S → List ℕ → List ℕ)
    (Next-both : (s : S) (xs ys : List ℕ) → next s (xs ++ ys) ≡ next (next s xs) ys)
    (out_Both : (s : S) (xs ys : List ℕ) → out s (xs ++ ys) ≡ out s xs ++ out (next s xs) ys)
    (leaves : (s : S) (c : Chunk) → Good (m.answer s c).reply → m.after s c ≡ next s c.bytes)
    (writes : (s : S) (c : Chunk) → Good (m.answer s c).reply → written_in (m.answer s c) ≡ out s c.bytes) where
  one : (c : Chunk) → whole (c ∷ []) ≡ c.bytes
  unfolding whole
  one c = append-nil c.bytes

  run_leaves : (s : S) (c : Chunk) (cs : List Chunk) → AsMade (λ u x. Good (m.answer u x).reply) m s (c ∷ cs) → end m s (c ∷ cs) ≡ next s (whole (c ∷ cs))
  unfolding AsMade end
  run_leaves s c [] h = leaves s c h.0 ∙ ap (next s) (sym (one c))
  run_leaves s c (d ∷ cs) h =
      run_leaves (m.after s c) d cs h.1
      ∙ ap (λ (u : S). next u (whole (d ∷ cs))) (leaves s c h.0)
      ∙ (unfold whole in sym (Next-both s c.bytes (whole (d ∷ cs))))

  run_writes : (s : S) (c : Chunk) (cs : List Chunk) → AsMade (λ u x. Good (m.answer u x).reply) m s (c ∷ cs) → joined (log m s (c ∷ cs)) ≡ out s (whole (c ∷ cs))
  unfolding AsMade log joined
  run_writes s c [] h = append-nil _ ∙ writes s c h.0 ∙ ap (out s) (sym (one c))
  run_writes s c (d ∷ cs) h =
      ap₂ (λ (a b : List ℕ). a ++ b) (writes s c h.0) (run_writes (m.after s c) d cs h.1)
      ∙ ap (λ (u : S). out s c.bytes ++ out u (whole (d ∷ cs))) (leaves s c h.0)
      ∙ (unfold whole in sym (out_Both s c.bytes (whole (d ∷ cs))))

  pub same-cut : (s : S) (c : Chunk) (cs : List Chunk) (room : List ℕ) → AsMade (λ u x. Good (m.answer u x).reply) m s (c ∷ cs)
      → Good (m.answer s (record { bytes = whole (c ∷ cs); out = room })).reply → SameCut m s (c ∷ cs) room
  same-cut s c cs room h k =
      record {
        outputs = run_writes s c cs h ∙ sym (writes s _ k);
        state = run_leaves s c cs h ∙ sym (leaves s _ k);
      }

  pub two_cuts : (s : S) (c d : Chunk) (cs ds : List Chunk) → whole (c ∷ cs) ≡ whole (d ∷ ds)
      → AsMade (λ u x. Good (m.answer u x).reply) m s (c ∷ cs) → AsMade (λ u x. Good (m.answer u x).reply) m s (d ∷ ds)
      → SameCuts m s (c ∷ cs) (d ∷ ds)
  two_cuts s c d cs ds e h k =
      record {
        outputs = run_writes s c cs h ∙ ap (out s) e ∙ sym (run_writes s d ds k);
        state = run_leaves s c cs h ∙ ap (next s) e ∙ sym (run_leaves s d ds k);
      }

-- ---- the device's feeds

next : Feeding → List ℕ → Feeding
next s xs = record { chip = end bus_events s.chip (finished s.feed xs); feed = feed_after s.feed xs }

written : Feeding → List ℕ → List ℕ
written s xs = output_from bus_events s.chip (finished s.feed xs)

-- a feed that fits leaves and writes what its bytes say, also where it is shut
record Taken (s : Feeding) (c : Chunk) (o : FeedOutcome) : Type 0 where
  leaves : record { chip = o.chip; feed = o.feed } ≡ next s c.bytes
  writes : take o.reply.value o.out ≡ written s c.bytes

shut_taken : (s : Feeding) (c : Chunk) → is_shut s.feed ≡ true → Taken s c (not_fed s.chip s.feed c.out FeedShut)
unfolding next written end log outputs
shut_taken s c h =
    let f : s.feed ≡ Shut = shut_is s.feed h in
    record { leaves = rw (f, shut_finishes c.bytes, shut_stays c.bytes); writes = rw (f, shut_finishes c.bytes) }

-- the first bytes, as many as the value says
seam : (f : Feed) (w out : List ℕ) → take (taken_reply f (length w)).value (w ++ out) ≡ w
seam f w out = rw (taken-value f (length w)) (take-append_seam w out)

taken-fits : (s : Feeding) (c : Chunk) → Fits (feeds.answer s c).reply → Taken s c (feed_chunk s.chip s.feed c.bytes c.out)
unfolding feed_chunk feed_by
taken-fits s c =
    by_verdict (λ (v : Verdict). Fits (feed_by v s.chip s.feed c.bytes c.out).reply → Taken s c (feed_by v s.chip s.feed c.bytes c.out))
    s.feed (length s.chip.ram) (length c.bytes) (length c.out)
    (λ h. absurd (h.ram refl))
    (λ shut h. shut_taken s c shut)
    (λ h. absurd (h.room refl))
    (λ taken h. unfold chunk_fed next written in record { leaves = refl; writes = seam (feed_after s.feed c.bytes) (output_from bus_events s.chip (finished s.feed c.bytes)) _ })

pub any_cut : AnyCut
any_cut s c cs room h k =
    same-cut feeds Fits next written
    (λ s xs ys. unfold next in λ i. record { chip = end_both bus_events s.chip s.feed xs ys i; feed = after-append s.feed xs ys i })
    (λ s xs ys. unfold next written in output_both bus_events s.chip s.feed xs ys)
    (λ s c f. (taken-fits s c f).leaves)
    (λ s c f. (taken-fits s c f).writes)
    s c cs room h k

-- The proof that a cut does not matter over bytes (specs/Cuts.antt): a feed leaves and writes what its bytes say, and two chunks do what
-- one chunk of both does.
-- Assumes nothing.
use Prim.Native.Nat.{ℕ}
use mathlib.Core.Path.{◌≡◌, refl, sym, ap, ◌∙◌}
use mathlib.Core.Bool.{true, cond}
use mathlib.Core.List.{List, ◌++◌}
use lib.ListN.{length, take}
use lib.Seq.{take_at}
use Rattle.runs.specs.Runs.{log, end}
use Rattle.refusals.specs.declared.Refusal.TheVariants.{FeedShut}
use Rattle.refusals.specs.Refusals.{refused, Verdict}
use Rattle.capture.specs.declared.Feed.{Feed}
use Rattle.capture.specs.declared.Feed.TheVariants.{Open, Half, Shut}
use Rattle.capture.specs.Capture.{finished, feed_after, outputs, output_from, is_shut}
use Rattle.capture.specs.Cuts.{Chunk}
use Rattle.capture.proofs.Laws.{by_verdict}
use Rattle.capture.proofs.Cuts.{shut_is, shut_finishes, shut_stays, after-append, end_both, output_both, same-cut, two_cuts}
use Rattle.layout.specs.FeedLayout.{feed_bytes, feed_in}
use Rattle.layout.proofs.Laws.{feed-back}
use Rattle.interface.specs.Interface.{answer_of, reply_in, ChipBytes, bus_calls, FeedDone, not_fed_on, chunk_fed_on, fed_on_by, lengths_taken, feed_on}
use Rattle.interface.specs.Cuts.{feeds_on, FitsBytes, AnyCutBytes, TwoCutsBytes}
use Rattle.interface.specs.OnePage.{State, lent_in}
use Rattle.interface.proofs.Laws.{if_taken, feed_tests}
use Rattle.interface.proofs.Crossing.{written-value}

-- ---- the feed's record after a chunk

-- one that is shut stays as it is, any other is written anew
left : List ℕ → List ℕ → List ℕ
left fs xs = cond (is_shut (feed_in fs)) fs (feed_bytes (feed_after (feed_in fs) xs))

left_in : (fs xs : List ℕ) → feed_in (left fs xs) ≡ feed_after (feed_in fs) xs
unfolding left
left_in fs xs = by (feed_in fs) refl
  where
    by : (f : Feed) → feed_in fs ≡ f → feed_in (cond (is_shut f) fs (feed_bytes (feed_after f xs))) ≡ feed_after f xs
    by Open p = feed-back (feed_after Open xs)
    by (Half kind) p = feed-back (feed_after (Half kind) xs)
    by Shut p = p ∙ sym (shut_stays xs)

left_both : (fs xs ys : List ℕ) → left fs (xs ++ ys) ≡ left (left fs xs) ys
unfolding left
left_both fs xs ys = by (feed_in fs) ∙ ap (λ (g : Feed). cond (is_shut g) (left fs xs) (feed_bytes (feed_after g ys))) (sym (left_in fs xs))
  where
    -- the second chunk may find the feed shut
    again : (g : Feed) → feed_bytes (feed_after g ys) ≡ cond (is_shut g) (feed_bytes g) (feed_bytes (feed_after g ys))
    again Open = refl
    again (Half kind) = refl
    again Shut = ap feed_bytes (shut_stays ys)

    by : (f : Feed) → cond (is_shut f) fs (feed_bytes (feed_after f (xs ++ ys)))
        ≡ cond (is_shut (feed_after f xs)) (cond (is_shut f) fs (feed_bytes (feed_after f xs))) (feed_bytes (feed_after (feed_after f xs) ys))
    by Open = ap feed_bytes (after-append Open xs ys) ∙ again (feed_after Open xs)
    by (Half kind) = ap feed_bytes (after-append (Half kind) xs ys) ∙ again (feed_after (Half kind) xs)
    by Shut = rw (shut_stays xs)

-- ---- what a chunk leaves and writes

-- after the events of these bytes
abbrev ended : State → List ℕ → ChipBytes
ended s xs = end bus_calls (lent_in s) (finished (feed_in s.feed) xs)

next : State → List ℕ → State
next s xs = record { device = (ended s xs).device; feed = left s.feed xs; ram = (ended s xs).ram }

written : State → List ℕ → List ℕ
written s xs = output_from bus_calls (lent_in s) (finished (feed_in s.feed) xs)

next_both : (s : State) (xs ys : List ℕ) → next s (xs ++ ys) ≡ next (next s xs) ys
unfolding next
next_both s xs ys =
    let e : ended s (xs ++ ys) ≡ ended (next s xs) ys =
    end_both bus_calls (lent_in s) (feed_in s.feed) xs ys ∙ ap (λ (g : Feed). end bus_calls (ended s xs) (finished g ys)) (sym (left_in s.feed xs)) in
    λ i. record { device = (e i).device; feed = left_both s.feed xs ys i; ram = (e i).ram }

written_both : (s : State) (xs ys : List ℕ) → written s (xs ++ ys) ≡ written s xs ++ written (next s xs) ys
unfolding next written
written_both s xs ys =
    output_both bus_calls (lent_in s) (feed_in s.feed) xs ys
    ∙ ap (λ (g : Feed). written s xs ++ output_from bus_calls (ended s xs) (finished g ys)) (sym (left_in s.feed xs))

-- ---- a feed that fits leaves and writes what its bytes say, also where it is shut

record Fitted (s : State) (c : Chunk) (r : FeedDone) : Type 0 where
  leaves : ◌≡◌ {A = State} (record { device = r.device; feed = r.feed; ram = r.ram }) (next s c.bytes)
  writes : take (reply_in r.answer).value r.out ≡ written s c.bytes

shut_fitted : (s : State) (c : Chunk) → is_shut (feed_in s.feed) ≡ true
    → Fitted s c (not_fed_on s.device s.feed s.ram c.out (answer_of (refused FeedShut)))
unfolding next written left end log outputs
shut_fitted s c h =
    let f : feed_in s.feed ≡ Shut = shut_is _ h in
    record { leaves = rw (f, shut_finishes c.bytes); writes = rw (f, shut_finishes c.bytes) }

fitted : (s : State) (c : Chunk) → FitsBytes (feeds_on.answer s c).reply → Fitted s c (feed_on s.device s.feed s.ram c.bytes c.out)
unfolding feed_on fed_on_by
fitted s c =
    let f : Feed = feed_in s.feed in
    if_taken (λ (r : FeedDone). FitsBytes (reply_in r.answer) → Fitted s c r) (lengths_taken s.device s.feed c.bytes) _ _
    (λ t.
    by_verdict (λ (v : Verdict).
    let r : FeedDone = fed_on_by v s.device s.feed s.ram c.bytes c.out in FitsBytes (reply_in r.answer) → Fitted s c r)
    f (length s.ram) (length c.bytes) (length c.out)
    (λ h. absurd (h.fits.ram refl))
    (λ shut h. shut_fitted s c shut)
    (λ h. absurd (h.fits.room refl))
    (λ takes h. unfold chunk_fed_on next written left in
    record {
      leaves = rw takes.not_shut;
      writes = take_at (written s c.bytes) _ _ (sym (written-value (lent_in s) f c.bytes (feed_tests s.device s.feed c.bytes t).2));
    }))
    (λ h. absurd (h.taken refl))

pub any_cut-bytes : AnyCutBytes
any_cut-bytes s c cs room h k =
    same-cut feeds_on FitsBytes next written next_both written_both (λ s c f. (fitted s c f).leaves) (λ s c f. (fitted s c f).writes) s c cs room h k

pub two_cuts_bytes : TwoCutsBytes
two_cuts_bytes s c d cs ds e h k =
    two_cuts feeds_on FitsBytes next written next_both written_both (λ s c f. (fitted s c f).leaves) (λ s c f. (fitted s c f).writes) s c d cs ds e h k

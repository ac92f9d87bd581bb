-- The laws of runs: one list behind another; what every call keeps holds at the end; a machine whose states are read as another's;
-- events that can each be made after another call can all be; and events that can each be made after any other call can be made after
-- all of them, since one is pushed past each later call, one at a time.
-- Assumes nothing.
use Prim.Native.Nat.{ℕ, ◌+◌}
use mathlib.Core.Path.{◌≡◌, refl, sym, ap, ap₂, ◌∙◌, subst}
use mathlib.Core.Bool.{Bool, true, false, not, cond}
use mathlib.Core.List.{List, [], ◌∷◌, ◌++◌}
use native.Mathlib.Nat.{add-zero, add_assoc}
use Rattle.runs.specs.Runs.{Machine, Entry, log, end, total, AsMade, select, events_of, others_of, SameRuns}

-- ---- a list of calls behind another

pub end-append : {S C A : Type 0} (m : Machine S C A) (s : S) (cs ds : List C) → end m s (cs ++ ds) ≡ end m (end m s cs) ds
unfolding end
end-append m s [] ds = refl
end-append m s (c ∷ cs) ds = end-append m (m.after s c) cs ds

pub log-append : {S C A : Type 0} (m : Machine S C A) (s : S) (cs ds : List C) → log m s (cs ++ ds) ≡ log m s cs ++ log m (end m s cs) ds
unfolding log end
log-append m s [] ds = refl
log-append {C = C} {A = A} m s (c ∷ cs) ds =
    ap (λ (l : List (Entry C A)). (record { call = c; answer = m.answer s c }) ∷ l) (log-append m (m.after s c) cs ds)

-- ---- what holds of each call as it is made

pub as_made-map : {S C A : Type 0} (P Q : S → C → Type 0) (m : Machine S C A) → ((s : S) (c : C) → P s c → Q s c)
    → (s : S) (cs : List C) → AsMade P m s cs → AsMade Q m s cs
unfolding AsMade
as_made-map P Q m f s [] h = tt
as_made-map P Q m f s (c ∷ cs) h = (f s c h.0, as_made-map P Q m f (m.after s c) cs h.1)

-- what every call keeps holds at the end
pub kept_by_each : {S C A : Type 0} (P : S → C → Type 0) (m : Machine S C A) (I : S → Type 0) → ((s : S) (c : C) → P s c → I s → I (m.after s c))
    → (s : S) (cs : List C) → AsMade P m s cs → I s → I (end m s cs)
unfolding AsMade end
kept_by_each P m I f s [] h i = i
kept_by_each P m I f s (c ∷ cs) h i = kept_by_each P m I f (m.after s c) cs h.1 (f s c h.0 i)

-- and what is true of a number, if each call brings it on by a number of its own, is true of their total
pub counted : {S C A : Type 0} (P : S → C → Type 0) (m : Machine S C A) (f : Entry C A → ℕ) (I : ℕ → S → Type 0)
    → ((n : ℕ) (s : S) (c : C) → P s c → I n s → I (n + f (record { call = c; answer = m.answer s c })) (m.after s c))
    → (n : ℕ) (s : S) (cs : List C) → AsMade P m s cs → I n s → I (n + total f (log m s cs)) (end m s cs)
unfolding log end total AsMade
counted P m f I g n s [] h i = subst (λ (k : ℕ). I k s) (sym (add-zero n)) i
counted P m f I g n s (c ∷ cs) h i =
    subst (λ (k : ℕ). I k (end m (m.after s c) cs)) (add_assoc n _ (total f (log m (m.after s c) cs)))
    (counted P m f I g (n + f (record { call = c; answer = m.answer s c })) (m.after s c) cs h.1 (g n s c h.0 i))

-- ---- a machine whose states are read as another's

-- if each call of which P holds leaves what is read as what the other machine's call leaves, so does a run; and if it answers the same,
-- so does a run
module _ {S T C A : Type 0} (P : S → C → Type 0) (m : Machine S C A) (n : Machine T C A) (reads : S → T)
    (leaves : (s : S) (c : C) → P s c → reads (m.after s c) ≡ n.after (reads s) c) where
  pub end_read : (s : S) (cs : List C) → AsMade P m s cs → reads (end m s cs) ≡ end n (reads s) cs
  unfolding AsMade end
  end_read s [] p = refl
  end_read s (c ∷ cs) p = end_read (m.after s c) cs p.1 ∙ ap (λ (t : T). end n t cs) (leaves s c p.0)

  pub log-read : ((s : S) (c : C) → m.answer s c ≡ n.answer (reads s) c) → (s : S) (cs : List C) → AsMade P m s cs → log m s cs ≡ log n (reads s) cs
  unfolding AsMade log
  log-read same s [] p = refl
  log-read same s (c ∷ cs) p =
      ap₂ (λ (y : A) (l : List (Entry C A)). (record { call = c; answer = y }) ∷ l)
      (same s c) (log-read same (m.after s c) cs p.1 ∙ ap (λ (t : T). log n t cs) (leaves s c p.0))

-- ---- events and another call

-- an event of which P holds, and a call of another machine on the same states: both answer and leave the same in either order, and P
-- still holds after that call
pub record Apart {S E C A B : Type 0} (P : S → E → Type 0) (n : Machine S E B) (m : Machine S C A) (s : S) (e : E) (c : C) : Type 0 where
  pub other : m.answer (n.after s e) c ≡ m.answer s c
  pub own : n.answer (m.after s c) e ≡ n.answer s e
  pub either_way : m.after (n.after s e) c ≡ n.after (m.after s c) e
  pub still : P (m.after s c) e

-- events in a row, of each of which P holds as it is made, and that call
pub record AllApart {S E C A B : Type 0} (P : S → E → Type 0) (n : Machine S E B) (m : Machine S C A) (s : S) (es : List E) (c : C) : Type 0 where
  pub other : m.answer (end n s es) c ≡ m.answer s c
  pub own : log n (m.after s c) es ≡ log n s es
  pub either_way : m.after (end n s es) c ≡ end n (m.after s c) es
  pub still : AsMade P n (m.after s c) es

-- if each event can be made after that call, so can events in a row: they are pushed past it one at a time
pub all_apart : {S E C A B : Type 0} (P : S → E → Type 0) (n : Machine S E B) (m : Machine S C A) (c : C)
    → ((s : S) (e : E) → P s e → Apart P n m s e c) → (s : S) (es : List E) → AsMade P n s es → AllApart P n m s es c
unfolding log end AsMade
all_apart P n m c apart s [] p = record { other = refl; own = refl; either_way = refl; still = tt }
all_apart {S} {E} {C} {A} {B} P n m c apart s (e ∷ es) p =
    let a : Apart P n m s e c = apart s e p.0 in
    let ih : AllApart P n m (n.after s e) es c = all_apart P n m c apart (n.after s e) es p.1 in
    record {
      other = ih.other ∙ a.other;
      own =
          ap₂ (λ (y : B) (l : List (Entry E B)). (record { call = e; answer = y }) ∷ l)
          a.own (ap (λ (u : S). log n u es) (sym a.either_way) ∙ ih.own);
      either_way = ih.either_way ∙ ap (λ (u : S). end n u es) a.either_way;
      still = (a.still, subst (λ (u : S). AsMade P n u es) a.either_way ih.still);
    }

-- ---- events made last

module _ {S C A : Type 0} (P : S → C → Type 0) (m : Machine S C A)
    (apart : (s : S) (e c : C) → m.is_event e ≡ true → m.is_event c ≡ false → P s e → Apart P m m s e c) where
  -- a list with no event in it
  data Others : List C → Type 0 where
    none : Others []
    more : {c : C} {os : List C} → m.is_event c ≡ false → Others os → Others (c ∷ os)

  others_of_lem : (cs : List C) → Others (others_of m cs)
  unfolding select
  others_of_lem [] = none
  others_of_lem (c ∷ cs) = by (m.is_event c) refl (others_of_lem cs)
    where
      by : (t : Bool) → m.is_event c ≡ t → Others (others_of m cs) → Others (cond (not t) (c ∷ others_of m cs) (others_of m cs))
      by true e os = os
      by false e os = more e os

  -- the event made before them or after them: the same answers, the same end, and the event's own answer
  record Late (s : S) (e : C) (os : List C) : Type 0 where
    answers : log m (m.after s e) os ≡ log m s os
    ends : end m (m.after s e) os ≡ m.after (end m s os) e
    own : m.answer (end m s os) e ≡ m.answer s e

  made_late : (s : S) (e : C) {os : List C} → Others os → m.is_event e ≡ true → P s e → Late s e os
  unfolding log end
  made_late s e none t p = record { answers = refl; ends = refl; own = refl }
  made_late s e (more {c = c} {os = os} o rest) t p =
      let a : Apart P m m s e c = apart s e c t o p in
      let ih : Late (m.after s c) e os = made_late (m.after s c) e rest t a.still in
      record {
        answers =
            ap₂ (λ (x : A) (u : S). (record { call = c; answer = x }) ∷ log m u os) a.other a.either_way
            ∙ ap (λ (l : List (Entry C A)). (record { call = c; answer = m.answer s c }) ∷ l) ih.answers;
        ends = ap (λ (u : S). end m u os) a.either_way ∙ ih.ends;
        own = ih.own ∙ a.own;
      }

  -- one call more, an event or another
  event_first : (s : S) (e : C) (cs : List C) → m.is_event e ≡ true → P s e → SameRuns m (m.after s e) cs → SameRuns m s (e ∷ cs)
  unfolding log end select
  event_first s e cs t p ih =
      let l : Late s e (others_of m cs) = made_late s e (others_of_lem cs) t p in
      record {
        others = rw t (ih.others ∙ l.answers);
        events =
            rw t
            (ap₂ (λ (x : A) (es : List (Entry C A)). (record { call = e; answer = x }) ∷ es)
            (sym l.own) (ih.events ∙ ap (λ (u : S). log m u (events_of m cs)) l.ends));
        state = rw t (ih.state ∙ ap (λ (u : S). end m u (events_of m cs)) l.ends);
      }

  other_first : (s : S) (c : C) (cs : List C) → m.is_event c ≡ false → SameRuns m (m.after s c) cs → SameRuns m s (c ∷ cs)
  unfolding log end select
  other_first s c cs t ih =
      record {
        others = rw t (ap (λ (l : List (Entry C A)). (record { call = c; answer = m.answer s c }) ∷ l) ih.others);
        events = rw t ih.events;
        state = rw t ih.state;
      }

  pub reordered : (s : S) (cs : List C) → AsMade P m s cs → SameRuns m s cs
  unfolding AsMade
  reordered s [] q = unfold log end select in record { others = refl; events = refl; state = refl }
  reordered s (c ∷ cs) q = by (m.is_event c) refl (reordered (m.after s c) cs q.1)
    where
      by : (t : Bool) → m.is_event c ≡ t → SameRuns m (m.after s c) cs → SameRuns m s (c ∷ cs)
      by true t ih = event_first s c cs t q.0 ih
      by false t ih = other_first s c cs t ih

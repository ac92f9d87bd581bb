-- Runs of a list of calls, each on the state that the call before it left; and the run that makes the list's events last.
-- Assumes nothing.
use Rattle.std.specs.Prelude.{ℕ, ◌+◌, ◌≡◌, Bool, not, cond, List, [], ◌∷◌}

-- what can be called: what a call answers and what it leaves, and which calls are events
pub record Machine (S C A : Type 0) : Type 0 where
  pub answer : S → C → A
  pub after : S → C → S
  pub is_event : C → Bool

-- a call with its answer
pub record Entry (C A : Type 0) : Type 0 where
  pub call : C
  pub answer : A

-- each call of the run with its answer
unfoldable pub log : {S C A : Type 0} → Machine S C A → S → List C → List (Entry C A)
log m s [] = []
log m s (c ∷ cs) = (record { call = c; answer = m.answer s c }) ∷ log m (m.after s c) cs

-- the state after the last call
unfoldable pub end : {S C A : Type 0} → Machine S C A → S → List C → S
end m s [] = s
end m s (c ∷ cs) = end m (m.after s c) cs

-- a number of each call of a run and its answer, added up
unfoldable pub total : {C A : Type 0} → (Entry C A → ℕ) → List (Entry C A) → ℕ
total f [] = 0
total f (x ∷ xs) = f x + total f xs

-- P holds of each call as it is made
unfoldable pub AsMade : {S C A : Type 0} → (S → C → Type 0) → Machine S C A → S → List C → Type 0
AsMade P m s [] = Unit
AsMade P m s (c ∷ cs) = P s c × AsMade P m (m.after s c) cs

-- those of a list that pass a test, in their order
unfoldable pub select : {A : Type 0} → (A → Bool) → List A → List A
select p [] = []
select p (x ∷ xs) = cond (p x) (x ∷ select p xs) (select p xs)

-- the list's events, and its other calls, in their order
abbrev pub events_of : {S C A : Type 0} → Machine S C A → List C → List C
events_of m cs = select m.is_event cs

abbrev pub others_of : {S C A : Type 0} → Machine S C A → List C → List C
others_of m cs = select (λ c. not (m.is_event c)) cs

-- the list's own run agrees with the second run: all other calls first, then all events
pub record SameRuns {S C A : Type 0} (m : Machine S C A) (s : S) (cs : List C) : Type 0 where
  -- the answer of each other call
  pub others : select (λ x. not (m.is_event x.call)) (log m s cs) ≡ log m s (others_of m cs)
  -- the answer of each event
  pub events : select (λ x. m.is_event x.call) (log m s cs) ≡ log m (end m s (others_of m cs)) (events_of m cs)
  -- the state after the last call
  pub state : end m s cs ≡ end m (end m s (others_of m cs)) (events_of m cs)

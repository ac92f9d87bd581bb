-- What a reading program can do over any RAM: the cells that it can read and in which role, and the answers that it can give.
-- Assumes nothing.
use Prim.Native.Nat.{ℕ}
use mathlib.Core.Path.{◌≡◌, refl, sym, subst, subst₂}
use mathlib.Core.Bool.{Bool, true, false, cond, ◌||◌, false≢true}
use mathlib.Core.List.{List, [], ◌∷◌}
use lib.Dec.{T, eqb, eqb→eq}
use lib.ListN.{get_or}
use Rattle.facts.proofs.Tests.{or_cases}
use Rattle.cells.specs.Reading.{Role, descriptor, code, slice, same_role, Reading, done, read, bind, fmap, value, cells, cells_as, among}
use Rattle.cells.proofs.Roles.{by_role}

-- every read has P, of its role and its cell, and every answer has Q
unfoldable pub Only : {A : Type 0} → (Role → ℕ → Type 0) → (A → Type 0) → Reading A → Type 0
Only P Q (done a) = Q a
Only P Q (read r c k) = P r c × ((x : ℕ) → Only P Q (k x))

same_role_lem : (q r : Role) → same_role q r ≡ true → q ≡ r
unfolding same_role
same_role_lem descriptor descriptor e = refl
same_role_lem descriptor code e = absurd (false≢true e)
same_role_lem descriptor slice e = absurd (false≢true e)
same_role_lem code descriptor e = absurd (false≢true e)
same_role_lem code code e = refl
same_role_lem code slice e = absurd (false≢true e)
same_role_lem slice descriptor e = absurd (false≢true e)
same_role_lem slice code e = absurd (false≢true e)
same_role_lem slice slice e = refl

-- ---- over one RAM

module _ {A : Type 0} (P : Role → ℕ → Type 0) (Q : A → Type 0) (ram : List ℕ) where
  -- the answer
  pub only-value : (p : Reading A) → Only P Q p → Q (value ram p)
  unfolding Only value
  only-value (done a) h = h
  only-value (read r c k) h = only-value (k (get_or ram c 0)) (h.1 (get_or ram c 0))

  -- a cell that is read in a role
  pub only_as : (q : Role) (p : Reading A) → Only P Q p → (c : ℕ) → T (among c (cells_as q ram p)) → P q c
  unfolding Only cells_as among
  only_as q (done a) h c t = absurd t
  only_as q (read r x k) h c t = by (same_role q r) refl t (only_as q (k (get_or ram x 0)) (h.1 (get_or ram x 0)) c)
    where
      rest : List ℕ
      rest = cells_as q ram (k (get_or ram x 0))

      by : (b : Bool) → same_role q r ≡ b → T (among c (cond b (x ∷ rest) rest)) → (T (among c rest) → P q c) → P q c
      by true e m later = or_cases (eqb c x) _ m (λ i. subst₂ P (sym (same_role_lem q r e)) (sym (eqb→eq c x i)) h.0) later
      by false e m later = later m

  -- in a role that no read has, none is
  pub only_none : (q : Role) → ((c : ℕ) → P q c → ⊥) → (p : Reading A) → Only P Q p → cells_as q ram p ≡ []
  unfolding Only cells_as
  only_none q never (done a) h = refl
  only_none q never (read r x k) h = by (same_role q r) refl (only_none q never (k (get_or ram x 0)) (h.1 (get_or ram x 0)))
    where
      rest : List ℕ
      rest = cells_as q ram (k (get_or ram x 0))

      by : (b : Bool) → same_role q r ≡ b → rest ≡ [] → cond b (x ∷ rest) rest ≡ []
      by true e later = absurd (never x (subst (λ (t : Role). P t x) (sym (same_role_lem q r e)) h.0))
      by false e later = later

  -- a cell that is read, in any role
  pub only-cells : (R : ℕ → Type 0) → ((q : Role) (c : ℕ) → P q c → R c) → (p : Reading A) → Only P Q p
      → (c : ℕ) → T (among c (cells ram p)) → R c
  only-cells R f p h c t =
      let is_read : Role → Bool = λ q. among c (cells_as q ram p) in
      let in_role : (q : Role) → T (is_read q) → R c = λ q m. f q c (only_as q p h c m) in
      or_cases (is_read descriptor || is_read code) (is_read slice) (subst T (by_role.member ram p c) t)
      (λ m. or_cases (is_read descriptor) (is_read code) m (in_role descriptor) (in_role code)) (in_role slice)

-- ---- one program after another

pub only-bind : {A B : Type 0} (P : Role → ℕ → Type 0) (Q : A → Type 0) (R : B → Type 0) (p : Reading A) (f : A → Reading B)
    → Only P Q p → ((a : A) → Q a → Only P R (f a)) → Only P R (bind p f)
unfolding Only bind
only-bind P Q R (done a) f h g = g a h
only-bind P Q R (read r c k) f h g = (h.0, λ x. only-bind P Q R (k x) f (h.1 x) g)

pub only-fmap : {A B : Type 0} (P : Role → ℕ → Type 0) (Q : A → Type 0) (R : B → Type 0) (f : A → B) (p : Reading A)
    → Only P Q p → ((a : A) → Q a → R (f a)) → Only P R (fmap f p)
unfolding Only fmap
only-fmap P Q R f (done a) h g = g a h
only-fmap P Q R f (read r c k) h g = (h.0, λ x. only-fmap P Q R f (k x) (h.1 x) g)

-- How many cells a program reads in a role, at the most, and so in all.
-- Assumes nothing.
use Prim.Native.Nat.{ℕ, ◌+◌, ◌≤◌}
use mathlib.Core.Path.{◌≡◌}
use mathlib.Core.Bool.{Bool, true, false, cond}
use mathlib.Core.List.{List, ◌∷◌}
use native.Mathlib.Omega.{arith}
use lib.ListN.{length, get_or, length-append}
use Rattle.cells.specs.Reading.{Role, descriptor, code, slice, Reading, done, read, bind, fmap, value, cells, same_role, cells_as}
use Rattle.cells.proofs.Roles.{cells_as-bind, cells_as-fmap, by_role}

two_more : (t : Bool) (a b : ℕ) (l : List ℕ) → length (cond t (a ∷ cond t (b ∷ l) l) (cond t (b ∷ l) l)) ≡ cond t 2 0 + length l
two_more true a b l = omega arith
two_more false a b l = omega arith

-- two cells that are read in role q: so many in role r
unfoldable pub two : Role → Role → ℕ
two r q = cond (same_role r q) 2 0

-- at most n cells are read in the role
abbrev pub Few : {A : Type 0} → Role → List ℕ → ℕ → Reading A → Type 0
Few r ram n p = length (cells_as r ram p) ≤ n

module _ (r : Role) (ram : List ℕ) where
  pub few-done : {A : Type 0} (n : ℕ) (a : A) → Few r ram n (done a)
  unfolding cells_as
  few-done n a = omega arith

  pub few-bind : {A B : Type 0} (m n : ℕ) (p : Reading A) (f : A → Reading B) → Few r ram m p → Few r ram n (f (value ram p)) → Few r ram (m + n) (bind p f)
  few-bind m n p f h k = simp (cells_as-bind, length-append) (omega arith)

  pub few-fmap : {A B : Type 0} (n : ℕ) (f : A → B) (p : Reading A) → Few r ram n p → Few r ram n (fmap f p)
  few-fmap n f p h = simp cells_as-fmap h

  pub few_two : {A : Type 0} (q : Role) (m n a b : ℕ) (p : ℕ → ℕ → Reading A) → two r q + n ≤ m → Few r ram n (p (get_or ram a 0) (get_or ram b 0))
      → Few r ram m (read q a λ x. read q b λ y. p x y)
  unfolding cells_as two
  few_two q m n a b p k h = omega (arith, two_more (same_role r q) a b (cells_as r ram (p (get_or ram a 0) (get_or ram b 0))))

-- in all roles
pub few-all : {A : Type 0} (n : Role → ℕ) (ram : List ℕ) (p : Reading A) → ((r : Role) → Few r ram (n r) p)
    → length (cells ram p) ≤ n descriptor + n code + n slice
few-all n ram p h = omega (arith, by_role.count ram p, h descriptor, h code, h slice)

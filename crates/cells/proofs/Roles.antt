-- The laws of reads by role (specs/Roles.antt), and those of one program after another.
-- Assumes nothing.
use Prim.Native.Nat.{ℕ, ◌+◌}
use mathlib.Core.Path.{◌≡◌, refl, ap, ◌∙◌}
use mathlib.Core.Bool.{Bool, true, false, cond, ◌||◌}
use mathlib.Core.List.{List, ◌∷◌, ◌++◌}
use native.Mathlib.Omega.{arith}
use lib.Dec.{eqb}
use lib.ListN.{get_or, length}
use Rattle.cells.specs.Reading.{Role, descriptor, code, slice, Reading, done, read, bind, fmap, value, cells, same_role, cells_as, among}
use Rattle.cells.specs.Roles.{ByRole}

-- ---- one program after another

cond-append : (t : Bool) (c : ℕ) (xs ys zs : List ℕ) → xs ≡ ys ++ zs → cond t (c ∷ xs) xs ≡ cond t (c ∷ ys) ys ++ zs
cond-append true c xs ys zs e = ap (λ (l : List ℕ). c ∷ l) e
cond-append false c xs ys zs e = e

pub cells_as-bind : {A B : Type 0} (r : Role) (ram : List ℕ) (p : Reading A) (f : A → Reading B)
    → cells_as r ram (bind p f) ≡ cells_as r ram p ++ cells_as r ram (f (value ram p))
unfolding bind value cells_as
cells_as-bind r ram (done a) f = refl
cells_as-bind r ram (read q c k) f = cond-append (same_role r q) c _ _ _ (cells_as-bind r ram (k (get_or ram c 0)) f)

pub cells_as-fmap : {A B : Type 0} (r : Role) (ram : List ℕ) (f : A → B) (p : Reading A) → cells_as r ram (fmap f p) ≡ cells_as r ram p
unfolding fmap cells_as
cells_as-fmap r ram f (done a) = refl
cells_as-fmap r ram f (read q c k) = ap (λ (l : List ℕ). cond (same_role r q) (c ∷ l) l) (cells_as-fmap r ram f (k (get_or ram c 0)))

-- ---- the claim

counts : {A : Type 0} (ram : List ℕ) (p : Reading A)
    → length (cells ram p) ≡ length (cells_as descriptor ram p) + length (cells_as code ram p) + length (cells_as slice ram p)
unfolding cells cells_as same_role
counts ram (done a) = refl
counts ram (read descriptor c k) = omega (arith, counts ram (k (get_or ram c 0)))
counts ram (read code c k) = omega (arith, counts ram (k (get_or ram c 0)))
counts ram (read slice c k) = omega (arith, counts ram (k (get_or ram c 0)))

or_first : (x a b c : Bool) → x || ((a || b) || c) ≡ ((x || a) || b) || c
or_first true a b c = refl
or_first false a b c = refl

or_second : (x a b c : Bool) → x || ((a || b) || c) ≡ (a || (x || b)) || c
or_second true true b c = refl
or_second true false b c = refl
or_second false a b c = refl

or_third : (x a b c : Bool) → x || ((a || b) || c) ≡ (a || b) || (x || c)
or_third true true b c = refl
or_third true false true c = refl
or_third true false false c = refl
or_third false a b c = refl

members : {A : Type 0} (ram : List ℕ) (p : Reading A) (c : ℕ)
    → among c (cells ram p) ≡ (among c (cells_as descriptor ram p) || among c (cells_as code ram p)) || among c (cells_as slice ram p)
unfolding cells cells_as same_role among
members ram (done a) c = refl
members ram (read r x k) c = ap (λ (b : Bool). eqb c x || b) (members ram (k (get_or ram x 0)) c) ∙ placed r
  where
    in_role : Role → Bool
    in_role q = among c (cells_as q ram (k (get_or ram x 0)))

    placed : (q : Role)
        → eqb c x || ((in_role descriptor || in_role code) || in_role slice)
        ≡ (among c (cells_as descriptor ram (read q x k)) || among c (cells_as code ram (read q x k))) || among c (cells_as slice ram (read q x k))
    placed descriptor = or_first (eqb c x) (in_role descriptor) (in_role code) (in_role slice)
    placed code = or_second (eqb c x) (in_role descriptor) (in_role code) (in_role slice)
    placed slice = or_third (eqb c x) (in_role descriptor) (in_role code) (in_role slice)

pub by_role : ByRole
by_role = record { count = counts; member = members }

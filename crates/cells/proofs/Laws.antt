-- The laws of reading programs that everything later rests on: the reads of one program after another, and that two RAMs which
-- agree on the cells read cannot be told apart.
-- Assumes nothing.
use Prim.Native.Nat.{ℕ}
use mathlib.Core.Path.{◌≡◌, refl, sym, ap, ◌∙◌}
use mathlib.Core.Bool.{Bool, true, false, ◌||◌, or_assoc, true≢false}
use mathlib.Core.List.{List, [], ◌∷◌, ◌++◌}
use lib.Dec.{eqb, eqb_refl}
use lib.ListN.{get_or}
use Rattle.facts.proofs.Tests.{or_first, or_second}
use Rattle.cells.specs.Reading.{Reading, done, read, bind, fmap, value, cells, among, Alike}

-- ---- one program after another

pub value-bind : {A B : Type 0} (ram : List ℕ) (p : Reading A) (f : A → Reading B) → value ram (bind p f) ≡ value ram (f (value ram p))
unfolding bind value
value-bind ram (done a) f = refl
value-bind ram (read r c k) f = value-bind ram (k (get_or ram c 0)) f

pub cells-bind : {A B : Type 0} (ram : List ℕ) (p : Reading A) (f : A → Reading B)
    → cells ram (bind p f) ≡ cells ram p ++ cells ram (f (value ram p))
unfolding bind value cells
cells-bind ram (done a) f = refl
cells-bind ram (read r c k) f = ap (λ (l : List ℕ). c ∷ l) (cells-bind ram (k (get_or ram c 0)) f)

pub value-fmap : {A B : Type 0} (ram : List ℕ) (f : A → B) (p : Reading A) → value ram (fmap f p) ≡ f (value ram p)
unfolding fmap value
value-fmap ram f (done a) = refl
value-fmap ram f (read r c k) = value-fmap ram f (k (get_or ram c 0))

pub cells-fmap : {A B : Type 0} (ram : List ℕ) (f : A → B) (p : Reading A) → cells ram (fmap f p) ≡ cells ram p
unfolding fmap cells
cells-fmap ram f (done a) = refl
cells-fmap ram f (read r c k) = ap (λ (l : List ℕ). c ∷ l) (cells-fmap ram f (k (get_or ram c 0)))

-- ---- membership

pub among-append : (c : ℕ) (xs ys : List ℕ) → among c (xs ++ ys) ≡ among c xs || among c ys
unfolding among
among-append c [] ys = refl
among-append c (x ∷ xs) ys = ap (λ (b : Bool). eqb c x || b) (among-append c xs ys) ∙ sym (or_assoc (eqb c x) (among c xs) (among c ys))

-- a cell that is not among all is not among the last
pub unread_right : (c : ℕ) (xs ys : List ℕ) → among c (xs ++ ys) ≡ false → among c ys ≡ false
unread_right c xs ys e = by (among c xs) (among c ys) (sym (among-append c xs ys) ∙ e)
  where
    by : (a b : Bool) → a || b ≡ false → b ≡ false
    by true b q = absurd (true≢false q)
    by false b q = q

-- ---- two RAMs that agree

pub alike_left : (xs ys : List ℕ) (ram ram' : List ℕ) → Alike (xs ++ ys) ram ram' → Alike xs ram ram'
unfolding Alike
alike_left xs ys ram ram' h c t = h c (rw (among-append c xs ys) (or_first (among c xs) (among c ys) t))

pub alike_right : (xs ys : List ℕ) (ram ram' : List ℕ) → Alike (xs ++ ys) ram ram' → Alike ys ram ram'
unfolding Alike
alike_right xs ys ram ram' h c t = h c (rw (among-append c xs ys) (or_second (among c xs) (among c ys) t))

first : (x : ℕ) (xs : List ℕ) (ram ram' : List ℕ) → Alike (x ∷ xs) ram ram' → get_or ram' x 0 ≡ get_or ram x 0
unfolding Alike among
first x xs ram ram' h = h x (or_first (eqb x x) (among x xs) (eqb_refl x))

rest : (x : ℕ) (xs : List ℕ) (ram ram' : List ℕ) → Alike (x ∷ xs) ram ram' → Alike xs ram ram'
unfolding Alike among
rest x xs ram ram' h c t = h c (or_second (eqb c x) (among c xs) t)

-- over RAMs that agree on the cells read, the program answers the same
pub value_alike : {A : Type 0} (ram ram' : List ℕ) (p : Reading A) → Alike (cells ram p) ram ram' → value ram' p ≡ value ram p
unfolding value cells
value_alike ram ram' (done a) h = refl
value_alike ram ram' (read r c k) h =
    ap (λ (x : ℕ). value ram' (k x)) (first c (cells ram (k (get_or ram c 0))) ram ram' h)
    ∙ value_alike ram ram' (k (get_or ram c 0)) (rest c (cells ram (k (get_or ram c 0))) ram ram' h)

-- and reads the same cells
pub cells_alike : {A : Type 0} (ram ram' : List ℕ) (p : Reading A) → Alike (cells ram p) ram ram' → cells ram' p ≡ cells ram p
unfolding value cells
cells_alike ram ram' (done a) h = refl
cells_alike ram ram' (read r c k) h =
    ap (λ (l : List ℕ). c ∷ l)
    (ap (λ (x : ℕ). cells ram' (k x)) (first c (cells ram (k (get_or ram c 0))) ram ram' h)
    ∙ cells_alike ram ram' (k (get_or ram c 0)) (rest c (cells ram (k (get_or ram c 0))) ram ram' h))

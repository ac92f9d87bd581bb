-- A program that reads cells of the RAM, one after the other, and ends with an answer.
-- What it reads next may depend on what it has read. Its answer over a RAM, and the list of cells that it reads there, are
-- both computed from the one program, so a count of reads cannot be invented beside it.
-- A RAM is the list of its bytes, of any length; a cell past its end holds 0.
-- Assumes nothing.
use Rattle.std.specs.Prelude.{ℕ, List, [], ◌∷◌, ◌≡◌, Bool, true, false, cond, ◌||◌, T, eqb, get_or}

-- what a cell is read as: a byte of a descriptor, of a code, or of a user character's slice
pub data Role : Type 0 where
  descriptor : Role
  code : Role
  slice : Role

pub data Reading (A : Type 0) : Type 0 where
  -- no more reads: the answer
  done : A → Reading A
  -- read a cell as one of these, and go on with the byte that it holds
  read : Role → ℕ → (ℕ → Reading A) → Reading A

-- the one program, then the other at its answer
unfoldable pub bind : {A B : Type 0} → Reading A → (A → Reading B) → Reading B
bind (done a) f = f a
bind (read r c k) f = read r c (λ x. bind (k x) f)

-- the program with its answer changed by f: the same reads
unfoldable pub fmap : {A B : Type 0} → (A → B) → Reading A → Reading B
fmap f (done a) = done (f a)
fmap f (read r c k) = read r c (λ x. fmap f (k x))

-- what the program answers over a RAM
unfoldable pub value : {A : Type 0} → List ℕ → Reading A → A
value ram (done a) = a
value ram (read r c k) = value ram (k (get_or ram c 0))

-- the cells that it reads there, in order, a cell read twice standing twice
unfoldable pub cells : {A : Type 0} → List ℕ → Reading A → List ℕ
cells ram (done a) = []
cells ram (read r c k) = c ∷ cells ram (k (get_or ram c 0))

unfoldable pub same_role : Role → Role → Bool
same_role descriptor descriptor = true
same_role descriptor code = false
same_role descriptor slice = false
same_role code descriptor = false
same_role code code = true
same_role code slice = false
same_role slice descriptor = false
same_role slice code = false
same_role slice slice = true

-- those of them that it reads in a role
unfoldable pub cells_as : {A : Type 0} → Role → List ℕ → Reading A → List ℕ
cells_as r ram (done a) = []
cells_as r ram (read q c k) = cond (same_role r q) (c ∷ cells_as r ram (k (get_or ram c 0))) (cells_as r ram (k (get_or ram c 0)))

-- is the cell in the list?
unfoldable pub among : ℕ → List ℕ → Bool
among c [] = false
among c (x ∷ xs) = eqb c x || among c xs

-- each cell of the list holds the same byte in both RAMs
unfoldable pub Alike : List ℕ → List ℕ → List ℕ → Type 0
Alike cs ram ram' = (c : ℕ) → T (among c cs) → get_or ram' c 0 ≡ get_or ram c 0

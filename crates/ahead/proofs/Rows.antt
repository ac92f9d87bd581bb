-- A cell and the rows of codes: membership in what a row reads, as the search computes it.
-- Assumes nothing.
use Prim.Native.Nat.{ℕ, zero, suc, ◌+◌, ◌-◌, ◌*◌, ◌/◌, ◌%◌, ◌≤◌, ◌<◌}
use mathlib.Core.Path.{◌≡◌, refl, sym, ap, ap₂, ◌∙◌, subst}
use mathlib.Core.Bool.{Bool, true, false, cond, ◌&&◌, ◌||◌, and-false, or-true}
use mathlib.Core.List.{List, [], ◌∷◌, ◌++◌}
use native.Mathlib.Decide.{dec_lt, dec_le}
use native.Mathlib.Nat.{not-suc-le-zero, mod-eq_of_lt, mod-add-mod, add-mod_right, mul-add-mod_self_left, mul_comm}
use native.Mathlib.Omega.{arith}
use borrow.Author.Tests.{eq-eqb, ne_eqb, lt-ltb, le-ltb}
use lib.Dec.{eqb, ltb}
use lib.ListN.{get_or}
use Rattle.buffers.specs.Buffers.{Bytes}
use Rattle.facts.proofs.Choice.{cond_same}
use Rattle.facts.proofs.Pairs.{pair_is}
use Rattle.cells.specs.Reading.{Reading, done, bind, fmap, cells, among}
use Rattle.cells.proofs.Laws.{cells-bind, cells-fmap, among-append}
use Rattle.raster.specs.declared.Slice.{Slice}
use Rattle.raster.specs.Raster.{OnScreen}
use Rattle.walk.specs.Walk.{even, next}
use Rattle.glyph.specs.Glyph.{ends_line, glyph_of}
use Rattle.glyph.specs.Cells.{user_high}
use Rattle.glyph.proofs.Cells.{of_slice, glyph-reads}
use Rattle.line.specs.Line.{Place, codes_by, codes}
use Rattle.ahead.specs.Looking.{pair_of, row_reads, user_reads, codes_to, Starts}

-- ---- the cells of a row

pub first_two : (x y z : Bool) → x || (y || z) ≡ (x || (y || false)) || z
first_two true y z = refl
first_two false true z = refl
first_two false false z = refl

-- what a row reads, as the search looks at it
pub row-reads : (ram : List ℕ) (c n : ℕ) (s : Slice) (a : ℕ) → Bytes ram → OnScreen s
    → among c (cells ram (codes n s a)) ≡ row_reads ram c (of_slice c s) n a
unfolding codes_by row_reads cells among
row-reads ram c zero s a b h = refl
row-reads ram c (suc n) s a b h =
    first_two (eqb c (even a)) (eqb c (even a + 1)) _
    ∙ ap₂ (λ (x y : Bool). x || y) (pair_is c (even a) (omega arith))
    (rest (ends_line (get_or ram (even a + 1) 0)) (row-reads ram c n s (next a) b h))
  where
    high : ℕ
    high = get_or ram (even a + 1) 0

    after : Reading (List Place)
    after = bind (glyph_of high s) λ g. fmap (λ places. (record { low = get_or ram (even a) 0; glyph = g }) ∷ places) (codes n s (next a))

    rest : (t : Bool) → among c (cells ram (codes n s (next a))) ≡ row_reads ram c (of_slice c s) n (next a)
        → among c (cells ram (cond t (done []) after))
        ≡ cond t false ((of_slice c s && eqb high (user_high c)) || row_reads ram c (of_slice c s) n (next a))
    rest true ih = refl
    rest false ih =
        ap (among c) (cells-bind ram (glyph_of high s) _ ∙ ap (λ (l : List ℕ). cells ram (glyph_of high s) ++ l) (cells-fmap ram _ (codes n s (next a))))
        ∙ among-append c (cells ram (glyph_of high s)) (cells ram (codes n s (next a)))
        ∙ ap₂ (λ (x y : Bool). x || y) (glyph-reads c s ram high (b (even a + 1)) h) ih

-- ---- any address of a code stands for its even one

user-even : (ram : List ℕ) (c n a : ℕ) → user_reads ram c n (even a) ≡ user_reads ram c n a
unfolding user_reads
user-even ram c zero a = refl
user-even ram c (suc n) a =
    let e : even (even a) ≡ even a = omega arith in
    let f : next (even a) ≡ next a = omega arith in
    ap₂ (λ (x y : ℕ). cond (ends_line (get_or ram (x + 1) 0)) false (eqb (get_or ram (x + 1) 0) (user_high c) || user_reads ram c n y)) e f

pub user-same : (ram : List ℕ) (c n a b : ℕ) → a / 2 % 512 ≡ b / 2 % 512 → user_reads ram c n a ≡ user_reads ram c n b
user-same ram c n a b e = sym (user-even ram c n a) ∙ ap (λ (p : ℕ). user_reads ram c n (p * 2)) e ∙ user-even ram c n b

-- ---- the address of the code of a number

pub code-even : (p : ℕ) → p < 512 → even (2 * p) ≡ 2 * p
code-even p h = omega arith

pub code_of_lem : (a : ℕ) → even a ≡ 2 * (a / 2 % 512)
code_of_lem a = mul_comm (a / 2 % 512) 2

pub code-next : (p : ℕ) → even (2 * p + 2) ≡ 2 * ((p + 1) % 512)
code-next p =
    let e : (2 * p + 2) / 2 ≡ p + 1 = omega arith in
    ap (λ (x : ℕ). x % 512 * 2) e ∙ mul_comm ((p + 1) % 512) 2

-- ---- a row reads the cell as a code or as its user character

parts : (p e b u r v : Bool) → p || cond e false ((b && u) || (r || (b && v))) ≡ (p || cond e false r) || (b && cond e false (u || v))
parts true e b u r v = refl
parts false true b u r v = sym (and-false b)
parts false false false u r v = refl
parts false false true true true v = refl
parts false false true true false v = refl
parts false false true false r v = refl

pub reads_split : (ram : List ℕ) (c : ℕ) (b : Bool) (n a : ℕ) → row_reads ram c b n a ≡ row_reads ram c false n a || (b && user_reads ram c n a)
unfolding row_reads user_reads
reads_split ram c b zero a = sym (and-false b)
reads_split ram c b (suc n) a =
    ap (λ (r : Bool).
    eqb (pair_of c) (even a)
    || cond (ends_line (get_or ram (even a + 1) 0)) false ((b && eqb (get_or ram (even a + 1) 0) (user_high c)) || r))
    (reads_split ram c b n (next a))
    ∙ parts (eqb (pair_of c) (even a)) (ends_line (get_or ram (even a + 1) 0)) b (eqb (get_or ram (even a + 1) 0) (user_high c))
    (row_reads ram c false n (next a)) (user_reads ram c n (next a))

-- ---- several lines of a row

merged : (r b₁ b₂ u : Bool) → (r || (b₁ && u)) || (r || (b₂ && u)) ≡ r || ((b₁ || b₂) && u)
merged true b₁ b₂ u = refl
merged false true b₂ true = refl
merged false true true false = refl
merged false true false false = refl
merged false false b₂ u = refl

-- a row read with the slice shown on one line, or on another
pub rows_merge : (ram : List ℕ) (c : ℕ) (b₁ b₂ : Bool) (n a : ℕ) → row_reads ram c b₁ n a || row_reads ram c b₂ n a ≡ row_reads ram c (b₁ || b₂) n a
rows_merge ram c b₁ b₂ n a =
    ap₂ (λ (x y : Bool). x || y) (reads_split ram c b₁ n a) (reads_split ram c b₂ n a)
    ∙ merged (row_reads ram c false n a) b₁ b₂ (user_reads ram c n a)
    ∙ sym (reads_split ram c (b₁ || b₂) n a)

-- ---- which rows read the cell as a code

-- the address j codes before the cell's own
abbrev code_back : ℕ → ℕ → ℕ
code_back c j = 2 * ((c / 2 + 511 * j) % 512)

-- the code there ends a line
abbrev pub EndsBack : List ℕ → ℕ → ℕ → Type 0
EndsBack ram c j = ends_line (get_or ram (code_back c j + 1) 0) ≡ true

own : (c : ℕ) → c < 1024 → (c / 2 + 511 * 0) % 512 ≡ c / 2
own c h =
    let e : c / 2 + 511 * 0 ≡ c / 2 = omega arith in
    mod-eq_of_lt (omega arith) ∙ e

-- one code on is one back less
back_on : (c d a : ℕ) → even a ≡ code_back c (suc d) → even (next a) ≡ code_back c d
back_on c d a e =
    let y : a / 2 % 512 ≡ (c / 2 + 511 * suc d) % 512 = omega arith in
    let f : c / 2 + 511 * suc d + 1 ≡ c / 2 + 511 * d + 512 = omega arith in
    let g : (a + 2) / 2 ≡ a / 2 + 1 = omega arith in
    let h : even (next a) ≡ next a = omega arith in
    h
    ∙ ap (λ (z : ℕ). z % 512 * 2) g
    ∙ ap (λ (z : ℕ). z * 2)
    (sym (mod-add-mod (a / 2) 512 1)
    ∙ ap (λ (z : ℕ). (z + 1) % 512) y
    ∙ mod-add-mod (c / 2 + 511 * suc d) 512 1
    ∙ ap (λ (z : ℕ). z % 512) f
    ∙ add-mod_right (c / 2 + 511 * d) 512)
    ∙ mul_comm ((c / 2 + 511 * d) % 512) 2

-- an address is so many codes before the cell's own as `codes_to` says
to_back : (x y : ℕ) → x < 512 → y < 512 → (x + 511 * ((x + 512 - y) % 512)) % 512 ≡ y
to_back x y h k = by (dec_le y x)
  where
    at : (d t : ℕ) → (x + 512 - y) % 512 ≡ d → x + 511 * d ≡ 512 * t + y → (x + 511 * ((x + 512 - y) % 512)) % 512 ≡ y
    at d t e f =
        ap (λ (z : ℕ). (x + 511 * z) % 512) e ∙ ap (λ (z : ℕ). z % 512) f ∙ mul-add-mod_self_left 512 t y ∙ mod-eq_of_lt k

    by : Dec (y ≤ x) → (x + 511 * ((x + 512 - y) % 512)) % 512 ≡ y
    by (yes l) =
        let e : x + 512 - y ≡ x - y + 512 = omega arith in
        at (x - y) (x - y) (ap (λ (z : ℕ). z % 512) e ∙ add-mod_right (x - y) 512 ∙ mod-eq_of_lt (omega arith)) (omega arith)
    by (no l) = at (x + 512 - y) (x + 511 - y) (mod-eq_of_lt (omega arith)) (omega arith)

-- fewer than 512 codes before its own stands another
apart : (x d : ℕ) → 1 ≤ d → d < 512 → (x + 511 * d) % 512 ≡ x → ⊥
apart x d l k e =
    let f : 512 * (d - (x + 511 * d) / 512) ≡ d = omega arith in
    omega arith

module _ (ram : List ℕ) (c : ℕ) (small : c < 1024) where
  -- no code between ends the line
  reaches : (d n a : ℕ) → d < n → even a ≡ code_back c d → ((j : ℕ) → 1 ≤ j → j ≤ d → EndsBack ram c j → ⊥) → row_reads ram c false n a ≡ true
  unfolding row_reads
  reaches d zero a l e f = absurd (not-suc-le-zero l)
  reaches zero (suc n) a l e f = rw (eq-eqb (pair_of c) (even a) (omega (arith, own c small)))
  reaches (suc d) (suc n) a l e f =
      rw (ne_eqb (get_or ram (even a + 1) 0) 255 (λ q. f (suc d) (omega arith) (omega arith) (subst (λ (x : ℕ). ends_line (get_or ram (x + 1) 0) ≡ true) e (eq-eqb _ 255 q))))
      (ap (λ (r : Bool). eqb (pair_of c) (even a) || r) (reaches d n (next a) (omega arith) (back_on c d a e) (λ j h k. f j h (omega arith)))
      ∙ or-true (eqb (pair_of c) (even a)))

  -- it has not so many codes
  far : (d n a : ℕ) → n ≤ d → d < 512 → even a ≡ code_back c d → row_reads ram c false n a ≡ false
  unfolding row_reads
  far d zero a l k e = refl
  far zero (suc n) a l k e = absurd (not-suc-le-zero l)
  far (suc d) (suc n) a l k e =
      rw (ne_eqb (pair_of c) (even a) (λ q. apart (c / 2) (suc d) (omega arith) k (omega arith)), far d n (next a) (omega arith) (omega arith) (back_on c d a e))
      (cond_same (ends_line (get_or ram (even a + 1) 0)) false)

  -- a code between ends the line
  stops : (m d n a : ℕ) → 1 ≤ m → EndsBack ram c m → m ≤ d → d < 512 → even a ≡ code_back c d → row_reads ram c false n a ≡ false
  unfolding row_reads
  stops m d zero a h t l k e = refl
  stops m zero (suc n) a h t l k e = absurd (omega arith)
  stops m (suc d) (suc n) a h t l k e = by (dec_le m d) (λ q. stops m d n (next a) h t q (omega arith) (back_on c d a e))
    where
      other : pair_of c ≡ even a → ⊥
      other q = apart (c / 2) (suc d) (omega arith) k (omega arith)

      by : Dec (m ≤ d) → (m ≤ d → row_reads ram c false n (next a) ≡ false)
          → eqb (pair_of c) (even a) || cond (ends_line (get_or ram (even a + 1) 0)) false (row_reads ram c false n (next a)) ≡ false
      by (yes q) after = rw (ne_eqb (pair_of c) (even a) other, after q) (cond_same (ends_line (get_or ram (even a + 1) 0)) false)
      by (no q) after =
          let y : suc d ≡ m = omega arith in
          let z : even a ≡ code_back c m = e ∙ ap (code_back c) y in
          rw (ne_eqb (pair_of c) (even a) other, subst (λ (x : ℕ). ends_line (get_or ram (x + 1) 0) ≡ true) (sym z) t)

  to_own : (a : ℕ) → even a ≡ code_back c (codes_to c a)
  to_own a =
      ap (λ (z : ℕ). z * 2) (sym (to_back (c / 2) (a / 2 % 512) (omega arith) (omega arith)))
      ∙ mul_comm ((c / 2 + 511 * codes_to c a) % 512) 2

  -- a row that starts as many codes before the cell as it has, or more, does not read it
  pub all-far : (n a : ℕ) → n ≤ codes_to c a → row_reads ram c false n a ≡ false
  all-far n a k = far (codes_to c a) n a k (omega arith) (to_own a)

  -- back from the cell no code ends a line, up to the m-th or to the n-th
  pub starts_at : (n m : ℕ) → m ≤ n → ((j : ℕ) → 1 ≤ j → j < m → EndsBack ram c j → ⊥) → (m < n → (1 ≤ m) × EndsBack ram c m) → Starts ram c n m
  starts_at n m most on stop = record { reads = λ a. by a (dec_lt (codes_to c a) m) (dec_le n (codes_to c a)) }
    where
      by : (a : ℕ) → Dec (codes_to c a < m) → Dec (n ≤ codes_to c a) → row_reads ram c false n a ≡ ltb (codes_to c a) m
      by a (yes l) _ =
          reaches (codes_to c a) n a (omega arith) (to_own a) (λ j h k. on j h (omega arith)) ∙ sym (lt-ltb (codes_to c a) m l)
      by a (no l) (yes k) = all-far n a k ∙ sym (le-ltb (codes_to c a) m (omega arith))
      by a (no l) (no k) =
          let t = stop (omega arith) in
          stops m (codes_to c a) n a t.0 t.1 (omega arith) (omega arith) (to_own a) ∙ sym (le-ltb (codes_to c a) m (omega arith))

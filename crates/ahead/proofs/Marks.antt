-- The marked rows: binary digits that are set and found; and how the rows are looked through, each as far as the next.
-- Assumes nothing.
use Prim.Native.Nat.{ℕ, zero, suc, ◌+◌, ◌-◌, ◌*◌, ◌/◌, ◌%◌, ◌^◌, ◌≤◌, ◌<◌, max}
use mathlib.Core.Path.{◌≡◌, refl, sym, ap, ap₂, ◌∙◌, subst}
use mathlib.Core.Bool.{Bool, true, false, cond, ◌&&◌, ◌||◌, true≢false}
use mathlib.Core.List.{List}
use Rattle.std.specs.Prelude.{Option, Some, None}
use native.Mathlib.Decide.{dec_lt, ℕ_discrete}
use native.Mathlib.Nat.{not-suc-le-zero, le_of_suc-le-suc, lt_of_not-le, pow-suc, mod-eq_of_lt, mod-add-mod, div-add-mod'}
use native.Mathlib.Numerals.{add-one, sub-one}
use native.Mathlib.Omega.{arith}
use borrow.Author.Tests.{eq-eqb, ne_eqb}
use lib.Bits.{bit_or, or_step, or_shr, or_mod, or_zero_r, shifted_half, shifted_even}
use lib.Arith.{lt-one}
use lib.Dec.{T, eqb}
use lib.ListN.{length, get_or, set, replicate, get_or-replicate}
use lib.Pow.{mod-pow-add, shl_exact, shr-shr}
use lib.Seq.{get_or-set_same}
use mir.Facts.{and_yes}
use Rattle.facts.proofs.Lists.{set_at}
use Rattle.facts.proofs.Tests.{or_cases, or_first, or_second, iff}
use Rattle.walk.specs.Walk.{even, next}
use Rattle.glyph.specs.Glyph.{ends_line}
use Rattle.glyph.specs.Cells.{user_high}
use Rattle.ahead.specs.declared.Passed.{Passed}
use Rattle.ahead.specs.Looking.{user_reads, digit, is_marked, any_below, any_row, Marks, ZerosOf, Lowest, Unmarked, NextRow, OwnCodes}
use Rattle.ahead.proofs.Rows.{user-same, code-even, code-next}

-- ---- digits

or_half : (x i : ℕ) → bit_or x (1 * 2 ^ suc i) / 2 ≡ bit_or (x / 2) (1 * 2 ^ i)
or_half x i =
    or_shr x (1 * 2 ^ suc i) 1 ∙ ap (bit_or (x / 2)) (shifted_half 1 i)

or_low : (x i : ℕ) → bit_or x (1 * 2 ^ suc i) % 2 ≡ x % 2
or_low x i = or_mod x (1 * 2 ^ suc i) 1 ∙ ap (bit_or (x % 2)) (shifted_even 1 i) ∙ or_zero_r (x % 2)

-- a digit that is set, and the others beside it
set-digit : (i x : ℕ) → digit i (bit_or x (1 * 2 ^ i)) ≡ 1
unfolding digit
set-digit zero x = ap (λ (y : ℕ). y % 2) (or_step x 1) ∙ omega arith
set-digit (suc i) x = ap (digit i) (or_half x i) ∙ set-digit i (x / 2)

other_digit : (i j x : ℕ) → (i ≡ j → ⊥) → digit j (bit_or x (1 * 2 ^ i)) ≡ digit j x
unfolding digit
other_digit zero zero x e = absurd (e refl)
other_digit zero (suc j) x e = ap (digit j) (or_shr x 1 1 ∙ or_zero_r (x / 2))
other_digit (suc i) zero x e = or_low x i
other_digit (suc i) (suc j) x e = ap (digit j) (or_half x i) ∙ other_digit i j (x / 2) (λ y. e (ap suc y))

digit-zero : (j : ℕ) → digit j 0 ≡ 0
unfolding digit
digit-zero zero = refl
digit-zero (suc j) = digit-zero j

high_digit : (k x j : ℕ) → x < 2 ^ k → k ≤ j → digit j x ≡ 0
unfolding digit
high_digit zero x j h l = ap (digit j) (lt-one h) ∙ digit-zero j
high_digit (suc k) x zero h l = absurd (not-suc-le-zero l)
high_digit (suc k) x (suc j) h l = high_digit k (x / 2) j (omega (arith, pow-suc 2 k)) (le_of_suc-le-suc l)

shifted-digit : (s j x : ℕ) → digit j (x / 2 ^ s) ≡ digit (s + j) x
unfolding digit
shifted-digit zero j x =
    let e : x / 1 ≡ x = omega arith in
    let f : j ≡ 0 + j = omega arith in
    ap₂ digit f e
shifted-digit (suc s) j x =
    let e : suc (s + j) ≡ suc s + j = omega arith in
    let f : suc s ≡ 1 + s = omega arith in
    ap (λ (k : ℕ). digit j (x / 2 ^ k)) f ∙ ap (digit j) (sym (shr-shr x 1 s)) ∙ shifted-digit s j (x / 2) ∙ ap (λ (k : ℕ). digit k x) e

-- ---- the lowest set digit

low_zeros : (h x : ℕ) → x % 2 ^ h ≡ 0 → (j : ℕ) → j < h → digit j x ≡ 0
unfolding digit
low_zeros zero x e j l = absurd (not-suc-le-zero l)
low_zeros (suc h) x e j l = by j l (sym (mod-pow-add x h 1) ∙ ap (λ (k : ℕ). x % 2 ^ k) (add-one h) ∙ e) (low_zeros h (x / 2))
  where
    by : (j : ℕ) → j < suc h → x / 2 % 2 ^ h * 2 + x % 2 ≡ 0 → (x / 2 % 2 ^ h ≡ 0 → (i : ℕ) → i < h → digit i (x / 2) ≡ 0) → digit j x ≡ 0
    by zero l f ih = omega arith
    by (suc j) l f ih = ih (omega arith) j (le_of_suc-le-suc l)

module _ (low : Passed) (h : ℕ) (fits : low.rest < 2 ^ 32) where
  -- shifted there and back, the word has lost its lowest h digits
  there_and_back : low.rest / 2 ^ h * 2 ^ h % 2 ^ 32 + low.rest % 2 ^ h ≡ low.rest
  there_and_back =
      let e = div-add-mod' low.rest (2 ^ h) in
      let l : low.rest / 2 ^ h * 2 ^ h < 2 ^ 32 = omega (arith, e) in
      ap (λ (k : ℕ). k + low.rest % 2 ^ h) (mod-eq_of_lt l) ∙ e

  pub zeros_passed : low.rest / 2 ^ h * 2 ^ h % 2 ^ 32 ≡ low.rest → (x : ℕ) → ZerosOf x (h + h) low
      → ZerosOf x h (record { zeros = low.zeros + h; rest = low.rest / 2 ^ h })
  zeros_passed e x z =
      record {
        zeros = λ j l. by j l (dec_lt j low.zeros);
        after = λ j.
            let f : low.zeros + (h + j) ≡ low.zeros + h + j = omega arith in
            shifted-digit h j low.rest ∙ z.after (h + j) ∙ ap (λ (k : ℕ). digit k x) f;
        some = λ f. z.some (mod-pow-add low.rest h h ∙ ap₂ (λ (i k : ℕ). i * 2 ^ h + k) f none ∙ omega arith);
      }
    where
      none : low.rest % 2 ^ h ≡ 0
      none = omega (arith, there_and_back, e)

      by : (j : ℕ) → j < low.zeros + h → Dec (j < low.zeros) → digit j x ≡ 0
      by j l (yes k) = z.zeros j k
      by j l (no k) =
          let f : j ≡ low.zeros + (j - low.zeros) = omega arith in
          ap (λ (i : ℕ). digit i x) f ∙ sym (z.after (j - low.zeros)) ∙ low_zeros h low.rest none (j - low.zeros) (omega arith)

pub no_zeros : (x : ℕ) → x < 2 ^ 32 → (x ≡ 0 → ⊥) → ZerosOf x 32 (record { zeros = 0; rest = x })
no_zeros x l e =
    record {
      zeros = λ j h. absurd (not-suc-le-zero h);
      after = λ j. let f : j ≡ 0 + j = omega arith in ap (λ (k : ℕ). digit k x) f;
      some = λ f. e (sym (mod-eq_of_lt l) ∙ f);
    }

pub all_zeros : (x : ℕ) (r : Passed) → r.zeros < 32 → ZerosOf x 1 r → Lowest x r.zeros
unfolding digit
all_zeros x r l z =
    let f : r.zeros + 0 ≡ r.zeros = omega arith in
    let g : r.rest % 2 ≡ 1 = omega (arith, z.some) in
    record { zeros = z.zeros; is = ap (λ (k : ℕ). digit k x) (sym f) ∙ sym (z.after 0) ∙ g; most = l }

-- ---- a row is marked

module _ (ram : List ℕ) (c n : ℕ) (marks : List ℕ) where
  -- a marked row that shows the user character, from a row on
  pub record Showing (p : ℕ) : Type 0 where
    pub at : ℕ
    pub from : p ≤ at
    pub below : at < 512
    pub marked : is_marked marks at ≡ true
    pub reads : T (user_reads ram c n (2 * at))

  any_at : (k i : ℕ) → i < k → is_marked marks i ≡ true → T (user_reads ram c n (2 * i)) → T (any_below ram c n marks k)
  unfolding any_below
  any_at zero i h m t = absurd (not-suc-le-zero h)
  any_at (suc k) i h m t = by (ℕ_discrete i k) (λ l. any_at k i l m t)
    where
      by : Dec (i ≡ k) → (i < k → T (any_below ram c n marks k)) → T ((is_marked marks k && user_reads ram c n (2 * k)) || any_below ram c n marks k)
      by (yes e) later =
          or_first (is_marked marks k && user_reads ram c n (2 * k)) (any_below ram c n marks k)
          (subst (λ (j : ℕ). T (is_marked marks j && user_reads ram c n (2 * j))) e (rw m t))
      by (no e) later = or_second (is_marked marks k && user_reads ram c n (2 * k)) (any_below ram c n marks k) (later (omega arith))

  any_of : (k : ℕ) → k ≤ 512 → T (any_below ram c n marks k) → Showing 0
  unfolding any_below
  any_of zero h t = absurd t
  any_of (suc k) h t =
      or_cases (is_marked marks k && user_reads ram c n (2 * k)) (any_below ram c n marks k) t
      (λ y.
      let both = and_yes (is_marked marks k) (user_reads ram c n (2 * k)) y in
      record {
        at = k;
        from = omega arith;
        below = omega arith;
        marked = iff (is_marked marks k) true (λ _. tt) (λ _. both.0);
        reads = both.1;
      })
      (any_of k (omega arith))

  pub showing_of : T (any_row ram c n marks) → Showing 0
  showing_of = any_of 512 (omega arith)

abbrev marked_at : List ℕ → ℕ → List ℕ
marked_at marks q = set marks (q / 32) (bit_or (get_or marks (q / 32) 0) (1 * 2 ^ (q % 32) % 2 ^ 32))

module _ (marks : List ℕ) (q : ℕ) (h : q < 512) (words : length marks ≡ 16) where
  bit : 1 * 2 ^ (q % 32) % 2 ^ 32 ≡ 1 * 2 ^ (q % 32)
  bit = shl_exact 1 (q % 32) 32 (omega arith) (omega arith)

  marks_it : is_marked (marked_at marks q) q ≡ true
  unfolding is_marked
  marks_it =
      rw (get_or-set_same marks (q / 32) (bit_or (get_or marks (q / 32) 0) (1 * 2 ^ (q % 32) % 2 ^ 32)) 0 (omega (arith, words)), bit, set-digit)

  leaves_other : (p : ℕ) → (q ≡ p → ⊥) → is_marked (marked_at marks q) p ≡ is_marked marks p
  unfolding is_marked
  leaves_other p e =
      ap (λ (x : ℕ). eqb x 1)
      (set_at (λ (k x : ℕ). k ≡ p / 32 → digit (p % 32) x ≡ digit (p % 32) (get_or marks (p / 32) 0)) marks (q / 32) _ (p / 32)
      (λ f. rw bit (other_digit (q % 32) (p % 32) (get_or marks (q / 32) 0) (λ g. e (omega arith)) ∙ ap (λ (k : ℕ). digit (p % 32) (get_or marks k 0)) f))
      (λ _. refl) refl)

  stays_marked : (p : ℕ) → is_marked marks p ≡ true → is_marked (marked_at marks q) p ≡ true
  stays_marked p m = by (ℕ_discrete q p)
    where
      by : Dec (q ≡ p) → is_marked (marked_at marks q) p ≡ true
      by (yes e) = rw (sym e) marks_it
      by (no e) = leaves_other p e ∙ m

  pub marks_row : (a : ℕ) → q ≡ a / 2 % 512 → Marks marks a (marked_at marks q)
  marks_row a e =
      record {
        more = λ ram c n.
            let now = any_row ram c n (marked_at marks q) in
            let new = user_reads ram c n a in
            let same : user_reads ram c n (2 * q) ≡ new = user-same ram c n (2 * q) a (omega arith) in
            iff now (any_row ram c n marks || new) (λ t. let s = showing_of ram c n (marked_at marks q) t in back ram c n s (ℕ_discrete q s.at))
            (λ t.
            or_cases (any_row ram c n marks) new t
            (λ y. let s = showing_of ram c n marks y in any_at ram c n (marked_at marks q) 512 s.at s.below (stays_marked s.at s.marked) s.reads)
            (λ y. any_at ram c n (marked_at marks q) 512 q h marks_it (rw same y)));
      }
    where
      back : (ram : List ℕ) (c n : ℕ) (s : Showing ram c n (marked_at marks q) 0) → Dec (q ≡ s.at) → T (any_row ram c n marks || user_reads ram c n a)
      back ram c n s (yes f) =
          or_second (any_row ram c n marks) (user_reads ram c n a)
          (rw (user-same ram c n a (2 * s.at) (omega arith)) s.reads)
      back ram c n s (no f) =
          or_first (any_row ram c n marks) (user_reads ram c n a)
          (any_at ram c n marks 512 s.at s.below (sym (leaves_other s.at f) ∙ s.marked) s.reads)

-- ---- the next marked row

-- in one word of the marks the digits from a row on are those of the word's rest
abbrev rest : List ℕ → ℕ → ℕ
rest marks p = get_or marks (p / 32) 0 / 2 ^ (p % 32)

in_word : (marks : List ℕ) (p i : ℕ) → p ≤ i → i / 32 ≡ p / 32 → is_marked marks i ≡ eqb (digit (i - p) (rest marks p)) 1
unfolding is_marked
in_word marks p i l e =
    let f : p % 32 + (i - p) ≡ i % 32 = omega arith in
    ap (λ (x : ℕ). eqb x 1)
    (ap₂ (λ (j k : ℕ). digit j (get_or marks k 0)) (sym f) e ∙ sym (shifted-digit (p % 32) (i - p) (get_or marks (p / 32) 0)))

module _ (marks : List ℕ) (from p : ℕ) (passed : Unmarked marks from p) where
  none_before : (r : ℕ) → ((i : ℕ) → p ≤ i → i < r → is_marked marks i ≡ false) → Unmarked marks from r
  none_before r f = record { none = λ i l h. by i l h (dec_lt i p) }
    where
      by : (i : ℕ) → from ≤ i → i < r → Dec (i < p) → is_marked marks i ≡ false
      by i l h (yes k) = passed.none i l k
      by i l h (no k) = f i (omega arith) h

  word_passed : rest marks p ≡ 0 → Unmarked marks from ((p / 32 + 1) * 32)
  word_passed e =
      none_before ((p / 32 + 1) * 32) (λ i l h.
      in_word marks p i l (omega arith) ∙ rw (e, digit-zero))

  word_next : p < 512 → from ≤ p → get_or marks (p / 32) 0 < 2 ^ 32 → (t : ℕ) → Lowest (rest marks p) t → NextRow marks from (Some (p + t))
  word_next h l w t s =
      let inside : p % 32 + t < 32 = lt_of_not-le (λ k. omega (arith, s.is, shifted-digit (p % 32) t (get_or marks (p / 32) 0), high_digit 32 _ _ w k)) in
      let g : p + t - p ≡ t = omega arith in (
        record {
          from = omega arith;
          below = omega arith;
          is = in_word marks p (p + t) (omega arith) (omega arith) ∙ rw (g, s.is);
        },
        none_before (p + t) (λ i k b. in_word marks p i k (omega arith) ∙ rw (s.zeros (i - p) (omega arith))),
      )

-- word i, from its first row on or from the row that is asked for
module _ (marks : List ℕ) (from i p : ℕ) (start : p ≡ max from (32 * i)) (word : from / 32 ≤ i) (passed : Unmarked marks from (32 * i)) where
  before : Unmarked marks from p
  before = record { none = λ j l h. passed.none j l (omega arith) }

  here : i ≡ p / 32
  here = omega arith

  pub word_none : get_or marks i 0 / 2 ^ (p % 32) ≡ 0 → Unmarked marks from (32 * (i + 1))
  word_none e =
      let w = word_passed marks from p before (rw here at e) in
      record { none = λ j l h. w.none j l (omega (arith, here)) }

  pub word_first : i < 16 → get_or marks i 0 < 2 ^ 32 → (t : ℕ) → Lowest (get_or marks i 0 / 2 ^ (p % 32)) t → NextRow marks from (Some (p + t))
  word_first h w t s = word_next marks from p before (omega (arith, here)) (omega arith) (rw here at w) t (rw here at s)

-- ---- a row is looked through as far as the next one

user-more : (ram : List ℕ) (c m n a : ℕ) → m ≤ n → T (user_reads ram c m a) → T (user_reads ram c n a)
unfolding user_reads
user-more ram c zero n a h t = absurd t
user-more ram c (suc m) zero a h t = absurd (not-suc-le-zero h)
user-more ram c (suc m) (suc n) a h t =
    go (ends_line (get_or ram (even a + 1) 0)) (eqb (get_or ram (even a + 1) 0) (user_high c)) (user-more ram c m n (next a) (le_of_suc-le-suc h)) t
  where
    go : (e u : Bool) → (T (user_reads ram c m (next a)) → T (user_reads ram c n (next a)))
        → T (cond e false (u || user_reads ram c m (next a))) → T (cond e false (u || user_reads ram c n (next a)))
    go true u f t = t
    go false true f t = tt
    go false false f t = f t

-- what the first d codes do not show, those after them do
user_later : (ram : List ℕ) (c d n a : ℕ) → user_reads ram c d a ≡ false → T (user_reads ram c n a) → T (user_reads ram c n (a + 2 * d))
unfolding user_reads
user_later ram c zero n a f t = let e : a ≡ a + 2 * 0 = omega arith in subst (λ (x : ℕ). T (user_reads ram c n x)) e t
user_later ram c (suc d) zero a f t = absurd t
user_later ram c (suc d) (suc n) a f t =
    go (ends_line (get_or ram (even a + 1) 0)) (eqb (get_or ram (even a + 1) 0) (user_high c)) (user_later ram c d n (next a)) f t
  where
    same : user_reads ram c n (next a + 2 * d) ≡ user_reads ram c n (a + 2 * suc d)
    same =
        let e : (next a + 2 * d) / 2 ≡ (a + 2) / 2 % 512 + d = omega arith in
        let f : (a + 2) / 2 + d ≡ (a + 2 * suc d) / 2 = omega arith in
        user-same ram c n (next a + 2 * d) (a + 2 * suc d)
        (ap (λ (x : ℕ). x % 512) e ∙ mod-add-mod ((a + 2) / 2) 512 d ∙ ap (λ (x : ℕ). x % 512) f)

    go : (e u : Bool) → (user_reads ram c d (next a) ≡ false → T (user_reads ram c n (next a)) → T (user_reads ram c n (next a + 2 * d)))
        → cond e false (u || user_reads ram c d (next a)) ≡ false → T (cond e false (u || user_reads ram c n (next a)))
        → T (user_reads ram c (suc n) (a + 2 * suc d))
    go true u later f t = absurd t
    go false true later f t = absurd (true≢false f)
    go false false later f t = user-more ram c n (suc n) (a + 2 * suc d) (omega arith) (rw same at (later f t))

-- the place of a row, or behind them all
abbrev pub row_or_end : Option ℕ → ℕ
row_or_end None = 512
row_or_end (Some q) = q

-- no marked row is passed over
showing_from : (ram : List ℕ) (c n : ℕ) (marks : List ℕ) (p r : ℕ) → Unmarked marks p r → Showing ram c n marks p → Showing ram c n marks r
showing_from ram c n marks p r m s = by (dec_lt s.at r)
  where
    by : Dec (s.at < r) → Showing ram c n marks r
    by (yes e) = absurd (true≢false (sym s.marked ∙ m.none s.at s.from e))
    by (no e) = record { at = s.at; from = omega arith; below = s.below; marked = s.marked; reads = s.reads }

module _ (ram : List ℕ) (c n : ℕ) (marks : List ℕ) where
  -- the marked row that comes next, or none, and what is still to look through: a row that shows the user character is among it
  abbrev pub Ahead : Option ℕ → Type 0
  Ahead None = T (any_row ram c n marks) → ⊥
  Ahead (Some q) = (q < 512) × (is_marked marks q ≡ true) × (T (any_row ram c n marks) → Showing ram c n marks q)

  ahead_of : (p : ℕ) (next : Option ℕ) → NextRow marks p next → (T (any_row ram c n marks) → Showing ram c n marks p) → Ahead next
  ahead_of p None m f = λ t. let s = showing_from ram c n marks p 512 m (f t) in omega (arith, s.from, s.below)
  ahead_of p (Some q) m f = (m.0.below, m.0.is, λ t. showing_from ram c n marks p q m.1 (f t))

  pub ahead_first : (next : Option ℕ) → NextRow marks 0 next → Ahead next
  ahead_first next m = ahead_of 0 next m (showing_of ram c n marks)

  -- where a row shows the user character and its own codes do not, the next marked row shows it
  seen_later : (row : ℕ) (next : Option ℕ) (own : ℕ) → OwnCodes n row next own → user_reads ram c own (2 * row) ≡ false
      → T (user_reads ram c n (2 * row)) → (next ≡ Some (row + own)) × T (user_reads ram c n (2 * (row + own)))
  seen_later row next own is unread t = by (dec_lt own n)
    where
      by : Dec (own < n) → (next ≡ Some (row + own)) × T (user_reads ram c n (2 * (row + own)))
      by (yes l) =
          let e : 2 * row + 2 * own ≡ 2 * (row + own) = omega arith in
          (is.cut l, subst (λ (x : ℕ). T (user_reads ram c n x)) e (user_later ram c own n (2 * row) unread t))
      by (no l) =
          let e : n ≡ own = omega (arith, is.most) in
          absurd (subst (λ (b : Bool). T b) (ap (λ (k : ℕ). user_reads ram c k (2 * row)) e ∙ unread) t)

  pub ahead_next : (row : ℕ) (next : Option ℕ) → NextRow marks (row + 1) next → (own : ℕ) → OwnCodes n row next own
      → user_reads ram c own (2 * row) ≡ false → (T (any_row ram c n marks) → Showing ram c n marks row) → Ahead next
  ahead_next row None m own is unread f = λ t. by (f t) (ℕ_discrete row (f t).at)
    where
      by : (s : Showing ram c n marks row) → Dec (row ≡ s.at) → ⊥
      by s (yes d) = let e = (seen_later row None own is unread (rw d s.reads)).0 in cc
      by s (no d) =
          ahead_of (row + 1) None m (λ _. record { at = s.at; from = omega (arith, s.from); below = s.below; marked = s.marked; reads = s.reads })
          (f_back s)
        where
          f_back : Showing ram c n marks row → T (any_row ram c n marks)
          f_back s = any_at ram c n marks 512 s.at s.below s.marked s.reads
  ahead_next row (Some q) m own is unread f = (m.0.below, m.0.is, λ t. by (f t) (ℕ_discrete row (f t).at))
    where
      by : (s : Showing ram c n marks row) → Dec (row ≡ s.at) → Showing ram c n marks q
      by s (yes d) =
          let l = seen_later row (Some q) own is unread (rw d s.reads) in
          let e : row + own ≡ q = cc in
          record { at = q; from = omega arith; below = m.0.below; marked = m.0.is; reads = subst (λ (x : ℕ). T (user_reads ram c n (2 * x))) e l.1 }
      by s (no d) =
          showing_from ram c n marks (row + 1) q m.1
          (record { at = s.at; from = omega (arith, s.from); below = s.below; marked = s.marked; reads = s.reads })

-- a marked row shows it, or none does
pub row_shows : (ram : List ℕ) (c n : ℕ) (marks : List ℕ) (row own : ℕ) → own ≤ n → row < 512 → is_marked marks row ≡ true
    → user_reads ram c own (2 * row) ≡ true → true ≡ any_row ram c n marks
row_shows ram c n marks row own l h m e =
    iff true (any_row ram c n marks) (λ _. any_at ram c n marks 512 row h m (user-more ram c own n (2 * row) l (rw e tt))) (λ _. tt)

-- ---- the turns along a row

one_more : (ram : List ℕ) (c n p : ℕ) → 0 < n → p < 512
    → user_reads ram c n (2 * p)
    ≡ cond (ends_line (get_or ram (2 * p + 1) 0)) false
    (eqb (get_or ram (2 * p + 1) 0) (user_high c) || user_reads ram c (n - 1) (2 * ((p + 1) % 512)))
unfolding user_reads
one_more ram c zero p pos h = absurd (not-suc-le-zero pos)
one_more ram c (suc n) p pos h =
    ap₂ (λ (x y : ℕ). cond (ends_line (get_or ram (x + 1) 0)) false (eqb (get_or ram (x + 1) 0) (user_high c) || user_reads ram c n y))
    (code-even p h) (code-next p)
    ∙ ap (λ (m : ℕ).
    cond (ends_line (get_or ram (2 * p + 1) 0)) false (eqb (get_or ram (2 * p + 1) 0) (user_high c) || user_reads ram c m (2 * ((p + 1) % 512))))
    (sym (sub-one (suc n)))

reads_none : (ram : List ℕ) (c n a : ℕ) → n ≤ 0 → false ≡ user_reads ram c n a
unfolding user_reads
reads_none ram c zero a h = refl
reads_none ram c (suc n) a h = absurd (not-suc-le-zero h)

-- of n codes, k were passed
module _ (ram : List ℕ) (c n k p : ℕ) where
  turn : k < n → p < 512
      → user_reads ram c (n - k) (2 * p)
      ≡ cond (ends_line (get_or ram (2 * p + 1) 0)) false
      (eqb (get_or ram (2 * p + 1) 0) (user_high c) || user_reads ram c (n - (k + 1)) (2 * ((p + 1) % 512)))
  turn h l = let f : n - (k + 1) ≡ n - k - 1 = omega arith in rw f (one_more ram c (n - k) p (omega arith) l)

  pub user_ends : k < n → p < 512 → ends_line (get_or ram (2 * p + 1) 0) ≡ true → user_reads ram c (n - k) (2 * p) ≡ false
  user_ends h l e = turn h l ∙ rw e

  pub user_shows : k < n → p < 512 → ends_line (get_or ram (2 * p + 1) 0) ≡ false → get_or ram (2 * p + 1) 0 ≡ user_high c
      → user_reads ram c (n - k) (2 * p) ≡ true
  user_shows h l e f = turn h l ∙ rw (e, eq-eqb _ _ f)

  pub user_on : k < n → p < 512 → ends_line (get_or ram (2 * p + 1) 0) ≡ false → (get_or ram (2 * p + 1) 0 ≡ user_high c → ⊥)
      → user_reads ram c (n - k) (2 * p) ≡ user_reads ram c (n - (k + 1)) (2 * ((p + 1) % 512))
  user_on h l e f = turn h l ∙ rw (e, ne_eqb _ _ f)

  pub user_none : n ≤ k → user_reads ram c (n - k) (2 * p) ≡ false
  user_none h = sym (reads_none ram c (n - k) (2 * p) (omega arith))

-- ---- no row is marked

none_marked : (p : ℕ) → p < 512 → is_marked (replicate 16 0) p ≡ false
unfolding is_marked
none_marked p h = rw (get_or-replicate {A = ℕ} 16 (p / 32) 0 0 (omega arith), digit-zero)

pub no_row : (ram : List ℕ) (c n : ℕ) → any_row ram c n (replicate 16 0) ≡ false
no_row ram c n =
    iff (any_row ram c n (replicate 16 0)) false
    (λ t. let s = showing_of ram c n (replicate 16 0) t in true≢false (sym s.marked ∙ none_marked s.at s.below)) absurd

-- Once round RAM, descriptor by descriptor: the line is found, or whole rounds of lines lie before it.
-- Assumes nothing.
use Prim.Native.Nat.{ℕ, zero, suc, ◌+◌, ◌-◌, ◌*◌, ◌/◌, ◌%◌, ◌≤◌, ◌<◌}
use mathlib.Core.Path.{◌≡◌, refl, sym, ap, ap₂, ◌∙◌, subst}
use mathlib.Core.Bool.{true, cond}
use mathlib.Core.List.{List}
use native.Mathlib.Nat.{zero-add, add-zero}
use native.Mathlib.Decide.{dec_lt}
use native.Mathlib.Omega.{arith}
use borrow.Author.Tests.{eq-eqb, ne_eqb, lt-ltb, le-ltb}
use lib.Dec.{eqb, ltb}
use lib.ListN.{get_or}
use Rattle.std.specs.declared.ops.ControlFlow.{ControlFlow}
use Rattle.std.specs.declared.ops.ControlFlow.TheVariants.{Break, Continue}
use Rattle.limits.specs.Limits.{ram_pairs}
use Rattle.walk.specs.Walk.{even, next}
use Rattle.walk.proofs.Laws.{next-same, passed_at}
use Rattle.pixel.specs.declared.Pair.{Pair}
use Rattle.pixel.specs.declared.StripLine.{StripLine}
use Rattle.pixel.specs.Pixel.{pair_at, lines_of, strip_from, line_at, falls_in}
use Rattle.pixel.specs.Rounds.{round_of}
use Rattle.pixel.proofs.Laws.{lines_none, lines-passed, lines-some, pair_same, strip_here, strip-next, strip-none, strip_by, strip_last, first_at, Strips, strips_next, lines_at, falls_none, falls_even, falls_here, falls_next}

module _ (ram : List ℕ) (ch : ℕ) where
  -- ---- a descriptor more

  pub round_here : (k a y : ℕ) → y < lines_at ram ch a
      → round_of (suc k) ram ch a y ≡ Break (line_at ram a y)
  unfolding round_of
  round_here k a y h = rw (lt-ltb y (lines_at ram ch a) h)

  pub round_next : (k a y : ℕ) → lines_at ram ch a ≤ y → round_of (suc k) ram ch a y ≡ round_of k ram ch (next a) (y - lines_at ram ch a)
  unfolding round_of
  round_next k a y h = rw (le-ltb y (lines_at ram ch a) h)

  pub round_end : (a y : ℕ) → round_of 0 ram ch a y ≡ Continue y
  unfolding round_of
  round_end a y = refl

  -- ---- descriptors in two parts

  -- any address of a descriptor stands for its even one
  pub round_even : (k a b y : ℕ) → even a ≡ even b → round_of k ram ch a y ≡ round_of k ram ch b y
  unfolding round_of
  round_even zero a b y e = refl
  round_even (suc k) a b y e =
      ap₂ (λ (d : Pair) (x : ℕ). cond (ltb y (lines_of ch d))
      (Break (record { descriptor = d; line = record { 0 = y + 1 } }))
      (round_of k ram ch x (y - lines_of ch d))) (pair_same ram a b e) (next-same a b e)

  -- the first k, and the others where these do not have the line
  abbrev in_two : ℕ → ℕ → ControlFlow StripLine ℕ → ControlFlow StripLine ℕ
  in_two m b (Break l) = Break l
  in_two m b (Continue z) = round_of m ram ch b z

  -- from any address of a descriptor
  two_even : (m a b : ℕ) → even a ≡ even b → (r : ControlFlow StripLine ℕ) → in_two m a r ≡ in_two m b r
  two_even m a b e (Break l) = refl
  two_even m a b e (Continue z) = round_even m a b z e

  pub round_two : (k m a y : ℕ) → round_of (k + m) ram ch a y ≡ in_two m (a + 2 * k) (round_of k ram ch a y)
  round_two zero m a y =
      rw (round_end a y) (ap₂ (λ (n b : ℕ). round_of n ram ch b y) (zero-add m) (sym (add-zero a)))
  round_two (suc k) m a y = by (dec_lt y (lines_at ram ch a)) (round_two k m (next a) (y - lines_at ram ch a))
    where
      more : suc k + m ≡ suc (k + m)
      more = omega arith

      by : Dec (y < lines_at ram ch a)
          → round_of (k + m) ram ch (next a) (y - lines_at ram ch a) ≡ in_two m (next a + 2 * k) (round_of k ram ch (next a) (y - lines_at ram ch a))
          → round_of (suc k + m) ram ch a y ≡ in_two m (a + 2 * suc k) (round_of (suc k) ram ch a y)
      by (yes p) ih =
          ap (λ (n : ℕ). round_of n ram ch a y) more ∙ round_here (k + m) a y p
          ∙ sym (ap (in_two m (a + 2 * suc k)) (round_here k a y p))
      by (no p) ih =
          let r : ControlFlow StripLine ℕ = round_of k ram ch (next a) (y - lines_at ram ch a) in
          ap (λ (n : ℕ). round_of n ram ch a y) more
          ∙ round_next (k + m) a y (omega arith)
          ∙ ih
          ∙ two_even m (next a + 2 * k) (a + 2 * suc k) (omega arith) r
          ∙ sym (ap (in_two m (a + 2 * suc k)) (round_next k a y (omega arith)))

  -- all 512: up to the end of RAM, and from its start on
  module _ (p first y : ℕ) (start : p ≡ first / 2 % 512) where
    abbrev upper : ControlFlow StripLine ℕ
    upper = round_of (512 - p) ram ch (2 * p) y

    parts : round_of ram_pairs ram ch first y ≡ in_two (p - 0) 0 upper
    parts =
        let all : ram_pairs ≡ (512 - p) + (p - 0) = omega (arith, start) in
        round_even ram_pairs first (2 * p) y (omega (arith, start))
        ∙ ap (λ (n : ℕ). round_of n ram ch (2 * p) y) all
        ∙ round_two (512 - p) (p - 0) (2 * p) y
        ∙ two_even (p - 0) (2 * p + 2 * (512 - p)) 0 (omega (arith, start)) upper

    pub round_upper : {l : StripLine} → upper ≡ Break l → Break l ≡ round_of ram_pairs ram ch first y
    round_upper e = sym (parts ∙ ap (in_two (p - 0) 0) e)

    pub round_lower : {z : ℕ} → upper ≡ Continue z → round_of (p - 0) ram ch 0 z ≡ round_of ram_pairs ram ch first y
    round_lower e = sym (parts ∙ ap (in_two (p - 0) 0) e)

  -- ---- up to a place, with no wrap between

  -- both bytes of the descriptor at an even address
  abbrev pub pair_here : ℕ → Pair
  pair_here a = record { low = get_or ram a 0; high = get_or ram (a + 1) 0 }

  module _ (to p y : ℕ) (inside : to ≤ 512) (more : p < to) where
    here : pair_here (2 * p) ≡ pair_at ram (2 * p)
    here =
        let e : 2 * p ≡ even (2 * p) = omega arith in
        ap (λ (i : ℕ). record { low = get_or ram i 0; high = get_or ram (i + 1) 0 }) e

    one_more : to - p ≡ suc (to - (p + 1))
    one_more = omega arith

    pub span_here : y < lines_of ch (pair_here (2 * p))
        → round_of (to - p) ram ch (2 * p) y ≡ Break (record { descriptor = pair_here (2 * p); line = record { 0 = y + 1 } })
    span_here h =
        ap (λ (k : ℕ). round_of k ram ch (2 * p) y) one_more
        ∙ round_here (to - (p + 1)) (2 * p) y (subst (λ (d : Pair). y < lines_of ch d) here h)
        ∙ ap (λ (d : Pair). Break (record { descriptor = d; line = record { 0 = y + 1 } })) (sym here)

    pub span_next : (z : ℕ) → z + lines_of ch (pair_here (2 * p)) ≡ y
        → round_of (to - (p + 1)) ram ch (2 * (p + 1)) z ≡ round_of (to - p) ram ch (2 * p) y
    span_next z e =
        let q : z + lines_at ram ch (2 * p) ≡ y = subst (λ (d : Pair). z + lines_of ch d ≡ y) here e in
        let left : z ≡ y - lines_at ram ch (2 * p) = omega (arith, q) in
        round_even (to - (p + 1)) (2 * (p + 1)) (next (2 * p)) z (omega arith)
        ∙ ap (round_of (to - (p + 1)) ram ch (next (2 * p))) left
        ∙ sym (ap (λ (k : ℕ). round_of k ram ch (2 * p) y) one_more ∙ round_next (to - (p + 1)) (2 * p) y (omega (arith, q)))

  pub span_end : (to p y : ℕ) → to ≤ p → round_of (to - p) ram ch (2 * p) y ≡ Continue y
  span_end to p y h =
      let none : to - p ≡ 0 = omega arith in
      ap (λ (n : ℕ). round_of n ram ch (2 * p) y) none ∙ round_end (2 * p) y

  -- no more lines are left
  pub round_less : (k a y z : ℕ) → round_of k ram ch a y ≡ Continue z → z ≤ y
  round_less zero a y z e =
      let f = round_end a y in
      let g : z ≡ y = cc in
      omega arith
  round_less (suc k) a y z e = by (dec_lt y (lines_at ram ch a)) (round_less k (next a) (y - lines_at ram ch a) z)
    where
      by : Dec (y < lines_at ram ch a) → (round_of k ram ch (next a) (y - lines_at ram ch a) ≡ Continue z → z ≤ y - lines_at ram ch a) → z ≤ y
      by (yes p) ih = let f = round_here k a y p in cc
      by (no p) ih = let h = ih (sym (round_next k a y (omega arith)) ∙ e) in omega arith

  -- ---- the lines of k descriptors in a row

  unfoldable pub lines_on : ℕ → ℕ → ℕ
  lines_on zero a = 0
  lines_on (suc k) a = lines_at ram ch a + lines_on k (next a)

  -- none exactly if all are passed over
  on_none : (n a : ℕ) → passed_at ram (strip_from n ram a) ≡ eqb (lines_on (suc n) a) 0
  unfolding lines_on
  on_none =
      strip_by ram (λ (n a : ℕ). passed_at ram (strip_from n ram a) ≡ eqb (lines_on (suc n) a) 0)
      (λ a. let l : lines_at ram ch a ≡ lines_at ram ch a + 0 = omega arith in
      ap (passed_at ram) (strip-none ram a) ∙ lines_none ch (pair_at ram a) ∙ ap (λ (k : ℕ). eqb k 0) l)
      (λ n a p q. let rest : ℕ = lines_on (suc n) (next a) in
      let l : rest ≡ lines_at ram ch a + rest = omega (arith, lines-passed ch (pair_at ram a) p) in
      ap (passed_at ram) (strip-next ram n a p) ∙ q ∙ ap (λ (k : ℕ). eqb k 0) l)
      (λ n a p. let some : 1 ≤ lines_at ram ch a = lines-some ch (pair_at ram a) p in
      ap (passed_at ram) (strip_here ram (suc n) a p) ∙ p ∙ sym (ne_eqb (lines_on (suc (suc n)) a) 0 (λ e. omega arith)))

  -- past them all
  round_past : (k a y : ℕ) → lines_on k a ≤ y → round_of k ram ch a y ≡ Continue (y - lines_on k a)
  unfolding lines_on
  round_past zero a y h =
      let left : y ≡ y - 0 = omega arith in
      round_end a y ∙ ap (λ (z : ℕ). Continue z) left
  round_past (suc k) a y h =
      let l : ℕ = lines_at ram ch a in
      let left : y - l - lines_on k (next a) ≡ y - (l + lines_on k (next a)) = omega arith in
      round_next k a y (omega arith) ∙ round_past k (next a) (y - l) (omega arith) ∙ ap (λ (z : ℕ). Continue z) left

  -- among them, where there are strips: the line is found
  round_found : (k a y : ℕ) → Strips ram a → y < lines_on k a → round_of k ram ch a y ≡ Break (falls_in y ram ch a y)
  unfolding lines_on
  round_found zero a y s h = absurd (omega arith)
  round_found (suc k) a y s h = by (dec_lt y l) (round_found k (next a) (y - l) (strips_next ram a s))
    where
      l : ℕ
      l = lines_at ram ch a

      by : Dec (y < l) → (y - l < lines_on k (next a) → round_of k ram ch (next a) (y - l) ≡ Break (falls_in (y - l) ram ch (next a) (y - l)))
          → round_of (suc k) ram ch a y ≡ Break (falls_in y ram ch a y)
      by (yes p) ih = round_here k a y p ∙ ap (λ (l : StripLine). Break l) (sym (falls_here ram ch y a y p))
      by (no p) ih =
          round_next k a y (omega arith) ∙ ih (omega arith) ∙ ap (λ (l : StripLine). Break l) (sym (falls_next ram ch a y s (omega arith)))

  -- ---- whole rounds

  -- as many lines on, from that many descriptors on
  falls_on : (k a y : ℕ) → Strips ram a → lines_on k a ≤ y
      → falls_in y ram ch a y ≡ falls_in (y - lines_on k a) ram ch (a + 2 * k) (y - lines_on k a)
  unfolding lines_on
  falls_on zero a y s h =
      let here : a ≡ a + 2 * 0 = omega arith in
      let left : y ≡ y - 0 = omega arith in
      ap₂ (λ (i z : ℕ). falls_in z ram ch i z) here left
  falls_on (suc k) a y s h =
      let l : ℕ = lines_at ram ch a in
      let left : y - l - lines_on k (next a) ≡ y - (l + lines_on k (next a)) = omega arith in
      falls_next ram ch a y s (omega arith)
      ∙ falls_on k (next a) (y - l) (strips_next ram a s) (omega arith)
      ∙ ap (λ (z : ℕ). falls_in z ram ch (next a + 2 * k) z) left
      ∙ falls_even ram ch _ (next a + 2 * k) (a + 2 * suc k) _ (omega arith)

  -- where a round has lines there are strips
  some_strips : (a : ℕ) → 1 ≤ lines_on ram_pairs a → Strips ram a
  some_strips a h = on_none 511 a ∙ ne_eqb (lines_on 512 a) 0 (λ e. omega (arith, e))

  -- a round of lines fewer is the same line
  pub falls_round : (a y : ℕ) → 1 ≤ lines_on ram_pairs a → lines_on ram_pairs a ≤ y
      → falls_in y ram ch a y ≡ falls_in (y - lines_on ram_pairs a) ram ch a (y - lines_on ram_pairs a)
  falls_round a y h k =
      falls_on 512 a y (some_strips a h) k ∙ falls_even ram ch _ (a + 2 * 512) a _ (omega arith)

  -- ---- what a round finds

  abbrev round_at : ℕ → ℕ → ControlFlow StripLine ℕ
  round_at a y = round_of ram_pairs ram ch a y

  pub round_in : (a y : ℕ) → y < lines_on ram_pairs a → round_at a y ≡ Break (falls_in y ram ch a y)
  round_in a y h = round_found 512 a y (some_strips a (omega arith)) h

  pub round_line : (a y : ℕ) {l : StripLine} → round_at a y ≡ Break l → l ≡ falls_in y ram ch a y
  round_line a y {l} e = by (dec_lt y (lines_on 512 a))
    where
      by : Dec (y < lines_on 512 a) → l ≡ falls_in y ram ch a y
      by (yes p) = let f = round_in a y p in cc
      by (no p) = let f = round_past 512 a y (omega arith) in cc

  -- nothing, and then it took all its lines
  pub round_left : (a y : ℕ) {z : ℕ} → round_at a y ≡ Continue z → lines_on ram_pairs a + z ≡ y
  round_left a y {z} e = by (dec_lt y (lines_on 512 a))
    where
      by : Dec (y < lines_on 512 a) → lines_on 512 a + z ≡ y
      by (yes p) = let f = round_in a y p in cc
      by (no p) =
          let f = round_past 512 a y (omega arith) in
          let g : z ≡ y - lines_on 512 a = cc in
          omega arith

  -- where it has none, the last descriptor stands for the strip
  pub round_none : (a y : ℕ) → lines_on ram_pairs a ≡ 0 → line_at ram (a + 1022) y ≡ falls_in y ram ch a y
  round_none a y e =
      let last : ℕ = first_at ram a in
      let all : passed_at ram last ≡ true = on_none 511 a ∙ eq-eqb (lines_on 512 a) 0 e in
      let wrapped : even (a + 1022) ≡ even (a + 2 * 511) = omega arith in
      let same : pair_at ram (a + 1022) ≡ pair_at ram last = pair_same ram (a + 1022) last (wrapped ∙ sym (strip_last ram 511 a all)) in
      ap (λ (d : Pair). record { descriptor = d; line = record { 0 = y + 1 } }) same
      ∙ sym (falls_none ram ch y a y all)

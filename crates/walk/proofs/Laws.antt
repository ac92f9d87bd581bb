-- The laws of the walk: addresses lie below 1,024, the strip on screen is at one of its lines, which descriptors are passed over, and the plain
-- rest of a frame (K9).
-- Assumes nothing.
use Prim.Native.Nat.{ℕ, zero, suc, ◌+◌, ◌-◌, ◌*◌, ◌%◌, ◌≤◌, ◌<◌}
use mathlib.Core.Path.{◌≡◌, refl, sym, ap, ap₂, ◌∙◌, subst}
use mathlib.Core.Bool.{Bool, true, false, cond, ◌&&◌, false≢true}
use native.Mathlib.Nat.{zero-add, add-zero}
use native.Mathlib.Decide.{dec_lt}
use native.Mathlib.Omega.{arith}
use borrow.Author.Tests.{eqb-true, eqb-false, eq-eqb, ne_eqb}
use mathlib.Core.List.{List, [], ◌∷◌}
use lib.Dec.{eqb}
use lib.ListN.{length, get_or}
use Rattle.std.specs.Prelude.{Some, None}
use Rattle.limits.specs.Limits.{ram_length, ram_pairs}
use Rattle.facts.proofs.Choice.{either}
use Rattle.cells.specs.Reading.{Role, descriptor, Reading, done, read, fmap, value, cells}
use Rattle.cells.proofs.Laws.{value-fmap, cells-fmap}
use Rattle.cells.proofs.Bounds.{Only, only-fmap}
use Rattle.cells.proofs.Counts.{Few, few-done, few-fmap, two, few_two}
use Rattle.raster.specs.declared.ScanLine.{ScanLine}
use Rattle.raster.specs.Raster.{before_first, lines_after}
use Rattle.raster.proofs.Laws.{some_after, one_less, last_none, following_in}
use Rattle.walk.specs.declared.Strip.{Strip}
use Rattle.walk.specs.declared.Strip.TheVariants.{Spacing, Characters}
use Rattle.walk.specs.declared.Walk.{Walk}
use Rattle.walk.specs.Walk.{even, next, walk_at, plain_rest, height_of, is_spacing, enabled_by, zoomed_by, codes_at, passed_over, shows_codes, strip_of, over, lines_left, next_strip, in_plain_rest, begun, advanced, onward, next_line, OnLine, walked, begins_at}

-- ---- addresses

-- both bytes at an even address lie in the RAM
pub even_bound : (a : ℕ) → even a + 1 < ram_length
even_bound a = omega arith

-- the next one of an address is that of its even one
pub next-even : (a : ℕ) → next (even a) ≡ next a
next-even a = omega arith

pub next-same : (a b : ℕ) → even a ≡ even b → next a ≡ next b
next-same a b e = sym (next-even a) ∙ ap next e ∙ next-even b

-- so many further from the next one
next_by : (a i : ℕ) → even (next a + 2 * i) ≡ even (a + 2 * suc i)
next_by a i = omega arith

-- the next one, where it does not wrap
next_on : (a : ℕ) → a % 2 ≡ 0 → a < 1022 → next a ≡ a + 2
next_on a e l = omega arith

-- another lies two cells further from an address than from the next one
two_further : (a b : ℕ) → even a ≡ a → even b ≡ b → (b ≡ a → ⊥) → (b + 1024 - next a) % 1024 + 2 ≡ (b + 1024 - a) % 1024
two_further a b p q h = by (dec_lt a 1022) (dec_lt b a)
  where
    paired : (x : ℕ) → even x ≡ x → (x % 2 ≡ 0) × (x < 1024)
    paired x e = (omega (arith, e), omega (arith, e))

    behind : a + 2 ≤ b → b < 1024 → (b + 1024 - (a + 2)) % 1024 + 2 ≡ (b + 1024 - a) % 1024
    behind m l =
        let once : (d : ℕ) → d < 1024 → (d + 1024) % 1024 ≡ d = λ d k. omega arith in
        let near : b + 1024 - (a + 2) ≡ b - (a + 2) + 1024 = omega arith in
        let far : b + 1024 - a ≡ b - a + 1024 = omega arith in
        rw (near, far, once (b - (a + 2)) (omega arith), once (b - a) (omega arith)) (omega (arith, m))

    by : Dec (a < 1022) → Dec (b < a) → (b + 1024 - next a) % 1024 + 2 ≡ (b + 1024 - a) % 1024
    by (yes l) (yes m) =
        rw (next_on a (paired a p).0 l) (omega (arith, l, m))
    by (yes l) (no m) =
        let more : a + 2 ≤ b = omega (arith, paired a p, paired b q, m, h) in
        rw (next_on a (paired a p).0 l) (behind more (paired b q).1)
    by (no l) m =
        let last : a ≡ 1022 = omega (arith, paired a p, l) in
        rw last (omega (arith, paired b q, last, h))

-- ---- the lines that a strip has left

-- a strip is over where it has none
over_none : (s : Strip) → over s ≡ eqb (lines_left s) 0
unfolding over lines_left
over_none (Spacing left) = refl
over_none (Characters address height zoom enabled line) = last_none line height zoom

over-left : (s : Strip) → over s ≡ false → 1 ≤ lines_left s
over-left s e = omega (arith, eqb-false (lines_left s) 0 (sym (over_none s) ∙ e))

pub left_over : (s : Strip) → 1 ≤ lines_left s → over s ≡ false
left_over s h = over_none s ∙ ne_eqb (lines_left s) 0 (omega arith)

pub none_over : (s : Strip) → lines_left s ≡ 0 → over s ≡ true
none_over s e = over_none s ∙ eq-eqb (lines_left s) 0 e

-- each line leaves one less
pub left-advanced : (s : Strip) → lines_left (advanced s) ≡ lines_left s - 1
unfolding lines_left advanced
left-advanced (Spacing left) = refl
left-advanced (Characters address height zoom enabled line) = one_less line height zoom

-- k lines on
unfoldable pub advanced_by : ℕ → Strip → Strip
advanced_by zero t = t
advanced_by (suc k) t = advanced_by k (advanced t)

pub left_by : (k : ℕ) (t : Strip) → lines_left (advanced_by k t) ≡ lines_left t - k
unfolding advanced_by
left_by zero t = omega arith
left_by (suc k) t = left_by k (advanced t) ∙ omega (arith, left-advanced t)

-- a descriptor is passed over exactly if its strip has none
pub none_passed : (ch low high : ℕ) → passed_over low high ≡ eqb (lines_left (strip_of ch low high)) 0
unfolding strip_of lines_left
none_passed ch low high = by (is_spacing high)
  where
    by : (t : Bool)
        → t && eqb low 0
        ≡ eqb (lines_left (cond t (Spacing low) (Characters (codes_at low high) (height_of ch) (zoomed_by high) (enabled_by high) before_first))) 0
    by true = refl
    by false = sym (ne_eqb (lines_after before_first (height_of ch) (zoomed_by high)) 0 (λ e. omega (arith, e, some_after (height_of ch) (zoomed_by high) (omega arith))))

pub passed-strip : (ch low high : ℕ) → passed_over low high ≡ true → strip_of ch low high ≡ Spacing 0
unfolding strip_of
passed-strip ch low high e = by (is_spacing high) e
  where
    by : (t : Bool) → t && eqb low 0 ≡ true
        → cond t (Spacing low) (Characters (codes_at low high) (height_of ch) (zoomed_by high) (enabled_by high) before_first) ≡ Spacing 0
    by true q = ap Spacing (eqb-true low 0 q)
    by false q = absurd (false≢true q)

pub strip_of-some : (ch low high : ℕ) → passed_over low high ≡ false → 1 ≤ lines_left (strip_of ch low high)
strip_of-some ch low high e = omega (arith, eqb-false (lines_left (strip_of ch low high)) 0 (sym (none_passed ch low high) ∙ e))

-- ---- the strip of a descriptor

-- codes are read on its lines
pub codes-shown : (ch low high : ℕ) → shows_codes high ≡ true
    → strip_of ch low high ≡ Characters (codes_at low high) (height_of ch) (zoomed_by high) true before_first
unfolding strip_of
codes-shown ch low high e = by (is_spacing high) (enabled_by high) e
  where
    by : (t u : Bool) → cond t false u ≡ true
        → cond t (Spacing low) (Characters (codes_at low high) (height_of ch) (zoomed_by high) u before_first)
        ≡ Characters (codes_at low high) (height_of ch) (zoomed_by high) true before_first
    by true u q = absurd (false≢true q)
    by false u q = ap (λ (b : Bool). Characters (codes_at low high) (height_of ch) (zoomed_by high) b before_first) q

-- it is not passed over
pub codes_begin : (low high : ℕ) → shows_codes high ≡ true → passed_over low high ≡ false
codes_begin low high e = by (is_spacing high) e
  where
    by : (t : Bool) → cond t false (enabled_by high) ≡ true → t && eqb low 0 ≡ false
    by true q = absurd (false≢true q)
    by false q = refl

-- none are: it is spacing, or has DE 0
pub codes-none : (P : Strip → Type 0) (ch low high : ℕ) → shows_codes high ≡ false → ((left : ℕ) → P (Spacing left))
    → ((address height : ℕ) (zoom : Bool) (line : ScanLine) → P (Characters address height zoom false line)) → P (strip_of ch low high)
unfolding strip_of
codes-none P ch low high e f g = by (is_spacing high) (enabled_by high) e
  where
    by : (t u : Bool) → cond t false u ≡ false
        → P (cond t (Spacing low) (Characters (codes_at low high) (height_of ch) (zoomed_by high) u before_first))
    by true u q = f low
    by false true q = absurd (false≢true (sym q))
    by false false q = g (codes_at low high) (height_of ch) (zoomed_by high) before_first

-- ---- the strip on screen is at one of its lines

-- a strip with a line left, at its next line
left_on : (s : Strip) → 1 ≤ lines_left s → OnLine (advanced s)
unfolding lines_left advanced OnLine
left_on (Spacing left) h = tt
left_on (Characters address height zoom enabled line) h = following_in line height zoom h

-- ---- the next strip. No other file opens `next_strip`: what is above cites these

-- the strip whose descriptor lies at an address, and whether it is passed over
abbrev pub strip_at : List ℕ → ℕ → ℕ → Strip
strip_at ram ch a = strip_of ch (get_or ram (even a) 0) (get_or ram (even a + 1) 0)

abbrev passed_here : List ℕ → ℕ → Bool
passed_here ram a = passed_over (get_or ram a 0) (get_or ram (a + 1) 0)

abbrev pub passed_at : List ℕ → ℕ → Bool
passed_at ram a = passed_here ram (even a)

-- a strip that has just begun is not over
pub strip_of-begun : (ch low high : ℕ) → passed_over low high ≡ false → over (strip_of ch low high) ≡ false
strip_of-begun ch low high e = left_over (strip_of ch low high) (strip_of-some ch low high e)

-- a descriptor more: it is passed over, or begins its strip
module _ (ram : List ℕ) (n ch a : ℕ) where
  pub pass_value : passed_at ram a ≡ true → value ram (next_strip (suc n) ch a) ≡ value ram (next_strip n ch (next a))
  unfolding next_strip value
  pass_value e = ap (λ (t : Bool). value ram (cond t (next_strip n ch (next a)) (done (walk_at (next a) (strip_at ram ch a))))) e

  pub pass_cells : passed_at ram a ≡ true → cells ram (next_strip (suc n) ch a) ≡ even a ∷ (even a + 1) ∷ cells ram (next_strip n ch (next a))
  unfolding next_strip cells
  pass_cells e = rw e

  pub begin_value : passed_at ram a ≡ false → value ram (next_strip (suc n) ch a) ≡ walk_at (next a) (strip_at ram ch a)
  unfolding next_strip value
  begin_value e = ap (λ (t : Bool). value ram (cond t (next_strip n ch (next a)) (done (walk_at (next a) (strip_at ram ch a))))) e

  pub begin_cells : passed_at ram a ≡ false → cells ram (next_strip (suc n) ch a) ≡ even a ∷ (even a + 1) ∷ []
  unfolding next_strip cells
  begin_cells e = rw e

-- none left to read
pub rest-value : (ram : List ℕ) (ch a : ℕ) → value ram (next_strip 0 ch a) ≡ plain_rest a
unfolding next_strip value
rest-value ram ch a = refl

rest-cells : (ram : List ℕ) (ch a : ℕ) → cells ram (next_strip 0 ch a) ≡ []
unfolding next_strip cells
rest-cells ram ch a = refl

-- any address of a descriptor stands for its even one
next_strip-even : (n ch a b : ℕ) → even a ≡ even b → next_strip (suc n) ch a ≡ next_strip (suc n) ch b
unfolding next_strip
next_strip-even n ch a b p =
    ap₂ (λ (x y : ℕ).
    read descriptor x λ low. read descriptor (x + 1) λ high. cond (passed_over low high) (next_strip n ch y) (done (walk_at y (strip_of ch low high))))
    p (next-same a b p)

-- k that are passed over, one after the other
module _ (ram : List ℕ) (ch : ℕ) where
  abbrev PassedRun : ℕ → ℕ → Type 0
  PassedRun k a = (i : ℕ) → i < k → passed_at ram (a + 2 * i) ≡ true

  run_on : (k a : ℕ) → PassedRun (suc k) a → PassedRun k (next a)
  run_on k a h i l =
      ap (passed_here ram) (next_by a i) ∙ h (suc i) (omega arith)

  run_first : (k a : ℕ) → PassedRun (suc k) a → passed_at ram a ≡ true
  run_first k a h = let e : even a ≡ even (a + 2 * 0) = omega arith in ap (passed_here ram) e ∙ h 0 (omega arith)

  run_more : (k n : ℕ) → suc k + suc n ≡ suc (k + suc n)
  run_more k n = omega arith

  pub run_value : (k n a : ℕ) → PassedRun k a → value ram (next_strip (k + suc n) ch a) ≡ value ram (next_strip (suc n) ch (a + 2 * k))
  run_value zero n a h = ap₂ (λ (m x : ℕ). value ram (next_strip m ch x)) (zero-add (suc n)) (sym (add-zero a))
  run_value (suc k) n a h =
      ap (λ (m : ℕ). value ram (next_strip m ch a)) (run_more k n)
      ∙ pass_value ram (k + suc n) ch a (run_first k a h)
      ∙ run_value k n (next a) (run_on k a h)
      ∙ ap (value ram) (next_strip-even n ch (next a + 2 * k) (a + 2 * suc k) (omega arith))

  pub run-cells : (k n a : ℕ) → PassedRun k a
      → length (cells ram (next_strip (k + suc n) ch a)) ≡ 2 * k + length (cells ram (next_strip (suc n) ch (a + 2 * k)))
  run-cells zero n a h =
      ap₂ (λ (m x : ℕ). length (cells ram (next_strip m ch x))) (zero-add (suc n)) (sym (add-zero a)) ∙ sym (zero-add _)
  run-cells (suc k) n a h =
      let more = ap (λ (m : ℕ). length (cells ram (next_strip m ch a))) (run_more k n) in
      let pass = ap length (pass_cells ram (k + suc n) ch a (run_first k a h)) in
      let rest = run-cells k n (next a) (run_on k a h) in
      let same = ap (λ (p : Reading Walk). length (cells ram p)) (next_strip-even n ch (next a + 2 * k) (a + 2 * suc k) (omega arith)) in
      omega (arith, more, pass, rest, same)

  -- all 512: a whole round of RAM
  pub all-value : (a : ℕ) → PassedRun ram_pairs a → value ram (next_strip ram_pairs ch a) ≡ plain_rest (next (a + 2 * 511))
  all-value a h =
      run_value 511 0 a (λ i l. h i (omega arith))
      ∙ pass_value ram 0 ch (a + 2 * 511) (h 511 (omega arith))
      ∙ rest-value ram ch (next (a + 2 * 511))

  pub all-cells : (a : ℕ) → PassedRun ram_pairs a → length (cells ram (next_strip ram_pairs ch a)) ≡ ram_length
  all-cells a h =
      let last = ap length (pass_cells ram 0 ch (a + 2 * 511) (h 511 (omega arith))) in
      let none = ap length (rest-cells ram ch (next (a + 2 * 511))) in
      omega (arith, run-cells 511 0 a (λ i l. h i (omega arith)), last, none)

-- n descriptors at the most, two cells each at an even address; and the strip has a line, or the rest of the frame is plain
abbrev Begun : Walk → Type 0
Begun w = OnLine (advanced w.strip)

next_strip-only : (P : Role → ℕ → Type 0) → ((c : ℕ) → c < ram_length → P descriptor c) → (n ch a : ℕ) → Only P Begun (next_strip n ch a)
unfolding Only next_strip
next_strip-only P descriptors zero ch a = unfold OnLine advanced in tt
next_strip-only P descriptors (suc n) ch a =
    let later = next_strip-only P descriptors n ch (next a) in
    (descriptors _ (omega arith), λ low. (descriptors _ (even_bound a), λ high. by low high (passed_over low high) refl later))
  where
    by : (low high : ℕ) (t : Bool) → passed_over low high ≡ t → Only P Begun (next_strip n ch (next a))
        → Only P Begun (cond t (next_strip n ch (next a)) (done (walk_at (next a) (strip_of ch low high))))
    by low high true e later = later
    by low high false e later = left_on (strip_of ch low high) (strip_of-some ch low high e)

next_strip-few : (r : Role) (ram : List ℕ) (n ch a : ℕ) → Few r ram (n * two r descriptor) (next_strip n ch a)
unfolding next_strip
next_strip-few r ram zero ch a = few-done r ram _ _
next_strip-few r ram (suc n) ch a =
    few_two r ram descriptor _ (n * two r descriptor) _ _ _ (omega arith)
    (either (Few r ram (n * two r descriptor)) (passed_at ram a) _ _ (next_strip-few r ram n ch (next a)) (few-done r ram _ _))

-- ---- the walk's next line. No other file opens `next_line`: what is above cites these

module _ (ch : ℕ) (w : Walk) where
  -- a strip with a line left goes on, and nothing is read
  pub step_on_lem : over w.strip ≡ false → next_line ch w ≡ done (walk_at w.descriptor (advanced w.strip))
  unfolding next_line begun fmap
  step_on_lem e = rw e

  -- one that is over gives way to the next
  pub step_begin : over w.strip ≡ true → w.plain ≡ false → next_line ch w ≡ fmap onward (next_strip ram_pairs ch w.descriptor)
  unfolding next_line begun
  step_begin e f = rw (e, f)

  -- or, in the plain rest, to nothing
  pub step-plain : over w.strip ≡ true → w.plain ≡ true → next_line ch w ≡ done (plain_rest w.descriptor)
  unfolding next_line begun fmap advanced
  step-plain e f = rw (e, f)

  -- `plain` counts in the plain rest alone
  pub step_strips : in_plain_rest w ≡ false → next_line ch w ≡ next_line ch (walk_at w.descriptor w.strip)
  unfolding next_line begun
  step_strips e = by (over w.strip) w.plain e
    where
      by : (t u : Bool) → u && t ≡ false
          → fmap onward
          (cond t (cond u (done (plain_rest w.descriptor)) (next_strip ram_pairs ch w.descriptor)) (done (walk_at w.descriptor w.strip)))
          ≡ fmap onward (cond t (next_strip ram_pairs ch w.descriptor) (done (walk_at w.descriptor w.strip)))
      by true true q = absurd (false≢true (sym q))
      by true false q = refl
      by false u q = refl

-- whichever strip is over, and whichever of its two addresses the descriptor is given by
pub step_same : (ch : ℕ) (w : Walk) (b : ℕ) → over w.strip ≡ true → w.plain ≡ false → even w.descriptor ≡ even b
    → next_line ch w ≡ next_line ch (walk_at b (Spacing 0))
unfolding over
step_same ch w b e f p =
    step_begin ch w e f ∙ ap (fmap onward) (next_strip-even 511 ch w.descriptor b p) ∙ sym (step_begin ch (walk_at b (Spacing 0)) refl refl)

-- what it finds and what it reads
module _ (ram : List ℕ) (ch : ℕ) (w : Walk) where
  pub on_value : over w.strip ≡ false → value ram (next_line ch w) ≡ walk_at w.descriptor (advanced w.strip)
  unfolding value
  on_value e = ap (value ram) (step_on_lem ch w e)

  pub on_cells : over w.strip ≡ false → cells ram (next_line ch w) ≡ []
  unfolding cells
  on_cells e = ap (cells ram) (step_on_lem ch w e)

  pub over-value : over w.strip ≡ true → w.plain ≡ false → value ram (next_line ch w) ≡ onward (value ram (next_strip ram_pairs ch w.descriptor))
  over-value e f = ap (value ram) (step_begin ch w e f) ∙ value-fmap ram onward (next_strip ram_pairs ch w.descriptor)

  pub over-cells : over w.strip ≡ true → w.plain ≡ false → cells ram (next_line ch w) ≡ cells ram (next_strip ram_pairs ch w.descriptor)
  over-cells e f = ap (cells ram) (step_begin ch w e f) ∙ cells-fmap ram onward (next_strip ram_pairs ch w.descriptor)

  pub plain_value : over w.strip ≡ true → w.plain ≡ true → value ram (next_line ch w) ≡ plain_rest w.descriptor
  unfolding value
  plain_value e f = ap (value ram) (step-plain ch w e f)

  pub plain_cells : over w.strip ≡ true → w.plain ≡ true → cells ram (next_line ch w) ≡ []
  unfolding cells
  plain_cells e f = ap (cells ram) (step-plain ch w e f)

-- it reads descriptors at most, 512 of two cells at an even address, and brings the strip to one of its lines
pub next_line-only : (P : Role → ℕ → Type 0) → ((c : ℕ) → c < ram_length → P descriptor c) → (ch : ℕ) (w : Walk)
    → Only P (λ (v : Walk). OnLine v.strip) (next_line ch w)
unfolding Only
next_line-only P descriptors ch w = by (over w.strip) w.plain refl refl
  where
    by : (t u : Bool) → over w.strip ≡ t → w.plain ≡ u → Only P (λ (v : Walk). OnLine v.strip) (next_line ch w)
    by false u e f = rw (step_on_lem ch w e) (left_on w.strip (over-left w.strip e))
    by true true e f = rw (step-plain ch w e f) (unfold OnLine in tt)
    by true false e f = rw (step_begin ch w e f) (only-fmap P Begun _ onward _ (next_strip-only P descriptors ram_pairs ch w.descriptor) (λ v q. q))

pub next_line-few : (r : Role) (ram : List ℕ) (ch : ℕ) (w : Walk) → Few r ram (ram_pairs * two r descriptor) (next_line ch w)
next_line-few r ram ch w = by (over w.strip) w.plain refl refl
  where
    by : (t u : Bool) → over w.strip ≡ t → w.plain ≡ u → Few r ram (ram_pairs * two r descriptor) (next_line ch w)
    by false u e f = rw (step_on_lem ch w e) (few-done r ram _ _)
    by true true e f = rw (step-plain ch w e f) (few-done r ram _ _)
    by true false e f = rw (step_begin ch w e f) (few-fmap r ram _ onward _ (next_strip-few r ram ram_pairs ch w.descriptor))

-- ---- what the code's steps need

-- the walk's next line where a strip has a line left
pub walked_on : (ram : List ℕ) (ch : ℕ) (w : Walk) → over w.strip ≡ false
    → walked ram ch w ≡ record { walk = walk_at w.descriptor (advanced w.strip); cells = 0 }
unfolding walked
walked_on ram ch w e = rw (on_value ram ch w e, on_cells ram ch w e)

-- in the plain rest
pub walked_plain : (ram : List ℕ) (ch : ℕ) (w : Walk) → over w.strip ≡ true → w.plain ≡ true
    → walked ram ch w ≡ record { walk = plain_rest w.descriptor; cells = 0 }
unfolding walked
walked_plain ram ch w e f = rw (plain_value ram ch w e f, plain_cells ram ch w e f)

-- ---- where a strip begins

module _ (ram : List ℕ) where
  pub at_next : (n a : ℕ) → passed_here ram a ≡ true → begins_at (suc n) ram a ≡ begins_at n ram (next a)
  unfolding begins_at
  at_next n a e = ap (λ (t : Bool). cond t (begins_at n ram (next a)) (Some a)) e

  pub at_here : (n a : ℕ) → passed_here ram a ≡ false → begins_at (suc n) ram a ≡ Some a
  unfolding begins_at
  at_here n a e = ap (λ (t : Bool). cond t (begins_at n ram (next a)) (Some a)) e

  pub at_none : (a : ℕ) → begins_at 0 ram a ≡ None
  unfolding begins_at
  at_none a = refl

  -- by its two bytes at the even address
  here_at : (a : ℕ) → even a ≡ a → passed_at ram a ≡ passed_here ram a
  here_at a p = ap (passed_here ram) p

  -- the walk's next strip is that of the descriptor there
  pub record BeginsAt (n ch a b : ℕ) : Type 0 where
    pub paired : even b ≡ b
    pub begins : passed_here ram b ≡ false
    pub walk : value ram (next_strip n ch a) ≡ walk_at (next b) (strip_of ch (get_or ram b 0) (get_or ram (b + 1) 0))
    pub reads : length (cells ram (next_strip n ch a)) ≡ (b + 1024 - a) % 1024 + 2

  pub begins_some : (n ch a b : ℕ) → even a ≡ a → begins_at n ram a ≡ Some b → BeginsAt n ch a b
  begins_some zero ch a b p h = let none = at_none a in absurd cc
  begins_some (suc n) ch a b p h = by (passed_here ram a) refl (begins_some n ch (next a) b (omega arith))
    where
      by : (t : Bool) → passed_here ram a ≡ t → (begins_at n ram (next a) ≡ Some b → BeginsAt n ch (next a) b) → BeginsAt (suc n) ch a b
      by false e later =
          let here = at_here n a e in
          let q : a ≡ b = cc in
          subst (BeginsAt (suc n) ch a) q
          (record {
            paired = p;
            begins = e;
            walk = begin_value ram n ch a (here_at a p ∙ e) ∙ ap (λ (x : ℕ). walk_at (next a) (strip_of ch (get_or ram x 0) (get_or ram (x + 1) 0))) p;
            reads = ap length (begin_cells ram n ch a (here_at a p ∙ e)) ∙ omega (arith, p);
          })
      by true e later =
          let r : BeginsAt n ch (next a) b = later (sym (at_next n a e) ∙ h) in
          let other : b ≡ a → ⊥ = λ q. false≢true (sym r.begins ∙ ap (passed_here ram) q ∙ e) in
          record {
            paired = r.paired;
            begins = r.begins;
            walk = pass_value ram n ch a (here_at a p ∙ e) ∙ r.walk;
            reads = omega (arith, two_further a b p r.paired other, r.reads, ap length (pass_cells ram n ch a (here_at a p ∙ e)));
          }

  pub begins_none : (n a : ℕ) → even a ≡ a → begins_at n ram a ≡ None → (i : ℕ) → i < n → passed_at ram (a + 2 * i) ≡ true
  begins_none zero a p h i l = absurd (omega arith)
  begins_none (suc n) a p h i l = by (passed_here ram a) refl i l (begins_none n (next a) (omega arith))
    where
      by : (t : Bool) → passed_here ram a ≡ t → (i : ℕ) → i < suc n
          → (begins_at n ram (next a) ≡ None → (j : ℕ) → j < n → passed_at ram (next a + 2 * j) ≡ true) → passed_at ram (a + 2 * i) ≡ true
      by false e i l later = let here = at_here n a e in absurd cc
      by true e zero l later = ap (passed_at ram) (add-zero a) ∙ here_at a p ∙ e
      by true e (suc i) l later =
          ap (passed_here ram) (sym (next_by a i)) ∙ later (sym (at_next n a e) ∙ h) i (omega arith)

-- the walk's next line where a strip is over: whichever it was
pub walked_begin : (ram : List ℕ) (ch : ℕ) (w : Walk) → over w.strip ≡ true → w.plain ≡ false
    → walked ram ch w ≡ walked ram ch (walk_at w.descriptor (Spacing 0))
unfolding walked
walked_begin ram ch w e f = rw (step_same ch w w.descriptor e f refl)

module _ (ram : List ℕ) (ch descriptor first : ℕ) (e : first ≡ even descriptor) where
  abbrev w : Walk
  w = walk_at descriptor (Spacing 0)

  o : over w.strip ≡ true
  unfolding over
  o = refl

  from_first : next_strip ram_pairs ch descriptor ≡ next_strip ram_pairs ch first
  from_first = next_strip-even 511 ch descriptor first (omega (arith, e))

  pub walked_none : begins_at ram_pairs ram first ≡ None → walked ram ch w ≡ record { walk = plain_rest first; cells = ram_length }
  unfolding walked advanced
  walked_none h =
      let all = begins_none ram ram_pairs first (omega (arith, e)) h in
      let round : next (first + 2 * 511) ≡ first = omega (arith, e) in
      ap₂ (λ (v : Walk) (n : ℕ). record { walk = v; cells = n })
      (over-value ram ch w o refl ∙ ap (λ (p : Reading Walk). onward (value ram p)) from_first ∙ ap onward (all-value ram ch first all) ∙ ap plain_rest round)
      (ap length (over-cells ram ch w o refl) ∙ ap (λ (p : Reading Walk). length (cells ram p)) from_first ∙ all-cells ram ch first all)

  pub walked_strip : (b : ℕ) → BeginsAt ram ram_pairs ch first b
      → walked ram ch w
      ≡ record { walk = walk_at (next b) (advanced (strip_of ch (get_or ram b 0) (get_or ram (b + 1) 0))); cells = (b + 1024 - first) % 1024 + 2 }
  unfolding walked
  walked_strip b r =
      ap₂ (λ (v : Walk) (n : ℕ). record { walk = v; cells = n })
      (over-value ram ch w o refl ∙ ap (λ (p : Reading Walk). onward (value ram p)) from_first ∙ ap onward r.walk)
      (ap length (over-cells ram ch w o refl) ∙ ap (λ (p : Reading Walk). length (cells ram p)) from_first ∙ r.reads)

-- The rows of several lines of a strip, and the remaining lines strip by strip.
-- Assumes nothing.
use Prim.Native.Nat.{ℕ, zero, suc, ◌+◌, ◌-◌, ◌≤◌, ◌<◌, min}
use mathlib.Core.Path.{◌≡◌, refl, sym, ap, ap₂, ◌∙◌, subst}
use mathlib.Core.Bool.{Bool, true, false, cond, ◌&&◌, ◌||◌, or-false, and-or_distrib_right}
use mathlib.Core.List.{List, [], ◌++◌, append_assoc}
use native.Mathlib.Nat.{not-suc-le-zero}
use native.Mathlib.Omega.{arith}
use borrow.Author.Tests.{eqb-false, eq-eqb, ne_eqb}
use lib.Dec.{eqb}
use lib.ListN.{get_or}
use Rattle.buffers.specs.Buffers.{Bytes}
use Rattle.limits.specs.Limits.{ram_length, ram_pairs}
use Rattle.facts.proofs.Tests.{and_both}
use Rattle.facts.proofs.Pairs.{pair_is}
use Rattle.cells.specs.Reading.{Reading, value, cells, among}
use Rattle.cells.proofs.Laws.{cells-bind, among-append}
use Rattle.registers.specs.declared.Settings.{Settings}
use Rattle.raster.specs.declared.ScanLine.{ScanLine}
use Rattle.raster.specs.declared.Slice.{Slice}
use Rattle.raster.specs.Raster.{following, lines_after, interpolated, characters_of}
use Rattle.raster.specs.Search.{same_slice, slice_shown}
use Rattle.raster.proofs.Laws.{one_less, following_in}
use Rattle.raster.proofs.Rules.{slice_range}
use Rattle.walk.specs.declared.Strip.{Strip}
use Rattle.walk.specs.declared.Strip.TheVariants.{Spacing, Characters}
use Rattle.walk.specs.declared.Walk.{Walk}
use Rattle.walk.specs.Walk.{even, next, walk_at, plain_rest, strip_of, over, lines_left, next_strip, in_plain_rest, advanced, onward, next_line}
use Rattle.walk.proofs.Laws.{left_over, none_over, left-advanced, advanced_by, left_by, passed-strip, strip_at, passed_at, strip_of-begun, pass_value, pass_cells, begin_value, begin_cells, step_strips, step_same, on_value, on_cells, over-value, over-cells, plain_value, plain_cells}
use Rattle.glyph.specs.Cells.{of_user, user_slice}
use Rattle.glyph.proofs.Cells.{of_slice}
use Rattle.line.specs.Line.{Place, shown_row, scan_by, scan}
use Rattle.line.proofs.Strips.{has_row, still_row, row_off, no_row, row-shown, scan-value, scan-cells}
use Rattle.ahead.specs.Ahead.{remaining}
use Rattle.ahead.specs.Question.{codes_at_most, user_shown}
use Rattle.ahead.specs.Looking.{row_reads, row_cells, strip_reads, pair_of, codes_to}
use Rattle.ahead.proofs.Rows.{row-reads, rows_merge, first_two}

-- ---- the rows of a strip

rows_none : (ram : List ℕ) (s : Settings) (k : ℕ) (t : Strip) → has_row t ≡ false → row_cells ram s k t ≡ []
unfolding row_cells cells
rows_none ram s zero t e = refl
rows_none ram s (suc k) t e =
    let f = still_row t ∙ e in
    ap₂ (λ (p : Reading (List Place)) (l : List ℕ). cells ram p ++ l) (no_row s (advanced t) f) (rows_none ram s k (advanced t) f)

-- the row of one line of characters
line_reads : (ram : List ℕ) (s : Settings) (address height : ℕ) (zoom : Bool) (line : ScanLine) (c : ℕ) → Bytes ram
    → 1 ≤ lines_after line height zoom
    → among c (cells ram (shown_row s (advanced (Characters address height zoom true line))))
    ≡ row_reads ram c (of_slice c (interpolated (following line) height zoom)) (codes_at_most s) address
unfolding advanced row_reads cells among
line_reads ram s address height zoom line c b h = by s.osd refl
  where
    slice : Slice
    slice = interpolated (following line) height zoom

    by : (o : Bool) → s.osd ≡ o
        → among c (cells ram (shown_row s (Characters address height zoom true (following line))))
        ≡ row_reads ram c (of_slice c slice) (cond o (characters_of s.ld s.dd) 0) address
    by true o =
        rw (row-shown s address height zoom (following line) o)
        (row-reads ram c (characters_of s.ld s.dd) slice address b (slice_range (following line) height zoom (following_in line height zoom h)))
    by false o = rw (row_off s (Characters address height zoom true (following line)) o)

-- the rows of k lines
lines-read : (k : ℕ) (ram : List ℕ) (s : Settings) (address height : ℕ) (zoom : Bool) (line : ScanLine) (c : ℕ) → Bytes ram
    → 1 ≤ k → k ≤ lines_after line height zoom
    → among c (row_cells ram s k (Characters address height zoom true line)) ≡ row_reads ram c (user_shown c line k height zoom) (codes_at_most s) address
unfolding row_cells slice_shown among advanced
lines-read zero ram s address height zoom line c b m h = absurd (not-suc-le-zero m)
lines-read (suc zero) ram s address height zoom line c b m h =
    among-append c (cells ram (shown_row s (advanced (Characters address height zoom true line)))) []
    ∙ or-false (among c (cells ram (shown_row s (advanced (Characters address height zoom true line)))))
    ∙ line_reads ram s address height zoom line c b h
    ∙ ap (λ (x : Bool). row_reads ram c (x && of_user c) (codes_at_most s) address)
    (sym (or-false (same_slice (interpolated (following line) height zoom) (user_slice c))))
lines-read (suc (suc k)) ram s address height zoom line c b m h =
    among-append c (cells ram (shown_row s (advanced (Characters address height zoom true line)))) _
    ∙ ap₂ (λ (x y : Bool). x || y)
    (line_reads ram s address height zoom line c b (omega arith))
    (lines-read (suc k) ram s address height zoom (following line) c b (omega arith) (omega (arith, one_less line height zoom)))
    ∙ rows_merge ram c
    (of_slice c (interpolated (following line) height zoom)) (user_shown c (following line) (suc k) height zoom) (codes_at_most s) address
    ∙ ap (λ (x : Bool). row_reads ram c x (codes_at_most s) address)
    (sym (and-or_distrib_right
    (same_slice (interpolated (following line) height zoom) (user_slice c)) (slice_shown (following line) (suc k) height zoom (user_slice c)) (of_user c)))

-- ---- what a strip's rows read, case by case

no_cell : (c : ℕ) {l : List ℕ} → l ≡ [] → among c l ≡ false
unfolding among
no_cell c e = ap (among c) e

-- the k lines lie in the strip
pub lines_in_lem : (k : ℕ) (strip : Strip) {address height : ℕ} {zoom enabled : Bool} {line : ScanLine} → strip ≡ Characters address height zoom enabled line
    → k ≤ lines_left strip → k ≤ lines_after line height zoom
unfolding lines_left
lines_in_lem k strip e l = subst (λ (t : Strip). k ≤ lines_left t) e l

module _ (ram : List ℕ) (s : Settings) (k : ℕ) (strip : Strip) (c : ℕ) where
  pub strip_none : k ≡ 0 → strip_reads ram s k strip c ≡ false
  unfolding row_cells
  strip_none e = no_cell c (ap (λ (m : ℕ). row_cells ram s m strip) e)

  pub strip_spacing : {left : ℕ} → strip ≡ Spacing left → strip_reads ram s k strip c ≡ false
  unfolding has_row
  strip_spacing e = no_cell c (rows_none ram s k strip (ap has_row e))

  module _ {address height : ℕ} {zoom enabled : Bool} {line : ScanLine} (e : strip ≡ Characters address height zoom enabled line) where
    pub strip_disabled : enabled ≡ false → strip_reads ram s k strip c ≡ false
    unfolding has_row
    strip_disabled d = no_cell c (rows_none ram s k strip (ap has_row e ∙ d))

    pub strip_characters : Bytes ram → enabled ≡ true → 1 ≤ k → k ≤ lines_left strip
        → row_reads ram c (user_shown c line k height zoom) (codes_at_most s) address ≡ strip_reads ram s k strip c
    strip_characters b d h l =
        sym (ap (λ (t : Strip). among c (row_cells ram s k t)) (e ∙ ap (λ (t : Bool). Characters address height zoom t line) d)
        ∙ lines-read k ram s address height zoom line c b h (lines_in_lem k strip e l))

-- ---- the remaining lines of the strip on screen

-- one line: what the walk reads, what the row reads, and then the lines after it
line_first : (ram : List ℕ) (s : Settings) (n : ℕ) (w v : Walk) (l : List ℕ) → value ram (next_line s.ch w) ≡ v → cells ram (next_line s.ch w) ≡ l
    → cells ram (remaining s (suc n) w) ≡ (l ++ cells ram (shown_row s v.strip)) ++ cells ram (remaining s n v)
unfolding remaining
line_first ram s n w v l e f = cells-bind ram (scan s w) _ ∙ rw (scan-cells shown_row ram s w, scan-value shown_row ram s w, e, f)

-- a strip that has one left
line_on_lem : (ram : List ℕ) (s : Settings) (n a : ℕ) (t : Strip) → over t ≡ false
    → cells ram (remaining s (suc n) (walk_at a t)) ≡ cells ram (shown_row s (advanced t)) ++ cells ram (remaining s n (walk_at a (advanced t)))
line_on_lem ram s n a t e =
    line_first ram s n (walk_at a t) (walk_at a (advanced t)) [] (on_value ram s.ch (walk_at a t) e) (on_cells ram s.ch (walk_at a t) e)

lines_on_lem : (k : ℕ) (ram : List ℕ) (s : Settings) (n a : ℕ) (t : Strip) → k ≤ n → k ≤ lines_left t
    → cells ram (remaining s n (walk_at a t)) ≡ row_cells ram s k t ++ cells ram (remaining s (n - k) (walk_at a (advanced_by k t)))
unfolding row_cells advanced_by
lines_on_lem zero ram s n a t h l = let e : n - 0 ≡ n = omega arith in ap (λ (m : ℕ). cells ram (remaining s m (walk_at a t))) (sym e)
lines_on_lem (suc k) ram s zero a t h l = absurd (not-suc-le-zero h)
lines_on_lem (suc k) ram s (suc n) a t h l =
    let e : suc n - suc k ≡ n - k = omega arith in
    line_on_lem ram s n a t (left_over t (omega arith))
    ∙ ap (λ (x : List ℕ). cells ram (shown_row s (advanced t)) ++ x)
    (lines_on_lem k ram s n a (advanced t) (omega arith) (omega (arith, left-advanced t)))
    ∙ sym (append_assoc (cells ram (shown_row s (advanced t))) (row_cells ram s k (advanced t)) (cells ram (remaining s (n - k) (walk_at a (advanced_by k (advanced t))))))
    ∙ ap (λ (m : ℕ). (cells ram (shown_row s (advanced t)) ++ row_cells ram s k (advanced t)) ++ cells ram (remaining s m (walk_at a (advanced_by k (advanced t))))) (sym e)

-- any strip that is over stands for any other, and any address of a descriptor for its even one
over-same : (ram : List ℕ) (s : Settings) (n a b : ℕ) (t : Strip) → (1 ≤ n → over t ≡ true) → even a ≡ even b
    → cells ram (remaining s n (walk_at a t)) ≡ cells ram (remaining s n (walk_at b (Spacing 0)))
unfolding remaining scan_by cells
over-same ram s zero a b t e f = refl
over-same ram s (suc n) a b t e f = rw (step_same s.ch (walk_at a t) b (e (omega arith)) refl f)

-- outside the plain rest a walk goes by its strip and its descriptors
strips_alone : (ram : List ℕ) (s : Settings) (n : ℕ) (w : Walk) → in_plain_rest w ≡ false
    → cells ram (remaining s n w) ≡ cells ram (remaining s n (walk_at w.descriptor w.strip))
unfolding remaining scan_by cells
strips_alone ram s zero w e = refl
strips_alone ram s (suc n) w e = rw (step_strips s.ch w e)

-- in it nothing is read
pub plain-none : (ram : List ℕ) (s : Settings) (n : ℕ) (w : Walk) → in_plain_rest w ≡ true → cells ram (remaining s n w) ≡ []
unfolding remaining cells over has_row
plain-none ram s zero w e = refl
plain-none ram s (suc n) w e =
    let t = and_both w.plain (over w.strip) e in
    line_first ram s n w (plain_rest w.descriptor) [] (plain_value ram s.ch w t.1 t.0) (plain_cells ram s.ch w t.1 t.0)
    ∙ ap₂ (λ (p : Reading (List Place)) (l : List ℕ). cells ram p ++ l) (no_row s (Spacing 0) refl) (plain-none ram s n (plain_rest w.descriptor) refl)

pub plain_unread : (ram : List ℕ) (s : Settings) (n : ℕ) (w : Walk) (c : ℕ) → in_plain_rest w ≡ true → among c (cells ram (remaining s n w)) ≡ false
plain_unread ram s n w c e = no_cell c (plain-none ram s n w e)

-- ---- strip by strip

-- the strip on screen is passed: the rows of its lines, and then the lines after it
strip-passed : (ram : List ℕ) (s : Settings) (n a : ℕ) (t : Strip) (k c : ℕ) → k ≡ min (lines_left t) n
    → among c (cells ram (remaining s n (walk_at a t))) ≡ among c (row_cells ram s k t) || among c (cells ram (remaining s (n - k) (walk_at a (Spacing 0))))
strip-passed ram s n a t k c e =
    ap (among c)
    (lines_on_lem k ram s n a t (omega arith) (omega arith)
    ∙ ap (λ (l : List ℕ). row_cells ram s k t ++ l)
    (over-same ram s (n - k) a a (advanced_by k t) (λ h. none_over (advanced_by k t) (left_by k t ∙ omega arith)) refl))
    ∙ among-append c (row_cells ram s k t) (cells ram (remaining s (n - k) (walk_at a (Spacing 0))))

pub walk-passed : (ram : List ℕ) (s : Settings) (n : ℕ) (w : Walk) (k c : ℕ) → in_plain_rest w ≡ false → k ≡ min (lines_left w.strip) n
    → among c (cells ram (remaining s n w))
    ≡ among c (row_cells ram s k w.strip) || among c (cells ram (remaining s (n - k) (walk_at w.descriptor (Spacing 0))))
walk-passed ram s n w k c o e = ap (among c) (strips_alone ram s n w o) ∙ strip-passed ram s n w.descriptor w.strip k c e

-- ---- descriptor by descriptor

pub or_with : {a b : Bool} (r : Bool) → a ≡ b → a || r ≡ b || r
or_with r e = ap (λ (x : Bool). x || r) e

module _ (ram : List ℕ) (s : Settings) (c : ℕ) where
  -- one line from a descriptor on, and the lines after it, where m descriptors in a row are read at the most
  unfoldable line_by : (n m a : ℕ) → Bool
  line_by n m a =
      let v : Walk = onward (value ram (next_strip m s.ch a)) in
      among c ((cells ram (next_strip m s.ch a) ++ cells ram (shown_row s v.strip)) ++ cells ram (remaining s n v))

  by_all : (n a : ℕ) → among c (cells ram (remaining s (suc n) (walk_at a (Spacing 0)))) ≡ line_by n ram_pairs a
  unfolding line_by over
  by_all n a =
      let w : Walk = walk_at a (Spacing 0) in
      ap (among c) (line_first ram s n w _ _ (over-value ram s.ch w refl refl) (over-cells ram s.ch w refl refl))

  -- a descriptor that is passed over: its two cells, and then the next at once
  by_pass : (n m a : ℕ) → passed_at ram a ≡ true → line_by n (suc m) a ≡ eqb (pair_of c) (even a) || line_by n m (next a)
  unfolding line_by among
  by_pass n m a e =
      rw (pass_value ram m s.ch a e, pass_cells ram m s.ch a e)
      (first_two (eqb c (even a)) (eqb c (even a + 1)) _ ∙ or_with _ (pair_is c (even a) (omega arith)))

  -- one that begins its strip: its two cells, and then the lines of its strip
  by_strip : (n m a : ℕ) → passed_at ram a ≡ false
      → line_by n (suc m) a ≡ eqb (pair_of c) (even a) || among c (cells ram (remaining s (suc n) (walk_at (next a) (strip_at ram s.ch a))))
  unfolding line_by among
  by_strip n m a e =
      rw (begin_value ram m s.ch a e, begin_cells ram m s.ch a e, line_on_lem ram s n (next a) (strip_at ram s.ch a) (strip_of-begun s.ch _ _ e))
      (first_two (eqb c (even a)) (eqb c (even a + 1)) _ ∙ or_with _ (pair_is c (even a) (omega arith)))

  module _ (inside : c < ram_length) where
    -- the cell's own descriptor comes before so many are passed: one more or less changes nothing
    by_more : (n m a : ℕ) → codes_to c a < m → line_by n (suc m) a ≡ line_by n m a
    by_more n zero a h = absurd (omega arith)
    by_more n (suc m) a h = by (eqb (pair_of c) (even a)) (passed_at ram a) refl refl (by_more n m (next a))
      where
        by : (t u : Bool) → eqb (pair_of c) (even a) ≡ t → passed_at ram a ≡ u → (codes_to c (next a) < m → line_by n (suc m) (next a) ≡ line_by n m (next a))
            → line_by n (suc (suc m)) a ≡ line_by n (suc m) a
        by t false e f ih = by_strip n (suc m) a f ∙ sym (by_strip n m a f)
        by true true e f ih = by_pass n (suc m) a f ∙ or_with _ e ∙ sym (by_pass n m a f ∙ or_with _ e)
        by false true e f ih =
            by_pass n (suc m) a f ∙ ap (λ (x : Bool). eqb (pair_of c) (even a) || x) (ih (omega (arith, eqb-false (pair_of c) (even a) e))) ∙ sym (by_pass n m a f)

    -- the descriptor's cells, and then the lines of its strip, which has none if it is passed over
    with_descriptor : (n a : ℕ) → 1 ≤ n
        → among c (cells ram (remaining s n (walk_at a (Spacing 0))))
        ≡ eqb (pair_of c) (even a)
        || among c (cells ram (remaining s n (walk_at (next a) (strip_at ram s.ch a))))
    with_descriptor zero a h = absurd (not-suc-le-zero h)
    with_descriptor (suc n) a h = by_all n a ∙ by (eqb (pair_of c) (even a)) (passed_at ram a) refl refl
      where
        by : (t u : Bool) → eqb (pair_of c) (even a) ≡ t → passed_at ram a ≡ u
            → line_by n ram_pairs a ≡ eqb (pair_of c) (even a) || among c (cells ram (remaining s (suc n) (walk_at (next a) (strip_at ram s.ch a))))
        by t false e f = by_strip n 511 a f
        by true true e f = by_pass n 511 a f ∙ or_with _ e ∙ sym (or_with _ e)
        by false true e f =
            by_pass n 511 a f
            ∙ ap (λ (x : Bool). eqb (pair_of c) (even a) || x)
            (sym (by_more n 511 (next a) (omega (arith, eqb-false (pair_of c) (even a) e)))
            ∙ sym (by_all n (next a))
            ∙ ap (λ (t : Strip). among c (cells ram (remaining s (suc n) (walk_at (next a) t)))) (sym (passed-strip s.ch _ _ f)))

  pub from-even : (n a : ℕ) → among c (cells ram (remaining s n (walk_at (even a) (Spacing 0)))) ≡ among c (cells ram (remaining s n (walk_at a (Spacing 0))))
  unfolding over
  from-even n a = ap (among c) (over-same ram s n (even a) a (Spacing 0) (λ _. refl) (omega arith))

  pub none_left : (n a : ℕ) → n ≤ 0 → among c (cells ram (remaining s n (walk_at a (Spacing 0)))) ≡ false
  unfolding remaining cells among
  none_left zero a h = refl
  none_left (suc n) a h = absurd (not-suc-le-zero h)

  module _ (inside : c < ram_length) (n a : ℕ) (some : 1 ≤ n) (p : even a ≡ a) where
    pub descriptor_here : pair_of c ≡ a → among c (cells ram (remaining s n (walk_at a (Spacing 0)))) ≡ true
    descriptor_here e = with_descriptor inside n a some ∙ or_with _ (eq-eqb (pair_of c) (even a) (omega arith))

    -- another's descriptor: the rows of its strip, and the lines after it
    pub descriptor_on : (t : Strip) (lines : ℕ) → (pair_of c ≡ a → ⊥) → t ≡ strip_of s.ch (get_or ram a 0) (get_or ram (a + 1) 0)
        → lines ≡ min (lines_left t) n
        → among c (cells ram (remaining s n (walk_at a (Spacing 0))))
        ≡ strip_reads ram s lines t c || among c (cells ram (remaining s (n - lines_left t) (walk_at (even (a + 2)) (Spacing 0))))
    descriptor_on t lines e q m =
        let z : n - lines ≡ n - lines_left t = omega arith in
        with_descriptor inside n a some
        ∙ or_with _ (ne_eqb (pair_of c) (even a) (λ y. e (omega arith)))
        ∙ ap (λ (x : ℕ). among c (cells ram (remaining s n (walk_at (next a) (strip_of s.ch (get_or ram x 0) (get_or ram (x + 1) 0)))))) p
        ∙ ap (λ (u : Strip). among c (cells ram (remaining s n (walk_at (next a) u)))) (sym q)
        ∙ strip-passed ram s n (next a) t lines c m
        ∙ ap (λ (x : ℕ). strip_reads ram s lines t c || among c (cells ram (remaining s x (walk_at (next a) (Spacing 0))))) z

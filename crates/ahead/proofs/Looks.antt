-- Strip by strip the search finds the cell or marks rows: what it has found adds up to what the lines read.
-- Assumes nothing.
use Prim.Native.Nat.{ℕ, ◌+◌, ◌-◌, ◌*◌, ◌/◌, ◌%◌, ◌≤◌, ◌<◌, min}
use mathlib.Core.Path.{◌≡◌, refl, sym, ap, ap₂, ◌∙◌}
use mathlib.Core.Bool.{Bool, true, false, ◌&&◌, ◌||◌, true≢false, or-false, or-true, or_assoc}
use mathlib.Core.List.{List}
use native.Mathlib.Omega.{arith}
use borrow.Author.Tests.{lt-ltb, le-ltb}
use lib.ListN.{get_or}
use Rattle.std.specs.Prelude.{is_some}
use Rattle.std.specs.declared.ops.ControlFlow.{ControlFlow}
use Rattle.std.specs.declared.ops.ControlFlow.TheVariants.{Break, Continue}
use Rattle.std.specs.ControlFlow.{break_value}
use Rattle.raster.specs.declared.ScanLine.{ScanLine}
use Rattle.raster.specs.Raster.{before_first, lines_after}
use Rattle.raster.specs.Search.{slice_shown}
use Rattle.raster.proofs.Laws.{all_after}
use Rattle.raster.proofs.Slices.{whole_zoom}
use Rattle.walk.specs.declared.Strip.{Strip}
use Rattle.walk.specs.declared.Strip.TheVariants.{Spacing, Characters}
use Rattle.walk.specs.declared.Walk.{Walk}
use Rattle.walk.specs.Walk.{height_of, zoomed_by, codes_at, shows_codes, strip_of, lines_left, in_plain_rest}
use Rattle.walk.proofs.Laws.{strip_of-some, codes-shown, codes_begin, codes-none}
use Rattle.glyph.specs.Cells.{of_user, user_slice}
use Rattle.ahead.specs.declared.question.Sought.{Sought}
use Rattle.ahead.specs.declared.Search.{Search}
use Rattle.ahead.specs.Question.{user_shown}
use Rattle.ahead.specs.Looking.{codes_to, row_reads, user_reads, Starts, Far, Marks, any_row}
use Rattle.ahead.specs.Search.{marked_read, row_read, strip_read, whole_read, lines_read, frame_read, Adds}
use Rattle.ahead.proofs.Rows.{reads_split, all-far, code-even, code_of_lem, code-next}
use Rattle.ahead.proofs.Lines.{or_with, strip_spacing, strip_disabled, strip_characters, from-even, none_left, descriptor_here, descriptor_on, walk-passed}

-- a part of the frame that reads nothing adds nothing
pub none_adds : (s : Search) (b : Bool) → b ≡ false → Adds s s b (Continue tt)
none_adds s b e =
    record { ram = refl; sought = refl; seen = sym (ap (λ (x : Bool). marked_read s || x) e ∙ or-false (marked_read s)) }

-- ---- a row

-- rows that have not as many codes as they start before the cell
pub far_all : (ram : List ℕ) (q : Sought) → Far ram q q.codes
far_all ram q = record { unread = all-far ram q.cell q.posed.cell q.codes }

pub far_starts : (ram : List ℕ) (q : Sought) (m : ℕ) → Starts ram q.cell q.codes m → Far ram q m
far_starts ram q m s = record { unread = λ a l. s.reads a ∙ le-ltb (codes_to q.cell a) m l }

module _ (s : Search) (shown : Bool) (a near : ℕ) where
  pub row_found : Starts s.ram.now s.sought.cell s.sought.codes near → codes_to s.sought.cell a < near → marked_read s || row_read s shown a ≡ true
  row_found t l =
      ap (λ (x : Bool). marked_read s || x)
      (reads_split s.ram.now s.sought.cell shown s.sought.codes a
      ∙ or_with (shown && user_reads s.ram.now s.sought.cell s.sought.codes a) (t.reads a ∙ lt-ltb (codes_to s.sought.cell a) near l))
      ∙ or-true (marked_read s)

  -- it reads the cell only as its user character
  pub row_far : Far s.ram.now s.sought near → near ≤ codes_to s.sought.cell a
      → row_read s shown a ≡ shown && user_reads s.ram.now s.sought.cell s.sought.codes a
  row_far f l =
      reads_split s.ram.now s.sought.cell shown s.sought.codes a
      ∙ or_with (shown && user_reads s.ram.now s.sought.cell s.sought.codes a) (f.unread a l)

pub row_marked : (s : Search) (shown : Bool) (a : ℕ) (marks : List ℕ) → shown ≡ true → Marks s.marks a marks
    → row_read s shown a ≡ shown && user_reads s.ram.now s.sought.cell s.sought.codes a
    → any_row s.ram.now s.sought.cell s.sought.codes marks ≡ marked_read s || row_read s shown a
row_marked s shown a marks e m f =
    m.more s.ram.now s.sought.cell s.sought.codes
    ∙ ap (λ (x : Bool). marked_read s || x) (sym (f ∙ ap (λ (x : Bool). x && user_reads s.ram.now s.sought.cell s.sought.codes a) e))

-- ---- the strip on screen

pub strip_shown : (s : Search) (strip : Strip) (lines : ℕ)
    → {address height : ℕ} {zoom enabled : Bool} {line : ScanLine} → strip ≡ Characters address height zoom enabled line
    → (shown : Bool) → enabled ≡ true → 1 ≤ lines → lines ≤ lines_left strip → shown ≡ user_shown s.sought.cell line lines height zoom
    → row_read s shown address ≡ strip_read s lines strip
strip_shown s strip lines {address} e shown d h l f =
    ap₂ (λ (x : Bool) (n : ℕ). row_reads s.ram.now s.sought.cell x n address) f s.sought.posed.codes
    ∙ strip_characters s.ram.now s.sought.settings lines strip s.sought.cell e s.bytes d h l

-- ---- the strip of a descriptor, all lines

-- it has no row
pub whole_dark : (s : Search) (low high : ℕ) → shows_codes high ≡ false → whole_read s low high ≡ false
whole_dark s low high e =
    codes-none (λ (t : Strip). strip_read s (lines_left t) t ≡ false) s.sought.settings.ch low high e
    (λ left. strip_spacing s.ram.now s.sought.settings (lines_left (Spacing left)) (Spacing left) s.sought.cell refl)
    (λ address height zoom line.
    strip_disabled s.ram.now s.sought.settings (lines_left (Characters address height zoom false line)) (Characters address height zoom false line) s.sought.cell refl refl)

-- the slices that a strip that begins shows in all
whole-shown : (q : Sought) (zoom : Bool)
    → q.whole ≡ user_shown q.cell before_first (lines_after before_first (height_of q.settings.ch) zoom) (height_of q.settings.ch) zoom
whole-shown q zoom =
    let height = height_of q.settings.ch in
    q.posed.whole
    ∙ ap (λ (x : Bool). x && of_user q.cell)
    (sym (ap (λ (n : ℕ). slice_shown before_first n height zoom (user_slice q.cell)) (all_after height zoom)
    ∙ whole_zoom height zoom (user_slice q.cell)))

-- its row is looked at
pub whole_shown : (s : Search) (low high : ℕ) → shows_codes high ≡ true
    → row_read s s.sought.whole (codes_at low high) ≡ whole_read s low high
unfolding lines_left
whole_shown s low high e =
    let q = s.sought in
    let strip = strip_of q.settings.ch low high in
    let t = codes-shown q.settings.ch low high e in
    strip_shown s strip (lines_left strip) t q.whole refl
    (strip_of-some q.settings.ch low high (codes_begin low high e)) (omega arith)
    (whole-shown q (zoomed_by high)
    ∙ ap (λ (n : ℕ). user_shown q.cell before_first n (height_of q.settings.ch) (zoomed_by high)) (sym (ap lines_left t)))

-- ---- the lines from a descriptor on

-- what is marked and what is still to look at say the same as at the start
pub record SumSame (s₀ : Search) (left₀ a₀ : ℕ) (s : Search) (left a : ℕ) : Type 0 where
  pub ram : s.ram ≡ s₀.ram
  pub sought : s.sought ≡ s₀.sought
  pub same : marked_read s₀ || lines_read s₀ left₀ a₀ ≡ marked_read s || lines_read s left a

pub sum_start : (s : Search) (left a : ℕ) → SumSame s left a s left (2 * (a / 2 % 512))
sum_start s left a =
    record {
      ram = refl;
      sought = refl;
      same =
          ap (λ (x : Bool). marked_read s || x)
          (sym (from-even s.ram.now s.sought.settings s.sought.cell left a)
          ∙ ap (λ (x : ℕ). lines_read s left x) (code_of_lem a));
    }

-- at the descriptor of a number
module _ {s₀ : Search} {left₀ a₀ : ℕ} {s : Search} {left : ℕ} (p : ℕ) (sum : SumSame s₀ left₀ a₀ s left (2 * p)) (below : p < 512) where
  pub lines_here : 1 ≤ left → s₀.sought.cell / 2 ≡ p → marked_read s₀ || lines_read s₀ left₀ a₀ ≡ true
  lines_here h e =
      sum.same
      ∙ ap (λ (x : Bool). marked_read s || x)
      (descriptor_here s.ram.now s.sought.settings s.sought.cell s.sought.posed.cell left (2 * p) h (code-even p below) (omega (arith, e, ap (λ (q : Sought). q.cell) sum.sought)))
      ∙ or-true (marked_read s)

  pub lines_over : left ≤ 0 → marked_read s ≡ marked_read s₀ || lines_read s₀ left₀ a₀
  lines_over h =
      sym (sum.same
      ∙ ap (λ (x : Bool). marked_read s || x) (none_left s.ram.now s.sought.settings s.sought.cell left (2 * p) h)
      ∙ or-false (marked_read s))

  -- its strip was looked at, as many lines as are shown
  module _ (t : Strip) (is : t ≡ strip_of s.sought.settings.ch (get_or s.ram.now (2 * p) 0) (get_or s.ram.now (2 * p + 1) 0)) (h : 1 ≤ left)
      (e : s₀.sought.cell / 2 ≡ p → ⊥) (lines : ℕ) (m : lines ≡ min (lines_left t) left) {s' : Search} {r : ControlFlow Unit Unit}
      (w : Adds s s' (strip_read s lines t) r) where
    after : Search → Bool
    after s = lines_read s (left - lines_left t) (2 * ((p + 1) % 512))

    -- the rows of its strip, and the lines after it
    step : marked_read s₀ || lines_read s₀ left₀ a₀ ≡ (marked_read s || strip_read s lines t) || after s
    unfolding after
    step =
        sum.same
        ∙ ap (λ (x : Bool). marked_read s || x)
        (descriptor_on s.ram.now s.sought.settings s.sought.cell s.sought.posed.cell left (2 * p) h (code-even p below) t lines (λ y. e (omega (arith, y, ap (λ (q : Sought). q.cell) sum.sought))) is m
        ∙ ap (λ (x : ℕ). strip_read s lines t || lines_read s (left - lines_left t) x) (code-next p))
        ∙ sym (or_assoc (marked_read s) (strip_read s lines t) (after s))

    pub lines_found : marked_read s || strip_read s lines t ≡ true → marked_read s₀ || lines_read s₀ left₀ a₀ ≡ true
    lines_found y = step ∙ or_with (after s) y

    pub sum_on : marked_read s' ≡ marked_read s || strip_read s lines t → SumSame s₀ left₀ a₀ s' (left - lines_left t) (2 * ((p + 1) % 512))
    unfolding after
    sum_on z =
        record {
          ram = w.ram ∙ sum.ram;
          sought = w.sought ∙ sum.sought;
          same = step ∙ or_with (after s) (sym z) ∙ ap (λ (x : Bool). marked_read s' || x) (rw (w.ram, w.sought) refl);
        }

-- the frame ends in the strip
pub lines_last : {s₀ : Search} {left₀ a₀ : ℕ} {s : Search} {left : ℕ} (p : ℕ) (sum : SumSame s₀ left₀ a₀ s left (2 * p)) (below : p < 512)
    (t : Strip) (is : t ≡ strip_of s.sought.settings.ch (get_or s.ram.now (2 * p) 0) (get_or s.ram.now (2 * p + 1) 0)) (h : 1 ≤ left)
    (e : s₀.sought.cell / 2 ≡ p → ⊥) (l : left ≤ lines_left t) {s' : Search} (r : ControlFlow Unit Unit)
    (w : Adds s s' (strip_read s left t) r) → Adds s₀ s' (lines_read s₀ left₀ a₀) r
lines_last p sum below t is h e l (Break y) w =
    record { ram = w.ram ∙ sum.ram; sought = w.sought ∙ sum.sought; seen = lines_found p sum below t is h e _ (omega arith) w w.seen }
lines_last {left = left} p sum below t is h e l (Continue y) w =
    let on = sum_on p sum below t is h e left (omega arith) w w.seen in
    record { ram = w.ram ∙ sum.ram; sought = w.sought ∙ sum.sought; seen = lines_over ((p + 1) % 512) on (omega arith) (omega arith) }

-- ---- the frame's remaining lines

module _ (s : Search) (left : ℕ) (w : Walk) (k : ℕ) (o : in_plain_rest w ≡ false) (e : k ≡ min (lines_left w.strip) left) where
  all : marked_read s || frame_read s left w ≡ (marked_read s || strip_read s k w.strip) || lines_read s (left - k) w.descriptor
  all =
      ap (λ (x : Bool). marked_read s || x) (walk-passed s.ram.now s.sought.settings left w k s.sought.cell o e)
      ∙ sym (or_assoc (marked_read s) (strip_read s k w.strip) (lines_read s (left - k) w.descriptor))

  pub frame_first : {s' : Search} {y : Unit} → Adds s s' (strip_read s k w.strip) (Break y) → Adds s s' (frame_read s left w) (Break y)
  frame_first a = record { ram = a.ram; sought = a.sought; seen = all ∙ or_with _ a.seen }

  pub frame_later : {s' : Search} {y : Unit} → Adds s s' (strip_read s k w.strip) (Continue y)
      → {s'' : Search} (r : ControlFlow Unit Unit) → Adds s' s'' (lines_read s' (left - k) w.descriptor) r → Adds s s'' (frame_read s left w) r
  frame_later {s'} a (Break y) b =
      let f : lines_read s' (left - k) w.descriptor ≡ lines_read s (left - k) w.descriptor = rw (a.ram, a.sought) refl in
      record {
        ram = b.ram ∙ a.ram;
        sought = b.sought ∙ a.sought;
        seen = all ∙ or_with _ (sym a.seen) ∙ ap (λ (x : Bool). marked_read s' || x) (sym f) ∙ b.seen;
      }
  frame_later {s'} a (Continue y) b =
      let f : lines_read s' (left - k) w.descriptor ≡ lines_read s (left - k) w.descriptor = rw (a.ram, a.sought) refl in
      record {
        ram = b.ram ∙ a.ram;
        sought = b.sought ∙ a.sought;
        seen = b.seen ∙ sym (all ∙ or_with _ (sym a.seen) ∙ ap (λ (x : Bool). marked_read s' || x) (sym f));
      }

-- where no row was marked before

pub found_read : (s s' : Search) (b : Bool) (r : ControlFlow Unit Unit) → Adds s s' b r → marked_read s ≡ false → is_some (break_value r) ≡ true → true ≡ b
found_read s s' b (Break y) a e f = sym a.seen ∙ or_with b e
found_read s s' b (Continue y) a e f = absurd (true≢false (sym f))

pub marked_rest : (s s' : Search) (b : Bool) (r : ControlFlow Unit Unit) → Adds s s' b r → marked_read s ≡ false → is_some (break_value r) ≡ false → marked_read s' ≡ b
marked_rest s s' b (Break y) a e f = absurd (true≢false f)
marked_rest s s' b (Continue y) a e f = a.seen ∙ or_with b e

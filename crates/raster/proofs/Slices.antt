-- Which lines of a strip show a slice: neighbours, so the first that could decides.
-- Assumes nothing.
use Prim.Native.Nat.{ℕ, zero, suc, ◌+◌, ◌-◌, ◌*◌, ◌/◌, ◌≤◌, ◌<◌, max}
use mathlib.Core.Logic.{◌↔◌}
use mathlib.Core.Path.{◌≡◌, refl, sym, ap, ◌∙◌, subst}
use mathlib.Core.Bool.{Bool, true, false, cond, ◌&&◌, ◌||◌}
use native.Mathlib.Nat.{le-div_iff_mul-le, lt_of_not-le, add-mul, one-mul, zero-mul, mul_assoc, mul-le-mul}
use native.Mathlib.Decide.{ℕ_discrete, dec_le}
use native.Mathlib.Omega.{arith}
use borrow.Author.Tests.{lt-ltb, le-ltb}
use lib.Dec.{T, eqb, leb, ltb, eqb→eq, leb→le, le→leb, ltb→lt, lt→ltb}
use mir.Facts.{yes_eqb, and_yes, yes_and}
use Rattle.facts.proofs.Choice.{either}
use Rattle.facts.proofs.Tests.{iff, or_cases, or_first, or_second}
use Rattle.raster.specs.declared.ScanLine.{ScanLine}
use Rattle.raster.specs.declared.Slice.{Slice}
use Rattle.raster.specs.declared.SliceLines.{SliceLines}
use Rattle.raster.specs.Raster.{strip_lines, before_first, following, lines_after, unzoomed, slice_number, interpolated}
use Rattle.raster.specs.Search.{same_slice, slice_shown, heights_to, LinesShown}
use Rattle.raster.proofs.Laws.{height_pos, following_in}

-- line n shows slice u or one above it
from_start : (ch n u : ℕ) → 0 < ch → u ≤ slice_number ch n ↔ heights_to u * ch ≤ 36 * n
unfolding slice_number heights_to
from_start ch n u pos = by (dec_le 2 u)
  where
    d : u ≤ (36 * n + ch) / (2 * ch) ↔ u * (2 * ch) ≤ 36 * n + ch
    d = le-div_iff_mul-le {k = 2 * ch} {x = u} {y = 36 * n + ch} (omega arith)

    halves : 1 ≤ u → (2 * u - 1) * ch + ch ≡ u * (2 * ch)
    halves h =
        ap (λ (x : ℕ). (2 * u - 1) * ch + x) (sym (one-mul ch))
        ∙ sym (add-mul (2 * u - 1) 1 ch)
        ∙ ap (λ (x : ℕ). x * ch) (omega arith)
        ∙ mul_assoc u 2 ch

    by : Dec (2 ≤ u) → u ≤ max 1 ((36 * n + ch) / (2 * ch)) ↔ cond (ltb u 2) 0 (2 * u - 1) * ch ≤ 36 * n
    by (yes h) =
        let e = halves (omega arith) in
        rw (le-ltb u 2 h) (λ l. omega (arith, e, d.0 (omega arith)), λ l. omega (arith, d.1 (omega (arith, e))))
    by (no h) = rw (lt-ltb u 2 (omega arith), zero-mul) (λ l. omega arith, λ l. omega arith)

-- some line among the k after line j shows it
record Some (j : ScanLine) (k ch : ℕ) (zoom : Bool) (s : Slice) : Type 0 where
  by : ℕ
  from : 1 ≤ by
  to : by ≤ k
  shows : slice_number ch (unzoomed zoom (j.0 + by)) ≡ s.0

module _ (ch : ℕ) (zoom : Bool) (s : Slice) where
  shown-some : (k : ℕ) (j : ScanLine) → T (slice_shown j k ch zoom s) → Some j k ch zoom s
  unfolding slice_shown interpolated following
  shown-some zero j t = absurd t
  shown-some (suc k) j t =
      or_cases (same_slice (interpolated (following j) ch zoom) s) (slice_shown (following j) k ch zoom s) t
      (λ e. record { by = 1; from = omega arith; to = omega arith; shows = eqb→eq (slice_number ch (unzoomed zoom (j.0 + 1))) s.0 e })
      (λ r.
      let m : Some (following j) k ch zoom s = shown-some k (following j) r in
      let e : j.0 + (m.by + 1) ≡ j.0 + 1 + m.by = omega arith in
      record {
        by = m.by + 1;
        from = omega arith;
        to = omega (arith, m.to);
        shows = subst (λ (x : ℕ). slice_number ch (unzoomed zoom x) ≡ s.0) (sym e) m.shows;
      })

  some-shown : (k : ℕ) (j : ScanLine) (by : ℕ) → 1 ≤ by → by ≤ k → slice_number ch (unzoomed zoom (j.0 + by)) ≡ s.0 → T (slice_shown j k ch zoom s)
  unfolding slice_shown interpolated following
  some-shown zero j by h l e = absurd (omega arith)
  some-shown (suc k) j by h l e =
      pick (ℕ_discrete by 1) (λ q. some-shown k (following j) (by - 1) (omega (arith, q)) (omega arith))
    where
      pick : Dec (by ≡ 1)
          → ((by ≡ 1 → ⊥) → slice_number ch (unzoomed zoom (j.0 + 1 + (by - 1))) ≡ s.0 → T (slice_shown (following j) k ch zoom s))
          → T (same_slice (interpolated (following j) ch zoom) s || slice_shown (following j) k ch zoom s)
      pick (yes q) later =
          or_first (same_slice (interpolated (following j) ch zoom) s) (slice_shown (following j) k ch zoom s)
          (yes_eqb (subst (λ (x : ℕ). slice_number ch (unzoomed zoom (j.0 + x)) ≡ s.0) q e))
      pick (no q) later =
          let m : j.0 + 1 + (by - 1) ≡ j.0 + by = omega arith in
          or_second (same_slice (interpolated (following j) ch zoom) s) (slice_shown (following j) k ch zoom s)
          (later q (subst (λ (x : ℕ). slice_number ch (unzoomed zoom x) ≡ s.0) (sym m) e))

-- ---- the first line that could

-- the lines after line j are, unzoomed, all numbers from the first to the last
between : (zoom : Bool) (k j n : ℕ) → 1 ≤ k → unzoomed zoom (j + 1) ≤ n → n ≤ unzoomed zoom (j + k)
    → record { by : ℕ; from : 1 ≤ by; to : by ≤ k; is : unzoomed zoom (j + by) ≡ n }
between true k j n h l m = by (dec_le (2 * n) (j + k))
  where
    by : Dec (2 * n ≤ j + k) → record { by : ℕ; from : 1 ≤ by; to : by ≤ k; is : (j + by + 1) / 2 ≡ n }
    by (yes q) = record { by = 2 * n - j; from = omega arith; to = omega arith; is = omega arith }
    by (no q) = record { by = k; from = h; to = omega arith; is = omega arith }
between false k j n h l m = record { by = n - j; from = omega arith; to = omega arith; is = omega arith }

pub rising : (zoom : Bool) (j a b : ℕ) → a ≤ b → unzoomed zoom (j + a) ≤ unzoomed zoom (j + b)
rising true j a b h = omega arith
rising false j a b h = omega arith

-- the first line, unzoomed, after line j whose slice is not below s
abbrev pub first_of : ScanLine → ℕ → Bool → Slice → ℕ
first_of j ch zoom s = max (unzoomed zoom (j.0 + 1)) ((heights_to s.0 * ch + 35) / 36)

module _ (j : ScanLine) (k ch : ℕ) (zoom : Bool) (s : Slice) (pos : 0 < ch) (some : 1 ≤ k) where
  -- a line that shows the slice is not before it, and the next slice starts after that line
  shows-from : (m : Some j k ch zoom s)
      → (first_of j ch zoom s ≤ unzoomed zoom (j.0 + m.by)) × (36 * unzoomed zoom (j.0 + m.by) < heights_to (s.0 + 1) * ch)
  shows-from m =
      let n : ℕ = unzoomed zoom (j.0 + m.by) in
      let above = (from_start ch n (s.0 + 1) pos).1 in (
        omega (arith, (from_start ch n s.0 pos).0 (omega (arith, m.shows)), rising zoom j.0 1 m.by m.from),
        lt_of_not-le (λ h. omega (arith, above h, m.shows)),
      )

  -- it lies past the lines: none shows the slice
  pub shown_past : unzoomed zoom (j.0 + k) < first_of j ch zoom s → false ≡ slice_shown j k ch zoom s
  shown_past h =
      iff false (slice_shown j k ch zoom s) (λ t. absurd t)
      (λ t.
      let m : Some j k ch zoom s = shown-some ch zoom s k j t in
      absurd (omega (arith, (shows-from m).0, rising zoom j.0 m.by k m.to)))

  -- it is one of the lines: they show the slice exactly if it does
  pub shown_first : first_of j ch zoom s ≤ unzoomed zoom (j.0 + k)
      → ltb (36 * first_of j ch zoom s) (heights_to (s.0 + 1) * ch) ≡ slice_shown j k ch zoom s
  shown_first h =
      iff (ltb (36 * first_of j ch zoom s) (heights_to (s.0 + 1) * ch)) (slice_shown j k ch zoom s)
      (λ t.
      let n : ℕ = first_of j ch zoom s in
      let b = between zoom k j.0 n some (omega arith) h in
      let u = ltb→lt (36 * n) (heights_to (s.0 + 1) * ch) t in
      let l = (from_start ch n s.0 pos).1 (omega arith) in
      let a = lt_of_not-le (λ q. omega (arith, u, (from_start ch n (s.0 + 1) pos).0 q)) in
      some-shown ch zoom s k j b.by b.from b.to (ap (slice_number ch) b.is ∙ omega (arith, l, a)))
      (λ t.
      let m : Some j k ch zoom s = shown-some ch zoom s k j t in
      let r = shows-from m in
      lt→ltb (36 * first_of j ch zoom s) (heights_to (s.0 + 1) * ch) (omega (arith, r.0, r.1)))

-- a strip that is shown whole shows the same slices with zoom
pub whole_zoom : (ch : ℕ) (zoom : Bool) (s : Slice) → slice_shown before_first (strip_lines ch zoom) ch zoom s ≡ slice_shown before_first ch ch false s
unfolding before_first
whole_zoom ch false s = refl
whole_zoom ch true s =
    iff (slice_shown before_first (2 * ch) ch true s) (slice_shown before_first ch ch false s)
    (λ t.
    let m : Some before_first (2 * ch) ch true s = shown-some ch true s (2 * ch) before_first t in
    let e : 0 + (0 + m.by + 1) / 2 ≡ (0 + m.by + 1) / 2 = omega arith in
    some-shown ch false s ch before_first ((0 + m.by + 1) / 2) (omega (arith, m.from)) (omega (arith, m.to)) (ap (slice_number ch) e ∙ m.shows))
    (λ t.
    let m : Some before_first ch ch false s = shown-some ch false s ch before_first t in
    let e : (0 + 2 * m.by + 1) / 2 ≡ 0 + m.by = omega arith in
    some-shown ch true s (2 * ch) before_first (2 * m.by) (omega (arith, m.from)) (omega (arith, m.to)) (ap (slice_number ch) e ∙ m.shows))

-- ---- all lines that show it

-- the first line whose unzoomed number is a 36th of h or more
abbrev pub line_from : Bool → ℕ → ℕ
line_from zoom h = cond zoom (2 * ((h + 35) / 36) - 1) ((h + 35) / 36)

reached : (zoom : Bool) (h j : ℕ) → 1 ≤ j → line_from zoom h ≤ j ↔ h ≤ 36 * unzoomed zoom j
reached true h j l = (λ k. omega arith, λ k. omega arith)
reached false h j l = (λ k. omega arith, λ k. omega arith)

pub lines-shown : (ch : ℕ) (zoom : Bool) (s : Slice) (r : SliceLines) → r.from ≡ line_from zoom (heights_to s.0 * ch)
    → r.to ≡ line_from zoom (heights_to (s.0 + 1) * ch) → LinesShown ch zoom s r
unfolding interpolated
lines-shown ch zoom s r e f =
    record {
      lines = λ j pos from.
          let n : ℕ = unzoomed zoom j.0 in
          let low = from_start ch n s.0 pos in
          let high = from_start ch n (s.0 + 1) pos in
          let first = reached zoom (heights_to s.0 * ch) j.0 from in
          let last = reached zoom (heights_to (s.0 + 1) * ch) j.0 from in
          iff (eqb (slice_number ch n) s.0) (leb r.from j.0 && ltb j.0 r.to)
          (λ t.
          let is = eqb→eq (slice_number ch n) s.0 t in
          yes_and (leb r.from j.0) (ltb j.0 r.to)
          (rw e (le→leb (line_from zoom (heights_to s.0 * ch)) j.0 (first.1 (low.0 (omega arith)))))
          (rw f (lt→ltb j.0 (line_from zoom (heights_to (s.0 + 1) * ch)) (lt_of_not-le (λ k. omega (arith, high.1 (last.0 k), is))))))
          (λ t.
          let both = and_yes (leb r.from j.0) (ltb j.0 r.to) t in
          let a = first.0 (subst (λ (x : ℕ). x ≤ j.0) e (leb→le r.from j.0 both.0)) in
          let b : j.0 < line_from zoom (heights_to (s.0 + 1) * ch) = subst (λ (x : ℕ). j.0 < x) f (ltb→lt j.0 r.to both.1) in
          let c : slice_number ch n < s.0 + 1 = lt_of_not-le (λ k. omega (arith, last.1 (high.0 k), b)) in
          yes_eqb {a = slice_number ch n} {b = s.0} (omega (arith, low.1 a, c)));
    }

-- ---- what the code's sums need

pub start_bound : (u ch : ℕ) → u ≤ 19 → ch < 256 → heights_to u * ch ≤ 9435
unfolding heights_to
start_bound u ch l h = mul-le-mul {n₁ = cond (ltb u 2) 0 (2 * u - 1)} {m₁ = ch} {n₂ = 37} {m₂ = 255} most (omega arith)
  where
    most : cond (ltb u 2) 0 (2 * u - 1) ≤ 37
    most = either (λ (x : ℕ). x ≤ 37) (ltb u 2) 0 (2 * u - 1) (omega arith) (omega arith)

module _ (j : ScanLine) (k ch : ℕ) (zoom : Bool) (some : 1 ≤ k) (in_strip : k ≤ lines_after j ch zoom) where
  pub last_bound : unzoomed zoom (j.0 + k) ≤ ch
  unfolding lines_after
  last_bound = by zoom in_strip
    where
      by : (z : Bool) → k ≤ strip_lines ch z - j.0 → unzoomed z (j.0 + k) ≤ ch
      by true l = omega arith
      by false l = omega arith

  pub height_some : 0 < ch
  height_some = height_pos (following j) ch zoom (following_in j ch zoom (omega arith))

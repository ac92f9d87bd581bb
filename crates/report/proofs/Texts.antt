-- The laws of the decimal digits, and of a text that is written part by part.
-- Assumes nothing.
use Prim.Native.Nat.{ℕ, zero, suc, ◌+◌, ◌/◌, ◌≤◌, ◌<◌}
use mathlib.Core.Path.{◌≡◌, refl, ap, ◌∙◌}
use mathlib.Core.List.{List, [], ◌++◌}
use native.Mathlib.Nat.{zero-add}
use native.Mathlib.Omega.{arith}
use lib.Dec.{ltb}
use borrow.Author.Tests.{eq-eqb, ne_eqb, lt-ltb, le-ltb}
use lib.ListN.{length, length-append, length-map}
use lib.Seq.{sets, sets-eq}
use Rattle.std.specs.Prelude.{Some, None}
use Rattle.facts.proofs.Choice.{either}
use Rattle.facts.proofs.Parts.{sets-append}
use Rattle.buffers.specs.Buffers.{bytes_of}
use Rattle.device.specs.Device.{DrawOutcome}
use Rattle.report.specs.Report.{places_of, digits, decimal, Put, refusal_text, heading_text, line_text, TextOutcome, write_text, text_outcome, LineOutcome, line_outcome, text_of}

-- ---- digits

digits-length : (k n : ℕ) → length (digits k n) ≡ k
unfolding digits
digits-length zero n = refl
digits-length (suc k) n = simp (length-append, digits-length k (n / 10)) (omega arith)

pub decimal-length : (n : ℕ) → length (decimal n) ≡ places_of n
decimal-length n = digits-length (places_of n) n

-- a number has at most five digits
pub places_few : (n : ℕ) → places_of n ≤ 5
places_few n =
    let few = either (λ (k : ℕ). k ≤ 5) in
    few (ltb n 10) 1 _ (omega arith) (few (ltb n 100) 2 _ (omega arith)
    (few (ltb n 1000) 3 _ (omega arith) (few (ltb n 10000) 4 5 (omega arith) (omega arith))))

-- ---- a text that is written part by part

-- the text is put at the start, and ends at `at`
pub record Upto (out₀ text : List ℕ) (at : ℕ) (out : List ℕ) : Type 0 where
  pub long : length text ≡ at
  pub is : out ≡ sets out₀ 0 text

pub upto_none : (out : List ℕ) → Upto out [] 0 out
upto_none out = record { long = refl; is = refl }

module _ {out₀ text : List ℕ} {a : ℕ} {out : List ℕ} (u : Upto out₀ text a out) where
  -- one part more
  pub upto_part : {part : List ℕ} {n e : ℕ} {out' : List ℕ} → Put part n a out e out' → Upto out₀ (text ++ part) e out'
  upto_part {part} p =
      let at : a ≡ 0 + length text = omega arith in
      record {
        long = simp length-append (omega arith);
        is = rw (p.written, u.is, at) (sets-append out₀ text part 0);
      }

  -- the whole text is written
  pub upto_whole : a ≤ length out₀ → text_outcome (Some a) out ≡ write_text text out₀
  unfolding write_text
  upto_whole h =
      rw (le-ltb (length out₀) (length text) (omega arith), u.long)
      (ap (text_outcome (Some a)) (u.is ∙ sets-eq text out₀ 0 (omega arith) ∙ rw (zero-add, u.long)))

-- there is no room for the text
pub too_short : (text out : List ℕ) → length out < length text → text_outcome None out ≡ write_text text out
unfolding write_text
too_short text out h = rw (lt-ltb (length out) (length text) h)

-- ---- the text of a draw

pub text-refused : (o : DrawOutcome) (out : List ℕ) → (o.reply.refusal ≡ 0 → ⊥) → line_outcome o.device None out ≡ text_of o out
unfolding text_of
text-refused o out h = rw (ne_eqb o.reply.refusal 0 h)

pub text-drawn : (o : DrawOutcome) (out : List ℕ) (t : TextOutcome) → o.reply.refusal ≡ 0
    → t ≡ write_text (line_text o.line o.reply.value) out
    → ◌≡◌ {A = LineOutcome} (record { device = o.device; text = t }) (text_of o out)
unfolding text_of
text-drawn o out t h e = rw (eq-eqb o.reply.refusal 0 h, e)

-- ---- how long the texts are

pub refusal-long : (n : ℕ) → length (refusal_text n) ≡ 9 + places_of n
unfolding bytes_of
refusal-long n = simp (length-append, digits-length) (omega arith)

pub heading_long : (lines width : ℕ) → length (heading_text lines width) ≡ 14 + places_of lines + places_of width
unfolding bytes_of
heading_long lines width = simp (length-append, digits-length) (omega arith)

pub line-long : (pixels : List ℕ) (cells : ℕ) → length (line_text pixels cells) ≡ length pixels + 2 + places_of cells
unfolding bytes_of
line-long pixels cells = simp (length-append, length-map, digits-length) (omega arith)

-- The proof that osd_pixel answers what osd_draw writes (specs/Pixels.antt): on the device that the bytes are read as each call that is taken brings
-- the frame on as the device's call does, and any other leaves it.
-- Assumes nothing.
use Prim.Native.Nat.{ℕ, ◌+◌}
use mathlib.Core.Path.{◌≡◌, refl, sym, ap, ◌∙◌, subst}
use mathlib.Core.Bool.{Bool, cond, and-false}
use mathlib.Core.List.{List}
use native.Mathlib.Nat.{zero-add, add-zero}
use native.Mathlib.Omega.{arith}
use lib.ListN.{length, get_or}
use Rattle.facts.proofs.Choice.{by_test}
use Rattle.runs.specs.Runs.{end}
use Rattle.runs.proofs.Laws.{kept_by_each, counted}
use Rattle.registers.specs.declared.Registers.{Registers}
use Rattle.device.specs.Device.{draw_line}
use Rattle.device.proofs.ReadCount.{read_count}
use Rattle.capture.specs.Capture.{Logged}
use Rattle.calls.specs.Calls.{Call, Answer, Kept, is_draw, drew}
use Rattle.calls.specs.OnePage as device
use Rattle.calls.specs.Pixels as pixels
use Rattle.calls.proofs.Calls.{View, draws, asks, acts, view}
use Rattle.calls.proofs.Pixels.{At, one-call, Lines, none_yet, same-pixel}
use Rattle.layout.specs.Layout.{record_length}
use Rattle.layout.specs.FeedLayout.{feed_in}
use Rattle.interface.specs.Interface.{answer_of, is_accepted}
use Rattle.interface.specs.OnePage.{State, lent_in, answer, after, calls, chip_in, reads, heard}
use Rattle.interface.specs.Pixels.{started, StayPut, StayPutBytes, PixelsAgreeBytes}
use Rattle.interface.proofs.Laws.{refusal-zero}
use Rattle.interface.proofs.OnePage.{taken_at, same_length, untouched, in_bytes, carried, same_kind}
use Rattle.interface.proofs.Crossing.{crossing}

-- ---- answers

-- what a call that is taken draws, the device's does
same-drew : (font : List ℕ) (u : device.State) {c : Call Logged} → View c
    → drew is_accepted (record { call = c; answer = in_bytes (device.answer font u (heard c)) })
    ≡ drew pixels.accepts (record { call = heard c; answer = device.answer font u (heard c) })
unfolding is_draw heard device.make
same-drew font u (draws line) =
    ap (λ (b : Bool). cond b 1 0) (refusal-zero (draw_line u.device u.ram font line).reply (λ e. omega (arith, read_count u.device u.ram font line)))
same-drew font u (asks cell) = refl
same-drew font u (acts {c = c} t d) = rw ((same_kind c).1, d)

-- ---- a call brings on what the device's does, and one that is not taken nothing

module _ (font : List ℕ) (r : Registers) (mem : List ℕ) (f lines : ℕ) where
  abbrev drawn_by : State → Call Logged → ℕ
  drawn_by s c = drew is_accepted (record { call = c; answer = answer font s c })

  one-call-bytes : (n : ℕ) (s : State) (c : Call Logged) → StayPut font s c → At font r mem f lines n (reads s)
      → At font r mem f lines (n + drawn_by s c) (reads (after font s c))
  one-call-bytes n s c p i =
      by_test (taken_at s c)
      (λ t.
      let one = carried font s c t in
      let same = ap (λ (a : Answer ℕ). drew is_accepted (record { call = c; answer = a })) one.answers ∙ same-drew font (reads s) (view c) in
      rw (one.state, same) (one-call font r mem f lines n (reads s) (heard c)
      (unfold reads in subst (λ (u : device.State). Kept (chip_in (lent_in s)) (device.chip_of u)) one.state p) i))
      (λ t. let none = untouched font s c t in rw (none.answers, none.state, and-false (is_draw c), add-zero) i)

-- ---- the claims

pub stay_put-bytes : StayPutBytes
unfolding reads
stay_put-bytes font s c p =
    by_test (taken_at s c) (λ t. subst (λ (u : device.State). Kept (chip_in (lent_in s)) (device.chip_of u)) (sym (carried font s c t).state) p)
    (λ t. rw (untouched font s c t).state (record { ram = refl; registers = refl }))

pub pixels_agree_bytes : PixelsAgreeBytes
unfolding reads
pixels_agree_bytes font s lines frame x y cs line long a b h k number put count v w room =
    let start = crossing.start s.device lines long in
    let begun : reads (started s lines) ≡ pixels.started (reads s) lines =
    λ i. record { device = start.0 i; ram = s.ram; feed = feed_in s.feed } in
    let u : State = end (calls font) (started s lines) cs in
    let i = counted (StayPut font) (calls font) (drew is_accepted) (λ n v. Lines font (reads s) lines frame h k n (reads v)) (one-call-bytes font _ _ _ _)
    0 (started s lines) cs put
    (subst (Lines font (reads s) lines frame h k 0) (sym begun)
    (none_yet font (reads s) lines frame h k (sym (ap (λ (t : device.State). t.device.frame.number) begun) ∙ number))) in
    let same = same-pixel font (reads s) lines frame h k (reads u) x y line
    (subst (λ (n : ℕ). Lines font (reads s) lines frame h k n (reads u)) (zero-add _ ∙ count) i) a b v w room in
    let still : length u.device ≡ record_length =
    kept_by_each (StayPut font) (calls font) (λ (v : State). length v.device ≡ record_length) (λ v c p e. (same_length font v c).0 ∙ e)
    (started s lines) cs put (crossing.length-start s.device lines ∙ long) in
    let done = crossing.draw u.device u.ram font line still in
    record {
      drawn = omega (arith, done.2, same.drawn, read_count (reads u).device u.ram font line);
      pixel =
          crossing.pixel s.device s.ram font lines frame x y long
          ∙ ap answer_of same.pixel
          ∙ zero-add _
          ∙ ap (λ (l : List ℕ). get_or l x 0) (sym done.1);
    }

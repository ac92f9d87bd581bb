-- The turns of the line's loops: what one turn adds to the bytes that are written.
-- Assumes nothing.
use Prim.Native.Nat.{ℕ, zero, suc, ◌+◌, ◌-◌, ◌/◌, ◌%◌, ◌≤◌, ◌<◌}
use mathlib.Core.Path.{◌≡◌, refl, sym, ap, ap₂, ◌∙◌}
use mathlib.Core.List.{List, [], ◌∷◌, ◌++◌, append-nil, append_assoc}
use native.Mathlib.Omega.{arith}
use mathlib.Core.Bool.{Bool, true, false}
use mir.Syntax.{w32}
use mir.Val.{Fits}
use lib.ListN.{length, get_or, take, drop, replicate, length-append, length-take, take-append-drop}
use borrow.Rule.Slice.PartMut.{put_mid, same_len_mid, Post-is, mid_len, drop_put}
use Rattle.std.specs.Prelude.{is_none, Some, None}
use Rattle.limits.specs.Limits.{line_max}
use Rattle.raster.proofs.Laws.{characters_more}
use borrow.Author.Tests.{eqb-true}
use lib.Seq.{take_all, take_at}
use Rattle.cells.specs.Reading.{value, cells}
use Rattle.cells.proofs.Laws.{value-bind, cells-bind, value-fmap, cells-fmap}
use Rattle.raster.specs.declared.Slice.{Slice}
use Rattle.walk.specs.Walk.{even, next}
use Rattle.glyph.specs.declared.Word.{Word}
use Rattle.glyph.specs.Glyph.{ends_line, glyph_of, in_ram}
use Rattle.glyph.specs.Words.{word_in}
use Rattle.glyph.proofs.Cells.{glyph-most}
use Rattle.glyph.proofs.Laws.{word_on, word-reads, none_end, word_low}
use Rattle.paint.specs.declared.Drawn.{Drawn}
use Rattle.paint.specs.Tables.{column_pixels, CharacterDrawn}
use Rattle.line.specs.declared.Pen.{Pen}
use Rattle.line.proofs.Laws.{character-length, painted-length}
use Rattle.line.proofs.Counts.{codes-most}
use Rattle.line.specs.declared.Coded.{Coded}
use Rattle.line.specs.Promises.{place_at, CodeShown, RowDrawn, row_in, room_of}
use Rattle.line.specs.Line.{shown_of, character, codes_by, codes, painted}

-- ---- the codes of a row

-- a code reads at most four cells
pub code-few : (ram font : List ℕ) (at : ℕ) (pen : Pen) (before : ℕ) (c : Coded) → CodeShown ram font at pen before c → c.cells ≤ 4
code-few ram font at pen before c d = omega (arith, d.reads, glyph-most (get_or ram (at + 1) 0) pen.slice ram)

-- the end of line has no slice
no_slice : (high : ℕ) (s : Slice) (ram : List ℕ) → ends_line high ≡ true → length (cells ram (glyph_of high s)) ≡ 0
unfolding glyph_of in_ram cells
no_slice high s ram e = rw (eqb-true high 255 e)

module _ (ram font : List ℕ) (at : ℕ) (pen : Pen) where
  abbrev high : ℕ
  high = get_or ram (at + 1) 0

  -- the end of line
  pub code_ended : (before : ℕ) → word_in ram font high pen.slice ≡ None → CodeShown ram font at pen before (record { cells = 2; drawn = None })
  code_ended before h =
      let end : ends_line high ≡ true = none_end ram font high pen.slice h in
      record {
        ends = sym end;
        reads = omega (arith, no_slice high pen.slice ram end);
        bits = λ d e. absurd cc;
        pixels = λ d e. absurd cc;
      }

  -- a code whose word was looked up
  module _ (w : Word) (h : word_in ram font high pen.slice ≡ Some w) where
    -- the count of its cells fits
    pub word_fits : Fits w32 (2 + w.cells)
    word_fits = omega (arith, word-reads ram font high pen.slice w h, glyph-most high pen.slice ram)

    -- a character, of the word's low twelve bits
    pub code_shown : ((i : ℕ) → get_or ram i 0 < 256) → ((i : ℕ) → get_or font i 0 < 256)
        → (before : ℕ) (drawn : Drawn) → CharacterDrawn pen.plain pen.hidden (get_or ram at 0) before (w.bits % 4096) drawn
        → CodeShown ram font at pen before (record { cells = 2 + w.cells; drawn = Some drawn })
    unfolding shown_of character
    code_shown b f before drawn d =
        let shown = rw (word_low ram font high pen.slice b f w h) at d in
        let same = λ (x : Drawn) (e : Some drawn ≡ Some x). (let q : drawn ≡ x = cc in q) in
        record {
          ends = sym (word_on ram font high pen.slice w h);
          reads = ap (λ (n : ℕ). 2 + n) (word-reads ram font high pen.slice w h);
          bits = λ x e. sym (ap (λ (y : Drawn). y.bits) (same x e)) ∙ shown.bits;
          pixels = λ x e. sym (ap (λ (y : Drawn). column_pixels y.columns) (same x e)) ∙ shown.pixels;
        }

-- a row from an address is the row from the even address of its two bytes
codes-even : (n : ℕ) (s : Slice) (a : ℕ) → codes n s (even a) ≡ codes n s a
unfolding codes_by
codes-even zero s a = refl
codes-even (suc n) s a =
    let e : even (even a) ≡ even a = omega arith in
    let f : next (even a) ≡ next a = omega arith in
    rw (e, f)

-- a row of one more code, from an even address
module _ (ram : List ℕ) (n : ℕ) (s : Slice) (a : ℕ) (p : even a ≡ a) where
  -- the code ends the line
  ended_here : ends_line (get_or ram (a + 1) 0) ≡ true → (value ram (codes (suc n) s a) ≡ []) × (length (cells ram (codes (suc n) s a)) ≡ 2)
  unfolding codes_by value cells
  ended_here e = (rw (value, p, e), rw (p, e))

  -- it has a character
  on_here : ends_line (get_or ram (a + 1) 0) ≡ false
      → (value ram (codes (suc n) s a)
      ≡ (record { low = get_or ram a 0; glyph = value ram (glyph_of (get_or ram (a + 1) 0) s) }) ∷ value ram (codes n s (next a)))
      × (length (cells ram (codes (suc n) s a))
      ≡ 2 + length (cells ram (glyph_of (get_or ram (a + 1) 0) s)) + length (cells ram (codes n s (next a))))
  unfolding codes_by value cells
  on_here e = (
    rw (value, p, e) (value-bind ram (glyph_of (get_or ram (a + 1) 0) s) _ ∙ value-fmap ram _ (codes n s (next a))),
    rw (p, e, cells-bind ram, cells-fmap ram, length-append (cells ram (glyph_of (get_or ram (a + 1) 0) s)) _) (omega arith),
  )

-- ---- the room of a line

-- where no character is left, the room is plain
pub painted-none : (font : List ℕ) (plain : ℕ) (hidden : Bool) (before room : ℕ) → painted font plain hidden before room [] ≡ replicate room plain
unfolding painted
painted-none font plain hidden before room = refl

-- where there is no room, nothing is drawn and nothing read
pub no_room : (ram font : List ℕ) (pen : Pen) (before room a : ℕ) → room ≡ 0 → room_of ram font pen before room a ≡ []
unfolding codes_by value painted
no_room ram font pen before room a e = rw e

pub no_reads : (ram : List ℕ) (pen : Pen) (room a : ℕ) → room ≡ 0 → length (cells ram (row_in pen room a)) ≡ 0
unfolding codes_by cells
no_reads ram pen room a e = rw e

-- the room that begins with an end of line, and with a character
module _ (ram font : List ℕ) (pen : Pen) (before room a : ℕ) (p : even a ≡ a) (some : 0 < room) where
  -- the row begins with one more code
  one_more : (room + 11) / 12 ≡ suc ((room - 12 + 11) / 12)
  one_more = characters_more room some

  pub room-ended : ends_line (get_or ram (a + 1) 0) ≡ true
      → (room_of ram font pen before room a ≡ replicate room pen.plain) × (length (cells ram (row_in pen room a)) ≡ 2)
  room-ended e =
      let end_here = ended_here ram ((room - 12 + 11) / 12) pen.slice a p e in (
        ap (λ (k : ℕ). painted font pen.plain pen.hidden before room (value ram (codes k pen.slice a))) one_more
            ∙ ap (painted font pen.plain pen.hidden before room) end_here.0
            ∙ painted-none font pen.plain pen.hidden before room,
        ap (λ (k : ℕ). length (cells ram (codes k pen.slice a))) one_more ∙ end_here.1,
      )

  pub room_on : ends_line (get_or ram (a + 1) 0) ≡ false
      → (room_of ram font pen before room a
      ≡ take room (character font pen.plain pen.hidden before (place_at ram pen a))
      ++ room_of ram font pen (shown_of font pen.hidden (place_at ram pen a)) (room - 12) (even (a + 2)))
      × (length (cells ram (row_in pen room a))
      ≡ 2 + length (cells ram (glyph_of (get_or ram (a + 1) 0) pen.slice)) + length (cells ram (row_in pen (room - 12) (even (a + 2)))))
  unfolding painted
  room_on e =
      let on = on_here ram ((room - 12 + 11) / 12) pen.slice a p e in (
        ap (λ (k : ℕ). painted font pen.plain pen.hidden before room (value ram (codes k pen.slice a))) one_more
            ∙ ap (painted font pen.plain pen.hidden before room) on.0,
        ap (λ (k : ℕ). length (cells ram (codes k pen.slice a))) one_more ∙ on.1,
      )

-- ---- a row of characters, one more at a time

-- a row up to w of which the pixels before x are drawn, and the last character drawn shows these bits: what is left is the row from the even
-- address a on
pub record RowUpTo (ram font : List ℕ) (address : ℕ) (pen : Pen) (first w : ℕ) (out : List ℕ) (x a n bits : ℕ) (out' : List ℕ) : Type 0 where
  pub upto : x ≤ w
  pub long : length out' ≡ length out
  pub paired : even a ≡ a
  pub front : take x out' ++ room_of ram font pen bits (w - x) a ≡ take first out ++ room_of ram font pen 0 (w - first) address
  pub back : drop w out' ≡ drop w out
  pub count : n + length (cells ram (row_in pen (w - x) a)) ≡ length (cells ram (row_in pen (w - first) address))

module _ (ram font : List ℕ) (address : ℕ) (pen : Pen) (first w : ℕ) (out₀ : List ℕ) where
  -- where the row begins
  pub row_holds : (a : ℕ) → first ≤ w → a ≡ even address → RowUpTo ram font address pen first w out₀ first a 0 0 out₀
  row_holds a h e =
      record { upto = h; long = refl; paired = omega arith; front = rw (e, codes-even); back = refl; count = rw (e, codes-even) (omega arith) }

  -- no row reads more than 256 cells
  pub row_bound : (x a n bits : ℕ) (out : List ℕ) → w ≤ line_max → RowUpTo ram font address pen first w out₀ x a n bits out → n ≤ 256
  row_bound x a n bits out h i = omega (arith, i.count, codes-most ((w - first + 11) / 12) pen.slice address ram)

  -- the room is full
  pub row-full : (x a n bits : ℕ) (out : List ℕ) → RowUpTo ram font address pen first w out₀ x a n bits out → w ≤ x → RowDrawn ram font address pen first w out₀ n out
  row-full x a n bits out i h =
      let none : w - x ≡ 0 = omega (arith, i.upto) in
      let at : x ≡ w = omega (arith, i.upto) in
      record {
        pixels =
            sym (take-append-drop x out)
            ∙ ap₂ (λ (y z : List ℕ). y ++ z)
            (sym (append-nil (take x out)) ∙ ap (λ (y : List ℕ). take x out ++ y) (sym (no_room ram font pen bits (w - x) a none)) ∙ i.front)
            (ap (λ (k : ℕ). drop k out) at ∙ i.back)
            ∙ append_assoc (take first out₀) (room_of ram font pen 0 (w - first) address) (drop w out₀);
        reads = omega (arith, i.count, no_reads ram pen (w - x) a none);
      }

  module _ (x a n bits : ℕ) (out : List ℕ) (i : RowUpTo ram font address pen first w out₀ x a n bits out) (fits : w ≤ length out₀) where
    -- the room that was left is written: a part up to e, and what is left then
    written : (e b m shown : ℕ) (part : List ℕ) → x ≤ e → e ≤ w → length part ≡ e - x → even b ≡ b
        → room_of ram font pen bits (w - x) a ≡ part ++ room_of ram font pen shown (w - e) b
        → length (cells ram (row_in pen (w - x) a)) ≡ m + length (cells ram (row_in pen (w - e) b))
        → RowUpTo ram font address pen first w out₀ e b (n + m) shown (put_mid x (e - x) out part)
    written e b m shown part h k l p room reads =
        let long : length (take x out ++ part) ≡ e = simp (length-append, length-take, l) (omega (arith, i.long)) in
        let before : take e (put_mid x (e - x) out part) ≡ take x out ++ part =
        ap (take e) (sym (append_assoc (take x out) part (drop (e - x) (drop x out)))) ∙ take_at (take x out ++ part) (drop (e - x) (drop x out)) e long
        in
        record {
          upto = k;
          long = same_len_mid x (e - x) out part (l ∙ sym (mid_len x e out (omega (arith, i.long)))) ∙ i.long;
          paired = p;
          front =
              ap (λ (y : List ℕ). y ++ room_of ram font pen shown (w - e) b) before
              ∙ append_assoc (take x out) part (room_of ram font pen shown (w - e) b)
              ∙ ap (λ (y : List ℕ). take x out ++ y) (sym room)
              ∙ i.front;
          back =
              sym (Post-is e w (put_mid x (e - x) out part) k)
              ∙ ap (drop (w - e)) (drop_put x e out part h (omega (arith, i.long)) l)
              ∙ Post-is e w out k
              ∙ i.back;
          count = omega (arith, i.count, reads);
        }

    -- all that was left is written
    last : (m : ℕ) (part : List ℕ) → part ≡ room_of ram font pen bits (w - x) a → m ≡ length (cells ram (row_in pen (w - x) a))
        → RowDrawn ram font address pen first w out₀ (n + m) (put_mid x (w - x) out part)
    last m part p q =
        let none : w - w ≡ 0 = omega arith in
        row-full w a (n + m) 0 (put_mid x (w - x) out part)
        (written w a m 0 part i.upto (omega arith) (ap length p ∙ painted-length font pen.plain pen.hidden bits (w - x) (value ram (row_in pen (w - x) a))) i.paired
        (sym p ∙ sym (append-nil part) ∙ ap (λ (y : List ℕ). part ++ y) (sym (no_room ram font pen 0 (w - w) a none)))
        (omega (arith, q, no_reads ram pen (w - w) a none)))
        (omega arith)

-- a turn: the row so far, and the code that comes next, for which there is room
pub record Turn (ram font : List ℕ) (address : ℕ) (pen : Pen) (first w : ℕ) (out₀ : List ℕ) (x a n bits : ℕ) (out : List ℕ) (c : Coded) : Type 0 where
  pub upto : RowUpTo ram font address pen first w out₀ x a n bits out
  pub fits : w ≤ length out₀
  pub more : x < w
  pub code : CodeShown ram font a pen bits c

module _ {ram font : List ℕ} {address : ℕ} {pen : Pen} {first w : ℕ} {out₀ : List ℕ} {x a n bits : ℕ} {out : List ℕ} {c : Coded}
    (t : Turn ram font address pen first w out₀ x a n bits out c) where
  long_enough : w ≤ length out
  long_enough = omega (arith, t.fits, t.upto.long)

  -- the line ends: the room is filled with plain
  pub row-ended : c.drawn ≡ None → (fill : List ℕ) → fill ≡ replicate (length (take (w - x) (drop x out))) pen.plain
      → RowDrawn ram font address pen first w out₀ (n + c.cells) (put_mid x (w - x) out fill)
  row-ended off fill f =
      let end = sym t.code.ends ∙ ap is_none off in
      let here = room-ended ram font pen bits (w - x) a t.upto.paired (omega (arith, t.more)) end in
      last _ _ _ _ _ _ _ _ _ _ _ _ t.upto t.fits c.cells fill
      (f ∙ ap (λ (k : ℕ). replicate k pen.plain) (mid_len x w out long_enough) ∙ sym here.0)
      (omega (arith, here.1, t.code.reads, no_slice (get_or ram (a + 1) 0) pen.slice ram end))

  module _ (d : Drawn) (on : c.drawn ≡ Some d) where
    twelve : List ℕ
    twelve = character font pen.plain pen.hidden bits (place_at ram pen a)

    here : (room_of ram font pen bits (w - x) a ≡ take (w - x) twelve ++ room_of ram font pen d.bits (w - x - 12) (even (a + 2)))
        × (length (cells ram (row_in pen (w - x) a)) ≡ c.cells + length (cells ram (row_in pen (w - x - 12) (even (a + 2)))))
    unfolding twelve
    here =
        rw (t.code.bits d on, t.code.reads)
        (room_on ram font pen bits (w - x) a t.upto.paired (omega (arith, t.more)) (sym t.code.ends ∙ ap is_none on))

    long : length twelve ≡ 12
    unfolding twelve
    long = character-length font pen.plain pen.hidden bits (place_at ram pen a)

    are_twelve : column_pixels d.columns ≡ twelve
    unfolding twelve
    are_twelve = t.code.pixels d on

    -- a whole character is drawn
    pub row-drawn : x + 12 ≤ w → (part : List ℕ) → part ≡ column_pixels d.columns
        → RowUpTo ram font address pen first w out₀ (x + 12) (even (a + 2)) (n + c.cells) d.bits (put_mid x (x + 12 - x) out part)
    row-drawn fit part p =
        let left : w - x - 12 ≡ w - (x + 12) = omega arith in
        let whole : take (w - x) twelve ≡ part = take_all (w - x) twelve (omega (arith, long)) ∙ sym (p ∙ are_twelve) in
        written _ _ _ _ _ _ _ _ _ _ _ _ t.upto t.fits (x + 12) (even (a + 2)) c.cells d.bits part (omega arith) fit
        (omega (arith, ap length (p ∙ are_twelve), long)) (omega arith)
        (here.0 ∙ ap₂ (λ (y : List ℕ) (k : ℕ). y ++ room_of ram font pen d.bits k (even (a + 2))) whole left)
        (here.1 ∙ ap (λ (k : ℕ). c.cells + length (cells ram (row_in pen k (even (a + 2))))) left)

    -- the last character is cut
    pub row_cut : w < x + 12 → (part : List ℕ) → part ≡ take (length (take (w - x) (drop x out))) (column_pixels d.columns)
        → RowDrawn ram font address pen first w out₀ (n + c.cells) (put_mid x (w - x) out part)
    row_cut cut part p =
        let none : w - x - 12 ≡ 0 = omega arith in
        last _ _ _ _ _ _ _ _ _ _ _ _ t.upto t.fits c.cells part
        (p
        ∙ ap₂ take (mid_len x w out long_enough) are_twelve
        ∙ sym (here.0
        ∙ ap (λ (y : List ℕ). take (w - x) twelve ++ y) (no_room ram font pen d.bits (w - x - 12) (even (a + 2)) none)
        ∙ append-nil (take (w - x) twelve)))
        (omega (arith, here.1, no_reads ram pen (w - x - 12) (even (a + 2)) none))

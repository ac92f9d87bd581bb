-- A call is a draw, a cell question, or one that the second run makes last (specs/Calls.antt).
-- Assumes nothing.
use Prim.Native.Nat.{ℕ}
use mathlib.Core.Path.{◌≡◌, refl}
use mathlib.Core.Bool.{true, false}
use mathlib.Core.List.{List}
use Rattle.calls.specs.Calls.{Call, draw, ask, event, feed, anew, pixel, is_event, is_draw}

pub data View {E : Type 0} : Call E → Type 0 where
  draws : (line : List ℕ) → View (draw line)
  asks : (cell : ℕ) → View (ask cell)
  acts : {c : Call E} → is_event c ≡ true → is_draw c ≡ false → View c

pub view : {E : Type 0} (c : Call E) → View c
unfolding is_event is_draw
view (draw line) = draws line
view (ask cell) = asks cell
view (event e) = acts refl refl
view (feed chunk out) = acts refl refl
view anew = acts refl refl
view (pixel lines frame x y) = acts refl refl

-- The proof of the table of rows marked P (specs/Edges.antt).
-- Assumes nothing.
use Prim.Native.Nat.{ℕ, ◌*◌, ◌≤◌}
use mathlib.Core.Path.{◌≡◌, refl, ap, ap₂, ◌∙◌, subst}
use mathlib.Core.List.{List, ◌++◌, append-nil}
use native.Mathlib.Omega.{arith}
use lib.ListN.{length, take, replicate}
use lib.Seq.{take_all}
use Rattle.cells.specs.Reading.{code, cells, cells_as}
use Rattle.raster.specs.Raster.{slice_number, characters_of, hidden_in}
use Rattle.glyph.specs.Glyph.{glyph_of, in_ram}
use Rattle.paint.specs.Pixels.{plain_of}
use Rattle.line.specs.Line.{scan, shown_of, character, painted, paint}
use Rattle.line.specs.Edges.{Holds, most_codes, second_cut, user_cells, table, Each, Edges}
use Rattle.line.proofs.Laws.{character-length}
use Rattle.line.proofs.Counts.{scan-codes}

most : (ld dd n : ℕ) → characters_of ld dd ≡ n → Holds (most_codes ld dd n)
unfolding Holds
most ld dd n e s w ram p q = subst (λ (m : ℕ). length (cells_as code ram (scan s w)) ≤ 2 * m) (ap₂ characters_of p q ∙ e) (scan-codes s w ram)

second : Holds (second_cut 4 5 9)
unfolding Holds paint painted
second s fnt f p q l d o =
    rw (l, d, o)
    (ap (λ (x : List ℕ). replicate 39 (plain_of s.fbk) ++ x)
    (ap₂ (λ (x y : List ℕ). x ++ y)
    (take_all 21 (character fnt (plain_of s.fbk) (hidden_in s.fl f) 0 p) (omega (arith, character-length fnt (plain_of s.fbk) (hidden_in s.fl f) 0 p)))
    (append-nil (take 9 (character fnt (plain_of s.fbk) (hidden_in s.fl f) (shown_of fnt (hidden_in s.fl f) p) q)))))

user-cells : Holds (user_cells 25 18 986 987)
unfolding Holds glyph_of in_ram cells
user-cells ram = refl

pub edges : Edges
unfolding Each table Holds slice_number
edges = (
  refl,
  (
    refl,
    (
      refl,
      (
        refl,
        (
          refl,
          (
            refl,
            (
              refl,
              (
                refl,
                (
                  refl,
                  (
                    refl,
                    (
                      refl,
                      (
                        refl,
                        (most 63 255 0 refl, (most 4 5 2 refl, (second, (user-cells, tt)))),
                      ),
                    ),
                  ),
                ),
              ),
            ),
          ),
        ),
      ),
    ),
  ),
)

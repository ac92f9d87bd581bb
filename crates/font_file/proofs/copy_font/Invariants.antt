-- `copy_font`: with the bytes that are left, the buffer is the font in the file.
use Prim.Native.Nat.{◌-◌, ◌*◌}
use mathlib.Core.Path.{◌≡◌}
use lib.ListN.{drop}
use lib.Seq.{sets}
use Rattle.font_file.specs.FontFile.{block_count, block_length, payload_length, font_from, font_in}
use Rattle.font_file.proofs.copy_font.Given as goal

abbrev pub invariant-loop-place : goal.invariant-loop-place
invariant-loop-place l =
    (sets l.font (payload_length * l.place) (font_from (block_count - l.place) l.place (drop (block_length * l.place) l.file)) ≡ font_in l.file)

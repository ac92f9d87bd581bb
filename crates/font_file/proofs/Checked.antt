-- The claim about font files, from the laws of their blocks.
-- Assumes nothing.
use Prim.Native.Nat.{ℕ, ◌+◌, ◌≤◌, ◌<◌}
use mathlib.Core.Path.{◌≡◌, refl, ap, ◌∙◌}
use mathlib.Core.Bool.{false}
use mathlib.Core.List.{List}
use native.Mathlib.Omega.{arith}
use borrow.Author.Tests.{eq-eqb, eqb-false}
use lib.ListN.{length, set, length-set}
use Rattle.limits.specs.Limits.{font_length, font_file_length}
use Rattle.refusals.specs.declared.FileRefusal.{FileRefusal}
use Rattle.refusals.specs.declared.FileRefusal.TheVariants.{Length}
use Rattle.refusals.specs.Refusals.{file_number_of, Reply, accepted, file_refused}
use Rattle.std.specs.Prelude.{Result, Ok, Err}
use Rattle.refusals.proofs.Laws.{file-not-zero}
use Rattle.font_file.specs.FontFile.{block_count, last_block, sum, weighted_sum, content_of, with_checks, file_of, block_test, blocks_test, font_in, lengths_fit, WriteOutcome, written_by, write_font, read_by, read_font}
use Rattle.font_file.specs.Checked.{exchanged, payload_at, block_at, Fit, written, FontFiles, FileExample}
use Rattle.font_file.proofs.Outcomes.{read_cases}
use Rattle.font_file.proofs.Files as files

-- ---- the calls

write_done : (font file : List ℕ) → length font ≡ font_length → length file ≡ font_file_length → write_font font file ≡ record { file = file_of font; reply = accepted 0 }
unfolding write_font written_by
write_done font file h k = rw (eq-eqb _ _ h, eq-eqb _ _ k)

read_by_lem : (file buffer : List ℕ) (v : Result (Unit {0}) FileRefusal) → length file ≡ font_file_length → length buffer ≡ font_length → blocks_test block_count 0 file ≡ v
    → read_font file buffer ≡ read_by v file buffer
unfolding read_font
read_by_lem file buffer v h k e = rw (eq-eqb _ _ k, eq-eqb _ _ h, e)

-- a file is accepted only if both lengths are right and all blocks pass
read_done : (file buffer : List ℕ) → (read_font file buffer).reply ≡ accepted 0
    → (length buffer ≡ font_length) × (length file ≡ font_file_length) × (blocks_test block_count 0 file ≡ Ok tt)
read_done file buffer =
    read_cases (λ o. o.reply ≡ accepted 0 → (length buffer ≡ font_length) × (length file ≡ font_file_length) × (blocks_test block_count 0 file ≡ Ok tt)) file buffer
    (λ b l p e. (b, l, p)) (λ r h e. absurd (eqb-false (file_number_of r) 0 (file-not-zero r) (ap (λ (a : Reply). a.refusal) e)))

-- ---- the file of a font

module _ (font file buffer : List ℕ) (fit : Fit font file buffer) where
  written_is : written font file ≡ file_of font
  written_is = ap (λ (o : WriteOutcome). o.file) (write_done font file fit.font-length fit.file-length)

  long : length (file_of font) ≡ font_file_length
  long = (files.blocks_read block_count 0 font refl fit.font-length).0

  good : (q : ℕ) → q < block_count → block_test q (block_at q (file_of font)) ≡ Ok tt
  good q = files.each_good (file_of font) block_count 0 q q (files.blocks_read block_count 0 font refl fit.font-length).1 (omega arith)

  bad_read : (other : List ℕ) (r : FileRefusal) → length other ≡ length (file_of font) → blocks_test block_count 0 other ≡ Err r
      → read_font other buffer ≡ record { font = buffer; reply = file_refused r }
  unfolding read_by
  bad_read other r n = read_by_lem other buffer (Err r) (n ∙ long) fit.buffer-length

wrong_length : (font file : List ℕ) → lengths_fit font file ≡ false
    → (write_font font file ≡ record { file = file; reply = file_refused Length }) × (read_font file font ≡ record { font = font; reply = file_refused Length })
unfolding write_font written_by read_font read_by
wrong_length font file e = (rw e, rw e)

pub font_files : FontFiles
unfolding read_by
font_files = record {
  same-font = λ font file buffer fit.
      let (n, p, q) = files.blocks_read block_count 0 font refl fit.font-length in (
        ap (λ (o : WriteOutcome). o.reply) (write_done font file fit.font-length fit.file-length),
        rw (written_is font file buffer fit, read_by_lem (file_of font) buffer (Ok tt) n fit.buffer-length p, q),
      );
  same-file = λ file buffer other h e k.
      let (b, l, p) = read_done file buffer e in
      let same = files.font-back file l h (λ q. files.each_good file block_count 0 q q p (omega arith)) block_count 0 refl in
      rw (read_by_lem file buffer (Ok tt) l b p, write_done (font_in file) other (files.font-long block_count 0 file refl l) k, same);
  one_changed = λ font file buffer i byte fit h.
      rw (written_is font file buffer fit) (λ m b n.
      bad_read font file buffer fit (set (file_of font) i byte) _ (simp length-set)
      (files.one_changed (file_of font) (long font file buffer fit) (files.blocks_bytes block_count 0 font refl h) (good font file buffer fit) i byte m b n));
  two_exchanged = λ font file buffer i fit h.
      rw (written_is font file buffer fit) (λ m n.
      bad_read font file buffer fit (exchanged (file_of font) (payload_at i) (payload_at (i + 1))) _ (simp length-set)
      (files.two_exchanged (file_of font) (long font file buffer fit) (files.blocks_bytes block_count 0 font refl h) (good font file buffer fit) i m n));
  wrong_length = wrong_length;
  first_bad = λ file buffer p r l k m good bad. read_by_lem file buffer (Err r) l k (files.first_bad file block_count 0 p p r (omega arith) m good bad);
  all_good = λ file buffer l k good. rw (read_by_lem file buffer (Ok tt) l k (files.all_good file block_count 0 (λ q m. good q (omega arith))));
  place_range = λ file buffer. read_cases (λ o. o.reply.value ≤ last_block) file buffer (λ b l p. omega arith) (λ r h. h);
}

pub file_example : FileExample
unfolding with_checks content_of sum weighted_sum
file_example = refl

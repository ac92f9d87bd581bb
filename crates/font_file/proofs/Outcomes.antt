-- What every call leaves, by cases: it is done, with both lengths right and each block good, or refused, and the buffer is as it was.
-- Assumes nothing.
use Prim.Native.Nat.{ℕ, ◌≤◌}
use mathlib.Core.Path.{◌≡◌, refl, sym, ◌∙◌}
use mathlib.Core.Bool.{Bool, true, false, not, cond}
use mathlib.Core.List.{List}
use native.Mathlib.Omega.{arith}
use borrow.Author.Tests.{eqb-true}
use lib.ListN.{length}
use Rattle.facts.proofs.Tests.{and_both}
use Rattle.limits.specs.Limits.{font_length, font_file_length}
use Rattle.refusals.specs.declared.FileRefusal.{FileRefusal}
use Rattle.refusals.specs.declared.FileRefusal.TheVariants.{Length}
use Rattle.refusals.specs.Refusals.{place_in, accepted, file_refused}
use Rattle.std.specs.Prelude.{Ok, Err}
use Rattle.font_file.specs.FontFile.{block_count, last_block, file_of, blocks_test, font_in, lengths_fit, WriteOutcome, written_by, write_font, ReadOutcome, read_by, read_font}
use Rattle.font_file.proofs.Files.{blocks_read, by_place, font-long}

module _ (P : WriteOutcome → Type 0) (font file : List ℕ) where
  pub write_cases : (length font ≡ font_length → length file ≡ font_file_length → P (record { file = file_of font; reply = accepted 0 }))
      → P (record { file = file; reply = file_refused Length }) → P (write_font font file)
  unfolding write_font written_by
  write_cases done bad = by (lengths_fit font file) refl
    where
      by : (t : Bool) → lengths_fit font file ≡ t → P (written_by (cond (not t) (Err Length) (Ok tt)) font file)
      by true e = let (f, l) = and_both _ _ e in done (eqb-true _ _ f) (eqb-true _ _ l)
      by false e = bad

module _ (P : ReadOutcome → Type 0) (file font : List ℕ) where
  pub read_cases : (length font ≡ font_length → length file ≡ font_file_length → blocks_test block_count 0 file ≡ Ok tt → P (record { font = font_in file; reply = accepted 0 }))
      → ((r : FileRefusal) → place_in r ≤ last_block → P (record { font = font; reply = file_refused r })) → P (read_font file font)
  unfolding read_font read_by
  read_cases done bad = by (lengths_fit font file) refl
    where
      by : (t : Bool) → lengths_fit font file ≡ t → P (read_by (cond (not t) (Err Length) (blocks_test block_count 0 file)) file font)
      by true e =
          let (f, l) = and_both _ _ e in
          by_place (λ v. blocks_test block_count 0 file ≡ v → P (read_by v file font)) block_count 0 file refl (done (eqb-true _ _ f) (eqb-true _ _ l)) (λ r h q. bad r h) refl
      by false e = bad Length (omega arith)

-- ---- after a refusal, the same buffer

pub write_silent : (font file : List ℕ) → ((write_font font file).reply.refusal ≡ 0 → ⊥) → (write_font font file).file ≡ file
write_silent font file = write_cases (λ o. (o.reply.refusal ≡ 0 → ⊥) → o.file ≡ file) font file (λ f l n. absurd (n refl)) (λ n. refl)

pub read_silent : (file font : List ℕ) → ((read_font file font).reply.refusal ≡ 0 → ⊥) → (read_font file font).font ≡ font
read_silent file font = read_cases (λ o. (o.reply.refusal ≡ 0 → ⊥) → o.font ≡ font) file font (λ f l g n. absurd (n refl)) (λ r h n. refl)

-- ---- lengths stay

pub write-length : (font file : List ℕ) → length (write_font font file).file ≡ length file
write-length font file = write_cases (λ o. length o.file ≡ length file) font file (λ f l. (blocks_read block_count 0 font refl f).0 ∙ sym l) refl

pub read_length : (file font : List ℕ) → length (read_font file font).font ≡ length font
read_length file font = read_cases (λ o. length o.font ≡ length font) file font (λ f l g. font-long block_count 0 file refl l ∙ sym f) (λ r h. refl)

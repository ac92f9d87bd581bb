-- A text that is appended part by part: what is appended so far, and what is left of it.
-- Assumes nothing.
use Rattle.std.proofs.Common.{◌≡◌, ℕ, List, [], ◌++◌, sym, ap, subst, ◌∙◌, append_assoc, append-nil}
use Rattle.std.specs.declared.option.Option.{Option}
use Rattle.std.specs.Io.KnownBytes.{Appends}
use Rattle.std.proofs.KnownBytes.{Appends-trans}

pub record Reached (old now : Option (List ℕ)) (rest whole : List ℕ) : Type 0 where
  pub so_far : List ℕ
  pub appended : Appends old now so_far
  pub joined : so_far ++ rest ≡ whole

pub first_part : (old now : Option (List ℕ)) (part rest whole : List ℕ) → Appends old now part → part ++ rest ≡ whole → Reached old now rest whole
first_part old now part rest whole h e = record { so_far = part; appended = h; joined = e }

pub next_part : (old now new : Option (List ℕ)) (all part rest whole : List ℕ) → Reached old now all whole → all ≡ part ++ rest → Appends now new part → Reached old new rest whole
next_part old now new all part rest whole r e h = record {
  so_far = r.so_far ++ part;
  appended = Appends-trans old now new r.so_far part r.appended h;
  joined = append_assoc r.so_far part rest ∙ ap (λ l. r.so_far ++ l) (sym e) ∙ r.joined;
}

pub last_part : (old now : Option (List ℕ)) (rest whole : List ℕ) → Reached old now rest whole → rest ≡ [] → Appends old now whole
last_part old now rest whole r e = subst (Appends old now) (sym (append-nil r.so_far) ∙ ap (λ l. r.so_far ++ l) (sym e) ∙ r.joined) r.appended

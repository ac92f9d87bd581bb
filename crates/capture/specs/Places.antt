-- The events of a chunk by the place of the byte that completes each, and what is left of a chunk from a place on: what the promises of
-- inner functions cite.
-- Assumes nothing.
use Rattle.std.specs.Prelude.{ℕ, ◌+◌, ◌-◌, cond, List, eqb, ltb, length, get_or, drop}
use Rattle.std.proofs.lemmas.List.Edits.{sets}
use Rattle.runs.specs.Runs.{Machine, end}
use Rattle.refusals.specs.Refusals.{Reply}
use Rattle.capture.specs.declared.Feed.{Feed}
use Rattle.capture.specs.declared.Feed.TheVariants.{Open, Half}
use Rattle.capture.specs.Capture.{Logged, finished, feed_after, output_from, Played}

-- the kind of the event that the byte at a place completes: it stands before it, or was held
abbrev pub kind_at : List ℕ → ℕ → ℕ → ℕ
kind_at chunk held i = cond (eqb i 0) held (get_or chunk (i - 1) 0)

-- the feed just before a place where a byte would complete an event: its kind has come where the place is at most the chunk's length;
-- else nothing is held
abbrev pub feed_at : List ℕ → ℕ → ℕ → Feed
feed_at chunk held i = cond (ltb (length chunk) i) Open (Half (kind_at chunk held i))

-- what the bytes that are left do: their events, with their output in the buffer from n on, where n bytes were written before and are
-- counted too
unfoldable pub rest : {S : Type 0} → Machine S Logged Reply → S → Feed → List ℕ → List ℕ → ℕ → Played S
rest m s f xs out n =
    record {
      state = end m s (finished f xs);
      feed = feed_after f xs;
      out = sets out n (output_from m s (finished f xs));
      written = n + length (output_from m s (finished f xs));
    }

-- those from a place on where a byte completes an event
abbrev pub from : {S : Type 0} → Machine S Logged Reply → S → List ℕ → ℕ → ℕ → List ℕ → ℕ → Played S
from m s chunk held i out n = rest m s (feed_at chunk held i) (drop i chunk) out n

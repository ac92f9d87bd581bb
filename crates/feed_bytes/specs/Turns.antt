-- A chunk's events on the record's bytes, turn by turn: what the promises of inner functions cite.
-- Assumes nothing.
use Rattle.std.specs.Prelude.{ℕ, ◌+◌, ◌-◌, ◌*◌, ◌/◌, ◌%◌, ◌≤◌, ◌<◌, ◌≡◌, cond, List, [], ◌∷◌, length}
use Rattle.capture.specs.Capture.{Played}
use Rattle.capture.specs.Places.{from}
use Rattle.interface.specs.Interface.{is_accepted, ChipBytes, lent, bus_calls}
use Rattle.feed_bytes.specs.declared.Taken.{Taken}

-- an answer's two bytes in the output: 1 or 0 for acknowledged, then the byte
abbrev pub output_in : ℕ → List ℕ
output_in answer = cond (is_accepted answer) 1 0 ∷ answer % 256 ∷ []

-- what a call returned and left, as a chunk's events leave it
abbrev pub took : Taken → (xs ram out : List ℕ) → Played ChipBytes
took t xs ram out = record { state = lent xs ram; feed = t.feed; out = out; written = t.written }

-- a place above 0 where a byte would complete an event, so that its kind stands before it, and the output's room for all events
pub record Place (chunk out : List ℕ) (first i : ℕ) : Type 0 where
  pub behind : 0 < i
  pub reached : first ≤ i
  pub events : (i - first) % 2 ≡ 0
  pub room : 2 * ((length chunk + 1 - first) / 2) ≤ length out

-- events of a run, from place i of a chunk up to place j: what is left from there on is what was left
pub record Ran (chunk : List ℕ) (first : ℕ) (before : ChipBytes) (out : List ℕ) (i : ℕ) (after : ChipBytes) (out' : List ℕ) (j : ℕ) : Type 0 where
  pub forth : i ≤ j
  pub events : (j - i) % 2 ≡ 0
  pub within : i ≤ length chunk + 1 → j ≤ length chunk + 1
  pub left : (held : ℕ) → from bus_calls after chunk held j out' (j - first) ≡ from bus_calls before chunk held i out (i - first)

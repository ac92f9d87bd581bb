-- Document 02, K1: however a capture is cut, if neither a chunk nor the whole is refused 1 or 10, the joined outputs, the end state and the
-- RAM equal one feed of the whole.
-- Assumes nothing.
use Rattle.std.specs.Prelude.{ℕ, ◌≡◌, true, List, [], ◌∷◌, ◌++◌, take}
use Rattle.runs.specs.Runs.{Machine, Entry, log, end, AsMade}
use Rattle.refusals.specs.Refusals.{Reply}
use Rattle.capture.specs.declared.Feed.{Feed}
use Rattle.capture.specs.Capture.{Chip, feed_chunk}

-- a chunk, and the output buffer that is lent with it
pub record Chunk : Type 0 where
  pub bytes : List ℕ
  pub out : List ℕ

-- what a feed of one chunk answers: its reply, and all bytes of its output buffer after it
pub record ChunkAnswer : Type 0 where
  pub reply : Reply
  pub out : List ℕ

-- what a feed gets and leaves
pub record Feeding : Type 0 where
  pub chip : Chip
  pub feed : Feed

-- feeds, one after the other: each gets the feed, the device and the RAM that the one before left
abbrev pub feeds : Machine Feeding Chunk ChunkAnswer
feeds =
    record {
      answer = λ s c. record { reply = (feed_chunk s.chip s.feed c.bytes c.out).reply; out = (feed_chunk s.chip s.feed c.bytes c.out).out };
      after = λ s c. record { chip = (feed_chunk s.chip s.feed c.bytes c.out).chip; feed = (feed_chunk s.chip s.feed c.bytes c.out).feed };
      is_event = λ c. true;
    }

-- the bytes that a feed wrote: the first of its output buffer, as many as its value says
abbrev pub written_in : ChunkAnswer → List ℕ
written_in a = take a.reply.value a.out

unfoldable pub joined : List (Entry Chunk ChunkAnswer) → List ℕ
joined [] = []
joined (x ∷ more) = written_in x.answer ++ joined more

-- the bytes of all chunks
unfoldable pub whole : List Chunk → List ℕ
whole [] = []
whole (c ∷ more) = c.bytes ++ whole more

-- refused neither 1 nor 10
pub record Fits (r : Reply) : Type 0 where
  pub ram : r.refusal ≡ 1 → ⊥
  pub room : r.refusal ≡ 10 → ⊥

-- chunks, and the whole of them with an output buffer of its own
pub record SameCut {S : Type 0} (m : Machine S Chunk ChunkAnswer) (s : S) (cs : List Chunk) (out : List ℕ) : Type 0 where
  pub outputs : joined (log m s cs) ≡ written_in (m.answer s (record { bytes = whole cs; out = out }))
  pub state : end m s cs ≡ m.after s (record { bytes = whole cs; out = out })

-- two lists of chunks
pub record SameCuts {S : Type 0} (m : Machine S Chunk ChunkAnswer) (s : S) (cs ds : List Chunk) : Type 0 where
  pub outputs : joined (log m s cs) ≡ joined (log m s ds)
  pub state : end m s cs ≡ end m s ds

-- the claim, for every cut into one or more chunks of which none, nor the whole, is refused 1 or 10, from any device, feed and RAM.
-- Refusal 9 is inside it
abbrev pub AnyCut : Type 0
AnyCut =
    (s : Feeding) (c : Chunk) (cs : List Chunk) (out : List ℕ)
    → AsMade (λ u x. Fits (feeds.answer u x).reply) feeds s (c ∷ cs)
    → Fits (feeds.answer s (record { bytes = whole (c ∷ cs); out = out })).reply
    → SameCut feeds s (c ∷ cs) out

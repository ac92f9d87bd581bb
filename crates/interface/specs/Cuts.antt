-- Document 02, K1, over the bytes that C sees: however a capture is cut, if neither a chunk nor the whole is refused 1, 10 or 255, the
-- joined outputs, both records and the RAM equal one feed of the whole (crate capture's specs/Cuts.antt, there over the device record).
-- Assumes nothing.
use Rattle.std.specs.Prelude.{ℕ, ◌≡◌, true, List, ◌∷◌}
use Rattle.runs.specs.Runs.{Machine, AsMade}
use Rattle.refusals.specs.Refusals.{Reply}
use Rattle.capture.specs.Cuts.{Chunk, ChunkAnswer, whole, Fits, SameCut, SameCuts}
use Rattle.interface.specs.Interface.{reply_in, own_refusal, FeedDone, feed_on}
use Rattle.interface.specs.OnePage.{State}

-- feeds, one after the other: each gets the bytes of both records and of the RAM as the one before left them
abbrev pub feeds_on : Machine State Chunk ChunkAnswer
feeds_on =
    record {
      answer =
          λ s c.
          let r : FeedDone = feed_on s.device s.feed s.ram c.bytes c.out in
          record { reply = reply_in r.answer; out = r.out };
      after =
          λ s c.
          let r : FeedDone = feed_on s.device s.feed s.ram c.bytes c.out in
          record { device = r.device; ram = r.ram; feed = r.feed };
      is_event = λ c. true;
    }

-- refused neither 1 nor 10, nor 255
pub record FitsBytes (r : Reply) : Type 0 where
  pub fits : Fits r
  pub taken : r.refusal ≡ own_refusal → ⊥

-- the claim, for every cut into one or more chunks of which none, nor the whole, is refused 1, 10 or 255, from any bytes. Refusal 9 is
-- inside it
abbrev pub AnyCutBytes : Type 0
AnyCutBytes =
    (s : State) (c : Chunk) (cs : List Chunk) (out : List ℕ)
    → AsMade (λ u x. FitsBytes (feeds_on.answer u x).reply) feeds_on s (c ∷ cs)
    → FitsBytes (feeds_on.answer s (record { bytes = whole (c ∷ cs); out = out })).reply
    → SameCut feeds_on s (c ∷ cs) out

-- any two cuts of the same bytes, each into one or more chunks that fit, do the same: so also where a capture has more than 65,534 bytes
-- and cannot be fed whole
abbrev pub TwoCutsBytes : Type 0
TwoCutsBytes =
    (s : State) (c d : Chunk) (cs ds : List Chunk) → whole (c ∷ cs) ≡ whole (d ∷ ds)
    → AsMade (λ u x. FitsBytes (feeds_on.answer u x).reply) feeds_on s (c ∷ cs)
    → AsMade (λ u x. FitsBytes (feeds_on.answer u x).reply) feeds_on s (d ∷ ds)
    → SameCuts feeds_on s (c ∷ cs) (d ∷ ds)

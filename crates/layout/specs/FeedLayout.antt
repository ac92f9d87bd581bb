-- The feed's record in 2 bytes, as a host lends them.
--
--   0  0 open, nothing held; 1 half an event is held; 2 shut
--   1  the kind that state 1 holds, else 0
--
-- Any 2 bytes are read as some record: another state is shut; byte 1 is read in state 1 only.
-- Assumes nothing.
use Rattle.std.specs.Prelude.{ℕ, ◌≡◌, cond, List, [], ◌∷◌, eqb, get_or}
use Rattle.capture.specs.declared.Feed.{Feed}
use Rattle.capture.specs.declared.Feed.TheVariants.{Open, Half, Shut}
use Rattle.capture.specs.Capture.{held_kind}

abbrev pub feed_length : ℕ
feed_length = 2

abbrev pub feed_state : Feed → ℕ
feed_state Open = 0
feed_state (Half kind) = 1
feed_state Shut = 2

abbrev pub feed_bytes : Feed → List ℕ
feed_bytes f = feed_state f ∷ held_kind f ∷ []

abbrev pub feed_of : ℕ → ℕ → Feed
feed_of state held = cond (eqb state 0) Open (cond (eqb state 1) (Half held) Shut)

abbrev pub feed_in : List ℕ → Feed
feed_in bytes = feed_of (get_or bytes 0 0) (get_or bytes 1 0)

-- reading back what was written gives the same record
abbrev pub FeedReadBack : Type 0
FeedReadBack = (f : Feed) → feed_in (feed_bytes f) ≡ f

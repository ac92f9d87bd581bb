-- Each claim of this crate's specs, with its proof.
-- Assumes nothing.
use Rattle.layout.specs.Layout.{PutInPlace, ReadBack}
use Rattle.layout.specs.FeedLayout.{FeedReadBack}
use Rattle.layout.proofs.Laws as laws

pub put_in_place : PutInPlace
put_in_place = laws.put_in_place

pub read_back : ReadBack
read_back = laws.read_back

pub feed-read-back : FeedReadBack
feed-read-back = laws.feed-back

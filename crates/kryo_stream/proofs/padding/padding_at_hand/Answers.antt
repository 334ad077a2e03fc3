use Rattle.std.proofs.Common.{arith}
use Rattle.kryo_stream.proofs.PaddingLemmas.{padding_of-broken, padding_of-full, padding_of-all}
use Rattle.kryo_stream.proofs.padding.padding_at_hand.Goals as goal

pub returns-then-place-gt-MOST_PADDING-clause-settled :
    goal.returns-then-place-gt-MOST_PADDING-clause-settled
returns-then-place-gt-MOST_PADDING-clause-settled c =
    padding_of-full _ c.loop-place.place (omega arith) (omega arith) c.loop-place.invariant.run

pub returns-then-byte-ne-OUT_OF_BAND-clause-settled :
    goal.returns-then-byte-ne-OUT_OF_BAND-clause-settled
returns-then-byte-ne-OUT_OF_BAND-clause-settled c = λ later.
    rw c.saturating_sub.ensures
    (padding_of-broken _ c.loop-place.place (omega arith) (omega arith) c.loop-place.invariant.run
    c.if-byte-ne-OUT_OF_BAND.true later)

pub returns-then-bytes-gt-MOST_PADDING-clause-settled :
    goal.returns-then-bytes-gt-MOST_PADDING-clause-settled
returns-then-bytes-gt-MOST_PADDING-clause-settled c =
    padding_of-full _ c.loop-place.place (omega arith) (omega arith) c.loop-place.invariant.run

pub returns-clause-at_end : goal.returns-clause-at_end
returns-clause-at_end c =
    padding_of-all _ c.loop-place.place (omega arith) (omega arith) c.loop-place.invariant.run

use Rattle.kryo_stream.proofs.FindLemmas.{All-below_last, last_below, none_below}
use Rattle.kryo_stream.proofs.bench.StreamBench.place.Goals as goal
use Rattle.kryo_stream.proofs.bench.StreamBench.place.Goals.{in-Some+else-time-last, in_default}

pub push_index-requires : goal.push_index-requires
push_index-requires c =
    let last_is = rw c.indexes.ensures.value at c.last.ensures.value in
    All-below_last c.args.flux.now.indexes _ c.indexes.ensures.order
    (elim c.match-last.branch [
      | in-Some+else-time-last w ↦ last_below c.args.flux.now.indexes _ _ (rw w.in-Some.is at last_is) w.if-time-last.false
      | in_default w ↦ none_below c.args.flux.now.indexes _ (rw w.in_default.is at last_is)
    ])

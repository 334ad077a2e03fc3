use Rattle.std.proofs.Common.{arith, sym, subst, ◌≡◌, ◌<◌, ◌∙◌, length, ap, get_or, List}
use Rattle.kryo_stream.specs.declared.block.Mark.{Mark}
use Rattle.kryo_stream.specs.inside.Bench.{IsSearchable, PlaceCause, mark_time}
use Rattle.kryo_stream.proofs.IndexLemmas.{IsSearchable-from_complete}
use Rattle.kryo_stream.proofs.ResolveLemmas.{Placing-step, TurnCause-placing, turn_fault-none, turn_fault-few, indexes_of-placed, mark-read, blank}
use Rattle.kryo_stream.proofs.bench.StreamBench.resolve.Goals as goal

pub place-requires : goal.place-requires
place-requires c = record {
  searchable = subst (IsSearchable c.args.self.now) (sym c.loop-mark.invariant.times)
      (IsSearchable-from_complete c.requires.complete.0 _ _ _ _ c.requires.complete.1);
  total = omega (arith, c.requires.complete.1.counted, c.requires.complete.1.noted.counted);
}

pub loop-mark-preserved : goal.loop-mark-preserved
loop-mark-preserved c =
    let list : List Mark = c.deref-mark-items.result.now in
    let list_is : list ≡ c.args.self.now.indexes = c.deref-mark-items.ensures.value ∙ ap (λ b. b.indexes) c.self.view_is in
    let inside : c.loop-mark.mark-index < length c.args.self.now.indexes =
    omega (arith, c.loop-mark-test.true, ap length list_is) in
    record {
      placing = Placing-step c.args.self.now c.args.flux.now.times c.args.total c.loop-mark.mark-index _ _ _
          (mark_time c.args.self.now c.loop-mark.flux.times (get_or list c.loop-mark.mark-index blank)) _ _
          (get_or list c.loop-mark.mark-index blank) c.loop-mark.invariant.placing inside
          (mark-read c.args.self.now list c.loop-mark.mark-index list_is c.loop-mark-test.true)
          (ap (λ t. mark_time c.args.self.now t (get_or list c.loop-mark.mark-index blank)) c.loop-mark.invariant.times)
          c.in-Ok.ensures.indexes c.in-Ok.ensures.within c.in-Ok.ensures.rises c.in-Ok.ensures.spare;
      times = c.place.ensures.times ∙ c.loop-mark.invariant.times;
      room = record {
        times = omega (arith, c.place.ensures.room.times, c.loop-mark.invariant.room.times);
        indexes = omega (arith, c.place.ensures.room.indexes, c.loop-mark.invariant.room.indexes);
      };
    }

pub returns-in-Err-clause-cause : goal.returns-in-Err-clause-cause
returns-in-Err-clause-cause c = λ ps complete.
    let list : List Mark = c.deref-mark-items.result.now in
    let list_is : list ≡ c.args.self.now.indexes = c.deref-mark-items.ensures.value ∙ ap (λ b. b.indexes) c.self.view_is in
    let inside : c.loop-mark.mark-index < length c.args.self.now.indexes =
    omega (arith, c.loop-mark-test.true, ap length list_is) in
    TurnCause-placing ps c.args.self.now c.args.flux.now.times c.args.total c.args.end c.loop-mark.mark-index _ _ _
    (get_or list c.loop-mark.mark-index blank) _ complete c.loop-mark.invariant.placing inside
    (mark-read c.args.self.now list c.loop-mark.mark-index list_is c.loop-mark-test.true)
    (subst (λ t. PlaceCause c.args.self.now t c.loop-mark.flux.indexes c.args.total
    (get_or list c.loop-mark.mark-index blank) c.loop-mark.flux.spare_indexes c.in-Err.fault)
    c.loop-mark.invariant.times c.in-Err.ensures.cause)

pub returns-clause-ok : goal.returns-clause-ok
returns-clause-ok c = λ ps complete.
    let list_is = c.deref-mark-items.ensures.value ∙ ap (λ b. b.indexes) c.self.view_is in
    turn_fault-none ps _ _ _ _ _ _ _ _ complete c.loop-mark.invariant.placing
    (omega (arith, c.loop-mark-test.false, c.loop-mark.auto.mark-index-end, ap length list_is))
    (omega (arith, c.if-indexes-lt2.false, ap length c.indexes.ensures.value))

pub returns-clause-indexes : goal.returns-clause-indexes
returns-clause-indexes c = λ ps complete.
    let list_is = c.deref-mark-items.ensures.value ∙ ap (λ b. b.indexes) c.self.view_is in
    indexes_of-placed ps _ _ _ _ _ _ _ _ complete c.loop-mark.invariant.placing
    (omega (arith, c.loop-mark-test.false, c.loop-mark.auto.mark-index-end, ap length list_is))

pub returns-then-indexes-lt2-clause-cause : goal.returns-then-indexes-lt2-clause-cause
returns-then-indexes-lt2-clause-cause c = λ ps complete.
    let list_is = c.deref-mark-items.ensures.value ∙ ap (λ b. b.indexes) c.self.view_is in
    turn_fault-few ps _ _ _ _ _ _ _ _ complete c.loop-mark.invariant.placing
    (omega (arith, c.loop-mark-test.false, c.loop-mark.auto.mark-index-end, ap length list_is))
    (omega (arith, c.if-indexes-lt2.true, ap length c.indexes.ensures.value))

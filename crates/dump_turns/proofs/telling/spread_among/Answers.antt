use Rattle.std.proofs.Common.{◌≡◌, ◌<◌, ◌++◌, ◌+◌, ◌∙◌, ℕ, List, [], ◌∷◌, length, take, sym, ap, subst, arith, length-append}
use Rattle.std.specs.Prelude.{All}
use Rattle.dump_turns.specs.Files.{means_in}
use Rattle.dump_turns.proofs.Means.{IsSmallMean, means-passed, means-read, mean-small, small-more, small-spread}
use Rattle.dump_turns.proofs.telling.spread_among.Goals as goal
use Rattle.dump_turns.proofs.telling.spread_among.Goals.{in-Read, in-PassedOver}

pub loop-number-preserved : goal.loop-number-preserved
loop-number-preserved c = elim c.match-founds-number.branch [
  | in-Read w ↦
      let founds = c.args.founds.now in
      let n = c.loop-number.number in
      let so_far = c.loop-number.invariant in
      let below : n < length founds = omega arith in
      let before = c.loop-number.means.items in
      let mean = w.mean.result in
      let turns = w.in-Read.turns in
      let long : length w.push_reserved.new.self.items ≡ length before + 1 = ap length w.push_reserved.ensures.items ∙ length-append before (mean ∷ []) in
      rw w.means-is (record {
        are = w.push_reserved.ensures.items ∙ ap (λ (xs : List ℕ). xs ++ mean ∷ []) so_far.are ∙ ap (λ (m : ℕ). means_in (take n founds) ++ m ∷ []) w.mean.ensures
            ∙ sym (means-read founds n _ below turns w.in-Read.is);
        many = omega (arith, long, so_far.many);
        small = subst (All IsSmallMean) (sym w.push_reserved.ensures.items) (small-more before mean so_far.small (mean-small founds n _ below c.requires.bounded turns w.in-Read.is mean w.mean.ensures));
        room = omega (arith, w.push_reserved.ensures.capacity, so_far.room);
      })
  | in-PassedOver w ↦
      let founds = c.args.founds.now in
      let n = c.loop-number.number in
      let so_far = c.loop-number.invariant in
      let below : n < length founds = omega arith in
      let many = so_far.many in
      rw w.means-is (record {
        are = so_far.are ∙ sym (means-passed founds n _ below _ w.in-PassedOver.is);
        many = omega (arith, many);
        small = so_far.small;
        room = so_far.room;
      })
]

pub returns-else-is_empty-clause-bounded : goal.returns-else-is_empty-clause-bounded
returns-else-is_empty-clause-bounded c =
    small-spread c.deref_mut.result.now c.spread_of.result (subst (All IsSmallMean) (sym c.deref_mut.ensures.value) c.loop-number.invariant.small) c.spread_of.ensures

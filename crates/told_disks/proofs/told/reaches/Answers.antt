use Rattle.std.proofs.Common.{◌≡◌, ◌<◌, ◌≤◌, ◌⊎◌, ◌+◌, ℕ, Bool, List, [], length, sym, subst, ap, ◌∙◌, inl, inr, arith}
use Rattle.std.proofs.lemmas.Bool.{cases_eq, cases_lt}
use Rattle.std.proofs.lemmas.List.{get_or_read}
use Rattle.told_disks.specs.Names.{HasAny, set_at}
use Rattle.told_disks.proofs.Sets.{has_nowhere}
use Rattle.told_disks.proofs.told.reaches.Goals as goal

pub loop-track-preserved : goal.loop-track-preserved
loop-track-preserved c = λ track from below is. by track from below is (cases_eq track c.loop-track.track)
  where
    by : (track : ℕ) → 2 ≤ track → track < c.loop-track.track + 1 → HasAny (set_at c.args.sets.now track) c.args.size
        → (track ≡ c.loop-track.track) ⊎ (track ≡ c.loop-track.track → ⊥) → ⊥
    by track from below is (inl same) =
        let here : set_at c.args.sets.now track ≡ c.index-sets-track.result = ap (set_at c.args.sets.now) same
        ∙ sym (get_or_read c.args.sets.now c.loop-track.track c.index-sets-track.result c.loop-track-test.true c.index-sets-track.is []) in
        c.has_any.ensures.no c.if-has_any.false (subst (λ (s : List Bool). HasAny s c.args.size) here is)
    by track from below is (inr apart) = c.loop-track.invariant track from (omega (arith, below, apart)) is

pub returns-clause-no : goal.returns-clause-no
returns-clause-no c = λ none is. by is.0 is.1 is.2 (cases_lt is.0 (length c.args.sets.now))
  where
    by : (track : ℕ) → 2 ≤ track → HasAny (set_at c.args.sets.now track) c.args.size → (track < length c.args.sets.now) ⊎ (length c.args.sets.now ≤ track) → ⊥
    by track from is (inl low) = c.loop-track.invariant track from (omega (arith, low, c.loop-track-test.false)) is
    by track from is (inr past) = has_nowhere c.args.sets.now c.args.size track is.0 past is.1

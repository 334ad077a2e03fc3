use Rattle.std.proofs.Common.{◌≡◌, ◌<◌, ◌≤◌, ◌⊎◌, ◌%◌, ℕ, length, inl, inr, arith}
use Rattle.std.proofs.lemmas.Bool.{cases_lt}
use Rattle.told_disks.specs.Names.{HasAny, set_at}
use Rattle.told_disks.proofs.Sets.{has_nowhere}
use Rattle.told_disks.proofs.foreign.names_second.Goals as goal

pub returns-clause-no : goal.returns-clause-no
returns-clause-no c = λ none is. by is.0 is.1 is.2 (cases_lt is.0 (length c.args.sets.now))
  where
    by : (track : ℕ) → track % 2 ≡ 0 → HasAny (set_at c.args.sets.now track) c.args.size → (track < length c.args.sets.now) ⊎ (length c.args.sets.now ≤ track) → ⊥
    by track even is (inl low) = c.loop-track.invariant track even (omega (arith, low, c.loop-track-test.false)) is
    by track even is (inr past) = has_nowhere c.args.sets.now c.args.size track is.0 past is.1

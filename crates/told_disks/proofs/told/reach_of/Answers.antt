use Rattle.std.proofs.Common.{◌≡◌, ◌∙◌, ℕ, Bool, List, [], length, ap, sym, subst, arith}
use Rattle.std.proofs.lemmas.List.{get_or_read}
use Rattle.told_disks.specs.Names.{HasCounted, has, set_at}
use Rattle.told_disks.specs.inside.Loops.{IsReachOrNone}
use Rattle.told_disks.proofs.Spans.{reach_same}
use Rattle.told_disks.proofs.told.reach_of.Goals.{then-has_some, else-has_some}
use Rattle.told_disks.proofs.told.reach_of.Goals as goal

pub loop-track-preserved : goal.loop-track-preserved
loop-track-preserved c =
    let sets = c.args.sets.now in
    let size = c.args.size in
    let track = c.loop-track.track in
    let here : c.index-sets-track.result ≡ set_at sets track = get_or_read sets track c.index-sets-track.result c.loop-track-test.true c.index-sets-track.is [] in
    elim c.if-has_some.branch [
      | then-has_some w ↦
          let found = c.has_some.ensures.yes w.if-has_some.true in
          rw w.reach-is (w.with_track.ensures sets size c.loop-track.invariant
          (found.0, (c.requires.counted found.0).0 found.1, ap (λ (s : List Bool). has s size found.0) (sym here) ∙ found.2))
      | else-has_some w ↦
          rw w.reach-is (reach_same (HasCounted sets size) track c.loop-track.reach c.loop-track.invariant
          (λ met. c.has_some.ensures.no w.if-has_some.false met.0 ((c.requires.counted met.0).1 met.1) (ap (λ (s : List Bool). has s size met.0) here ∙ met.2)))
    ]

pub returns : goal.returns
returns c =
    let end : c.loop-track.track ≡ length c.args.sets.now = omega (arith, c.loop-track-test.false, c.loop-track.auto.track-end) in
    subst (λ (k : ℕ). IsReachOrNone (HasCounted c.args.sets.now c.args.size) k c.loop-track.reach) end c.loop-track.invariant

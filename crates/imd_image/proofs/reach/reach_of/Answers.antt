use Rattle.std.proofs.Common.{◌≡◌, ◌<◌, ◌≤◌, ◌*◌, ◌/◌, ◌%◌, ◌∙◌, ap, arith, List, Some}
use Rattle.flux_base.specs.declared.track.TrackId.{TrackId}
use Rattle.track_shelf.specs.Files.{File, has_track}
use Rattle.track_shelf.specs.Stepping.{file_track}
use Rattle.imd_image.specs.Reaches.{cylinders_by}
use Rattle.imd_image.proofs.Reaching.{own-empty, own-found, own-gone, own-there}
use Rattle.imd_image.proofs.reach.reach_of.Goals as goal
use Rattle.imd_image.proofs.reach.reach_of.Goals.{then-holds, else-holds}

pub loop-number-preserved : goal.loop-number-preserved
loop-number-preserved g c =
    let number = c.loop-number.number in
    let below : number < 2 * cylinders_by c.args.stepping = omega (arith, c.loop-number-test.true, c.cylinders-number-end.ensures.is) in
    let few : number < 198 = omega (arith, c.loop-number-test.true, c.cylinders-number-end.ensures.few) in
    let says : (files : List File) → g.H.Shelf.files c.args.shelf.now ≡ Some files → c.holds.result
    ≡ has_track files c.args.dump.now (file_track c.args.stepping (record { cylinder = number / 2; head = number % 2 })) =
    λ files known. c.holds.ensures files known ∙ ap (has_track files c.args.dump.now) c.file_track.ensures in
    elim c.if-holds.branch [
      | then-holds w ↦
          rw w.reach-is (rw w.wider-reach.ensures (own-there (g.H.Shelf.files c.args.shelf.now) c.args.stepping c.args.dump.now number below c.loop-number.reach c.loop-number.invariant
          c.holds.result says w.reach_to.result w.reach_to.ensures.cylinders w.reach_to.ensures.heads few w.if-holds.true))
      | else-holds w ↦
          rw w.reach-is (own-gone (g.H.Shelf.files c.args.shelf.now) c.args.stepping c.args.dump.now number below c.loop-number.reach c.loop-number.invariant c.holds.result says
          w.if-holds.false)
    ]

pub returns-then-reach-eq0-clause-told : goal.returns-then-reach-eq0-clause-told
returns-then-reach-eq0-clause-told g c = λ files told.
    own-empty files c.args.stepping c.args.dump.now c.loop-number.number (omega (arith, c.loop-number-test.false, c.cylinders-number-end.ensures.is)) c.loop-number.reach
    (c.loop-number.invariant.in_files files told) c.if-reach-eq0.true

pub returns-else-reach-eq0-clause-told : goal.returns-else-reach-eq0-clause-told
returns-else-reach-eq0-clause-told g c = λ files told.
    own-found files c.args.stepping c.args.dump.now c.loop-number.number (omega (arith, c.loop-number-test.false, c.cylinders-number-end.ensures.is)) c.loop-number.reach
    (c.loop-number.invariant.in_files files told) (omega (arith, c.if-reach-eq0.false))

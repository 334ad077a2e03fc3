use Rattle.std.proofs.Common.{[], ◌∷◌}
use Rattle.ibm_disks.specs.declared.rate.Rate.{Rate}
use Rattle.ibm_walks.specs.Walks.{AreNamesBy}
use Rattle.turn_merge.specs.declared.clock.Clock.{Clock}
use Rattle.turn_merge.specs.declared.clock.Clock.TheVariants.{Following, Held}
use Rattle.imd_image.proofs.Joining.{noted-both, noted-one}
use Rattle.imd_image.proofs.streams.note_rate.Goals as goal

pub returns : goal.returns
returns c =
    let Are : (Rate × Clock) → _ → _ → Type 0 = λ reading. AreNamesBy reading.1 reading.0 c.args.dump c.args.flux.now.times c.args.flux.now.indexes in
    noted-both Are ((c.args.rate, Following) ∷ []) ((c.args.rate, Held) ∷ []) c.args.book.now c.note_names.new.book c.note_names-2.new.book
    (noted-one Are (c.args.rate, Following) c.args.book.now c.note_names.new.book c.note_names.ensures)
    (noted-one Are (c.args.rate, Held) c.note_names.new.book c.note_names-2.new.book c.note_names-2.ensures)

use Rattle.sector_copies.proofs.AsControllers.{none_noted}
use Rattle.sector_copies.proofs.tools.note_next.Goals as goal

pub returns-in-PassedOver-clause-noted : goal.returns-in-PassedOver-clause-noted
returns-in-PassedOver-clause-noted c =
    rw c.in-PassedOver.is (none_noted c.tracks_have_only_own.ensures.alone c.args.format c.args.track c.requires.track c.args.capture c.args.tools.now.notes)

use Rattle.imd_records.specs.Choices.{names_by}
use Rattle.imd_image.proofs.Joining.{noted-none}
use Rattle.imd_image.proofs.finding.note_next.Goals as goal

pub returns-in-PassedOver : goal.returns-in-PassedOver
returns-in-PassedOver c = λ mode. rw c.in-PassedOver.is (noted-none (names_by c.args.books.now mode))

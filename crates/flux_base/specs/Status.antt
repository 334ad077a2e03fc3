use Rattle.std.specs.Prelude.{ℕ}
use Rattle.flux_base.specs.declared.status.Status.{Status}
use Rattle.flux_base.specs.declared.status.Status.TheVariants.{AllGood, NotAllGood, Refused, Usage}
use Rattle.flux_base.specs.declared.status.Status.TheVariants.{ReadFault, ImageFault, NotesFault}
use Rattle.flux_base.specs.declared.status.Status.TheVariants.{Memory, ShelfFault}

-- the program's exit code
abbrev pub code_of : Status → ℕ
code_of AllGood = 0
code_of NotAllGood = 1
code_of Refused = 2
code_of Usage = 3
code_of ReadFault = 4
code_of ImageFault = 5
code_of NotesFault = 6
code_of Memory = 7
code_of ShelfFault = 8

-- The modes of ImageDisk's files (Dave Dunfield, IMD 1.18).
use Rattle.std.specs.Prelude.{ℕ, List, [], ◌∷◌}
use Rattle.imd_records.specs.declared.mode.Mode.{Mode}
use Rattle.imd_records.specs.declared.mode.Mode.TheVariants.{Fm250, Fm500, Mfm250, Mfm500}
use Rattle.name_book.specs.Book.{NamesKnown}

-- all that are looked for, in their order
abbrev pub modes : List Mode
modes = Mfm250 ∷ Mfm500 ∷ Fm250 ∷ Fm500 ∷ []

-- how a file names a mode
abbrev pub number_of : Mode → ℕ
number_of Mfm250 = 5
number_of Mfm500 = 3
number_of Fm250 = 2
number_of Fm500 = 0

-- what is known of a track's names by each mode
abbrev pub TrackNames : Type 0
TrackNames = Mode → NamesKnown

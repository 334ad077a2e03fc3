-- What is said of a track: what its record has, which sectors of it have no data and why, and which
-- names of the track it leaves out.
use Rattle.std.specs.Prelude.{ℕ, ◌*◌, ◌^◌, List, ◌++◌, codes, decimal}
use Rattle.flux_base.specs.declared.track.TrackId.{TrackId}
use Rattle.sector_report.specs.Lines.{two_digits}
use Rattle.name_book.specs.declared.name.NameKind.{NameKind}
use Rattle.name_book.specs.declared.name.NameKind.TheVariants.{Bad, Bare, Whole}
use Rattle.name_book.specs.declared.name.SectorName.{SectorName}
use Rattle.imd_records.specs.Modes.{number_of}
use Rattle.imd_records.specs.declared.choice.Choice.{Choice}
use Rattle.imd_records.specs.declared.mode.Mode.{Mode}

abbrev pub track_text : TrackId → List ℕ
track_text track = two_digits track.cylinder ++ codes "." ++ decimal track.head

-- a name: cylinder, head, number, code of the size, each with a blank before it
abbrev pub name_text : SectorName → List ℕ
name_text name = codes " " ++ decimal name.cylinder ++ codes " " ++ decimal name.head
    ++ codes " " ++ decimal name.number ++ codes " " ++ decimal name.code

-- what a record has
unfoldable pub mode_text : TrackId → Choice → (sectors good : ℕ) → List ℕ
mode_text track choice sectors good = track_text track
    ++ codes " mode " ++ decimal (number_of choice.mode)
    ++ codes " size " ++ decimal (128 * 2 ^ choice.code) ++ codes " sectors " ++ decimal sectors
    ++ codes " good " ++ decimal good ++ codes "\n"

-- why a sector of the record has no data: whole ones differ, or none is whole
abbrev pub lost_kind : NameKind → List ℕ
lost_kind Whole = codes " contradictory"
lost_kind Bad = codes " bad"
lost_kind Bare = codes " bad"

unfoldable pub lost_text : TrackId → NameKind → SectorName → List ℕ
lost_text track kind name = track_text track ++ lost_kind kind ++ name_text name ++ codes "\n"

abbrev pub kind_text : NameKind → List ℕ
kind_text Whole = codes " whole\n"
kind_text Bad = codes " bad\n"
kind_text Bare = codes " bare\n"

-- that a name is left out, and of which kind it is
unfoldable pub left_text : TrackId → Mode → NameKind → SectorName → List ℕ
left_text track mode kind name = track_text track ++ codes " left " ++ decimal (number_of mode)
    ++ name_text name ++ kind_text kind

-- that names were passed over
unfoldable pub more_text : TrackId → Mode → List ℕ
more_text track mode =
    track_text track ++ codes " left " ++ decimal (number_of mode) ++ codes " more\n"

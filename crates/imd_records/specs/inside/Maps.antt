-- What a map of a record tells of a name.
use Rattle.std.specs.Prelude.{ℕ}
use Rattle.imd_records.specs.declared.record.Field.{Field}
use Rattle.imd_records.specs.declared.record.Field.TheVariants.{Cylinder, Head, Number}
use Rattle.name_book.specs.declared.name.SectorName.{SectorName}

abbrev pub field_in : Field → SectorName → ℕ
field_in Number name = name.number
field_in Cylinder name = name.cylinder
field_in Head name = name.head

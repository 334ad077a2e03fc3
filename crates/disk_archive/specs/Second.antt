-- The picture and the notes of a disk, as the second sinks of its report's writer.
use Rattle.std.specs.Prelude.{not, Some}
use Rattle.flux_engine.specs.SecondSinks.{SecondNow}
use Rattle.disk_archive.specs.declared.kept_writer.PictureAndNotes.{PictureAndNotes}

-- what they took, and whether all of it fitted
abbrev pub second_of : PictureAndNotes → SecondNow
second_of kept = record {
  sound = not kept.full;
  image = Some kept.picture.written;
  notes = Some kept.notes.written;
}

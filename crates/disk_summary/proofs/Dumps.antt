-- What was written of dumps beside their picture is the text of notes.
use Rattle.std.proofs.Common.{◌≡◌, ◌<◌, ℕ, suc, List, [], ◌∷◌, ◌++◌, length, get_or, Option, refl, sym, ap, ◌∙◌, arith}
use Rattle.std.specs.List.{flat_map, range_with_len}
use Rattle.flux_engine.specs.Disks.{lines, part_at}
use Rattle.flux_engine.specs.LoopProgress.{streams_over}
use Rattle.flux_engine.specs.Plans.{IsPlannedPart, Streams, joined, passed_to}
use Rattle.flux_engine.specs.Recordings.{track_at}
use Rattle.flux_engine.specs.Tracks.{TrackPart, track_notes}
use Rattle.dump_reading.specs.Beside.{beside_at, beside_to, captures_at}
use Rattle.dump_reading.specs.Files.{ShelfNow}
use Rattle.dump_reading.specs.Outcomes.{DumpDisk, DumpsRead, lines_of, plan_of}
use Rattle.dump_reading.specs.declared.totals.DumpTotals.{DumpTotals}
use Rattle.disk_map.specs.Dumps.{WroteLines}
use Rattle.disk_map.specs.Maps.{lined_by}
use Rattle.disk_summary.specs.Dumps.{DrawingsAreNoted, noted_beside, noted_track}
use Rattle.disk_summary.specs.Notes.{beside_notes, track_notes_of}
use Rattle.disk_summary.specs.Texts.{note_text, notes_text}
use Rattle.disk_summary.specs.declared.note.Note.{Note}
use Rattle.disk_summary.proofs.Lists.{flat_map_flat_map}
use Rattle.disk_summary.proofs.Tracks.{joined-notes}

-- a text is that of some notes
record IsOfNotes (text : List ℕ) : Type 0 where
  pub notes : List Note
  pub is : text ≡ notes_text notes

both : (a b : List ℕ) → IsOfNotes a → IsOfNotes b → IsOfNotes (a ++ b)
both a b first second = record {
  notes = first.notes ++ second.notes;
  is = (λ i. first.is i ++ second.is i) ∙ joined-notes first.notes second.notes;
}

all-parts : (parts : List TrackPart) → ((n : ℕ) → n < length parts → IsOfNotes (part_at parts n).lines) → IsOfNotes (lines parts)
all-parts [] are = record { notes = []; is = refl }
all-parts (part ∷ parts) are = both part.lines (lines parts) (are 0 (omega arith)) (all-parts parts (λ n low. are (suc n) (omega (arith, low))))

module _ (disk : DumpDisk) (start now : ShelfNow) (notes notes' : Option (List ℕ)) (totals : DumpTotals)
    (wrote : WroteLines noted_track noted_beside disk start now notes notes' totals) where
  abbrev streams : Streams
  streams = streams_over (plan_of disk) wrote.is.streams

  of-part : (n : ℕ) (part : TrackPart) → IsPlannedPart (plan_of disk) (lined_by noted_track) disk.format streams n part → IsOfNotes part.lines
  of-part n part p = record {
    notes = track_notes_of disk.format (track_at disk.format n) (track_notes (joined p.captures) (passed_to streams n (plan_of disk).captures) p.others);
    is = ap (λ (t : TrackPart). t.lines) p.is;
  }

  abbrev of-beside : ℕ → List Note
  of-beside number =
      beside_notes (beside_at disk.stepping disk.format number)
      (beside_to (captures_at (length disk.dumps) wrote.is.beside.came number) (length disk.dumps))
      (get_or wrote.is.beside.others number [])

  noted : IsOfNotes (lines wrote.is.parts ++ lines_of noted_beside wrote.is.beside)
  noted =
      both (lines wrote.is.parts) (lines_of noted_beside wrote.is.beside)
      (all-parts wrote.is.parts (λ n low. of-part n (part_at wrote.is.parts n) (wrote.is.all.read.each n low)))
      (record {
        notes = flat_map of-beside (range_with_len 0 (length wrote.is.beside.others));
        is = sym (flat_map_flat_map note_text of-beside (range_with_len 0 (length wrote.is.beside.others)));
      })

  text-of : wrote.outcome.notes ≡ notes_text noted.notes
  text-of = ap (λ (d : DumpsRead). d.notes) wrote.is.is ∙ noted.is

pub noted-drew : DrawingsAreNoted
noted-drew disk start now picture picture' notes notes' totals lined =
    record { both = lined; noted = (noted disk start now notes notes' totals lined.wrote).notes; text = text-of disk start now notes notes' totals lined.wrote }

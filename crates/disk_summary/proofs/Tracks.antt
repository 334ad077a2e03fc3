-- The texts of the notes of a track, as they are written.
use Rattle.std.proofs.Common.{◌≡◌, ◌<◌, ◌+◌, ℕ, Bool, true, false, cond, get_or, length, take, List, [], ◌∷◌, ◌++◌, Option, refl, sym, ap, subst, ◌∙◌, append-nil}
use Rattle.std.specs.Prelude.{filter}
use Rattle.std.specs.List.{flat_map}
use Rattle.std.specs.Io.KnownBytes.{Appends}
use Rattle.flux_base.specs.Outside.{AppendsPart}
use Rattle.std.proofs.lemmas.List.Concat.{flat_map-append}
use Rattle.flux_base.specs.declared.track.TrackId.{TrackId}
use Rattle.sector_images.specs.declared.format.Format.{Format}
use Rattle.turn_merge.specs.Others.{has_data, has_untold, others_over}
use Rattle.turn_merge.specs.Readings.{NotedReading}
use Rattle.turn_merge.specs.declared.others.OtherTold.{OtherTold}
use Rattle.flux_engine.specs.Recordings.{sectors_of}
use Rattle.flux_engine.specs.Tracks.{TrackNotes, numbers}
use Rattle.flux_engine.specs.declared.gathered_track.PassedStream.{PassedStream}
use Rattle.disk_summary.specs.Notes.{note_of_passed, notes_of_names, notes_of_others, notes_of_passed, notes_of_sector, notes_of_sectors, track_notes_of}
use Rattle.disk_summary.specs.Texts.{note_text, notes_text}
use Rattle.disk_summary.specs.declared.note.Note.{Note}
use Rattle.disk_summary.specs.declared.note.Note.TheVariants.{Other, Untold}
use Rattle.disk_summary.proofs.Lists.{flat-kept, flat_map_flat_map, flat_map_map, items-next, items-stop}

-- the text of one note, if it is wanted
pub text-if : (wanted : Bool) (note : Note) → cond wanted (note_text note) [] ≡ notes_text (cond wanted (note ∷ []) [])
text-if true note = sym (append-nil (note_text note))
text-if false note = refl

abbrev pub passed_text : TrackId → PassedStream → List ℕ
passed_text track stream = note_text (note_of_passed track stream)

pub passed-is : (track : TrackId) (passed : List PassedStream) → flat_map (passed_text track) passed ≡ notes_text (notes_of_passed track passed)
passed-is track passed = sym (flat_map_map note_text (note_of_passed track) passed)

abbrev pub told_text : TrackId → OtherTold → List ℕ
told_text track told = cond (has_data told) (note_text (Other track told)) []

pub told-is : (track : TrackId) (told : List OtherTold) → flat_map (told_text track) told ≡ notes_text (notes_of_names track told)
told-is track told =
    flat-kept has_data (λ (name : OtherTold). note_text (Other track name)) told ∙ sym (flat_map_map note_text (Other track) (filter has_data told))

abbrev pub sector_text : TrackId → List NotedReading → ℕ → List ℕ
sector_text track readings sector = notes_text (notes_of_sector track readings sector)

pub sectors-are : (format : Format) (track : TrackId) (readings : List NotedReading)
    → flat_map (sector_text track readings) (numbers (sectors_of format track)) ≡ notes_text (notes_of_sectors format track readings)
unfolding notes_of_sectors
sectors-are format track readings = sym (flat_map_flat_map note_text (notes_of_sector track readings) (numbers (sectors_of format track)))

pub others-are : (track : TrackId) (told : List OtherTold) (untold : Bool)
    → notes_text (notes_of_names track told) ++ cond untold (note_text (Untold track)) [] ≡ notes_text (notes_of_others track told untold)
others-are track told untold =
    ap (λ (l : List ℕ). notes_text (notes_of_names track told) ++ l) (text-if untold (Untold track))
    ∙ sym (flat_map-append note_text (notes_of_names track told) (cond untold (Untold track ∷ []) []))

-- notes behind notes
pub joined-notes : (first more : List Note) → notes_text first ++ notes_text more ≡ notes_text (first ++ more)
joined-notes first more = sym (flat_map-append note_text first more)

-- all notes of a track
pub track-is : (format : Format) (track : TrackId) (notes : TrackNotes)
    → notes_text (notes_of_passed track notes.passed)
    ++ (notes_text (notes_of_sectors format track notes.readings)
    ++ notes_text (notes_of_others track (others_over notes.others) (has_untold notes.others)))
    ≡ notes_text (track_notes_of format track notes)
track-is format track notes =
    let sectors : List Note = notes_of_sectors format track notes.readings in
    let others : List Note = notes_of_others track (others_over notes.others) (has_untold notes.others) in
    ap (λ (l : List ℕ). notes_text (notes_of_passed track notes.passed) ++ l) (joined-notes sectors others)
    ∙ joined-notes (notes_of_passed track notes.passed) (sectors ++ others)

module _ (track : TrackId) (xs : List OtherTold) (i : ℕ) (old mid new : Option (List ℕ)) (d : OtherTold) (wanted : Bool) (text : List ℕ)
    (below : i < length xs) (wanted_is : wanted ≡ has_data (get_or xs i d)) (text_is : text ≡ note_text (Other track (get_or xs i d)))
    (before : Appends old mid (flat_map (told_text track) (take i xs))) where
  piece-is : cond wanted text [] ≡ told_text track (get_or xs i d)
  piece-is = ap (λ (b : Bool). cond b text []) wanted_is ∙ ap (λ (l : List ℕ). cond (has_data (get_or xs i d)) l []) text_is

  -- the note of one more name was written, if it is wanted
  pub told-next : Appends mid new (cond wanted text []) → Appends old new (flat_map (told_text track) (take (i + 1) xs))
  told-next here = items-next (told_text track) xs i d old mid new below (cond wanted text []) piece-is before here

  -- a part of it was
  pub told-stop : AppendsPart mid new (cond wanted text []) → AppendsPart old new (notes_text (notes_of_names track xs))
  told-stop here =
      subst (AppendsPart old new) (told-is track xs) (items-stop (told_text track) xs i d old mid new below (cond wanted text []) piece-is before here)

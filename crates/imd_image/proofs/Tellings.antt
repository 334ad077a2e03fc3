-- What the calls that write a disk say together.
use Rattle.std.proofs.Common.{◌≡◌, ◌<◌, ◌++◌, ◌∷◌, [], ℕ, List, length, take, Option, Some, None, Err, inl, inr, refl, sym, ap, subst, append_assoc}
use Rattle.std.specs.Prelude.{flat_map}
use Rattle.std.proofs.KnownBytes.{Appends-trans}
use Rattle.std.specs.Io.KnownBytes.{Appends}
use Rattle.flux_base.specs.Outside.{AppendsPart}
use Rattle.dump_reading.specs.Files.{ShelfNow}
use Rattle.dump_reading.specs.declared.fault.NoFiles.{NoFiles}
use Rattle.dump_turns.specs.Reaches.{count_in}
use Rattle.dump_turns.specs.declared.reach.Reach.{Reach}
use Rattle.flux_engine.specs.Answers.{AppendsAndPart}
use Rattle.flux_engine.specs.declared.fault.Stopped.{Stopped}
use Rattle.flux_engine.specs.declared.fault.Stopped.TheVariants.{ReadFault, ImageFault, NotesFault, Refused}
use Rattle.track_shelf.specs.Files.{File}
use Rattle.imd_image.specs.Found.{TrackFound, file_part}
use Rattle.imd_image.specs.Lines.{lines_part}
use Rattle.imd_image.specs.Outcomes.{BEGIN, DumpsAsked, HaveFound, IsReachTold, SaysOfImd, lines_of}
use Rattle.imd_image.specs.Reaches.{IsReachIn}
use Rattle.imd_image.specs.inside.Told.{ToldTracks, WroteTrack, WroteTracks}
use Rattle.imd_image.proofs.Founds.{pieces-push}

-- some bytes were written, and a part of some more
pub and-part : (old mid new : Option (List ℕ)) (whole more : List ℕ) → Appends old mid whole → AppendsPart mid new more → AppendsAndPart old new whole more
and-part old mid new whole more before (n, low, here) = (n, low, Appends-trans old mid new whole (take n more) before here)

-- and others before them
and-before : (old mid new : Option (List ℕ)) (first whole more : List ℕ) → Appends old mid first → AppendsAndPart mid new whole more → AppendsAndPart old new (first ++ whole) more
and-before old mid new first whole more before (n, low, here) =
    (n, low, subst (Appends old new) (sym (append_assoc first whole (take n more))) (Appends-trans old mid new first (whole ++ take n more) before here))

-- where the files are told, so far they reach
pub reach-told : (told : Option (List File)) (asked : DumpsAsked) (reach : Reach) → ((files : List File) → told ≡ Some files → IsReachIn files asked.stepping asked.names reach)
    → IsReachTold told asked reach
reach-told None asked reach says = tt
reach-told (Some files) asked reach says = says files refl

module _ (asked : DumpsAsked) (start : ShelfNow) (reach : Reach) where
  -- a track was cut
  pub track-cut : (mid now : ShelfNow) (file file1 file2 notes notes1 notes2 : Option (List ℕ)) (founds : List TrackFound) (next : TrackFound)
      → WroteTracks asked start mid reach file file1 notes notes1 founds → length founds < count_in reach → HaveFound asked start now reach (founds ++ next ∷ []) → (stopped : Stopped NoFiles)
      → WroteTrack (length asked.names) next file1 file2 notes1 notes2 {A = Unit {0}} (Err stopped) → ToldTracks asked start now reach file file2 notes notes2 (Err stopped)
  track-cut mid now file file1 file2 notes notes1 notes2 founds next w few have ImageFault cut = record {
    founds = founds;
    next = next;
    few = few;
    have = have;
    file_is = and-part file file1 file2 (flat_map file_part founds) (file_part next) w.file_is cut.0;
    notes_are = subst (λ (n : Option (List ℕ)). Appends notes n (lines_of asked founds)) (sym cut.1) w.notes_are;
  }
  track-cut mid now file file1 file2 notes notes1 notes2 founds next w few have NotesFault cut = record {
    founds = founds;
    next = next;
    few = few;
    have = have;
    file_is = pieces-push file_part founds next file file1 file2 w.file_is cut.0;
    notes_are = and-part notes notes1 notes2 (lines_of asked founds) (lines_part (length asked.names) next) w.notes_are cut.1;
  }
  track-cut mid now file file1 file2 notes notes1 notes2 founds next w few have ReadFault cut = absurd cut
  track-cut mid now file file1 file2 notes notes1 notes2 founds next w few have (Refused empty) cut = absurd cut

  -- behind the begin of the file
  pub imd-cut : (now : ShelfNow) (file file1 file2 notes notes2 : Option (List ℕ)) → IsReachTold start.told.files asked reach → Appends file file1 BEGIN → (stopped : Stopped NoFiles)
      → ToldTracks asked start now reach file1 file2 notes notes2 (Err stopped) → SaysOfImd asked start now file file2 notes notes2 (Err stopped)
  imd-cut now file file1 file2 notes notes2 is begin ImageFault cut =
      inr (record {
        reach = reach;
        founds = cut.founds;
        next = cut.next;
        some = record { reach_is = is; few = cut.few; have = cut.have };
        file_is = and-before file file1 file2 BEGIN (flat_map file_part cut.founds) (file_part cut.next) begin cut.file_is;
        notes_are = cut.notes_are;
      })
  imd-cut now file file1 file2 notes notes2 is begin NotesFault cut =
      inl (record {
        reach = reach;
        founds = cut.founds;
        next = cut.next;
        some = record { reach_is = is; few = cut.few; have = cut.have };
        file_is = Appends-trans file file1 file2 BEGIN (flat_map file_part (cut.founds ++ cut.next ∷ [])) begin cut.file_is;
        notes_are = cut.notes_are;
      })
  imd-cut now file file1 file2 notes notes2 is begin ReadFault cut = absurd cut
  imd-cut now file file1 file2 notes notes2 is begin (Refused empty) cut = absurd cut

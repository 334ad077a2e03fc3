-- The files that are written of an image are a dump that captures it.
use Rattle.std.proofs.Common.{◌≡◌, ◌<◌, ◌||◌, ℕ, Bool, true, false, not, List, [], length, refl, ap, sym, subst, ◌∙◌, arith, inl, append-nil, Some, None}
use Rattle.std.specs.Option.{is_some, option_or}
use Rattle.std.proofs.lemmas.List.Folds.{find-append}
use Rattle.std.proofs.lemmas.Slice.Eq.{bytes_eq-Decides}
use Rattle.flux_base.specs.declared.track.TrackId.{TrackId}
use Rattle.flux_engine.specs.Captures.{Capture, IsSteady}
use Rattle.flux_engine.specs.Recordings.{track_at}
use Rattle.flux_engine.specs.Rings.{ring_with}
use Rattle.flux_engine.specs.lemmas.TrackAt.{is_known_at, is_track_at}
use Rattle.dump_reading.specs.lemmas.DumpTracks.{in_file, of-file}
use Rattle.law_captured_dumps.specs.Headline.{SteadyDumpsAreReadWell}
use Rattle.law_captured_dumps.specs.Inputs.{IsSteadyOrPassed}
use Rattle.law_read_dumps.specs.Said.{came_in}
use Rattle.sector_images.specs.Formats.{zone}
use Rattle.sector_images.specs.Places.{IsTrack, NumbersNameTracks, TracksKeepBounds, tracks}
use Rattle.track_shelf.specs.Files.{File, dump_track, file_at, file_of, has_path}
use Rattle.track_shelf.specs.Names.{FolderPathsTell, IsNamed, folder_path, is_folder, is_scp, names_file, path_text}
use Rattle.disk_files.specs.Answers.{first_there}
use Rattle.disk_files.specs.Files.{DiskFolder, disk_file, disk_files}
use Rattle.disk_files.specs.Laws.{FilesAreCaptures}
use Rattle.law_written_dumps.specs.Headline.{WrittenDumpsAreReadWell, WrittenFilesCapture, dump_of, files_with}
use Rattle.law_written_dumps.proofs.Finding.{find-made, is_none, none_at}

module _ (tell : FolderPathsTell) (keep : TracksKeepBounds) (names : NumbersNameTracks) (target : DiskFolder) (image : List ℕ) where
  known : (k : ℕ) → k < length (tracks target.format) → IsTrack target.format (track_at target.format k)
  known k below = (let named = names target.format k below in is_known_at target.format k named.0 named.1 named.2)

  named : (k : ℕ) → k < length (tracks target.format) → IsNamed (track_at target.format k)
  named k below = (let bounds = keep target.format (track_at target.format k) (known k below) in record { cylinder = bounds.cylinder; head = bounds.head })

  abbrev path : ℕ → List ℕ
  path k = folder_path target.folder (track_at target.format k)

  -- of the files that are written the first of a track's path is of that track
  found_made : (n : ℕ) → n < length (tracks target.format)
      → (j : ℕ) × (j < length (tracks target.format)) × (track_at target.format j ≡ track_at target.format n)
      × (file_at (disk_files target image) (path n) ≡ Some (disk_file target image j))
  unfolding disk_files
  found_made n below =
      let first = find-made (has_path (path n)) (disk_file target image) 0 (length (tracks target.format)) n (omega arith) (omega (arith, below)) ((bytes_eq-Decides (path n) (path n)).1 refl) in
      let within : first.0 < length (tracks target.format) = omega (arith, first.2) in (
        first.0,
        within,
        (tell target.folder target.folder (track_at target.format first.0) (track_at target.format n) (named first.0 within) (named n below)
            ((bytes_eq-Decides (path first.0) (path n)).0 first.3)).1,
        first.4,
      )

  -- none was there
  none_before : (before : List File) → first_there before target.folder target.format ≡ None → (n : ℕ) → n < length (tracks target.format) → file_at before (path n) ≡ None
  unfolding first_there
  none_before before none n below =
      let track = names target.format n below in
      is_none (file_at before (path n))
      (ap (λ (t : TrackId). is_some (file_of before target.folder t)) (is_track_at target.format n track.0 track.1)
      ∙ none_at (λ t. is_some (file_of before target.folder t)) (tracks target.format) none n track.0 track.1)

  found : (before : List File) → first_there before target.folder target.format ≡ None → (n : ℕ) → n < length (tracks target.format)
      → (j : ℕ) × (j < length (tracks target.format)) × (track_at target.format j ≡ track_at target.format n)
      × (file_at (files_with target before image) (path n) ≡ Some (disk_file target image j))
  found before none n below =
      let made = found_made n below in (
        made.0,
        made.1,
        made.2,
        find-append (has_path (path n)) before (disk_files target image)
            ∙ ap (λ o. option_or o (file_at (disk_files target image) (path n))) (none_before before none n below)
            ∙ made.3,
      )

  none_of : (file scp : Bool) → not (file || scp) ≡ true → (file ≡ false) × (scp ≡ false)
  none_of true scp is = absurd (cc)
  none_of false true is = absurd (cc)
  none_of false false is = (refl, refl)

  path_is : names_file target.folder ≡ false → is_scp target.folder ≡ false → (track : TrackId) → path_text target.folder track ≡ folder_path target.folder track
  unfolding path_text
  path_is file scp track = rw file (rw scp refl)

  -- what a folder has of a track is its file
  track_is : (files : List File) → is_folder target.folder ≡ true → (track : TrackId) → dump_track files target.folder track ≡ in_file (file_at files (folder_path target.folder track))
  track_is files is track =
      let none = none_of (names_file target.folder) (is_scp target.folder) is in
      of-file files target.folder track none.1 ∙ ap (λ (path : List ℕ). in_file (file_at files path)) (path_is none.0 none.1 track)

-- the bytes capture a track's ring, of a drive that kept its speed
abbrev CapturesSteadily : (bytes : List ℕ) → (ring : List Bool) → (nominal : ℕ) → Type 0
CapturesSteadily bytes ring nominal = (capture : Capture bytes ring nominal) × IsSteady bytes ring nominal capture

pub files_capture : FolderPathsTell → TracksKeepBounds → NumbersNameTracks → FilesAreCaptures → WrittenFilesCapture
files_capture tell keep names captured target before image is can = λ clocks looks n below.
    let found = found tell keep names target image before can.none_there n below in
    let file = disk_file target image found.0 in
    let capture =
    subst (λ (track : TrackId). CapturesSteadily file.bytes (ring_with target.format track image) (zone target.format track.cylinder).nominal) found.2
    (captured target image found.0 is can.short found.1) in (
      record {
        stream = file.bytes;
        begins = record {
          bytes = file.bytes;
          there =
              track_is tell keep names target image (files_with target before image) can.a_folder (track_at target.format n) ∙ ap in_file found.3;
          later = [];
          is = sym (append-nil file.bytes);
        };
        capture = capture.0;
      },
      capture.1,
    )

pub dumps_read : WrittenFilesCapture → SteadyDumpsAreReadWell → WrittenDumpsAreReadWell
dumps_read capture well target before image is can = λ clocks looks o read n sector of sound.
    let disk = dump_of target clocks looks in
    let files = files_with target before image in
    let written = capture target before image is can clocks looks n of.track in
    well disk files image o is read n sector of 0 (omega arith) sound (inl written.0)
    (λ other low. let first : 0 ≡ other = omega (arith, low) in subst (IsSteadyOrPassed disk (came_in read) files image n) first (inl written))

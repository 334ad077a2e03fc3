-- What a file says that was opened and read.
use Rattle.std.proofs.Common.{◌≡◌, ◌<◌, ◌≤◌, ◌⊎◌, ◌+◌, ◌++◌, ℕ, Bool, true, false, cond, List, [], ◌∷◌, length, take, drop, Option, Some, None, Result, Ok, Err, refl, sym, ap, subst, ◌∙◌, inl, inr, arith, length-append}
use Rattle.std.specs.Prelude.{min}
use Rattle.std.specs.Io.KnownBytes.{Consumes, IsAtEnd}
use Rattle.std.proofs.lemmas.Bool.{cases_lt}
use Rattle.std.proofs.lemmas.List.{drop_all, length-take, take-append-drop, take-append-le, take_all}
use Rattle.flux_base.specs.Counts.{Counts}
use Rattle.flux_base.specs.declared.track.TrackId.{TrackId}
use Rattle.index_turns.specs.Track.{TrackState}
use Rattle.scp_files.specs.declared.fault.ScpTrackFault.{ScpTrackFault}
use Rattle.sector_report.specs.declared.dump_lines.Passed.{Passed}
use Rattle.sector_report.specs.declared.dump_lines.Passed.TheVariants.{Absent, Failed}
use Rattle.track_shelf.specs.Files.{File, dump_track, file_at, scp_track_in}
use Rattle.track_shelf.specs.Names.{is_scp, path_text}
use Rattle.track_shelf.specs.Told.{with_failed}
use Rattle.flux_engine.specs.Plans.{Seen, is_failed}
use Rattle.dump_reading.specs.Files.{ShelfNow}
use Rattle.flux_engine.specs.LoopProgress.{seen_next}
use Rattle.flux_engine.specs.declared.track_streams.NextStream.{NextStream}
use Rattle.dump_reading.specs.DumpStreams.{passed_over, seen_file, seen_of}
use Rattle.dump_reading.specs.lemmas.DumpTracks.{in_file, of-file, of-scp, scp-says, seen_read}
use Rattle.scp_tracks.specs.Reads.{IsScpRead}
use Rattle.scp_tracks.specs.declared.stream.ScpRead.{ScpRead}
use Rattle.scp_tracks.specs.declared.stream.ScpRead.TheVariants.{Absent as AbsentTrack, Faulty, Read as ReadTrack, Refused as RefusedTrack}
use Rattle.dump_turns.specs.Files.{HasSize, IsToldOf, MOST_BYTES}
use Rattle.dump_turns.specs.declared.files.Opened.TheVariants.{Missing, Whole}
use Rattle.dump_turns.specs.declared.found.FileTurns.{FileTurns}
use Rattle.dump_turns.specs.declared.found.Found.{Found}
use Rattle.dump_turns.specs.declared.found.Found.TheVariants.{PassedOver, Read}
use Rattle.dump_turns.specs.inside.Opened.{FindsOne, Holds, IsOpenedOf}

-- there is none
pub missing-is : (o : Option File) (buffer : List ℕ) → IsOpenedOf o buffer Missing → passed_over Absent ≡ seen_of (in_file o)
missing-is None buffer is = refl
missing-is (Some file) buffer is = absurd is

module _ (buffer : List ℕ) (count : ℕ) (full : length buffer ≡ MOST_BYTES) where
  module _ (file : File) (holds : Holds buffer count file.bytes) where
    whole : take count buffer ++ drop count file.bytes ≡ file.bytes
    whole = ap (λ (xs : List ℕ). xs ++ drop count file.bytes) holds.bytes_are ∙ take-append-drop count file.bytes

    -- where it is shorter than the buffer, it was read to its end
    nothing-behind : length (take count buffer) < MOST_BYTES → drop count file.bytes ≡ []
    nothing-behind short =
        let count_is : count ≡ min (length file.bytes) (length buffer) = holds.count_is in
        let taken : length (take count buffer) ≡ min count (length buffer) = length-take count buffer in
        drop_all count file.bytes (omega (arith, short, count_is, taken, full))

  -- it is read, or refused
  pub whole-is : (o : Option File) (next : NextStream) (flux : TrackState) → IsOpenedOf o buffer (Whole count)
      → ((later : List ℕ) → (length (take count buffer) < MOST_BYTES → later ≡ []) → seen_next next flux ≡ seen_file (take count buffer ++ later)) → seen_next next flux ≡ seen_of (in_file o)
  whole-is None next flux is seen = absurd is
  whole-is (Some file) next flux holds seen = seen (drop count file.bytes) (nothing-behind file holds) ∙ ap seen_file (whole file holds)

  -- and its bytes are counted
  pub whole-sized : (o : Option File) (turns : FileTurns) → turns.bytes ≡ count → IsOpenedOf o buffer (Whole count) → HasSize (in_file o) (Read turns)
  whole-sized None turns counted is = absurd is
  whole-sized (Some file) turns counted holds = counted ∙ holds.count_is ∙ ap (λ (n : ℕ). min (length file.bytes) n) full

-- the buffer was filled from a file with these bytes
module _ (bytes buffer : List ℕ) (count : ℕ) (within : count ≤ length buffer) where
  size : length (take count buffer) ≡ count
  size =
      let taken : length (take count buffer) ≡ min count (length buffer) = length-take count buffer in
      omega (arith, taken, within)

  counted : (stays : List ℕ) → bytes ≡ take count buffer ++ stays → (count < length buffer → stays ≡ []) → (count < length buffer) ⊎ (length buffer ≤ count)
      → count ≡ min (length bytes) (length buffer)
  counted stays is ended (inl less) =
      let all : length bytes ≡ length (take count buffer) + length stays = ap length is ∙ length-append (take count buffer) stays in
      let none : length stays ≡ 0 = ap length (ended less) in
      omega (arith, all, none, size, less)
  counted stays is ended (inr full) =
      let all : length bytes ≡ length (take count buffer) + length stays = ap length is ∙ length-append (take count buffer) stays in
      omega (arith, all, size, full, within)

  front : (stays : List ℕ) → bytes ≡ take count buffer ++ stays → take count buffer ≡ take count bytes
  front stays is =
      let low : count ≤ length (take count buffer) = omega (arith, size) in
      let high : length (take count buffer) ≤ count = omega (arith, size) in
      sym (take_all count (take count buffer) high) ∙ sym (take-append-le count (take count buffer) stays low) ∙ ap (take count) (sym is)

  pub filled : (left : Option (List ℕ)) → Consumes (Some bytes) left (take count buffer) → (count < length buffer → IsAtEnd left) → Holds buffer count bytes
  filled None consumed ended = absurd consumed
  filled (Some stays) consumed ended = record {
    count_is = counted stays consumed ended (cases_lt count (length buffer));
    bytes_are = front stays consumed;
  }

-- a file that is passed over has no size
pub passed-sized : (o : Option (Result (List ℕ) ScpTrackFault)) (why : Passed) → HasSize o (PassedOver why)
passed-sized None why = tt
passed-sized (Some (Ok bytes)) why = tt
passed-sized (Some (Err fault)) why = tt

-- a track of an SCP file that was looked at did not fail
pub read-sound : (read : ScpRead) (flux : TrackState) → is_failed (seen_read read flux).passed ≡ false
read-sound AbsentTrack flux = refl
read-sound (ReadTrack size) flux = refl
read-sound (RefusedTrack fault) flux = refl
read-sound (Faulty block fault) flux = refl

-- What came of it is what it says, or that it failed.
module _ (dump : List ℕ) (track : TrackId) (start now : ShelfNow) where
  abbrev path : List ℕ
  path = path_text dump track

  pub finds-said : (here : Seen) (found : Found) → is_failed here.passed ≡ false → now.told ≡ with_failed [] start.told → Counts false start.counts now.counts
      → ((files : List File) → start.told.files ≡ Some files → here ≡ seen_of (dump_track files dump track)) → IsToldOf here found
      → ((files : List File) → start.told.files ≡ Some files → HasSize (dump_track files dump track) found) → FindsOne dump track start now found
  finds-said here found sound told counts says is sized = record {
    here = here;
    gave = record {
      told = told ∙ ap (λ (b : Bool). with_failed (cond b (path ∷ []) []) start.told) (sym sound);
      counts = subst (λ (b : Bool). Counts b start.counts now.counts) (sym sound) counts;
      is = λ files known few. inl (says files known);
    };
    told = is;
    sized = sized;
  }

  -- of a dump that is no SCP file
  pub finds-file : is_scp dump ≡ false → (here : Seen) (found : Found) → is_failed here.passed ≡ false → now.told ≡ with_failed [] start.told → Counts false start.counts now.counts
      → ((files : List File) → start.told.files ≡ Some files → here ≡ seen_of (in_file (file_at files path))) → IsToldOf here found
      → ((files : List File) → start.told.files ≡ Some files → HasSize (in_file (file_at files path)) found) → FindsOne dump track start now found
  finds-file other here found sound told counts says is sized =
      finds-said here found sound told counts (λ files known. says files known ∙ ap seen_of (sym (of-file files dump track other))) is
      (λ files known. subst (λ (o : Option (Result (List ℕ) ScpTrackFault)). HasSize o found) (sym (of-file files dump track other)) (sized files known))

  -- and of one that is one
  pub finds-scp : is_scp dump ≡ true → (read : ScpRead) (flux : TrackState) (found : Found) → is_failed (seen_read read flux).passed ≡ false → now.told ≡ with_failed [] start.told
      → Counts false start.counts now.counts
      → ((files : List File) → start.told.files ≡ Some files → IsScpRead (scp_track_in (file_at files dump) track) read flux) → IsToldOf (seen_read read flux) found
      → ((files : List File) → start.told.files ≡ Some files → HasSize (scp_track_in (file_at files dump) track) found) → FindsOne dump track start now found
  finds-scp scp read flux found sound told counts says is sized =
      finds-said (seen_read read flux) found sound told counts
      (λ files known. scp-says (scp_track_in (file_at files dump) track) read flux (says files known) ∙ ap seen_of (sym (of-scp files dump track scp))) is
      (λ files known. subst (λ (o : Option (Result (List ℕ) ScpTrackFault)). HasSize o found) (sym (of-scp files dump track scp)) (sized files known))

  pub finds-lost : now.told ≡ with_failed (path ∷ []) start.told → Counts true start.counts now.counts → FindsOne dump track start now (PassedOver Failed)
  finds-lost told counts = record {
    here = passed_over Failed;
    gave = record { told = told; counts = counts; is = λ files known few. inr refl };
    told = refl;
    sized = λ files known. passed-sized (dump_track files dump track) Failed;
  }

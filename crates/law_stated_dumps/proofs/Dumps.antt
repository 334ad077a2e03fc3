-- What dumps have of a track is what is stated.
use Rattle.std.specs.Prelude.{◌≡◌, ◌≢◌, ◌<◌, ◌⊎◌, ◌↔◌, ℕ, Bool, true, List, [], is_some, length, refl, unwrap_or, Option, Some, None, Result, Ok, Err, option_and_then}
use Rattle.std.proofs.Common.{arith, ap, sym, subst, ◌∙◌, inl, inr}
use Rattle.std.proofs.lemmas.Option.{slice_get-get_or}
use Rattle.dump_reading.specs.DumpStreams.{IsOrFailed, seen_of, seen_unless}
use Rattle.dump_reading.specs.Outcomes.{DumpDisk}
use Rattle.flux_base.specs.declared.track.TrackId.{TrackId}
use Rattle.flux_engine.specs.Plans.{Seen, Streams}
use Rattle.flux_engine.specs.Recordings.{track_at}
use Rattle.flux_engine.specs.Rings.{nominal_of, ring_of}
use Rattle.kryo_stream.specs.Stream.{first_fault}
use Rattle.kryo_stream.specs.declared.fault.StreamFault.{StreamFault}
use Rattle.law_captured_dumps.specs.Inputs.{HasFailed, IsPassedOver, track_on}
use Rattle.law_read_dumps.specs.Said.{says_on}
use Rattle.law_stated_captures.specs.Laws.{CapturesAreStated, ErasedCapturesAreStated, StatedCapturesAreCaptures, StatedErasedCapturesAreErased, StatedSpeedsAreKept}
use Rattle.law_stated_disks.specs.Laws.{SectorsLieInPieces}
use Rattle.law_stated_dumps.proofs.Files.{bytes_none, has_track, no_bytes, none_ok, streams_are, track_has}
use Rattle.law_stated_dumps.specs.Dumps.{LacksFile, LacksTrack, SaysNothing}
use Rattle.law_stated_dumps.specs.Laws.{PassedFilesAreStated, SteadyDumpsAreStated, WholeSectorsAreStated}
use Rattle.sector_images.specs.Places.{IsTrack, NumbersNameTracks, TracksKeepBounds, tracks}
use Rattle.sector_images.specs.declared.format.Format.{Format}
use Rattle.sector_report.specs.declared.dump_lines.Passed.{Passed}
use Rattle.scp_files.specs.declared.fault.ScpTrackFault.{ScpTrackFault}
use Rattle.track_shelf.specs.Files.{File, dump_track}
use Rattle.track_shelf.specs.Names.{ScpDumpsAreFiles}
use Rattle.track_shelf.specs.Stepping.{file_track}

-- each track has a cell
some_cell : NumbersNameTracks → TracksKeepBounds → (format : Format) (k : ℕ) → k < length (tracks format) → 0 < nominal_of format k
some_cell names keep format k below =
    let named = names format k below in
    let is : IsTrack format (track_at format k) = subst (IsTrack format) (sym (ap (λ (t : Option TrackId). unwrap_or t (record { cylinder = 0; head = 0 })) named.1)) named.2 in
    let short = (keep format (track_at format k) is).shortest_cell in
    omega (arith, short)

-- the two ways of the law of captures
pub record CaptureLaws : Type 0 where
  pub captures : StatedCapturesAreCaptures
  pub no_others : CapturesAreStated
  pub erased : StatedErasedCapturesAreErased
  pub no_other_erased : ErasedCapturesAreStated
  pub steady : StatedSpeedsAreKept
  pub lie : SectorsLieInPieces
  pub scp : ScpDumpsAreFiles
  pub names : NumbersNameTracks
  pub keep : TracksKeepBounds

pub whole : CaptureLaws → WholeSectorsAreStated
whole law disk files image n dump sector below =
    let ring : List Bool = ring_of disk.format image n in
    let nominal : ℕ = nominal_of disk.format n in (
      λ is. (let begins = (streams_are law.scp disk files n dump is.stream).0 is.has in
          elim is.whole [
            | inl one ↦ inl (record { stream = is.stream; begins = begins; capture = (law.captures is.stream ring nominal one).0 })
            | inr one ↦ (let made = law.erased is.stream ring nominal one.0 in
                inr (record { stream = is.stream; begins = begins; capture = made.0 }, (law.lie disk.format image is.stream n sector made.0 one.0 (sym made.1)).0 one.1))
          ]),
      λ has. elim has [
        | inl one ↦ record {
          stream = one.stream;
          has = (streams_are law.scp disk files n dump one.stream).1 one.begins;
          whole = inl (law.no_others one.stream ring nominal one.capture).0;
        }
        | inr one ↦ (let made = law.no_other_erased one.0.stream ring nominal (some_cell law.names law.keep disk.format n below) one.0.capture in
            record {
              stream = one.0.stream;
              has = (streams_are law.scp disk files n dump one.0.stream).1 one.0.begins;
              whole = inr (made.0, (law.lie disk.format image one.0.stream n sector one.0.capture made.0 made.1).1 one.1);
            })
      ],
    )

-- what a dump says of a track is what it has of it
seen_by_track : (disk : DumpDisk) (files : List File) (n dump : ℕ) → dump < length disk.dumps → says_on disk files n dump ≡ seen_of (track_on disk files n dump)
seen_by_track disk files n dump few =
    ap (λ (name : Option (List ℕ)). seen_of (option_and_then (λ (name : List ℕ). dump_track files name (file_track disk.stepping (track_at disk.format n))) name))
    (sym (slice_get-get_or disk.dumps dump [] few))

refused : (bytes : List ℕ) (fault : Option (ℕ × StreamFault)) → fault ≢ None → is_some (seen_unless bytes fault).passed ≡ true
refused bytes None some = absurd (some refl)
refused bytes (Some fault) some = refl

faulty : (bytes : List ℕ) (fault : Option (ℕ × StreamFault)) → is_some (seen_unless bytes fault).passed ≡ true → fault ≢ None
faulty bytes None passed is = absurd (never passed)
  where
    never : is_some (seen_unless bytes None).passed ≡ true → ⊥
    never is = cc
faulty bytes (Some fault) passed is = cc

module _ (scp : ScpDumpsAreFiles) (disk : DumpDisk) (files : List File) (n dump : ℕ) where
  no_bytes_passed : (it : Option (Result (List ℕ) ScpTrackFault)) → ((bytes : List ℕ) → it ≢ Some (Ok bytes)) → is_some (seen_of it).passed ≡ true
  no_bytes_passed None none = refl
  no_bytes_passed (Some (Err fault)) none = refl
  no_bytes_passed (Some (Ok bytes)) none = absurd (none bytes refl)

  nothing_there : LacksFile disk files n dump ⊎ LacksTrack disk files n dump → is_some (seen_of (track_on disk files n dump)).passed ≡ true
  nothing_there none = no_bytes_passed (track_on disk files n dump) (no_bytes scp disk files n dump none)

  says_nothing : SaysNothing disk files n dump → is_some (seen_of (track_on disk files n dump)).passed ≡ true
  says_nothing (inl gone) = nothing_there (inl gone)
  says_nothing (inr (inl lacks)) = nothing_there (inr lacks)
  says_nothing (inr (inr damaged)) =
      ap (λ (it : Option (Result (List ℕ) ScpTrackFault)). is_some (seen_of it).passed) (has_track scp disk files n dump damaged.bytes damaged.has)
      ∙ refused damaged.bytes (first_fault damaged.bytes) damaged.fault

  err_ok : (it : Option (Result (List ℕ) ScpTrackFault)) (fault : ScpTrackFault) (bytes : List ℕ) → it ≡ Some (Err fault) → it ≡ Some (Ok bytes) → ⊥
  err_ok it fault bytes err is = cc

  none_said : LacksFile disk files n dump ⊎ LacksTrack disk files n dump → SaysNothing disk files n dump
  none_said (inl gone) = inl gone
  none_said (inr lacks) = inr (inl lacks)

  nothing_said : (it : Option (Result (List ℕ) ScpTrackFault)) → track_on disk files n dump ≡ it → is_some (seen_of it).passed ≡ true → SaysNothing disk files n dump
  nothing_said None is over = none_said (bytes_none scp disk files n dump (λ bytes same. none_ok (track_on disk files n dump) bytes is same))
  nothing_said (Some (Err fault)) is over = none_said (bytes_none scp disk files n dump (λ bytes same. err_ok (track_on disk files n dump) fault bytes is same))
  nothing_said (Some (Ok bytes)) is over =
      inr (inr (record { bytes = bytes; has = track_has scp disk files n dump bytes is; fault = faulty bytes (first_fault bytes) over }))

passed_by : ScpDumpsAreFiles → (disk : DumpDisk) (came : Streams) (files : List File) (n dump : ℕ) → dump < length disk.dumps → IsOrFailed (came n dump) (says_on disk files n dump)
    → (SaysNothing disk files n dump ⊎ HasFailed came n dump) ↔ IsPassedOver came n dump
passed_by scp disk came files n dump few (inr failed) = (
  λ some. ap (λ (s : Seen). is_some s.passed) failed,
  λ over. inr (ap (λ (s : Seen). s.passed) failed),
)
passed_by scp disk came files n dump few (inl same) =
    let is : is_some (came n dump).passed ≡ is_some (seen_of (track_on disk files n dump)).passed =
    ap (λ (s : Seen). is_some s.passed) (same ∙ seen_by_track disk files n dump few) in (
      λ some. elim some [
        | inl nothing ↦ is ∙ says_nothing scp disk files n dump nothing
        | inr failed ↦ ap (λ (why : Option Passed). is_some why) failed
      ],
      λ over. inl (nothing_said scp disk files n dump (track_on disk files n dump) refl (sym is ∙ over)),
    )

pub passed : ScpDumpsAreFiles → PassedFilesAreStated
passed scp disk came files are n dump below few = passed_by scp disk came files n dump few (are n dump below few)

pub steady : CaptureLaws → SteadyDumpsAreStated
steady law disk came files are image n dump below few =
    let ring : List Bool = ring_of disk.format image n in
    let nominal : ℕ = nominal_of disk.format n in (
      λ some. elim some [
        | inl is ↦ (let begins = (streams_are law.scp disk files n dump is.stream).0 is.has in
            elim is.kept [
              | inl one ↦ (let made = law.captures is.stream ring nominal one.0 in
                  inl (record { stream = is.stream; begins = begins; capture = made.0 }, (law.steady.whole is.stream ring nominal made.0 one.0 (sym made.2)).0 one.1))
              | inr one ↦ (let made = law.erased is.stream ring nominal one.0 in
                  inr (inl (record { stream = is.stream; begins = begins; capture = made.0 }, (law.steady.erased is.stream ring nominal made.0 one.0 (sym made.1)).0 one.1)))
            ])
        | inr over ↦ inr (inr ((passed law.scp disk came files are n dump below few).0 over))
      ],
      λ some. elim some [
        | inl one ↦ (let made = law.no_others one.0.stream ring nominal one.0.capture in
            inl (record {
              stream = one.0.stream;
              has = (streams_are law.scp disk files n dump one.0.stream).1 one.0.begins;
              kept = inl (made.0, (law.steady.whole one.0.stream ring nominal one.0.capture made.0 made.2).1 one.1);
            }))
        | inr other ↦ elim other [
          | inl one ↦ (let made = law.no_other_erased one.0.stream ring nominal (some_cell law.names law.keep disk.format n below) one.0.capture in
              inl (record {
                stream = one.0.stream;
                has = (streams_are law.scp disk files n dump one.0.stream).1 one.0.begins;
                kept = inr (made.0, (law.steady.erased one.0.stream ring nominal one.0.capture made.0 made.1).1 one.1);
              }))
          | inr over ↦ inr ((passed law.scp disk came files are n dump below few).1 over)
        ]
      ],
    )

-- What a dump says of its track's stream, and what the shelf then tells.
use Rattle.std.proofs.Common.{◌≡◌, ◌<◌, ◌≤◌, ℕ, zero, suc, false, cond, List, [], ◌∷◌, length, get_or, arith, Option, Some, None, refl, sym, ap, subst, ◌∙◌}
use Rattle.std.specs.List.{slice_get}
use Rattle.std.specs.Prelude.{unwrap_or}
use Rattle.std.proofs.lemmas.Option.{get_or_from_slice_get, slice_get-get_or}
use Rattle.flux_base.specs.Counts.{Counts}
use Rattle.flux_base.specs.lemmas.Counting.{Counts-none}
use Rattle.flux_base.specs.declared.track.TrackId.{TrackId}
use Rattle.index_turns.specs.Track.{TrackState}
use Rattle.track_shelf.specs.Files.{File, dump_track}
use Rattle.track_shelf.specs.Names.{path_text}
use Rattle.track_shelf.specs.Stepping.{file_track}
use Rattle.track_shelf.specs.Told.{with_failed}
use Rattle.track_shelf.specs.declared.stepping.Stepping.{Stepping}
use Rattle.sector_images.specs.Places.{tracks}
use Rattle.sector_images.specs.declared.format.Format.{Format}
use Rattle.sector_report.specs.declared.dump_lines.Passed.TheVariants.{Absent}
use Rattle.flux_engine.specs.LoopProgress.{seen_next}
use Rattle.flux_engine.specs.Plans.{Seen, is_failed}
use Rattle.flux_engine.specs.Recordings.{track_at}
use Rattle.flux_engine.specs.declared.track_streams.NextStream.{NextStream}
use Rattle.flux_engine.specs.declared.track_streams.NextStream.TheVariants.{PassedOver, Read}
use Rattle.dump_reading.specs.DumpStreams.{GaveOf, IsOrFailed, passed_over, path_in, seen_of, track_in}
use Rattle.dump_reading.specs.inside.DumpStreams.{is_lost, lost_path}
use Rattle.dump_reading.specs.Files.{ShelfNow}
use Rattle.dump_reading.specs.lemmas.Coming.{none-failed}

-- One file of a dump was read, or there is no such dump.
module _ (stepping : Stepping) (dumps : List (List ℕ)) (track : TrackId) (dump : ℕ) (start now : ShelfNow) where
  pub read-gave : (next : NextStream) (flux : TrackState) → (name : List ℕ) → slice_get dumps dump ≡ Some name
      → ((files : List File) → start.told.files ≡ Some files → IsOrFailed (seen_next next flux) (seen_of (dump_track files name (file_track stepping track))))
      → now.told ≡ with_failed (lost_path (path_text name (file_track stepping track)) next) start.told
      → Counts (is_lost next) start.counts now.counts
      → GaveOf stepping dumps track dump start now (seen_next next flux)
  read-gave next flux name at seen told counts = by next seen told counts
    where
      named : name ≡ get_or dumps dump []
      named = sym (get_or_from_slice_get dumps dump name [] at)

      path : path_text name (file_track stepping track) ≡ path_in stepping dumps track dump
      path = ap (λ (n : List ℕ). path_text n (file_track stepping track)) named

      says : (here : Seen) → ((files : List File) → start.told.files ≡ Some files → IsOrFailed here (seen_of (dump_track files name (file_track stepping track))))
          → (files : List File) → start.told.files ≡ Some files → dump < length dumps → IsOrFailed here (seen_of (track_in stepping dumps files track dump))
      says here before files is few = subst (λ (n : List ℕ). IsOrFailed here (seen_of (dump_track files n (file_track stepping track)))) named (before files is)

      by : (n : NextStream) → ((files : List File) → start.told.files ≡ Some files → IsOrFailed (seen_next n flux) (seen_of (dump_track files name (file_track stepping track))))
          → now.told ≡ with_failed (lost_path (path_text name (file_track stepping track)) n) start.told → Counts (is_lost n) start.counts now.counts
          → GaveOf stepping dumps track dump start now (seen_next n flux)
      by Read seen' told' counts' = record { told = told'; counts = counts'; is = says _ seen' }
      by (PassedOver why) seen' told' counts' = record {
        told = told' ∙ ap (λ (p : List ℕ). with_failed (cond (is_failed (Some why)) (p ∷ []) []) start.told) path;
        counts = counts';
        is = says _ seen';
      }

  pub none-gave : slice_get dumps dump ≡ None → now ≡ start → GaveOf stepping dumps track dump start now (passed_over Absent)
  none-gave gone same = record {
    told = ap (λ (s : ShelfNow). s.told) same ∙ none-failed start.told;
    counts = subst (λ (s : ShelfNow). Counts false start.counts s.counts) (sym same) (Counts-none start.counts);
    is = λ files is few. absurd (gone-past dumps dump few gone);
  }
    where
      gone-past : {X : Type 0} (xs : List X) (i : ℕ) → i < length xs → slice_get xs i ≡ None → ⊥
      gone-past [] i low same = absurd (omega (arith, low))
      gone-past (x ∷ xs) zero low same = cc
      gone-past (x ∷ xs) (suc i) low same = gone-past xs i (omega (arith, low)) same

-- the item of this number, and that there is none
pub item-some : {X : Type 0} (xs : List X) (i j : ℕ) (x : X) → i ≡ j → i < length xs → x ≡ get_or xs i x → slice_get xs j ≡ Some x
item-some xs i j x same below is = ap (slice_get xs) (sym same) ∙ slice_get-get_or xs i x below ∙ ap Some (sym is)

pub item-none : {X : Type 0} (xs : List X) (j : ℕ) → length xs ≤ j → slice_get xs j ≡ None
item-none [] j past = refl
item-none (x ∷ xs) zero past = absurd (omega (arith, past))
item-none (x ∷ xs) (suc j) past = item-none xs j (omega (arith, past))

-- the format's track of this number
pub track-is : (format : Format) (number : ℕ) (track : TrackId) → slice_get (tracks format) number ≡ Some track → track_at format number ≡ track
track-is format number track at = ap (λ (t : Option TrackId). unwrap_or t (record { cylinder = 0; head = 0 })) at

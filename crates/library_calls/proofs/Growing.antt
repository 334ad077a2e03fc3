-- The parts of an input are parts of every longer one.
use Rattle.std.specs.Prelude.{◌≡◌, ◌<◌, ℕ, zero, suc, Bool, true, false, List, ◌++◌, drop, nat_lt, Some, None, refl}
use Rattle.std.proofs.Common.{ap, sym, subst, ◌∙◌, arith, append-nil}
use Rattle.std.proofs.lemmas.List.{drop-append-le}
use Rattle.disk_recordings.specs.Laws.{TracksAreRead}
use Rattle.kryo_stream.specs.Growth.{PaddingStays, StreamsStay}
use Rattle.kryo_stream.specs.Outcome.{input_of}
use Rattle.kryo_stream.specs.Stream.{first_fault, indexes, indexes_of, stream_length, times, times_of, total_bytes}
use Rattle.library_calls.specs.Disks.{Decoded, stop_of, IsPart}
use Rattle.flux_engine.specs.Disks.{last_line, lines, part_at, totals_over}
use Rattle.library_calls.specs.Laws.{BeginsWith, CutInputsLead, PartsStay}
use Rattle.flux_engine.specs.Recordings.{track_at}
use Rattle.flux_engine.specs.Streams.{behind, behind_stream, stream_at}
use Rattle.library_calls.proofs.DiskParts.{few_parts, image_is, stop_is}
use Rattle.library_calls.proofs.Outcomes.{first_tracks_lead}

module _ (streams : StreamsStay) (padding : PaddingStays) where
  input-more : (used : Bool) (x later : List ℕ) → first_fault (input_of used x) ≡ None → input_of used (x ++ later) ≡ input_of used x ++ later
  input-more true x later none = padding x later none
  input-more false x later none = refl

  -- what stands after the first streams, where none of them has a fault
  behind-more : (x later : List ℕ) (n : ℕ) → ((k : ℕ) → k < n → first_fault (stream_at x k) ≡ None) → behind (x ++ later) n ≡ behind x n ++ later
  unfolding behind
  behind-more x later zero none = refl
  behind-more x later (suc n) none =
      let before = behind-more x later n (λ k low. none k (omega (arith, low))) in
      let here : first_fault (stream_at x n) ≡ None = none n (omega arith) in
      let s : List ℕ = stream_at x n in
      let same = streams s later here in
      ap behind_stream (ap (input_of (nat_lt 0 n)) before ∙ input-more (nat_lt 0 n) (behind x n) later here)
      ∙ ap (λ blocks. drop (total_bytes blocks) (s ++ later)) same.blocks
      ∙ drop-append-le (stream_length s) s later same.within

  stream-more : (x later : List ℕ) (n : ℕ) → ((k : ℕ) → k < n → first_fault (stream_at x k) ≡ None) → first_fault (stream_at x n) ≡ None
      → stream_at (x ++ later) n ≡ stream_at x n ++ later
  stream-more x later n none here =
      ap (input_of (nat_lt 0 n)) (behind-more x later n none) ∙ input-more (nat_lt 0 n) (behind x n) later here

  pub parts_stay : PartsStay
  parts_stay format x later parts are = λ n low.
      let here = (are n low).no_fault in
      let same = streams (stream_at x n) later here in
      let at = stream-more x later n (λ k below. (are k (omega (arith, below, low))).no_fault) here in
      let times_are : times (stream_at (x ++ later) n) ≡ times (stream_at x n) = ap times at ∙ ap times_of same.blocks in
      let indexes_are : indexes (stream_at (x ++ later) n) ≡ indexes (stream_at x n) = ap indexes at ∙ ap indexes_of same.blocks in
      record {
        no_fault = ap first_fault at ∙ same.no_fault;
        comes =
            subst (λ ts. IsPart format (track_at format n) ts (indexes (stream_at (x ++ later) n)) (part_at parts n)) (sym times_are)
            (subst (λ is. IsPart format (track_at format n) (times (stream_at x n)) is (part_at parts n)) (sym indexes_are) (are n low).comes);
      }

  pub cut_inputs_lead : TracksAreRead → CutInputsLead
  cut_inputs_lead read format x later d o stop is stops whole =
      let leads = first_tracks_lead read format (x ++ later) is.parts o (parts_stay format x later is.parts is.each) (few_parts format x d is) whole in
      let stopped : stop_of format x ≡ Some stop = sym (stop_is format x d is) ∙ stops in
      let notes : d.notes ≡ lines is.parts =
      ap (λ (a : Decoded). a.notes) is.is ∙ ap (λ found. lines is.parts ++ last_line (totals_over is.parts) found) stopped ∙ append-nil (lines is.parts) in (
        subst (BeginsWith o.image) (sym (image_is format x d is)) leads.0,
        subst (BeginsWith o.notes) (sym notes) leads.1,
      )

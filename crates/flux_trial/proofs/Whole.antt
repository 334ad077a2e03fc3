-- A trial without a hole decodes whole.
use Rattle.std.specs.Prelude.{◌≡◌, ◌<◌, ◌+◌, ◌*◌, ℕ, suc, cond, List, [], ◌∷◌, count_by, length, map, slice_get, sum, sum_by, unwrap_or, refl}
use Rattle.std.proofs.Common.{ap, arith, sym, subst, ◌∙◌}
use Rattle.std.proofs.lemmas.List.FromFn.{length-map-range_with_len}
use Rattle.std.proofs.lemmas.List.Sums.{sum_by-cons}
use Rattle.law_captured_disks.specs.Inputs.{AreJoined}
use Rattle.law_captured_plans.specs.Headline.{CapturedPlansAreRead, IsReadWhole}
use Rattle.flux_base.specs.declared.track.TrackId.{TrackId}
use Rattle.flux_engine.specs.Captures.{Capture}
use Rattle.flux_engine.specs.Disks.{part_at, totals_over}
use Rattle.flux_engine.specs.Plans.{IsPlanned, IsPlannedPart, Planned, Streams, decoding, joined, planned_count, streams_in}
use Rattle.flux_engine.specs.Recordings.{sectors_of, track_at}
use Rattle.flux_engine.specs.Rings.{nominal_of}
use Rattle.flux_engine.specs.Tracks.{TrackPart, is_bad, is_contradictory, is_good, is_missing, numbers, part_by}
use Rattle.sector_images.specs.Formats.{zone}
use Rattle.sector_images.specs.Places.{tracks}
use Rattle.sector_images.specs.declared.format.Format.{Format}
use Rattle.sector_report.specs.Lines.{trial_text}
use Rattle.sector_report.specs.declared.naming.Naming.TheVariants.{Unnamed}
use Rattle.sector_report.specs.declared.totals.Totals.{Totals}
use Rattle.turn_merge.specs.Readings.{NotedReading, verdict}
use Rattle.turn_merge.specs.declared.verdict.Verdict.{Verdict}
use Rattle.turn_merge.specs.declared.verdict.Verdict.TheVariants.{Good, Contradictory, Bad, Missing}
use Rattle.flux_trial.specs.Image.{trial_image}
use Rattle.flux_trial.specs.Laws.{SmallSeedsHaveNoHole, TrialsAreCapturedDisks, TrialsAreCaptures, WholeTrialsHaveOneLine, all_good, sectors_of_all}
use Rattle.flux_trial.specs.Tracks.{drive_at, trial_input, trial_ring, trial_stream}
use Rattle.flux_trial.proofs.Captured.{captures}
use Rattle.flux_trial.proofs.Joined.{input_joined}
use Rattle.flux_trial.proofs.Rings.{Laws, is_image, is_stream, is_trial_ring, is_usual, track_known}

pub small_seeds : SmallSeedsHaveNoHole
small_seeds seed small = omega (arith, small)

pub trials_are_captures : Laws → TrialsAreCaptures
unfolding trial_stream
trials_are_captures laws format seed k none below =
    let known = track_known laws.names format k below in
    let ring = is_trial_ring laws.keep format k (trial_ring format seed k) known (laws.rings format (trial_image format seed) k (is_image format seed) below) in
    captures (drive_at format seed k) (trial_ring format seed k) (is_usual laws.keep format seed k known) ring none (is_stream laws format seed k below)

pub trials_are_captured_disks : Laws → TrialsAreCapturedDisks
trials_are_captured_disks laws format seed none = record {
  stream = trial_stream format seed;
  joined = (let all : length (tracks format) ≡ length (tracks format) * 1 = omega arith in
      subst (λ (n : ℕ). AreJoined n (trial_stream format seed) (trial_input format seed)) all (input_joined format seed));
  captured = λ k q known low.
      let only : k ≡ k * 1 + q = omega (arith, low) in
      subst (λ (m : ℕ). Capture (trial_stream format seed m) (trial_ring format seed k) (nominal_of format k)) only (trials_are_captures laws format seed k none known);
}

-- a verdict is of one kind
one_kind : (v : Verdict) → cond {A = ℕ} (is_good v) 1 0 + cond {A = ℕ} (is_bad v) 1 0 + cond {A = ℕ} (is_missing v) 1 0 + cond {A = ℕ} (is_contradictory v) 1 0 ≡ 1
one_kind (Good g b place) = omega arith
one_kind (Contradictory g b place other) = omega arith
one_kind (Bad b place) = omega arith
one_kind Missing = omega arith

all_kinds : (vs : List Verdict) → count_by is_good vs + count_by is_bad vs + count_by is_missing vs + count_by is_contradictory vs ≡ length vs
all_kinds [] = omega arith
all_kinds (v ∷ vs) =
    omega (
      arith,
      one_kind v,
      all_kinds vs,
      sum_by-cons (λ (w : Verdict). cond (is_good w) 1 0) v vs,
      sum_by-cons (λ (w : Verdict). cond (is_bad w) 1 0) v vs,
      sum_by-cons (λ (w : Verdict). cond (is_missing w) 1 0) v vs,
      sum_by-cons (λ (w : Verdict). cond (is_contradictory w) 1 0) v vs,
    )

-- these totals count so many sectors, each once
record AreCounted (sectors : ℕ) (totals : Totals) : Type 0 where
  sectors_are : totals.sectors ≡ sectors
  each_once : totals.good + totals.bad + totals.missing + totals.contradictory ≡ totals.sectors

abbrev track_sectors : Format → TrackId → ℕ
track_sectors format track = (zone format track.cylinder).sectors

part_counted : (format : Format) (streams : Streams) (n : ℕ) (part : TrackPart) → IsPlannedPart decoding (part_by Unnamed) format streams n part
    → AreCounted (track_sectors format (track_at format n)) part.totals
part_counted format streams n part at =
    let track : TrackId = track_at format n in
    let readings : List NotedReading = joined at.captures in
    let vs : List Verdict = map (verdict readings) (numbers (sectors_of format track)) in
    subst (λ (p : TrackPart). AreCounted (track_sectors format track) p.totals) (sym at.is) (record {
      sectors_are = length-map-range_with_len (verdict readings) (sectors_of format track).first (sectors_of format track).count;
      each_once = all_kinds vs;
    })

-- the totals of several tracks
parts_counted : (format : Format) (ts : List TrackId) (parts : List TrackPart) → length parts ≡ length ts
    → ((n : ℕ) → n < length parts → AreCounted (track_sectors format (unwrap_or (slice_get ts n) (record { cylinder = 0; head = 0 }))) (part_at parts n).totals)
    → AreCounted (sum_by (track_sectors format) ts) (totals_over parts)
parts_counted format [] [] same each = record { sectors_are = refl; each_once = refl }
parts_counted format [] (part ∷ parts) same each = absurd (omega (arith, same))
parts_counted format (t ∷ ts) [] same each = absurd (omega (arith, same))
parts_counted format (t ∷ ts) (part ∷ parts) same each =
    let here : AreCounted (track_sectors format t) part.totals = each 0 (omega arith) in
    let rest = parts_counted format ts parts (omega (arith, same)) (λ n below. each (suc n) (omega (arith, below))) in
    let sectors = sum_by-cons (λ (p : TrackPart). p.totals.sectors) part parts in
    let good = sum_by-cons (λ (p : TrackPart). p.totals.good) part parts in
    let bad = sum_by-cons (λ (p : TrackPart). p.totals.bad) part parts in
    let missing = sum_by-cons (λ (p : TrackPart). p.totals.missing) part parts in
    let contradictory = sum_by-cons (λ (p : TrackPart). p.totals.contradictory) part parts in
    let all = sum_by-cons (track_sectors format) t ts in
    record {
      sectors_are = omega (arith, sectors, all, here.sectors_are, rest.sectors_are);
      each_once = omega (arith, sectors, good, bad, missing, contradictory, here.each_once, rest.each_once);
    }

abbrev make : (sectors good bad missing contradictory : ℕ) → Totals
make sectors good bad missing contradictory =
    record { sectors = sectors; good = good; bad = bad; missing = missing; contradictory = contradictory }

totals_same : (n : ℕ) (t : Totals) → AreCounted n t → t.good ≡ t.sectors → t ≡ record { sectors = n; good = n; bad = 0; missing = 0; contradictory = 0 }
totals_same n t counted good =
    let sectors = counted.sectors_are in
    let once = counted.each_once in
    let good_is : t.good ≡ n = good ∙ sectors in
    let bad_is : t.bad ≡ 0 = omega (arith, once, good) in
    let missing_is : t.missing ≡ 0 = omega (arith, once, good) in
    let contradictory_is : t.contradictory ≡ 0 = omega (arith, once, good) in
    ap (λ (k : ℕ). make k t.good t.bad t.missing t.contradictory) sectors
    ∙ ap (λ (k : ℕ). make n k t.bad t.missing t.contradictory) good_is
    ∙ ap (λ (k : ℕ). make n n k t.missing t.contradictory) bad_is
    ∙ ap (λ (k : ℕ). make n n 0 k t.contradictory) missing_is
    ∙ ap (λ (k : ℕ). make n n 0 0 k) contradictory_is

-- the totals of a disk that is read whole
totals-are : (format : Format) (streams : Streams) (image : List ℕ) (o : Planned) → IsPlanned decoding (part_by Unnamed) format streams o
    → IsReadWhole decoding format image streams o → o.totals ≡ all_good format
totals-are format streams image o read whole =
    let many : length read.parts ≡ length (tracks format) = read.many ∙ ap (planned_count format) whole.no_stop in
    let is : o.totals ≡ totals_over read.parts = ap (λ (d : Planned). d.totals) read.is in
    let counted : AreCounted (sectors_of_all format) (totals_over read.parts) =
    parts_counted format (tracks format) read.parts many (λ n below. part_counted format streams n (part_at read.parts n) (read.each n below)) in
    totals_same (sectors_of_all format) o.totals (subst (AreCounted (sectors_of_all format)) (sym is) counted) whole.all_good

pub whole_trials : TrialsAreCapturedDisks → CapturedPlansAreRead → WholeTrialsHaveOneLine
whole_trials disks read format seed line none is =
    let image : List ℕ = trial_image format seed in
    let x : List ℕ = trial_input format seed in
    let whole = read decoding format image x is.decoded (omega arith) (is_image format seed) (disks format seed none) (λ used. absurd used) is.is in
    is.line_is
    ∙ ap (λ (t : Totals). trial_text format seed (length (tracks format)) t (sum is.decoded.image))
    (totals-are format (streams_in decoding x) image is.decoded is.is whole)
    ∙ ap (λ (l : List ℕ). trial_text format seed (length (tracks format)) (all_good format) (sum l)) whole.image_is

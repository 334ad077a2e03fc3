-- The streams of one track, dump by dump.
use Rattle.std.specs.Prelude.{◌≡◌, ◌<◌, ◌≤◌, ℕ, zero, suc, ◌+◌, ◌*◌, List, [], ◌∷◌, ◌++◌, cond, get_or, length, nat_eq, Option, None, Some, refl}
use Rattle.std.proofs.Common.{ap, append-nil, arith, length-append, subst, sym, ◌∙◌}
use Rattle.std.proofs.Math.Seq.{get_or-append_seam}
use Rattle.std.proofs.lemmas.List.{get_or_append_left}
use Rattle.std.proofs.lemmas.List.Concat.{flat_map-append}
use Rattle.std.proofs.lemmas.List.Elements.{filter-append}
use Rattle.std.proofs.lemmas.List.Sums.{sum_by-append, sum_by_push}
use Rattle.sector_report.specs.declared.dump_lines.Passed.{Passed}
use Rattle.track_shelf.specs.Files.{File}
use Rattle.track_shelf.specs.Told.{ShelfTold}
use Rattle.turn_merge.specs.Readings.{NotedReading}
use Rattle.flux_engine.specs.Captured.{AreReadingsOf}
use Rattle.flux_engine.specs.Counts.{lost_in}
use Rattle.flux_engine.specs.LoopProgress.{lost_count}
use Rattle.flux_engine.specs.Plans.{AreCaptures, Seen, is_failed, joined, passed_one, passed_to}
use Rattle.flux_engine.specs.Recordings.{track_at}
use Rattle.flux_engine.specs.declared.plan.Clocks.TheVariants.{Both}
use Rattle.flux_engine.specs.declared.plan.Rule.TheVariants.{Controller}
use Rattle.flux_engine.specs.declared.gathered_track.PassedStream.{PassedStream}
use Rattle.dump_reading.specs.Files.{ShelfNow}
use Rattle.dump_reading.specs.Outcomes.{DumpDisk}
use Rattle.dump_reading.specs.Reports.{dump_plan}
use Rattle.dump_reading.specs.lemmas.Coming.{came-next, none_came}
use Rattle.sector_copies.specs.Notes.{SectorKnown, SectorStandsFor, of_sector}
use Rattle.sector_copies.specs.TrackReadings.{HasReadTo, IsSameRoom, SectorRoomState, of_track, streams_of}
use Rattle.sector_copies.specs.inside.TrackReadings.{HasReadNext}

abbrev none_seen : Seen
none_seen = record { fault = None; passed = None; times = []; indexes = [] }

-- a list that is longer by one than a number has that many items and a last one
split_last : {X : Type 0} (q : ℕ) (xs : List X) → length xs ≡ suc q → (front : List X) × (last : X) × (xs ≡ front ++ last ∷ []) × (length front ≡ q)
split_last q [] size = absurd (omega (arith, size))
split_last zero (x ∷ []) size = ([], x, refl, refl)
split_last zero (x ∷ (y ∷ ys)) size = absurd (omega (arith, size))
split_last (suc q) (x ∷ xs) size =
    let rest = split_last q xs (omega (arith, size)) in
    (x ∷ rest.0, rest.1, ap (λ ys. x ∷ ys) rest.2, omega (arith, rest.3))

-- one stream more, with its number
lost-one : (q : ℕ) (passed : Option Passed) → lost_in (passed_one q passed) ≡ cond (is_failed passed) 1 0
lost-one q None = refl
lost-one q (Some why) = omega arith

module _ (q : ℕ) (came : List Seen) (many : length came ≡ q) (here : Seen) (n : ℕ) where
  abbrev more : List Seen
  more = came ++ here ∷ []

  more_before : (k : ℕ) → k < q → streams_of more n k ≡ streams_of came n k
  more_before k low = get_or_append_left came (here ∷ []) none_seen k (omega (arith, low, many))

  more_here : streams_of more n q ≡ here
  more_here = ap (streams_of more n) (sym many) ∙ get_or-append_seam came here [] none_seen

  passed_before : (k : ℕ) → k ≤ q → passed_to (streams_of more) n k ≡ passed_to (streams_of came) n k
  passed_before zero low = refl
  passed_before (suc k) low =
      ap (λ (ps : List PassedStream). ps ++ passed_one k (streams_of more n k).passed) (passed_before k (omega (arith, low)))
      ∙ ap (λ (s : Seen). passed_to (streams_of came) n k ++ passed_one k s.passed) (more_before k (omega (arith, low)))

  passed_more : passed_to (streams_of came) n q ++ passed_one q here.passed ≡ passed_to (streams_of more) n (q + 1)
  passed_more =
      ap (λ (ps : List PassedStream). ps ++ passed_one q here.passed) (sym (passed_before q (omega arith)))
      ∙ ap (λ (s : Seen). passed_to (streams_of more) n q ++ passed_one q s.passed) (sym more_here)
      ∙ ap (passed_to (streams_of more) n) (next_number q)
    where
      next_number : (k : ℕ) → suc k ≡ k + 1
      next_number k = omega arith

  lost_more : (passed : List PassedStream) → lost_in passed ≡ lost_count came → lost_in (passed ++ passed_one q here.passed) ≡ lost_count more
  lost_more passed same =
      sum_by-append (λ (p : PassedStream). cond (is_failed (Some p.why)) 1 0) passed (passed_one q here.passed)
      ∙ ap (λ (k : ℕ). lost_in passed + k) (lost-one q here.passed) ∙ ap (λ (k : ℕ). k + cond (is_failed here.passed) 1 0) same
      ∙ sym (sum_by_push (λ (s : Seen). cond (is_failed s.passed) 1 0) came here)

module _ (disk : DumpDisk) (n sector : ℕ) where
  pub read_none : (now : ShelfNow) (known : SectorKnown) (passed : List PassedStream) → SectorStandsFor known [] → passed ≡ [] → HasReadTo disk n sector 0 now now known passed
  read_none now known passed none no_passed = record {
    came = [];
    many = refl;
    are = none_came (of_track disk n) now;
    stands = λ captures size each. subst (λ (cs : List (List NotedReading)). SectorStandsFor known (of_sector sector (joined cs))) (sym (empty captures size)) none;
    passed_are = no_passed;
    lost_are = ap lost_in no_passed;
  }
    where
      empty : (captures : List (List NotedReading)) → length captures ≡ 0 → captures ≡ []
      empty [] size = refl
      empty (c ∷ cs) size = absurd (omega (arith, size))

  module _ (q : ℕ) (low : q < length disk.dumps) (start now next : ShelfNow) (old new : SectorRoomState) (r : HasReadTo disk n sector q start now old.known old.passed)
      (one : HasReadNext disk n q now next old new) (same : old.known.sector ≡ sector) where
    -- whatever lists have all readings of one stream more
    stands_more : (captures : List (List NotedReading)) → length captures ≡ q + 1
        → AreCaptures (dump_plan (length disk.dumps)) disk.format (streams_of (r.came ++ one.here ∷ [])) n captures → SectorStandsFor new.known (of_sector sector (joined captures))
    stands_more captures size each =
        let streams = streams_of (r.came ++ one.here ∷ []) in
        let split = split_last q captures (omega (arith, size)) in
        let front = split.0 in
        let last = split.1 in
        let each_too = subst (AreCaptures (dump_plan (length disk.dumps)) disk.format streams n) split.2 each in
        let whole = length-append front (last ∷ []) in
        let many = split.3 in
        let before : AreCaptures (dump_plan (length disk.dumps)) disk.format (streams_of r.came) n front =
        λ k few.
        let short : k < q = omega (arith, few, many) in
        subst (λ (s : Seen). AreReadingsOf Controller Both disk.format (track_at disk.format n) s.times s.indexes k (get_or front k []))
        (more_before q r.came r.many one.here n k short)
        (subst (AreReadingsOf Controller Both disk.format (track_at disk.format n) (streams n k).times (streams n k).indexes k)
        (get_or_append_left front (last ∷ []) [] k few) (each_too k (omega (arith, few, whole)))) in
        let at_last : AreReadingsOf Controller Both disk.format (track_at disk.format n) one.here.times one.here.indexes q last =
        subst (λ (s : Seen). AreReadingsOf Controller Both disk.format (track_at disk.format n) s.times s.indexes q last)
        (more_here q r.came r.many one.here n)
        (subst (AreReadingsOf Controller Both disk.format (track_at disk.format n) (streams n q).times (streams n q).indexes q)
        (ap (λ (k : ℕ). get_or (front ++ last ∷ []) k []) (sym many) ∙ get_or-append_seam front last [] []) (each_too q (omega (arith, many, whole)))) in
        let stands = one.noted last at_last (of_sector sector (joined front)) (r.stands front many before) in
        let both : of_sector sector (joined captures) ≡ of_sector sector (joined front) ++ of_sector sector last =
        ap (λ (cs : List (List NotedReading)). of_sector sector (joined cs)) split.2
        ∙ ap (of_sector sector) (flat_map-append (λ (rs : List NotedReading). rs) front (last ∷ []) ∙ ap (λ (rs : List NotedReading). joined front ++ rs) (append-nil last))
        ∙ filter-append (λ (x : NotedReading). nat_eq x.sector sector) (joined front) last in
        subst (SectorStandsFor new.known) (sym both)
        (subst (λ (s : ℕ). SectorStandsFor new.known (of_sector sector (joined front) ++ of_sector s last)) same stands)

    pub read_on : HasReadTo disk n sector (q + 1) start next new.known new.passed
    read_on =
        let many = r.many in
        let nothing : length r.came ≡ 0 * length disk.dumps + q = omega (arith, many) in
        let known : (files : List File) → start.told.files ≡ Some files → now.told.files ≡ Some files =
        λ files is. ap (λ (t : ShelfTold). t.files) r.are.told ∙ is in
        record {
          came = r.came ++ one.here ∷ [];
          many = length-append r.came (one.here ∷ []) ∙ ap (λ (k : ℕ). k + 1) r.many;
          are = came-next (of_track disk n) start now r.came 0 q low nothing r.are next one.here one.gave.told one.gave.counts (λ files is few. one.gave.is files (known files is) few);
          stands = stands_more;
          passed_are = one.passed_are ∙ ap (λ (ps : List PassedStream). ps ++ passed_one q one.here.passed) r.passed_are ∙ passed_more q r.came r.many one.here n;
          lost_are = ap lost_in one.passed_are ∙ lost_more q r.came r.many one.here n old.passed r.lost_are;
        }

-- the same, where the room stayed one for the same sector
pub reads_on : (disk : DumpDisk) (n sector q : ℕ) (start now next : ShelfNow) (old new : SectorRoomState) → q < length disk.dumps → old.number ≡ n → old.known.sector ≡ sector
    → HasReadTo disk n sector q start now old.known old.passed → HasReadNext disk old.number q now next old new → HasReadTo disk n sector (q + 1) start next new.known new.passed
reads_on disk n sector q start now next old new low number same r one =
    read_on disk n sector q low start now next old new r (subst (λ (m : ℕ). HasReadNext disk m q now next old new) number one) same

pub same_room_on : (old mid new : SectorRoomState) → IsSameRoom old mid → IsSameRoom mid new → IsSameRoom old new
same_room_on old mid new first second = record {
  format = second.format ∙ first.format;
  number = second.number ∙ first.number;
  sector = second.sector ∙ first.sector;
}

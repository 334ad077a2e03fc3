-- What all files come to are the numbers of reading the dump as the disk.
use Rattle.std.specs.Prelude.{All, ◌≡◌, ℕ, zero, suc, ◌+◌, ◌*◌, ◌<◌, Bool, true, false, not, nat_lt, cond, count_by, filter, get_or, List, [], ◌∷◌, ◌++◌, length, map, sum_by, Option, None, Result, refl}
use Rattle.std.specs.Option.{is_some}
use Rattle.std.proofs.Common.{ap, sym, subst, ◌∙◌, arith, append-nil}
use Rattle.std.proofs.Math.ListN.{get_or-map as get_or-map-all}
use Rattle.std.proofs.lemmas.Bool.{lt-ltb}
use Rattle.std.proofs.lemmas.List.{get_or-map, length-map}
use Rattle.std.proofs.lemmas.List.Elements.{All-filter, All-from_get_or, All-get_or}
use Rattle.std.proofs.lemmas.List.Sums.{sum_by-append, sum_by-cons}
use Rattle.std.proofs.lemmas.Option.{get_or_from_slice_get, slice_get-get_or}
use Rattle.flux_base.specs.declared.track.TrackId.{TrackId}
use Rattle.sector_images.specs.Formats.{row}
use Rattle.sector_images.specs.Places.{IsTrack, NumbersNameTracks, TracksKeepBounds, tracks}
use Rattle.sector_images.specs.declared.format.Format.{Format}
use Rattle.sector_report.specs.declared.dump_lines.Passed.{Passed}
use Rattle.sector_report.specs.declared.totals.Totals.{Totals}
use Rattle.scp_files.specs.declared.fault.ScpTrackFault.{ScpTrackFault}
use Rattle.track_shelf.specs.Files.{File, dump_track}
use Rattle.track_shelf.specs.Stepping.{file_track, reaches_all}
use Rattle.track_shelf.specs.declared.stepping.Stepping.{Stepping}
use Rattle.track_shelf.specs.declared.stepping.Stepping.TheVariants.{Double, Single}
use Rattle.turn_merge.specs.Others.{NotedOther, has_untold, others_over}
use Rattle.turn_merge.specs.Readings.{NotedReading, verdict}
use Rattle.flux_engine.specs.Captured.{AreNamesOf, AreOthersOf, AreReadingsOf}
use Rattle.flux_engine.specs.Counts.{names_of, told_count, whole_count, whole_names_of}
use Rattle.flux_engine.specs.Disks.{no_totals, part_at, totals_over}
use Rattle.flux_engine.specs.LoopProgress.{lost_count, passed_count, seen_at, streams_over}
use Rattle.flux_engine.specs.Names.{passed_beside}
use Rattle.flux_engine.specs.Plans.{AreNamesTo, AreOthersTo, IsPlannedPart, Seen, Streams, is_failed, passed_one}
use Rattle.flux_engine.specs.Recordings.{sectors_of, track_at}
use Rattle.flux_engine.specs.Tallies.{IsNameTallyOf, IsTallyOf}
use Rattle.flux_engine.specs.Tracks.{TrackPart, numbers, totals_of, track_notes}
use Rattle.flux_engine.specs.declared.plan.Clocks.TheVariants.{FollowingAlone}
use Rattle.flux_engine.specs.declared.plan.Plan.{Plan}
use Rattle.flux_engine.specs.declared.plan.Rule.TheVariants.{Controller}
use Rattle.flux_engine.specs.lemmas.TrackAt.{is_track_at}
use Rattle.dump_reading.specs.Beside.{beside_at, beside_lines, beside_tracks, captures_at, is_track, most_cylinders, named_tracks, near_track, told_beside}
use Rattle.dump_reading.specs.DumpStreams.{AreOfDumps, IsOrFailed, seen_of as told_of, track_in}
use Rattle.dump_reading.specs.Outcomes.{AreAllBy, LookedAsAsked, LookedBeside, lines_of, numbers_of, plan_of, report_of}
use Rattle.dump_reading.specs.Reports.{read_part}
use Rattle.dump_reading.specs.declared.totals.DumpTotals.{DumpTotals}
use Rattle.dump_reading.specs.lemmas.NamedTracks.{named-many, named-track}
use Rattle.dump_tallies.specs.Files.{AreOfFiles, file_of, of_files, track_of_file}
use Rattle.dump_tallies.specs.Numbers.{AreNumbersOf, disk_of, passed_of}
use Rattle.dump_tallies.specs.Tallies.{AreTallied, IsTallyAs, TalliedDisk, TallyBy}
use Rattle.dump_tallies.specs.inside.Sums.{others_in, own_numbers, passed_at, sectors_in, tally_of, whole_in, with_beside}
use Rattle.dump_tallies.proofs.Lying.{Lies, file-below, file-is, lies-own}
use Rattle.dump_tallies.proofs.SumSteps.{numbers-same, sum-map-by, sum-same, totals-same}

abbrev no_seen : Seen
no_seen = record { fault = None; passed = None; times = []; indexes = [] }

abbrev no_track : TrackId
no_track = record { cylinder = 0; head = 0 }

abbrev no_part : TrackPart
no_part = record { image = []; lines = []; totals = no_totals }

-- what passes a filter passes its test
passes-one : {X : Type 0} (p : X → Bool) (x : X) (fs : List X) (b : Bool) → p x ≡ b → ((k : ℕ) (d : X) → k < length fs → p (get_or fs k d) ≡ true) → (k : ℕ) (d : X)
    → k < length (cond b (x ∷ fs) fs) → p (get_or (cond b (x ∷ fs) fs) k d) ≡ true
passes-one p x fs true is rest zero d below = is
passes-one p x fs true is rest (suc k) d below = rest k d (omega (arith, below))
passes-one p x fs false is rest k d below = rest k d below

filter-passes : {X : Type 0} (p : X → Bool) (xs : List X) (i : ℕ) (d : X) → i < length (filter p xs) → p (get_or (filter p xs) i d) ≡ true
filter-passes p [] i d low = absurd (omega (arith, low))
filter-passes p (x ∷ xs) i d low = passes-one p x (filter p xs) (p x) refl (filter-passes p xs) i d low

module _ (dump : List ℕ) (came : List Seen) (all : length came ≡ 200) (disk : TalliedDisk) (are : AreTallied disk came) where
  abbrev stepping : Stepping
  stepping = disk.stepping

  abbrev format : Format
  format = disk.format

  abbrev plan : Plan
  plan = plan_of (disk_of dump stepping format)

  -- what came of the file of a track
  abbrev seen_of : TrackId → Seen
  seen_of track = seen_at came (file_of stepping track)

  in-file : (track : TrackId) → Lies stepping track → IsTallyAs format track (seen_of track) (tally_of disk track)
  in-file track lies =
      let low : file_of stepping track < length came = (let below = file-below stepping track lies in omega (arith, below, all)) in
      are.each (file_of stepping track) low track (sym (file-is stepping track lies))

  own-one : (track : TrackId) → Lies stepping track → is_track format track ≡ true → IsTallyOf format track (seen_of track) (tally_of disk track)
  own-one track lies is = subst (λ (b : Bool). TallyBy b format track (seen_of track) (tally_of disk track)) is (in-file track lies)

  beside-one : (track : TrackId) → Lies stepping track → is_track format track ≡ false → IsNameTallyOf format (near_track format track) (seen_of track) (tally_of disk track)
  beside-one track lies none = subst (λ (b : Bool). TallyBy b format track (seen_of track) (tally_of disk track)) none (in-file track lies)

  -- what becomes of a track of the format
  record IsPart (track : TrackId) (part : TrackPart) : Type 0 where
    pub tally : IsTallyOf format track (seen_of track) (tally_of disk track)
    pub is : part ≡ read_part format track (track_notes (tally.readings ++ []) (passed_one 0 (seen_of track).passed) tally.others)

  abbrev told_of_one : List NotedOther → ℕ
  told_of_one others = names_of (others_over others) (has_untold others)

  abbrev whole_of_one : List NotedOther → ℕ
  whole_of_one others = whole_names_of (others_over others) (has_untold others)

  -- of some of them
  record Owns (ts : List TrackId) : Type 0 where
    pub parts : List TrackPart
    pub others : List (List NotedOther)
    pub many : length parts ≡ length ts
    pub many_others : length others ≡ length ts
    pub each : (k : ℕ) → k < length ts → IsPart (get_or ts k no_track) (get_or parts k no_part)
    pub each_others : (k : ℕ) → k < length ts
        → AreOthersOf Controller FollowingAlone format (get_or ts k no_track) (seen_of (get_or ts k no_track)).times (seen_of (get_or ts k no_track)).indexes 0 (get_or others k [])
    pub totals : map (λ (p : TrackPart). p.totals) parts ≡ map (λ (t : TrackId). (tally_of disk t).sectors) ts
    pub told : told_count others ≡ others_in disk ts
    pub whole : whole_count others ≡ whole_in disk ts

  abbrev part_by : (t : TrackId) → IsTallyOf format t (seen_of t) (tally_of disk t) → TrackPart
  part_by t one = read_part format t (track_notes (one.readings ++ []) (passed_one 0 (seen_of t).passed) one.others)

  owns-more : (t : TrackId) (ts : List TrackId) → IsTallyOf format t (seen_of t) (tally_of disk t) → Owns ts → Owns (t ∷ ts)
  owns-more t ts one o = record {
    parts = part_by t one ∷ o.parts;
    others = one.others ∷ o.others;
    many = ap (λ (n : ℕ). suc n) o.many;
    many_others = ap (λ (n : ℕ). suc n) o.many_others;
    each = each;
    each_others = each_others;
    totals = ap (λ (x : Totals). x ∷ map (λ (p : TrackPart). p.totals) o.parts) same ∙ ap (λ (xs : List Totals). (tally_of disk t).sectors ∷ xs) o.totals;
    told = sum_by-cons told_of_one one.others o.others ∙ ap (λ (n : ℕ). n + told_count o.others) (sym one.counted.told)
        ∙ ap (λ (n : ℕ). (tally_of disk t).others + n) o.told ∙ sym (sum_by-cons (λ (u : TrackId). (tally_of disk u).others) t ts);
    whole = sum_by-cons whole_of_one one.others o.others ∙ ap (λ (n : ℕ). n + whole_count o.others) (sym one.counted.whole)
        ∙ ap (λ (n : ℕ). (tally_of disk t).whole + n) o.whole ∙ sym (sum_by-cons (λ (u : TrackId). (tally_of disk u).whole) t ts);
  }
    where
      same : (part_by t one).totals ≡ (tally_of disk t).sectors
      same = ap (λ (rs : List NotedReading). totals_of (map (verdict rs) (numbers (sectors_of format t)))) (append-nil one.readings) ∙ sym one.sectors

      each : (k : ℕ) → k < length (t ∷ ts) → IsPart (get_or (t ∷ ts) k no_track) (get_or (part_by t one ∷ o.parts) k no_part)
      each zero low = record { tally = one; is = refl }
      each (suc k) low = o.each k (omega (arith, low))

      each_others : (k : ℕ) → k < length (t ∷ ts)
          → AreOthersOf Controller FollowingAlone format (get_or (t ∷ ts) k no_track) (seen_of (get_or (t ∷ ts) k no_track)).times (seen_of (get_or (t ∷ ts) k no_track)).indexes 0
          (get_or (one.others ∷ o.others) k [])
      each_others zero low = one.others_are
      each_others (suc k) low = o.each_others k (omega (arith, low))

  owns-all : (ts : List TrackId) → ((k : ℕ) → k < length ts → IsTallyOf format (get_or ts k no_track) (seen_of (get_or ts k no_track)) (tally_of disk (get_or ts k no_track))) → Owns ts
  owns-all [] every = record {
    parts = [];
    others = [];
    many = refl;
    many_others = refl;
    each = λ k low. absurd (omega (arith, low));
    each_others = λ k low. absurd (omega (arith, low));
    totals = refl;
    told = refl;
    whole = refl;
  }
  owns-all (t ∷ ts) every = owns-more t ts (every 0 (omega arith)) (owns-all ts (λ k low. every (suc k) (omega (arith, low))))

  -- all headers in some tracks beside them
  record Besides (ts : List TrackId) : Type 0 where
    pub others : List (List NotedOther)
    pub many : length others ≡ length ts
    pub each : (k : ℕ) → k < length ts
        → AreNamesOf FollowingAlone format (near_track format (get_or ts k no_track)) (seen_of (get_or ts k no_track)).times (seen_of (get_or ts k no_track)).indexes 0 (get_or others k [])
    pub told : told_count others ≡ others_in disk ts
    pub whole : whole_count others ≡ whole_in disk ts

  besides-more : (t : TrackId) (ts : List TrackId) → IsNameTallyOf format (near_track format t) (seen_of t) (tally_of disk t) → Besides ts → Besides (t ∷ ts)
  besides-more t ts one o = record {
    others = one.others ∷ o.others;
    many = ap (λ (n : ℕ). suc n) o.many;
    each = each;
    told = sum_by-cons told_of_one one.others o.others ∙ ap (λ (n : ℕ). n + told_count o.others) (sym one.counted.told)
        ∙ ap (λ (n : ℕ). (tally_of disk t).others + n) o.told ∙ sym (sum_by-cons (λ (u : TrackId). (tally_of disk u).others) t ts);
    whole = sum_by-cons whole_of_one one.others o.others ∙ ap (λ (n : ℕ). n + whole_count o.others) (sym one.counted.whole)
        ∙ ap (λ (n : ℕ). (tally_of disk t).whole + n) o.whole ∙ sym (sum_by-cons (λ (u : TrackId). (tally_of disk u).whole) t ts);
  }
    where
      each : (k : ℕ) → k < length (t ∷ ts)
          → AreNamesOf FollowingAlone format (near_track format (get_or (t ∷ ts) k no_track)) (seen_of (get_or (t ∷ ts) k no_track)).times (seen_of (get_or (t ∷ ts) k no_track)).indexes 0
          (get_or (one.others ∷ o.others) k [])
      each zero low = one.others_are
      each (suc k) low = o.each k (omega (arith, low))

  besides-all : (ts : List TrackId)
      → ((k : ℕ) → k < length ts → IsNameTallyOf format (near_track format (get_or ts k no_track)) (seen_of (get_or ts k no_track)) (tally_of disk (get_or ts k no_track))) → Besides ts
  besides-all [] every = record { others = []; many = refl; each = λ k low. absurd (omega (arith, low)); told = refl; whole = refl }
  besides-all (t ∷ ts) every = besides-more t ts (every 0 (omega arith)) (besides-all ts (λ k low. every (suc k) (omega (arith, low))))

  -- the streams of some tracks
  abbrev streams_of : List TrackId → List Seen
  streams_of ts = map seen_of ts

  stream-at : (ts : List TrackId) (k : ℕ) → k < length ts → seen_at (streams_of ts) k ≡ seen_of (get_or ts k no_track)
  stream-at ts k low = get_or-map seen_of ts k no_track no_seen low

  -- each came of its file
  module _ (told : Option (List File)) (of : AreOfDumps (of_files dump) told came) (ts : List TrackId) (track_of : ℕ → TrackId)
      (named : (k : ℕ) → k < length ts → track_of k ≡ get_or ts k no_track) (lie : (k : ℕ) → k < length ts → Lies stepping (get_or ts k no_track)) where
    streams-of-files : AreOfFiles came stepping track_of (streams_of ts)
    streams-of-files k low =
        let below : k < length ts = (let size = length-map ts seen_of in omega (arith, low, size)) in
        stream-at ts k below ∙ ap (λ (t : TrackId). seen_of t) (sym (named k below))

    streams-of-dumps : AreOfDumps (record { stepping = stepping; dumps = dump ∷ []; count = 1; track_of = track_of }) told (streams_of ts)
    streams-of-dumps files known n q few within low =
        let none : q ≡ 0 = omega (arith, within) in
        let below : n < length ts = (let size = length-map ts seen_of in omega (arith, low, size)) in
        let track : TrackId = get_or ts n no_track in
        let i : ℕ = file_of stepping track in
        let at : n * 1 + q ≡ n = omega (arith, within) in
        let file : i * 1 + 0 ≡ i = omega arith in
        let there : i * 1 + 0 < length came = (let inside = file-below stepping track (lie n below) in omega (arith, inside, all, file)) in
        let here : seen_at (streams_of ts) (n * 1 + q) ≡ seen_at came (i * 1 + 0) =
        ap (seen_at (streams_of ts)) at ∙ stream-at ts n below ∙ ap (seen_at came) (sym file) in
        let lies : track_in stepping (dump ∷ []) files (track_of n) q ≡ dump_track files dump (track_of_file i) =
        ap (track_in stepping (dump ∷ []) files (track_of n)) none
        ∙ ap (λ (t : TrackId). dump_track files dump (file_track stepping t)) (named n below)
        ∙ ap (dump_track files dump) (sym (file-is stepping track (lie n below))) in
        subst (λ (s : Seen). IsOrFailed s (told_of (track_in stepping (dump ∷ []) files (track_of n) q))) (sym here)
        (subst (λ (o : Option (Result (List ℕ) ScpTrackFault)). IsOrFailed (seen_at came (i * 1 + 0)) (told_of o)) (sym lies)
        (of files known i 0 (omega arith) (omega arith) there))

  -- which are passed over
  module _ (ts : List TrackId) where
    abbrev passed : List (Option Passed)
    passed = passed_of came

    passed-same : (t : TrackId) → passed_at disk passed t ≡ (seen_of t).passed
    passed-same t = get_or-map-all (λ (s : Seen). s.passed) came (file_of stepping t) no_seen

    counts : (f : Option Passed → ℕ) → sum_by (λ (s : Seen). f s.passed) (streams_of ts) ≡ sum_by (λ (t : TrackId). f (passed_at disk passed t)) ts
    counts f = sum-map-by (λ (s : Seen). f s.passed) seen_of ts ∙ sum-same (λ (t : TrackId). f (seen_of t).passed) (λ (t : TrackId). f (passed_at disk passed t)) ts (λ t. ap f (sym (passed-same t)))

    unread-same : passed_count (streams_of ts) ≡ count_by (λ (t : TrackId). is_some (passed_at disk passed t)) ts
    unread-same = counts (λ (p : Option Passed). cond (is_some p) 1 0)

    lost-same : lost_count (streams_of ts) ≡ count_by (λ (t : TrackId). is_failed (passed_at disk passed t)) ts
    lost-same = counts (λ (p : Option Passed). cond (is_failed p) 1 0)

    told-same : told_beside (streams_of ts) ≡ sum_by (λ (t : TrackId). length (passed_beside 0 (passed_at disk passed t))) ts
    told-same = counts (λ (p : Option Passed). length (passed_beside 0 p))

  -- the sectors of tracks by their parts
  sum-totals : (f : Totals → ℕ) (parts : List TrackPart) (ts : List TrackId) → map (λ (p : TrackPart). p.totals) parts ≡ map (λ (t : TrackId). (tally_of disk t).sectors) ts
      → sum_by (λ (p : TrackPart). f p.totals) parts ≡ sum_by (λ (t : TrackId). f (tally_of disk t).sectors) ts
  sum-totals f parts ts same =
      sym (sum-map-by f (λ (p : TrackPart). p.totals) parts) ∙ ap (sum_by f) same ∙ sum-map-by f (λ (t : TrackId). (tally_of disk t).sectors) ts

  sectors-same : (ts : List TrackId) (o : Owns ts) → totals_over o.parts ≡ sectors_in disk ts
  sectors-same ts o =
      totals-same (totals_over o.parts) (sectors_in disk ts)
      (sum-totals (λ (t : Totals). t.sectors) o.parts ts o.totals)
      (sum-totals (λ (t : Totals). t.good) o.parts ts o.totals)
      (sum-totals (λ (t : Totals). t.bad) o.parts ts o.totals)
      (sum-totals (λ (t : Totals). t.missing) o.parts ts o.totals)
      (sum-totals (λ (t : Totals). t.contradictory) o.parts ts o.totals)

  -- what becomes of a track, as a part of the disk
  planned : (n : ℕ) (streams : Streams) (t : TrackId) (part : TrackPart) → track_at format n ≡ t → streams n 0 ≡ seen_of t → (seen_of t).fault ≡ None → IsPart t part
      → IsPlannedPart plan read_part format streams n part
  planned n streams t part track seen whole one = record {
    no_fault = no_fault;
    captures = one.tally.readings ∷ [];
    many = refl;
    each = each;
    others = one.tally.others;
    others_are = ([], one.tally.others, refl, others_are, refl);
    is = one.is ∙ ap (λ (p : Option Passed). read_part format t (track_notes (one.tally.readings ++ []) (passed_one 0 p) one.tally.others)) (ap (λ (s : Seen). s.passed) (sym seen))
        ∙ ap (λ (u : TrackId). read_part format u (track_notes (one.tally.readings ++ []) (passed_one 0 (streams n 0).passed) one.tally.others)) (sym track);
  }
    where
      no_fault : (q : ℕ) → q < 1 → (streams n q).fault ≡ None
      no_fault zero few = ap (λ (s : Seen). s.fault) seen ∙ whole
      no_fault (suc q) few = absurd (omega (arith, few))

      each : (q : ℕ) → q < 1 → AreReadingsOf Controller FollowingAlone format (track_at format n) (streams n q).times (streams n q).indexes q (get_or (one.tally.readings ∷ []) q [])
      each zero few =
          subst (λ (u : TrackId). AreReadingsOf Controller FollowingAlone format u (streams n 0).times (streams n 0).indexes 0 one.tally.readings) (sym track)
          (subst (λ (s : Seen). AreReadingsOf Controller FollowingAlone format t s.times s.indexes 0 one.tally.readings) (sym seen) one.tally.are)
      each (suc q) few = absurd (omega (arith, few))

      others_are : AreOthersOf Controller FollowingAlone format (track_at format n) (streams n 0).times (streams n 0).indexes 0 one.tally.others
      others_are =
          subst (λ (u : TrackId). AreOthersOf Controller FollowingAlone format u (streams n 0).times (streams n 0).indexes 0 one.tally.others) (sym track)
          (subst (λ (s : Seen). AreOthersOf Controller FollowingAlone format t s.times s.indexes 0 one.tally.others) (sym seen) one.tally.others_are)

  -- the others of a track of the format, and of one beside them
  others-to : (n : ℕ) (streams : Streams) (t : TrackId) (others : List NotedOther) → track_at format n ≡ t → streams n 0 ≡ seen_of t
      → AreOthersOf Controller FollowingAlone format t (seen_of t).times (seen_of t).indexes 0 others → AreOthersTo plan format streams n 1 others
  others-to n streams t others track seen these = (
    [],
    others,
    refl,
    subst (λ (u : TrackId). AreOthersOf Controller FollowingAlone format u (streams n 0).times (streams n 0).indexes 0 others) (sym track)
        (subst (λ (s : Seen). AreOthersOf Controller FollowingAlone format t s.times s.indexes 0 others) (sym seen) these),
    refl,
  )

  names-to : (near : TrackId) (captures : ℕ → Seen) (t : TrackId) (others : List NotedOther) → near ≡ near_track format t → captures 0 ≡ seen_of t
      → AreNamesOf FollowingAlone format (near_track format t) (seen_of t).times (seen_of t).indexes 0 others → AreNamesTo plan format near captures 1 others
  names-to near captures t others same seen these = (
    [],
    others,
    refl,
    subst (λ (u : TrackId). AreNamesOf FollowingAlone format u (captures 0).times (captures 0).indexes 0 others) (sym same)
        (subst (λ (s : Seen). AreNamesOf FollowingAlone format (near_track format t) s.times s.indexes 0 others) (sym seen) these),
    refl,
  )

  abbrev own_tracks : List TrackId
  own_tracks = tracks format

  abbrev others_tracks : List TrackId
  others_tracks = beside_tracks stepping format

  module _ (names : NumbersNameTracks) (bounds : TracksKeepBounds) (reached : reaches_all stepping format ≡ true) where
    named-own : (k : ℕ) → k < length own_tracks → track_at format k ≡ get_or own_tracks k no_track
    named-own k low = is_track_at format k (get_or own_tracks k no_track) (slice_get-get_or own_tracks k no_track low)

    known-own : (k : ℕ) → k < length own_tracks → IsTrack format (get_or own_tracks k no_track)
    known-own k low =
        let n = names format k low in
        subst (IsTrack format) (sym (get_or_from_slice_get own_tracks k n.0 no_track n.1)) n.2

    lies-at : (k : ℕ) → k < length own_tracks → Lies stepping (get_or own_tracks k no_track)
    lies-at k low = lies-own stepping format bounds reached k (get_or own_tracks k no_track) (slice_get-get_or own_tracks k no_track low) (known-own k low)

    is-own : (t : TrackId) → IsTrack format t → is_track format t ≡ true
    is-own t known = rw (lt-ltb t.cylinder (row format).cylinders known.0, lt-ltb t.head (row format).heads known.1) refl

    own : Owns own_tracks
    own = owns-all own_tracks (λ k low. own-one (get_or own_tracks k no_track) (lies-at k low) (is-own (get_or own_tracks k no_track) (known-own k low)))

  -- a track beside them
  abbrev IsNamed : TrackId → Type 0
  IsNamed t = (t.cylinder < most_cylinders stepping) × (t.head < 2)

  all-named : All IsNamed (named_tracks stepping)
  all-named = All-from_get_or IsNamed (named_tracks stepping) no_track (λ i low.
      let below : i < 2 * most_cylinders stepping = (let many = named-many stepping in omega (arith, low, many)) in
      subst IsNamed (sym (named-track stepping i below)) (omega (arith, below), omega arith))

  named-beside : (k : ℕ) → k < length others_tracks → IsNamed (get_or others_tracks k no_track)
  unfolding beside_tracks
  named-beside k low =
      All-get_or IsNamed (filter (λ (t : TrackId). not (is_track format t)) (named_tracks stepping)) k no_track low
      (All-filter (λ (t : TrackId). not (is_track format t)) IsNamed (named_tracks stepping) all-named)

  none-own : (k : ℕ) → k < length others_tracks → is_track format (get_or others_tracks k no_track) ≡ false
  unfolding beside_tracks
  none-own k low = is-not (is_track format (get_or others_tracks k no_track)) (filter-passes (λ (t : TrackId). not (is_track format t)) (named_tracks stepping) k no_track low)
    where
      is-not : (b : Bool) → not b ≡ true → b ≡ false
      is-not true same = sym same
      is-not false same = refl

  lies-named : (t : TrackId) → IsNamed t → Lies stepping t
  lies-named t named = record { cylinder = by stepping named.0; head = named.1 }
    where
      by : (s : Stepping) → t.cylinder < most_cylinders s → (file_track s t).cylinder < 100
      by Single low = low
      by Double low = omega (arith, low)

  lies-beside : (k : ℕ) → k < length others_tracks → Lies stepping (get_or others_tracks k no_track)
  lies-beside k low = lies-named (get_or others_tracks k no_track) (named-beside k low)

  besides : Besides others_tracks
  besides = besides-all others_tracks (λ k low. beside-one (get_or others_tracks k no_track) (lies-beside k low) (none-own k low))

  plus : (a b c d : ℕ) → a ≡ b → c ≡ d → a + c ≡ b + d
  plus a b c d first second = omega (arith, first, second)

  -- all together
  module _ (told : Option (List File)) (of : AreOfDumps (of_files dump) told came) (names : NumbersNameTracks) (bounds : TracksKeepBounds) (reached : reaches_all stepping format ≡ true) where
    abbrev o : Owns own_tracks
    o = own names bounds reached

    abbrev streams : List Seen
    streams = streams_of own_tracks

    seen-at : (k : ℕ) → k < length own_tracks → streams_over plan streams k 0 ≡ seen_of (get_or own_tracks k no_track)
    seen-at k low = (let at : k * 1 + 0 ≡ k = omega arith in ap (seen_at streams) at ∙ stream-at own_tracks k low)

    whole-at : (k : ℕ) → k < length own_tracks → (seen_of (get_or own_tracks k no_track)).fault ≡ None
    whole-at k low =
        are.whole (file_of stepping (get_or own_tracks k no_track))
        (let below = file-below stepping (get_or own_tracks k no_track) (lies-at names bounds reached k low) in omega (arith, below, all))

    read : AreAllBy read_part (disk_of dump stepping format) told streams o.parts o.others
    read = record {
      many = o.many;
      read = record {
        all = (let size = length-map own_tracks seen_of in let many = o.many in omega (arith, size, many));
        are = streams-of-dumps told of own_tracks (track_at format) (named-own names bounds reached) (lies-at names bounds reached);
        each = λ n low.
            let below : n < length own_tracks = (let many = o.many in omega (arith, low, many)) in
            planned n (streams_over plan streams) (get_or own_tracks n no_track) (part_at o.parts n) (named-own names bounds reached n below) (seen-at n below) (whole-at n below) (o.each n below);
      };
      many_others = o.many_others;
      others_are = λ n low.
          let below : n < length own_tracks = (let many = o.many_others in omega (arith, low, many)) in
          others-to n (streams_over plan streams) (get_or own_tracks n no_track) (get_or o.others n []) (named-own names bounds reached n below) (seen-at n below) (o.each_others n below);
    }

    abbrev Looked : Type 0
    Looked = LookedBeside (disk_of dump stepping format) told

    all-beside : Looked
    all-beside = record {
      came = streams_of others_tracks;
      others = besides.others;
      are = record {
        all = (let size = length-map others_tracks seen_of in let many = besides.many in omega (arith, size, many));
        few = (let many = besides.many in omega (arith, many));
        are = streams-of-dumps told of others_tracks (beside_at stepping format) (λ k low. refl) lies-beside;
        each = λ n low.
            let below : n < length others_tracks = (let many = besides.many in omega (arith, low, many)) in
            let at : n * 1 + 0 ≡ n = omega arith in
            names-to (near_track format (beside_at stepping format n)) (captures_at 1 (streams_of others_tracks) n) (get_or others_tracks n no_track) (get_or besides.others n []) refl
            (ap (seen_at (streams_of others_tracks)) at ∙ stream-at others_tracks n below) (besides.each n below);
      };
    }

    no-beside : Looked
    no-beside = record {
      came = [];
      others = [];
      are = record {
        all = refl;
        few = omega arith;
        are = λ files known n q few within low. absurd (omega (arith, low));
        each = λ n low. absurd (omega (arith, low));
      };
    }

    finish : (beside : Looked) → LookedAsAsked (totals_over o.parts) beside → AreOfFiles came stepping (beside_at stepping format) beside.came → (totals : DumpTotals)
        → totals ≡ numbers_of streams o.parts o.others beside.came beside.others → AreNumbersOf dump told came stepping format totals
    finish beside looked files totals same = record {
      outcome = report_of o.parts (lines_of beside_lines beside) (numbers_of streams o.parts o.others beside.came beside.others);
      is = record { streams = streams; parts = o.parts; others = o.others; all = read; beside = beside; looked = looked; is = refl };
      own = streams-of-files told of own_tracks (track_at format) (named-own names bounds reached) (lies-at names bounds reached);
      beside = files;
      totals_are = same;
    }

    abbrev passed_all : List (Option Passed)
    passed_all = passed_of came

    abbrev own_all : DumpTotals
    own_all = own_numbers disk passed_all own_tracks

    sectors-own : totals_over o.parts ≡ own_all.sectors
    sectors-own = sectors-same own_tracks o

    pub numbers-beside : nat_lt 0 own_all.sectors.good ≡ true → AreNumbersOf dump told came stepping format (with_beside disk passed_all others_tracks own_all)
    unfolding all-beside besides
    numbers-beside good =
        finish all-beside
        (besides.many ∙ ap (λ (b : Bool). cond b (length others_tracks) 0) (sym (ap (λ (t : Totals). nat_lt 0 t.good) sectors-own ∙ good)))
        (streams-of-files told of others_tracks (beside_at stepping format) (λ k low. refl) lies-beside)
        (with_beside disk passed_all others_tracks own_all)
        (numbers-same (with_beside disk passed_all others_tracks own_all) (numbers_of streams o.parts o.others (streams_of others_tracks) besides.others) (sym sectors-own)
        (plus _ _ _ _ (sym (unread-same own_tracks)) (sym (told-same others_tracks)))
        (plus _ _ _ _ (sym (lost-same own_tracks)) (sym (lost-same others_tracks)))
        (plus _ _ _ _ (sym o.told) (sym besides.told) ∙ sym (sum_by-append told_of_one o.others besides.others))
        (plus _ _ _ _ (sym o.whole) (sym besides.whole) ∙ sym (sum_by-append whole_of_one o.others besides.others)))

    add-none : (n : ℕ) → n ≡ n + 0
    add-none n = omega arith

    pub numbers-own : nat_lt 0 own_all.sectors.good ≡ false → AreNumbersOf dump told came stepping format own_all
    unfolding no-beside
    numbers-own none =
        finish no-beside
        (ap (λ (b : Bool). cond b (length others_tracks) 0) (sym (ap (λ (t : Totals). nat_lt 0 t.good) sectors-own ∙ none)))
        (λ k low. absurd (omega (arith, low)))
        own_all
        (numbers-same own_all (numbers_of streams o.parts o.others [] []) (sym sectors-own)
        (sym (unread-same own_tracks) ∙ add-none (passed_count streams))
        (sym (lost-same own_tracks) ∙ add-none (lost_count streams))
        (sym o.told ∙ ap told_count (sym (append-nil o.others)))
        (sym o.whole ∙ ap whole_count (sym (append-nil o.others))))

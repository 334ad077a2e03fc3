-- The disk of a dump that captures it is among those that the dump's files tell.
use Rattle.std.proofs.Common.{◌≡◌, ◌<◌, ◌≤◌, ◌⊎◌, ◌+◌, ◌-◌, ◌*◌, ◌/◌, ◌%◌, ◌∙◌, ℕ, zero, suc, Bool, true, false, List, [], ◌∷◌, ◌++◌, None, length, ap, refl, subst, sym, inl, inr, arith, Some}
use Rattle.std.specs.Prelude.{cond, count_by}
use Rattle.std.proofs.lemmas.Bool.{cases_lt}
use Rattle.std.proofs.lemmas.List.Sums.{sum_by-cons}
use Rattle.dump_numbers.specs.Sets.{HasNamed, IsSetOf, double_file, track_number}
use Rattle.dump_reading.specs.DumpStreams.{IsOrFailed, seen_file, seen_of, seen_unless}
use Rattle.flux_base.specs.declared.track.TrackId.{TrackId}
use Rattle.flux_engine.specs.LoopProgress.{lost_count, seen_at}
use Rattle.flux_engine.specs.Plans.{Seen, is_failed}
use Rattle.flux_engine.specs.Recordings.{track_at}
use Rattle.flux_engine.specs.Rings.{IsImage}
use Rattle.ibm_disks.specs.Disks.{IsDiskOf, cylinders_of, heads_of, rate_of, track_of_disk}
use Rattle.ibm_disks.specs.Numbers.{size_of}
use Rattle.ibm_disks.specs.declared.rate.Rate.{Rate}
use Rattle.ibm_disks.specs.declared.track_numbers.TrackNumbers.{TrackNumbers}
use Rattle.ibm_disks.specs.declared.word.DiskNumbers.{DiskNumbers}
use Rattle.ibm_disks.specs.declared.disk.IbmDisk.{IbmDisk}
use Rattle.ibm_disks.specs.lemmas.DiskLaws.{all_have_disks, is-sound}
use Rattle.kryo_stream.specs.Growth.{StreamsStay}
use Rattle.kryo_stream.specs.Stream.{first_fault, indexes_of, times_of}
use Rattle.kryo_stream.specs.declared.block.SpelledBlock.{SpelledBlock}
use Rattle.law_read_dumps.specs.Said.{says_in}
use Rattle.sector_images.specs.Places.{IsTrack, tracks}
use Rattle.sector_images.specs.declared.format.Format.TheVariants.{Numbered}
use Rattle.told_disks.specs.Disks.{IsToldDisk, numbers_of}
use Rattle.told_disks.specs.Named.{is_covered}
use Rattle.told_disks.specs.Names.{HasCounted, has, set_at}
use Rattle.told_disks.specs.Told.{IsLookedAt, Reaches, sets_by}
use Rattle.told_disks.specs.declared.disks.NumberedDisk.{NumberedDisk}
use Rattle.told_disks.specs.declared.heads.NamedHeads.TheVariants.{Own}
use Rattle.track_rings.specs.Rings.{IsSectorNumber}
use Rattle.track_shelf.specs.Files.{File, dump_track}
use Rattle.track_shelf.specs.Stepping.{file_track}
use Rattle.track_shelf.specs.declared.stepping.Stepping.{Stepping}
use Rattle.track_shelf.specs.declared.stepping.Stepping.TheVariants.{Single, Double}
use Rattle.law_numbered_dumps.specs.Headline.{ErasedFilesHaveNoOtherSector, IsFoundInPart, IsFoundOrCovered, with_extent}
use Rattle.law_numbered_dumps.specs.Inputs.{AreToldBy, CapturesSome, CapturesTrack, HasNoOtherSector, IsQuarter, IsSteppedTo, all_tracks, on_dump}
use Rattle.law_numbered_dumps.proofs.Listed.{is_listed}
use Rattle.law_numbered_dumps.specs.lemmas.Recorded.{some_sectors}
use Rattle.law_numbered_dumps.proofs.RateOf.{of_rate}
use Rattle.law_numbered_dumps.proofs.Streams.{Laws, only_own, owns, owns_only, seen_in}
use Rattle.law_numbered_dumps.proofs.Told.{AreSetsOfPart, Decided, IsWithin, counted_within, far_row, far_side, is_there, tells, whole_counted}
use Rattle.law_numbered_dumps.proofs.Tracks.{has_number, numbers_are}

-- a stream without a fault is seen, whatever follows it in the file
begin_seen : StreamsStay → (stream later bytes : List ℕ) → bytes ≡ stream ++ later → first_fault stream ≡ None → seen_file bytes ≡ seen_in stream
begin_seen stay stream later bytes begins sound =
    let same = stay stream later sound in
    ap seen_file begins
    ∙ ap (seen_unless (stream ++ later)) same.no_fault
    ∙ ap (λ (blocks : List SpelledBlock). record { fault = None; passed = None; times = times_of blocks; indexes = indexes_of blocks }) same.blocks

-- what a file that captures a track in part says has no other sector
pub erased_only : Laws → ErasedFilesHaveNoOtherSector
erased_only laws dump files disk image n is known c =
    subst (HasNoOtherSector disk.disk (track_at (Numbered disk.disk) n))
    (sym (ap seen_of c.begins.there ∙ begin_seen laws.stay c.stream c.begins.later c.begins.bytes c.begins.is c.capture.no_fault))
    (only_own laws disk.disk n c.stream (laws.no_others.erased (Numbered disk.disk) image c.stream n is known c.capture))

-- none of some streams failed
pub none_of : (came : List Seen) → lost_count came ≡ 0 → (i : ℕ) → i < length came → is_failed (seen_at came i).passed ≡ false
none_of [] none i low = absurd (omega (arith, low))
none_of (s ∷ came) none i low = by (is_failed s.passed) refl (none_of came) i low
  where
    all : lost_count (s ∷ came) ≡ cond {A = ℕ} (is_failed s.passed) 1 0 + lost_count came
    all = sum_by-cons (λ (t : Seen). cond {A = ℕ} (is_failed t.passed) 1 0) s came

    by : (b : Bool) → is_failed s.passed ≡ b → (lost_count came ≡ 0 → (i : ℕ) → i < length came → is_failed (seen_at came i).passed ≡ false)
        → (i : ℕ) → i < length (s ∷ came) → is_failed (seen_at (s ∷ came) i).passed ≡ false
    by true here rest i low = absurd (let more = all ∙ ap (λ (b : Bool). cond {A = ℕ} b 1 0 + lost_count came) here in omega (arith, more, none))
    by false here rest zero low = here
    by false here rest (suc i) low =
        let more = all ∙ ap (λ (b : Bool). cond {A = ℕ} b 1 0 + lost_count came) here in rest (omega (arith, more, none)) i (omega (arith, low))

-- so that each came as its file says it
as_said : (came says : Seen) → is_failed came.passed ≡ false → IsOrFailed came says → came ≡ says
as_said came says whole (inl same) = same
as_said came says whole (inr failed) = absurd (no (sym whole ∙ ap (λ (s : Seen). is_failed s.passed) failed))
  where
    no : false ≡ true → ⊥
    no e = cc

-- the number of the file of a track by these steps
abbrev file_number : Stepping → ℕ → ℕ
file_number Single k = k
file_number Double k = double_file k

module _ (dump : List ℕ) (files : List File) (disks : List NumberedDisk) (told : AreToldBy dump files disks) where
  -- what the dump says of a track
  abbrev says : TrackId → Seen
  says track = seen_of (dump_track files dump track)

  came_is : (k : ℕ) → k < 198 → seen_at told.came k ≡ says (track_number k)
  came_is k low =
      let all = told.all in
      let at : k * 1 + 0 ≡ k = omega arith in
      as_said (seen_at told.came k) (says (track_number k)) (none_of told.came told.none_failed k (omega (arith, low, all)))
      (subst (λ (i : ℕ). IsOrFailed (seen_at told.came i) (says (track_number k))) at (told.of_files files refl k 0 (omega arith) (omega arith) (omega (arith, low, all))))

  module _ (rate : Rate) where
    abbrev one : List (List Bool)
    one = told.told.one rate

    abbrev two : List (List Bool)
    two = told.told.two rate

    -- the set of a track is that of what its file says
    set_is : (stepping : Stepping) (k : ℕ) → k < length (sets_by stepping one two) → IsSetOf Own rate (says (file_track stepping (track_number k))) (track_number k) (set_at (sets_by stepping one two) k)
    set_is Single k low =
        let many = (told.told.sets rate).all_one in
        let few : k < 198 = omega (arith, low, many) in
        subst (λ (s : Seen). IsSetOf Own rate s (track_number k) (set_at one k)) (came_is k few) ((told.told.sets rate).one_step k few)
    set_is Double k low =
        let many = (told.told.sets rate).all_two in
        let few : k < 84 = omega (arith, low, many) in
        let row : double_file k / 2 ≡ 2 * (k / 2) = omega arith in
        let side : double_file k % 2 ≡ k % 2 = omega arith in
        let track : track_number (double_file k) ≡ record { cylinder = 2 * (k / 2); head = k % 2 } =
        ap (λ (c : ℕ). let t : TrackId = record { cylinder = c; head = double_file k % 2 } in t) row
        ∙ ap (λ (h : ℕ). let t : TrackId = record { cylinder = 2 * (k / 2); head = h } in t) side in
        subst (λ (s : Seen). IsSetOf Own rate s (track_number k) (set_at two k)) (came_is (double_file k) (omega (arith, few)) ∙ ap says track)
        ((told.told.sets rate).two_steps k few)

  module _ (laws : Laws) (disk : NumberedDisk) (image : List ℕ) (is : IsImage (Numbered disk.disk) image) (whole : TrackId → Bool) (stepped : IsSteppedTo disk.stepping disk.disk whole)
      (captures : CapturesSome dump files disk image whole) (quarter : IsQuarter disk.disk whole) where
    abbrev its_rate : Rate
    its_rate = rate_of disk.disk

    abbrev sectors : TrackNumbers
    sectors = track_of_disk disk.disk

    abbrev cylinders : ℕ
    cylinders = cylinders_of disk.disk

    abbrev heads : ℕ
    heads = heads_of disk.disk

    abbrev says_of : TrackId → Seen
    says_of track = says_in (on_dump dump disk) files track 0

    -- the file of a whole track has the track's names, and no other
    module _ (n : ℕ) (known : n < length (tracks (Numbered disk.disk))) (c : CapturesTrack dump files disk image n) where
      stream_says : says_of (track_at (Numbered disk.disk) n) ≡ seen_in c.captures.stream
      stream_says =
          ap seen_of c.captures.begins.there
          ∙ begin_seen laws.stay c.captures.stream c.captures.begins.later c.captures.begins.bytes c.captures.begins.is c.captures.capture.no_fault

      owns_on : (number : ℕ) → IsSectorNumber sectors.first_sector sectors.sectors number
          → HasNamed Own its_rate (says_of (track_at (Numbered disk.disk) n)) (track_at (Numbered disk.disk) n) sectors.size number
      owns_on number one =
          subst (λ (s : Seen). HasNamed Own its_rate s (track_at (Numbered disk.disk) n) sectors.size number) (sym stream_says)
          (owns laws disk.disk n c.captures.stream image is known c.captures.capture (of_rate laws disk.disk image is n known c.captures.stream c.captures.capture c.steady) number one)

      owns_only_on : HasNoOtherSector disk.disk (track_at (Numbered disk.disk) n) (says_of (track_at (Numbered disk.disk) n))
      owns_only_on =
          subst (HasNoOtherSector disk.disk (track_at (Numbered disk.disk) n)) (sym stream_says) (owns_only laws disk.disk n c.captures.stream image is known c.captures.capture)

    module _ (track : TrackId) (known : IsTrack (Numbered disk.disk) track) where
      at : (n : ℕ) × (n < length (tracks (Numbered disk.disk))) × (track_at (Numbered disk.disk) n ≡ track)
      at = has_number disk.disk track known

      captured : whole track ≡ true → CapturesTrack dump files disk image at.0
      captured here = captures.captures at.0 at.1 (ap whole at.2 ∙ here)

      owns_at : whole track ≡ true → (number : ℕ) → IsSectorNumber sectors.first_sector sectors.sectors number → HasNamed Own its_rate (says_of track) track sectors.size number
      owns_at here number one =
          subst (λ (t : TrackId). HasNamed Own its_rate (says_of t) t sectors.size number) at.2 (owns_on at.0 at.1 (captured here) number one)

      owns_only_at : HasNoOtherSector disk.disk track (says_of track)
      owns_only_at = by (whole track) refl
        where
          by : (b : Bool) → whole track ≡ b → HasNoOtherSector disk.disk track (says_of track)
          by true here = subst (λ (t : TrackId). HasNoOtherSector disk.disk t (says_of t)) at.2 (owns_only_on at.0 at.1 (captured here))
          by false here = captures.damaged track known here

    within : (track : TrackId) → Decided (IsTrack (Numbered disk.disk) track)
    within track = by (cases_lt track.cylinder cylinders) (cases_lt track.head heads)
      where
        by : (track.cylinder < cylinders) ⊎ (cylinders ≤ track.cylinder) → (track.head < heads) ⊎ (heads ≤ track.head) → Decided (IsTrack (Numbered disk.disk) track)
        by (inl row) (inl side) = inl (row, side)
        by (inr past) _ = inr (λ both. let row = both.0 in omega (arith, past, row))
        by (inl row) (inr past) = inr (λ both. let side = both.1 in omega (arith, past, side))

    -- a file has sectors of its own track alone
    own_alone : (track own : TrackId) (number : ℕ) → HasNamed Own its_rate (says_of track) own sectors.size number
        → IsTrack (Numbered disk.disk) track × (own ≡ track) × IsSectorNumber sectors.first_sector sectors.sectors number
    own_alone track own number has = by (within track)
      where
        by : Decided (IsTrack (Numbered disk.disk) track) → IsTrack (Numbered disk.disk) track × (own ≡ track) × IsSectorNumber sectors.first_sector sectors.sectors number
        by (inl known) = let only = owns_only_at track known own number has in (known, only.0, only.1)
        by (inr other) = absurd (captures.alone track other own number has)

    abbrev sets : List (List Bool)
    sets = sets_by disk.stepping (one its_rate) (two its_rate)

    few_by : (stepping : Stepping) → IsSteppedTo stepping disk.disk whole → 2 * cylinders ≤ length (sets_by stepping (one its_rate) (two its_rate))
    few_by Single steps = let few = (all_have_disks disk.disk).few_cylinders in let many = (told.told.sets its_rate).all_one in omega (arith, few, many)
    few_by Double steps = let few = steps.0 in let many = (told.told.sets its_rate).all_two in omega (arith, few, many)

    long : 2 * cylinders ≤ length sets
    long = few_by disk.stepping stepped

    has_whole : (k : ℕ) → IsWithin cylinders heads k → whole (track_number k) ≡ true → (number : ℕ) → IsSectorNumber sectors.first_sector sectors.sectors number
        → has (set_at sets k) sectors.size number ≡ true
    has_whole k both here number one =
        let row = both.0 in
        ((set_is its_rate disk.stepping k (omega (arith, row, long))).has_named sectors.size number).1 (owns_at (track_number k) both here number one)

    has_tracks : 0 < length (tracks (Numbered disk.disk))
    has_tracks =
        let rows = (all_have_disks disk.disk).some_cylinders in
        let sides = (all_have_disks disk.disk).some_heads in
        let first = has_number disk.disk (record { cylinder = 0; head = 0 }) (omega (arith, rows), omega (arith, sides)) in
        let low = first.1 in
        omega (arith, low)

    are_sets : AreSetsOfPart sets sectors.size cylinders heads sectors.first_sector sectors.sectors whole
    are_sets = record {
      some_heads = (all_have_disks disk.disk).some_heads;
      few_heads = (all_have_disks disk.disk).few_heads;
      some_sectors = some_sectors disk.disk;
      some_tracks = has_tracks;
      long = long;
      only = λ k low number here. only k number (own_alone (track_number k) (track_number k) number (((set_is its_rate disk.stepping k low).has_named sectors.size number).0 here));
      whole_has = has_whole;
      quarter = quarter;
    }
      where
        only : (k number : ℕ) → IsTrack (Numbered disk.disk) (track_number k) × (track_number k ≡ track_number k) × IsSectorNumber sectors.first_sector sectors.sectors number
            → IsWithin cylinders heads k × IsSectorNumber sectors.first_sector sectors.sectors number
        only k number parts = (parts.0, parts.2)

    abbrev row : (k : ℕ) × HasCounted sets sectors.size k × ((u : ℕ) → HasCounted sets sectors.size u → u / 2 ≤ k / 2)
    row = far_row sets sectors.size cylinders heads sectors.first_sector sectors.sectors whole are_sets

    abbrev side : (k : ℕ) × HasCounted sets sectors.size k × ((u : ℕ) → HasCounted sets sectors.size u → u % 2 ≤ k % 2)
    side = far_side sets sectors.size cylinders heads sectors.first_sector sectors.sectors whole are_sets

    abbrev rows : ℕ
    rows = row.0 / 2 + 1

    abbrev sides : ℕ
    sides = side.0 % 2 + 1

    fewer_rows : rows ≤ cylinders
    fewer_rows = let low = (counted_within sets sectors.size cylinders heads sectors.first_sector sectors.sectors whole are_sets row.0 row.1).0 in omega (arith, low)

    fewer_sides : sides ≤ heads
    fewer_sides = let low = (counted_within sets sectors.size cylinders heads sectors.first_sector sectors.sectors whole are_sets side.0 side.1).1 in omega (arith, low)

    -- a whole track is reached
    counted_at : (track : TrackId) → IsTrack (Numbered disk.disk) track → whole track ≡ true → HasCounted sets sectors.size (2 * track.cylinder + track.head)
    counted_at track known here =
        let few = (all_have_disks disk.disk).few_heads in
        let low_row = known.0 in
        let low_side = known.1 in
        let cylinder : (2 * track.cylinder + track.head) / 2 ≡ track.cylinder = omega (arith, few, low_side) in
        let head : (2 * track.cylinder + track.head) % 2 ≡ track.head = omega (arith, few, low_side) in
        whole_counted sets sectors.size cylinders heads sectors.first_sector sectors.sectors whole are_sets (2 * track.cylinder + track.head) (omega (arith, cylinder, low_row), omega (arith, head, low_side))
        (ap (λ (c : ℕ). whole (record { cylinder = c; head = (2 * track.cylinder + track.head) % 2 })) cylinder
        ∙ ap (λ (h : ℕ). whole (record { cylinder = track.cylinder; head = h })) head ∙ here)

    reach : (track : TrackId) → IsTrack (Numbered disk.disk) track → whole track ≡ true → (track.cylinder < rows) × (track.head < sides)
    reach track known here =
        let few = (all_have_disks disk.disk).few_heads in
        let low_side = known.1 in
        let most_row = row.2 (2 * track.cylinder + track.head) (counted_at track known here) in
        let most_side = side.2 (2 * track.cylinder + track.head) (counted_at track known here) in
        (omega (arith, most_row, few, low_side), omega (arith, most_side, few, low_side))

    -- its steps are looked at
    reached : 2 ≤ rows → Reaches sets sectors.size
    reached far = (row.0, omega (arith, far), (row.1.0, row.1.2))

    none_by_two : disk.stepping ≡ Single → Reaches (two its_rate) sectors.size → ⊥
    none_by_two single (k, above, (number, here)) =
        let many = (told.told.sets its_rate).all_two in
        let there = is_there (two its_rate) sectors.size k number here in
        let low : k < 84 = omega (arith, there, many) in
        let own : HasNamed Own its_rate (seen_at told.came (double_file k)) (track_number k) sectors.size number = (((told.told.sets its_rate).two_steps k low).has_named sectors.size number).0 here in
        let said : seen_at told.came (double_file k) ≡ says_of (track_number (double_file k)) =
        came_is (double_file k) (omega (arith, low)) ∙ ap (λ (s : Stepping). says (file_track s (track_number (double_file k)))) (sym single) in
        let alone = own_alone (track_number (double_file k)) (track_number k) number (subst (λ (s : Seen). HasNamed Own its_rate s (track_number k) sectors.size number) said own) in
        let same : k / 2 ≡ double_file k / 2 = ap (λ (t : TrackId). t.cylinder) alone.1 in
        omega (arith, same, above)

    looked_at : IsLookedAt disk.stepping (one its_rate) (two its_rate) sectors.size
    looked_at = by disk.stepping stepped reached none_by_two
      where
        by : (stepping : Stepping) → IsSteppedTo stepping disk.disk whole → (2 ≤ rows → Reaches (sets_by stepping (one its_rate) (two its_rate)) sectors.size)
            → (stepping ≡ Single → Reaches (two its_rate) sectors.size → ⊥) → IsLookedAt stepping (one its_rate) (two its_rate) sectors.size
        by Double steps far near =
            let beyond = steps.1 in
            let reaches = (reach beyond.0 beyond.1 beyond.3).0 in
            let behind = beyond.2 in
            far (omega (arith, reaches, behind))
        by Single steps far near = inr (near refl)

    module _ (numbers : DiskNumbers) (made : IsDiskOf numbers disk.disk) where
      abbrev fewer : DiskNumbers
      fewer = record numbers { cylinders = rows; heads = sides }

      abbrev part : NumberedDisk
      part = with_extent disk rows sides

      last_is : sectors.first_sector + sectors.sectors - 1 + 1 - sectors.first_sector ≡ sectors.sectors
      last_is = let some = some_sectors disk.disk in omega (arith, some)

      told_numbers : numbers_of its_rate sectors.size (record { first = sectors.first_sector; last = sectors.first_sector + sectors.sectors - 1; cylinders = rows; heads = sides }) ≡ fewer
      told_numbers =
          ap (λ (count : ℕ). let n : DiskNumbers = record {
            rate = its_rate;
            cylinders = rows;
            heads = sides;
            sectors = count;
            sector_bytes = size_of sectors.size;
            first_sector = sectors.first_sector;
          } in n) last_is
          ∙ ap (λ (n : DiskNumbers). record n { cylinders = rows; heads = sides }) (numbers_are numbers disk.disk made)

      -- the part is the disk of its numbers
      part_made : IsDiskOf fewer part.disk
      part_made =
          let few_rows = (all_have_disks disk.disk).few_cylinders in
          let few_sides = (all_have_disks disk.disk).few_heads in
          let less = fewer_rows in
          let less' = fewer_sides in
          let same = is-sound part.disk (omega arith) (omega (arith, few_rows, less)) (omega arith) (omega (arith, few_sides, less')) (all_have_disks disk.disk).fills in
          record {
            made = same;
            cylinders = ap (λ (d : IbmDisk). d.cylinders) same;
            some_cylinders = omega arith;
            few_cylinders = omega (arith, few_rows, less);
            heads = ap (λ (d : IbmDisk). d.heads) same;
            some_heads = omega arith;
            few_heads = omega (arith, few_sides, less');
            rate = ap (λ (d : IbmDisk). d.rate) same ∙ made.rate;
            track = record {
              size = made.track.size;
              bytes = made.track.bytes;
              is = made.track.is ∙ ap (λ (d : IbmDisk). Some d.track) (sym same);
            };
          }

      is_told : is_covered Own disk.stepping fewer ≡ false → IsToldDisk Own its_rate sectors.size disk.stepping (one its_rate) (two its_rate) part
      is_told bare = record {
        looked_at = looked_at;
        told = record { first = sectors.first_sector; last = sectors.first_sector + sectors.sectors - 1; cylinders = rows; heads = sides };
        tells = tells sets sectors.size cylinders heads sectors.first_sector sectors.sectors whole are_sets;
        not_covered = ap (is_covered Own disk.stepping) told_numbers ∙ bare;
        stepping_is = refl;
        is = subst (λ (n : DiskNumbers). IsDiskOf n part.disk) (sym told_numbers) part_made;
      }

      pub found : IsFoundInPart disks numbers disk whole
      found =
          let less = fewer_rows in
          let less' = fewer_sides in
          let all = made.cylinders in
          let all' = made.heads in
          record {
            cylinders = rows;
            heads = sides;
            fewer_cylinders = omega (arith, less, all);
            fewer_heads = omega (arith, less', all');
            reach = reach;
            found = by (is_covered Own disk.stepping fewer) refl;
          }
        where
          by : (b : Bool) → is_covered Own disk.stepping (record numbers { cylinders = rows; heads = sides }) ≡ b
              → IsFoundOrCovered disks (record numbers { cylinders = rows; heads = sides }) (with_extent disk rows sides)
          by true covered = inr covered
          by false bare = inl (is_listed told.came disks told.told its_rate sectors.size (with_extent disk rows sides) (is_told bare))

-- all of a list
all_count : (tracks : List TrackId) → count_by all_tracks tracks ≡ length tracks
all_count [] = refl
all_count (track ∷ tracks) =
    let more = sum_by-cons (λ (t : TrackId). cond {A = ℕ} (all_tracks t) 1 0) track tracks in let rest = all_count tracks in omega (arith, more, rest)

-- where all tracks are whole, all of the disk is found
pub found_whole : (disks : List NumberedDisk) (numbers : DiskNumbers) (disk : NumberedDisk) → IsDiskOf numbers disk.disk → (IsQuarter disk.disk all_tracks → IsFoundInPart disks numbers disk all_tracks)
    → IsFoundOrCovered disks numbers disk
found_whole disks numbers disk made in_part =
    let all = all_count (tracks (Numbered disk.disk)) in
    let part = in_part (omega (arith, all)) in
    let rows = (all_have_disks disk.disk).some_cylinders in
    let sides = (all_have_disks disk.disk).some_heads in
    let far_row = (part.reach (record { cylinder = cylinders_of disk.disk - 1; head = 0 }) (omega (arith, rows), omega (arith, sides)) refl).0 in
    let far_side = (part.reach (record { cylinder = 0; head = heads_of disk.disk - 1 }) (omega (arith, rows), omega (arith, sides)) refl).1 in
    let fewer = part.fewer_cylinders in
    let fewer' = part.fewer_heads in
    let its_rows = made.cylinders in
    let its_sides = made.heads in
    let cylinders : part.cylinders ≡ numbers.cylinders = omega (arith, far_row, fewer, its_rows) in
    let heads : part.heads ≡ numbers.heads = omega (arith, far_side, fewer', its_sides) in
    let same : with_extent disk numbers.cylinders numbers.heads ≡ disk =
    ap (λ (c : ℕ). with_extent disk c numbers.heads) (sym made.cylinders)
    ∙ ap (λ (h : ℕ). with_extent disk (cylinders_of disk.disk) h) (sym made.heads)
    ∙ ap (λ (d : IbmDisk). let n : NumberedDisk = record { stepping = disk.stepping; disk = d } in n) made.made in
    subst (IsFoundOrCovered disks numbers) same
    (subst (λ (h : ℕ). IsFoundOrCovered disks (record numbers { heads = h }) (with_extent disk numbers.cylinders h)) heads
    (subst (λ (c : ℕ). IsFoundOrCovered disks (record numbers { cylinders = c; heads = part.heads }) (with_extent disk c part.heads)) cylinders part.found))

-- The disks by their numbers: that there are those of the second statement.
use Rattle.std.specs.Prelude.{◌≡◌, ◌⊎◌, ◌<◌, ◌≤◌, ◌-◌, ◌*◌, ◌+◌, ◌%◌, ℕ, Bool, true, false, List, [], ◌∷◌, ◌++◌, codes, decimal, if◌then◌else◌, IfSome, nat_lt, Option, Some, refl}
use Rattle.std.proofs.Common.{ap, append-nil, arith, inl, inr, subst, sym, ◌∙◌}
use Rattle.std.proofs.Math.Nat.{mod-eq_of_lt}
use Rattle.std.proofs.lemmas.Bool.{ltb-true}
use Rattle.ibm_disks.specs.Disks.{IsDiskOf, IsWordOfDisk, HasTrack, cylinders_of, heads_of, rate_of, sound, track_of_disk}
use Rattle.ibm_disks.specs.Numbers.{size_of}
use Rattle.ibm_disks.specs.GapPlans.{FillAt, FillsTrackOf, density_of, track_bytes}
use Rattle.ibm_disks.specs.Words.{EndsWith, IsWordOf}
use Rattle.ibm_disks.specs.declared.disk.IbmDisk.{IbmDisk}
use Rattle.ibm_disks.specs.declared.rate.Rate.{Rate}
use Rattle.ibm_disks.specs.declared.sector_size.SectorSize.{SectorSize}
use Rattle.ibm_disks.specs.declared.track_numbers.TrackNumbers.{TrackNumbers}
use Rattle.ibm_disks.specs.declared.word.DiskNumbers.{DiskNumbers}
use Rattle.ibm_disks.specs.lemmas.DiskLaws.{is-sound}
use Rattle.ibm_disks.specs.lemmas.GapPlanLaws.{filled}
use Rattle.sector_images.specs.Formats.{cell_of}
use Rattle.sector_images.specs.declared.format.Format.TheVariants.{Numbered}
use Rattle.law_stated_tables.specs.Laws.{HasStatedTrack, IsStated, NumbersAreStated}
use Rattle.law_stated_tables.specs.Speeds.{IsCell, IsTurn, kilobits}
use Rattle.law_stated_tables.specs.Table.{StatedZone, stands_at}
use Rattle.law_stated_tables.specs.Words.{FitTrack, IsGap, StatedNumbers, StatedRate, WritesNumbers, bytes_of_turn, numbers_text, recording, stated_by}
use Rattle.law_stated_tables.proofs.Fit.{HasGap, IsPlanned, made, planned, track_by}
use Rattle.law_stated_tables.proofs.Rates.{begins, cell_is, fit_of, has_rate, has_size, is_double, of_gap, recording_is, ring_is, stated_rate}

-- the numbers of a rate and the others
abbrev disk_numbers : Rate → StatedNumbers → DiskNumbers
disk_numbers rate n = record {
  rate = rate;
  cylinders = n.cylinders;
  heads = n.heads;
  sectors = n.sectors;
  sector_bytes = n.bytes;
  first_sector = n.first;
}

-- the word that begins with a rate, with this at its end
module _ (word : List ℕ) (n : StatedNumbers) (rate : Rate) (same : stated_rate rate ≡ n.rate) where
  word_of : (behind : List ℕ) → word ≡ numbers_text n behind → EndsWith (decimal n.bytes ++ behind) n.bytes n.first → IsWordOf word (disk_numbers rate n)
  word_of behind is ends =
      let after_heads : List ℕ = decimal n.sectors ++ 120 ∷ (decimal n.bytes ++ behind) in
      let after_cylinders : List ℕ = decimal n.heads ++ 120 ∷ after_heads in
      let rest : List ℕ = decimal n.cylinders ++ 120 ∷ after_cylinders in
      record {
        rest = rest;
        is = is ∙ ap (λ (r : StatedRate). r.word ++ rest) (sym same) ∙ begins rate rest;
        behind = record {
          same = refl;
          behind_cylinders = after_cylinders;
          cylinders = refl;
          behind_heads = after_heads;
          heads = refl;
          behind_sectors = decimal n.bytes ++ behind;
          sectors = refl;
          ends = ends;
        };
      }

  written : (word ≡ numbers_text n (codes "@" ++ decimal n.first)) ⊎ ((word ≡ numbers_text n []) × (n.first ≡ 1)) → IsWordOf word (disk_numbers rate n)
  written (inl is) = word_of (codes "@" ++ decimal n.first) is (inl refl)
  written (inr is) = word_of [] is.0 (inr (append-nil (decimal n.bytes), is.1))

-- the sectors of a disk in two orders of its numbers
image_of : (c s h b cylinders sectors heads bytes : ℕ) → c ≡ cylinders → s ≡ sectors → h ≡ heads → b ≡ bytes
    → c * s * h * b ≡ cylinders * heads * sectors * bytes
image_of c s h b cylinders sectors heads bytes one two three four = rw (one, two, three, four) (omega arith)

sum_of : (cylinders heads sectors bytes : ℕ) → heads * bytes * (0 + (cylinders - 0) * sectors) ≡ cylinders * heads * sectors * bytes
sum_of cylinders heads sectors bytes =
    let all : cylinders - 0 ≡ cylinders = omega arith in
    let one : 0 + cylinders * sectors ≡ cylinders * sectors = omega arith in
    let product : heads * bytes * (cylinders * sectors) ≡ cylinders * heads * sectors * bytes = omega arith in
    ap (λ (k : ℕ). heads * bytes * (0 + k * sectors)) all ∙ ap (λ (k : ℕ). heads * bytes * k) one ∙ product

-- a sector stands by its number
stands : (sector : ℕ) → stands_at 1 sector ≡ sector
stands sector = by (nat_lt sector 15) refl
  where
    by : (b : Bool) → nat_lt sector 15 ≡ b → (if b then 1 * sector % 15 else sector) ≡ sector
    by true is =
        let low : sector < 15 = ltb-true _ _ is in
        let one : 1 * sector ≡ sector = omega arith in
        ap (λ (k : ℕ). k % 15) one ∙ mod-eq_of_lt low
    by false is = refl

slot_of : (first begins sector : ℕ) → begins ≡ first → first + sector - begins ≡ stands_at 1 sector
slot_of first begins sector same =
    let all : first + sector - begins ≡ sector = omega (arith, same) in
    all ∙ sym (stands sector)

module _ (word : List ℕ) (n : StatedNumbers) (rate : Rate) (same : stated_rate rate ≡ n.rate) (size : SectorSize) (bytes : size_of size ≡ n.bytes)
    (track : TrackNumbers) (plan : IsPlanned rate n.sectors n.first size track) where
  abbrev disk : IbmDisk
  disk = record { cylinders = n.cylinders; heads = n.heads; rate = rate; track = track }

  abbrev the_zone : StatedZone
  the_zone = record { first = 0; end = n.cylinders; sectors = n.sectors; speed = kilobits n.rate.kilobits n.rate.turns; behind = 0; part = 16; is_even = true }

  -- its format has the stated numbers
  stated_disk : sound disk ≡ disk → IsStated (stated_by word n) (Numbered disk)
  stated_disk itself =
      let cylinders : cylinders_of disk ≡ n.cylinders = ap (λ (d : IbmDisk). d.cylinders) itself in
      let heads : heads_of disk ≡ n.heads = ap (λ (d : IbmDisk). d.heads) itself in
      let sectors : (track_of_disk disk).sectors ≡ n.sectors = ap (λ (d : IbmDisk). d.track.sectors) itself ∙ plan.0 in
      let size_is : size_of (track_of_disk disk).size ≡ n.bytes = ap (λ (d : IbmDisk). size_of d.track.size) itself ∙ ap size_of plan.2 ∙ bytes in
      let track_is : track_bytes rate ≡ (track_of_disk disk).bytes = sym (ap (λ (d : IbmDisk). d.track.bytes) itself ∙ plan.3) in
      let rate_is : rate ≡ rate_of disk = sym (ap (λ (d : IbmDisk). d.rate) itself) in
      let ring : IsTurn (kilobits n.rate.kilobits n.rate.turns) 0 16 (16 * (track_of_disk disk).bytes) =
      subst (λ (b : ℕ). IsTurn (kilobits n.rate.kilobits n.rate.turns) 0 16 (16 * b)) track_is
      (subst (λ (r : StatedRate). IsTurn (kilobits r.kilobits r.turns) 0 16 (16 * track_bytes rate)) same (ring_is rate)) in
      let cell : IsCell (2 * 1000 * n.rate.kilobits) 1 (cell_of (rate_of disk)) =
      subst (λ (r : Rate). IsCell (2 * 1000 * n.rate.kilobits) 1 (cell_of r)) rate_is
      (subst (λ (r : StatedRate). IsCell (2 * 1000 * r.kilobits) 1 (cell_of rate)) same (cell_is rate)) in
      record {
        cylinders = cylinders;
        heads = heads;
        first_sector = ap (λ (d : IbmDisk). d.track.first_sector) itself ∙ plan.1;
        bytes = size_is;
        image =
            image_of (cylinders_of disk) (track_of_disk disk).sectors (heads_of disk) (size_of (track_of_disk disk).size) n.cylinders n.sectors n.heads n.bytes
            cylinders sectors heads size_is;
        sectors_are_image = sum_of n.cylinders n.heads n.sectors n.bytes;
        zones = λ cylinder below. (the_zone, (0, omega arith, refl), omega arith, below, record { sectors = sectors; ring = ring; nominal = cell });
        tracks = λ a b. refl;
        slots = λ cylinder sector below some. slot_of n.first (track_of_disk disk).first_sector sector (ap (λ (d : IbmDisk). d.track.first_sector) itself ∙ plan.1);
      }

-- its track has the stated recording and gaps
module _ (n : StatedNumbers) (rate : Rate) (same : stated_rate rate ≡ n.rate) (size : SectorSize) (bytes : size_of size ≡ n.bytes)
    (track : TrackNumbers) (gap : HasGap rate n.sectors n.first size (density_of rate) track) where
  gap_is : IsGap n.rate.is_mfm n.sectors n.bytes (bytes_of_turn n.rate) track.lead_in track.sector_gap
  gap_is =
      let stated : IsGap (stated_rate rate).is_mfm n.sectors (size_of size) (bytes_of_turn (stated_rate rate)) track.lead_in track.sector_gap =
      of_gap rate n.sectors (size_of size) track.lead_in track.sector_gap gap in
      subst (λ (b : ℕ). IsGap n.rate.is_mfm n.sectors b (bytes_of_turn n.rate) track.lead_in track.sector_gap) bytes
      (subst (λ (r : StatedRate). IsGap r.is_mfm n.sectors (size_of size) (bytes_of_turn r) track.lead_in track.sector_gap) same stated)

  stated_track : let disk : IbmDisk = record { cylinders = n.cylinders; heads = n.heads; rate = rate; track = track } in
      sound disk ≡ disk → HasStatedTrack n disk
  stated_track itself = record {
    recording =
        ap (λ (d : IbmDisk). density_of d.rate) itself ∙ recording_is rate ∙ ap (λ (r : StatedRate). recording r.is_mfm) same;
    gap =
        subst (λ (d : IbmDisk). IsGap n.rate.is_mfm n.sectors n.bytes (bytes_of_turn n.rate) d.track.lead_in d.track.sector_gap) (sym itself) gap_is;
  }

-- the track that they make, and their disk
module _ (word : List ℕ) (n : StatedNumbers) (is : WritesNumbers word n) (rate : Rate) (same : stated_rate rate ≡ n.rate) (size : SectorSize)
    (bytes : size_of size ≡ n.bytes) where
  fit : FitTrack (is_double (density_of rate)) n.sectors (size_of size) (track_bytes rate)
  fit =
      let stated = subst (λ (r : StatedRate). FitTrack r.is_mfm n.sectors n.bytes (bytes_of_turn r)) (sym same) is.are.fit in
      subst (λ (b : ℕ). FitTrack (is_double (density_of rate)) n.sectors b (track_bytes rate)) (sym bytes) (fit_of rate n.sectors n.bytes stated)

  fills : (track : TrackNumbers) → track_by rate n.sectors n.first size (density_of rate) ≡ Some track → FillsTrackOf rate track
  fills track made =
      subst (λ (o : Option TrackNumbers). IfSome o (λ t. FillAt (density_of rate) t × (t.bytes ≡ track_bytes rate))) made
      (filled (record { rate = rate; sectors = n.sectors; first_sector = n.first; size = size }) is.are.some_sectors is.are.last (density_of rate))

  has_track : (track : TrackNumbers) → track_by rate n.sectors n.first size (density_of rate) ≡ Some track → HasTrack (disk_numbers rate n) track
  has_track track made = record {
    size = size;
    bytes = bytes;
    is = planned rate n.sectors n.first size is.are.some_sectors is.are.most_sectors is.are.last ∙ made;
  }

  names : (disk : IbmDisk) × IsWordOfDisk word disk × IsStated (stated_by word n) (Numbered disk) × HasStatedTrack n disk
  names =
      let made = made rate n.sectors n.first size is.are.some_sectors (density_of rate) fit in
      let track : TrackNumbers = made.0 in
      let disk : IbmDisk = record { cylinders = n.cylinders; heads = n.heads; rate = rate; track = track } in
      let few : n.cylinders ≤ 99 = omega (arith, is.are.most_cylinders) in
      let itself : sound disk ≡ disk =
      is-sound disk is.are.some_cylinders few is.are.some_heads is.are.most_heads (fills track made.1) in
      let disk_of : IsDiskOf (disk_numbers rate n) disk = record {
        made = itself;
        cylinders = ap (λ (d : IbmDisk). d.cylinders) itself;
        some_cylinders = is.are.some_cylinders;
        few_cylinders = few;
        heads = ap (λ (d : IbmDisk). d.heads) itself;
        some_heads = is.are.some_heads;
        few_heads = is.are.most_heads;
        rate = ap (λ (d : IbmDisk). d.rate) itself;
        track = subst (λ (d : IbmDisk). HasTrack (disk_numbers rate n) d.track) (sym itself) (has_track track made.1);
      } in (
        disk,
        inr (record { numbers = disk_numbers rate n; written = written word n rate same is.word_is; is = disk_of }),
        stated_disk word n rate same size bytes track made.2 itself,
        stated_track n rate same size bytes track made.3 itself,
      )

pub numbers_are_stated : NumbersAreStated
numbers_are_stated word n is =
    let rate = has_rate n.rate is.are.rate in
    let size = has_size n.bytes is.are.bytes in
    names word n is rate.0 rate.1 size.0 size.1

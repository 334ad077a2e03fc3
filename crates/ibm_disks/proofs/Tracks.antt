-- What numbers have a track, and that they have one; and that a word writes the numbers of one disk.
use Rattle.std.specs.Prelude.{◌≡◌, ℕ, ◌+◌, ◌≤◌, ◌<◌, List, ◌++◌, ◌∷◌, Bool, true, false, ◌&&◌, nat_le, nat_eq, if◌then◌else◌, decimal, get_or, length, Option, Some, None, IfNone, refl}
use Rattle.std.proofs.Common.{ap, inl, inr, sym, subst, ◌∙◌, arith}
use Rattle.std.proofs.lemmas.Bool.{leb-true}
use Rattle.ibm_disks.specs.declared.disk.IbmDisk.{IbmDisk}
use Rattle.ibm_disks.specs.declared.gap_plan.GapPlan.{GapPlan}
use Rattle.ibm_disks.specs.declared.rate.Rate.{Rate}
use Rattle.ibm_disks.specs.declared.rate.Rate.TheVariants.{Double, High, HighAt360, Single, SingleAt360}
use Rattle.ibm_disks.specs.declared.sector_size.SectorSize.{SectorSize}
use Rattle.ibm_disks.specs.declared.sector_size.SectorSize.TheVariants.{Bytes128, Bytes256, Bytes512, Bytes1024}
use Rattle.ibm_disks.specs.declared.track_numbers.TrackNumbers.{TrackNumbers}
use Rattle.ibm_disks.specs.declared.word.DiskNumbers.{DiskNumbers}
use Rattle.ibm_disks.specs.lemmas.DiskLaws.{is-sound}
use Rattle.ibm_disks.specs.lemmas.NumberLaws.{size-most}
use Rattle.ibm_disks.specs.Disks.{HasTrack, IsDiskOf, WritesDisk, sound, track_of_disk}
use Rattle.ibm_disks.specs.Numbers.{size_of}
use Rattle.ibm_disks.specs.GapPlans.{FillsTrackOf, density_of, track_at, track_of}
use Rattle.ibm_disks.specs.Words.{AreBehindRate, AreShort, EndsWith, HasNo, IsWordOf, density_word, rate_word}
use Rattle.ibm_disks.proofs.Splits.{decimal-no, decimal-one, density-no, no-split, one-split, rate-no}

-- a choice that was made passed its tests
chosen : {X : Type 0} (a b c : Bool) (o : Option X) (x : X) → (if a && b && c then o else None) ≡ Some x → (a ≡ true) × (b ≡ true) × (c ≡ true)
chosen true true true o x is = (refl, refl, refl)
chosen false b c o x is = absurd (cc)
chosen true false c o x is = absurd (cc)
chosen true true false o x is = absurd (cc)

-- and it is what was chosen
pub chosen-is : {X : Type 0} (a b c : Bool) (o : Option X) (x : X) → (if a && b && c then o else None) ≡ Some x → o ≡ Some x
chosen-is true true true o x is = is
chosen-is false b c o x is = absurd (cc)
chosen-is true false c o x is = absurd (cc)
chosen-is true true false o x is = absurd (cc)

-- numbers that have a track are small
pub few-sectors : (rate : Rate) (sectors first : ℕ) (size : SectorSize) (track : TrackNumbers) → track_of rate sectors first size ≡ Some track
    → (1 ≤ sectors) × (sectors ≤ 32) × (first + sectors ≤ 256)
few-sectors rate sectors first size track is =
    let plan : GapPlan = record { rate = rate; sectors = sectors; first_sector = first; size = size } in
    let tests = chosen (nat_le 1 sectors) (nat_le sectors 32) (nat_le (first + sectors) 256) (track_at (density_of rate) plan) track is in
    (leb-true 1 sectors tests.0, leb-true sectors 32 tests.1, leb-true (first + sectors) 256 tests.2)

-- and have few digits
pub are-short : (n : DiskNumbers) (disk : IbmDisk) → IsDiskOf n disk → AreShort n
are-short n disk is =
    let few = few-sectors n.rate n.sectors n.first_sector is.track.size (track_of_disk disk) is.track.is in
    let most = size-most is.track.size in record {
      cylinders = omega (arith, is.few_cylinders);
      heads = omega (arith, is.few_heads);
      sectors = omega (arith, few.1);
      sector_bytes = omega (arith, most, is.track.bytes);
      first_sector = omega (arith, few.2);
    }

-- the disk that numbers make
pub is-disk-of : (n : DiskNumbers) (track : TrackNumbers) → 1 ≤ n.cylinders → n.cylinders ≤ 99 → 1 ≤ n.heads → n.heads ≤ 2 → HasTrack n track
    → FillsTrackOf n.rate track → IsDiskOf n (record { cylinders = n.cylinders; heads = n.heads; rate = n.rate; track = track })
is-disk-of n track some few one two has fills =
    let disk : IbmDisk = record { cylinders = n.cylinders; heads = n.heads; rate = n.rate; track = track } in
    let made : sound disk ≡ disk = is-sound disk some few one two fills in record {
      made = made;
      cylinders = ap (λ (d : IbmDisk). d.cylinders) made;
      some_cylinders = some;
      few_cylinders = few;
      heads = ap (λ (d : IbmDisk). d.heads) made;
      some_heads = one;
      few_heads = two;
      rate = ap (λ (d : IbmDisk). d.rate) made;
      track = subst (λ (d : IbmDisk). HasTrack n d.track) (sym made) has;
    }

-- of so many bytes there is one size
abbrev size_back : ℕ → SectorSize
size_back bytes = if nat_eq bytes 128 then Bytes128 else if nat_eq bytes 256 then Bytes256 else if nat_eq bytes 512 then Bytes512 else Bytes1024

size-back : (size : SectorSize) → size_back (size_of size) ≡ size
size-back Bytes128 = refl
size-back Bytes256 = refl
size-back Bytes512 = refl
size-back Bytes1024 = refl

pub one-size : (a b : SectorSize) → size_of a ≡ size_of b → a ≡ b
one-size a b same = sym (size-back a) ∙ ap size_back same ∙ size-back b

-- a word of a rate is one rate's
abbrev rate_back : List ℕ → Rate
rate_back word =
    if nat_eq (get_or word 0 0) 100 then Double
    else if nat_eq (get_or word 0 0) 104 then (if nat_eq (length word) 2 then High else HighAt360)
    else (if nat_eq (length word) 2 then Single else SingleAt360)

rate-back : (rate : Rate) → rate_back (rate_word rate) ≡ rate
rate-back Double = refl
rate-back High = refl
rate-back HighAt360 = refl
rate-back Single = refl
rate-back SingleAt360 = refl

one-rate : (a b : Rate) → rate_word a ≡ rate_word b → a ≡ b
one-rate a b same = sym (rate-back a) ∙ ap rate_back same ∙ rate-back b

-- the numbers before an x are one, and what stands behind it
one-number : (stop : ℕ) → 57 < stop → (text : List ℕ) (m n : ℕ) (rest rest' : List ℕ) → m < 10000 → n < 10000 → text ≡ decimal m ++ stop ∷ rest
    → text ≡ decimal n ++ stop ∷ rest' → (m ≡ n) × (rest ≡ rest')
one-number stop high text m n rest rest' low low' is is' =
    let same = one-split stop (decimal m) rest (decimal n) rest' (decimal-no m low stop high) (decimal-no n low' stop high) (sym is ∙ is') in
    (decimal-one m n low low' same.0, same.1)

-- and those at the end
one-end : (text : List ℕ) (b f b' f' : ℕ) → b < 10000 → f < 10000 → b' < 10000 → f' < 10000 → EndsWith text b f → EndsWith text b' f'
    → (b ≡ b') × (f ≡ f')
one-end text b f b' f' low first_low low' first_low' (inl long) (inl long') =
    let same = one-number 64 (omega arith) text b b' (decimal f) (decimal f') low low' long long' in
    (same.0, decimal-one f f' first_low first_low' same.1)
one-end text b f b' f' low first_low low' first_low' (inl long) (inr short) =
    absurd (no-split 64 text (decimal b) (decimal f) (subst (HasNo 64) (sym short.0) (decimal-no b' low' 64 (omega arith))) long)
one-end text b f b' f' low first_low low' first_low' (inr short) (inl long) =
    absurd (no-split 64 text (decimal b') (decimal f') (subst (HasNo 64) (sym short.0) (decimal-no b low 64 (omega arith))) long)
one-end text b f b' f' low first_low low' first_low' (inr short) (inr short') =
    (decimal-one b b' low low' (sym short.0 ∙ short'.0), short.1 ∙ sym short'.1)

-- numbers that agree in all parts are one
pub same-numbers : (m n : DiskNumbers) → m.rate ≡ n.rate → m.cylinders ≡ n.cylinders → m.heads ≡ n.heads → m.sectors ≡ n.sectors
    → m.sector_bytes ≡ n.sector_bytes → m.first_sector ≡ n.first_sector → m ≡ n
same-numbers m n rate cylinders heads sectors bytes first =
    ap (λ (r : Rate). numbers r m.cylinders m.heads m.sectors m.sector_bytes m.first_sector) rate
    ∙ ap (λ (k : ℕ). numbers n.rate k m.heads m.sectors m.sector_bytes m.first_sector) cylinders
    ∙ ap (λ (k : ℕ). numbers n.rate n.cylinders k m.sectors m.sector_bytes m.first_sector) heads
    ∙ ap (λ (k : ℕ). numbers n.rate n.cylinders n.heads k m.sector_bytes m.first_sector) sectors
    ∙ ap (λ (k : ℕ). numbers n.rate n.cylinders n.heads n.sectors k m.first_sector) bytes
    ∙ ap (λ (k : ℕ). numbers n.rate n.cylinders n.heads n.sectors n.sector_bytes k) first
  where
    numbers : Rate → (cylinders heads sectors bytes first : ℕ) → DiskNumbers
    numbers rate cylinders heads sectors bytes first = record {
      rate = rate;
      cylinders = cylinders;
      heads = heads;
      sectors = sectors;
      sector_bytes = bytes;
      first_sector = first;
    }

module _ (m n : DiskNumbers) (short : AreShort m) (short' : AreShort n) where
  -- the numbers behind a rate are one
  behind-one : (rest rest' : List ℕ) → rest ≡ rest' → m.rate ≡ n.rate → AreBehindRate m.rate rest m → AreBehindRate n.rate rest' n → m ≡ n
  behind-one rest rest' same rate are are' =
      let first = one-number 120 (omega arith) rest m.cylinders n.cylinders are.behind_cylinders are'.behind_cylinders short.cylinders short'.cylinders
      are.cylinders (same ∙ are'.cylinders) in
      let second = one-number 120 (omega arith) are.behind_cylinders m.heads n.heads are.behind_heads are'.behind_heads short.heads short'.heads
      are.heads (first.1 ∙ are'.heads) in
      let third = one-number 120 (omega arith) are.behind_heads m.sectors n.sectors are.behind_sectors are'.behind_sectors short.sectors short'.sectors
      are.sectors (second.1 ∙ are'.sectors) in
      let last = one-end are.behind_sectors m.sector_bytes m.first_sector n.sector_bytes n.first_sector short.sector_bytes short.first_sector
      short'.sector_bytes short'.first_sector are.ends
      (subst (λ (text : List ℕ). EndsWith text n.sector_bytes n.first_sector) (sym third.1) are'.ends) in
      same-numbers m n rate first.0 second.0 third.0 last.0 last.1

  -- a word writes one disk's numbers
  one-word : (word : List ℕ) → IsWordOf word m → IsWordOf word n → m ≡ n
  one-word word is is' =
      let first = one-split 45 (density_word m.rate) (rate_word m.rate ++ 45 ∷ is.rest) (density_word n.rate) (rate_word n.rate ++ 45 ∷ is'.rest)
      (density-no m.rate) (density-no n.rate) (sym is.is ∙ is'.is) in
      let second = one-split 45 (rate_word m.rate) is.rest (rate_word n.rate) is'.rest (rate-no m.rate) (rate-no n.rate) first.1 in
      behind-one is.rest is'.rest second.1 (one-rate m.rate n.rate second.0) is.behind is'.behind

-- so where its numbers are no disk's, it names none
pub no-disk : (word : List ℕ) (n : DiskNumbers) (o : Option IbmDisk) → IsWordOf word n → AreShort n → IfNone o ((disk : IbmDisk) → ¬ IsDiskOf n disk)
    → IfNone o ((disk : IbmDisk) → ¬ WritesDisk word disk)
no-disk word n None written short none = λ disk is.
    let same = one-word is.numbers n (are-short is.numbers disk is.is) short word is.written written in
    none disk (subst (λ (m : DiskNumbers). IsDiskOf m disk) same is.is)
no-disk word n (Some disk) written short none = tt

-- numbers have one track
pub some-one : (a b : TrackNumbers) → Some a ≡ Some b → a ≡ b
some-one a b same = cc

one-track : (n : DiskNumbers) (a b : TrackNumbers) → HasTrack n a → HasTrack n b → a ≡ b
one-track n a b has has' =
    let size = one-size has.size has'.size (has.bytes ∙ sym has'.bytes) in
    some-one a b (sym has.is ∙ ap (track_of n.rate n.sectors n.first_sector) size ∙ has'.is)

pub same-disk : (a b : IbmDisk) → a.cylinders ≡ b.cylinders → a.heads ≡ b.heads → a.rate ≡ b.rate → a.track ≡ b.track → a ≡ b
same-disk a b cylinders heads rate track =
    ap (λ (k : ℕ). disk k a.heads a.rate a.track) cylinders
    ∙ ap (λ (k : ℕ). disk b.cylinders k a.rate a.track) heads
    ∙ ap (λ (r : Rate). disk b.cylinders b.heads r a.track) rate
    ∙ ap (λ (t : TrackNumbers). disk b.cylinders b.heads b.rate t) track
  where
    disk : (cylinders heads : ℕ) → Rate → TrackNumbers → IbmDisk
    disk cylinders heads rate track = record { cylinders = cylinders; heads = heads; rate = rate; track = track }

-- numbers are one disk's
one-disk : (n : DiskNumbers) (a b : IbmDisk) → IsDiskOf n a → IsDiskOf n b → a ≡ b
one-disk n a b is is' =
    let same =
    same-disk (sound a) (sound b) (is.cylinders ∙ sym is'.cylinders) (is.heads ∙ sym is'.heads) (is.rate ∙ sym is'.rate)
    (one-track n (track_of_disk a) (track_of_disk b) is.track is'.track) in
    sym is.made ∙ same ∙ is'.made

-- and a word writes those of one
pub one-written : (word : List ℕ) (a b : IbmDisk) → WritesDisk word a → WritesDisk word b → a ≡ b
one-written word a b is is' =
    let same = one-word is'.numbers is.numbers (are-short is'.numbers b is'.is) (are-short is.numbers a is.is) word is'.written is.written in
    one-disk is.numbers a b is.is (subst (λ (m : DiskNumbers). IsDiskOf m b) same is'.is)

-- A word names one disk, and the word that is printed of a disk names it.
use Rattle.std.specs.Prelude.{◌≡◌, ◌⊎◌, ℕ, ◌+◌, List, [], ◌∷◌, ◌++◌, Bool, true, false, nat_eq, nat_le, if◌then◌else◌, decimal, Option, Some, None, refl}
use Rattle.std.proofs.Common.{ap, append-nil, inl, inr, sym, subst, ◌∙◌}
use Rattle.std.proofs.lemmas.Bool.{eqb-true}
use Rattle.ibm_disks.specs.declared.disk.IbmDisk.{IbmDisk}
use Rattle.ibm_disks.specs.declared.gap_plan.GapPlan.{GapPlan}
use Rattle.ibm_disks.specs.declared.rate.Density.{Density}
use Rattle.ibm_disks.specs.declared.rate.Density.TheVariants.{Single as SingleDensity, Double as DoubleDensity}
use Rattle.ibm_disks.specs.declared.rate.Rate.{Rate}
use Rattle.ibm_disks.specs.declared.sector_size.SectorSize.{SectorSize}
use Rattle.ibm_disks.specs.declared.track_numbers.LeadIn.TheVariants.{Indexed}
use Rattle.ibm_disks.specs.declared.track_numbers.TrackNumbers.{TrackNumbers}
use Rattle.ibm_disks.specs.declared.word.DiskNumbers.{DiskNumbers}
use Rattle.ibm_disks.specs.Disks.{IsDiskOf, IsWordOfDisk, PrintedWordsNameDisks, WordsNameDisks, WritesDisk, cylinders_of, disk_word, heads_of, rate_of, sound, track_of_disk, word_by}
use Rattle.ibm_disks.specs.Named.{NamedDisk, named_as, named_disks, same_disk}
use Rattle.ibm_disks.specs.Numbers.{FM_AROUND, fm_before, mfm_around, mfm_before, size_of}
use Rattle.ibm_disks.specs.GapPlans.{bare_track, density_of, if_wide, indexed_track, track_at, track_of}
use Rattle.ibm_disks.specs.Words.{EndsWith, IsWordOf, first_word}
use Rattle.ibm_disks.specs.lemmas.WordLaws.{writes-begins}
use Rattle.ibm_disks.proofs.Names.{Finds, finds, named-found, named-made, no-numbers, one-name, same-is}
use Rattle.ibm_disks.proofs.Tracks.{chosen-is, one-written, same-numbers, some-one}

-- a track that was made has the sectors that were asked for
abbrev AreAsked : GapPlan → TrackNumbers → Type 0
AreAsked plan track = (track.sectors ≡ plan.sectors) × (track.first_sector ≡ plan.first_sector) × (track.size ≡ plan.size)

one_of : (wide : Bool) (track : TrackNumbers) (other : Option TrackNumbers) (made : TrackNumbers) → (if wide then Some track else other) ≡ Some made
    → (track ≡ made) ⊎ (other ≡ Some made)
one_of true track other made is = inl (some-one track made is)
one_of false track other made is = inr is

none_made : (made : TrackNumbers) → None ≡ Some made → ⊥
none_made made same = cc

asked : (density : Density) (plan : GapPlan) (made : TrackNumbers) → track_at density plan ≡ Some made → AreAsked plan made
asked DoubleDensity plan made is =
    let first : TrackNumbers = indexed_track (mfm_before Indexed) (mfm_around Indexed) plan in
    let second : TrackNumbers = bare_track plan in
    elim (one_of (nat_le 10 first.sector_gap) first (if_wide 1 second None) made is) [
      | inl same ↦ subst (AreAsked plan) same (refl, refl, refl)
      | inr later ↦ elim (one_of (nat_le 1 second.sector_gap) second None made later) [
        | inl same ↦ subst (AreAsked plan) same (refl, refl, refl)
        | inr none ↦ absurd (none_made made none)
      ]
    ]
asked SingleDensity plan made is =
    let first : TrackNumbers = indexed_track (fm_before Indexed) FM_AROUND plan in
    elim (one_of (nat_le 4 first.sector_gap) first None made is) [
      | inl same ↦ subst (AreAsked plan) same (refl, refl, refl)
      | inr none ↦ absurd (none_made made none)
    ]

asked_of : (rate : Rate) (sectors first : ℕ) (size : SectorSize) (made : TrackNumbers) → track_of rate sectors first size ≡ Some made
    → (made.sectors ≡ sectors) × (made.first_sector ≡ first) × (made.size ≡ size)
asked_of rate sectors first size made is =
    let plan : GapPlan = record { rate = rate; sectors = sectors; first_sector = first; size = size } in
    asked (density_of rate) plan made
    (chosen-is (nat_le 1 sectors) (nat_le sectors 32) (nat_le (first + sectors) 256) (track_at (density_of rate) plan) made is)

-- the numbers of a disk, and that its word writes them
abbrev own : IbmDisk → DiskNumbers
own disk = record {
  rate = rate_of disk;
  cylinders = cylinders_of disk;
  heads = heads_of disk;
  sectors = (track_of_disk disk).sectors;
  sector_bytes = size_of (track_of_disk disk).size;
  first_sector = (track_of_disk disk).first_sector;
}

ends : (bytes first : ℕ) → EndsWith (decimal bytes ++ first_word first) bytes first
ends bytes first = by (nat_eq first 1) refl
  where
    by : (one : Bool) → nat_eq first 1 ≡ one → EndsWith (decimal bytes ++ (if one then [] else 64 ∷ decimal first)) bytes first
    by true is = inr (append-nil (decimal bytes), eqb-true first 1 is)
    by false is = inl refl

abbrev behind_sectors : DiskNumbers → List ℕ
behind_sectors n = decimal n.sector_bytes ++ first_word n.first_sector

abbrev behind_heads : DiskNumbers → List ℕ
behind_heads n = decimal n.sectors ++ 120 ∷ behind_sectors n

abbrev behind_cylinders : DiskNumbers → List ℕ
behind_cylinders n = decimal n.heads ++ 120 ∷ behind_heads n

written : (disk : IbmDisk) → IsWordOf (word_by None disk) (own disk)
written disk = record {
  rest = decimal (own disk).cylinders ++ 120 ∷ behind_cylinders (own disk);
  is = refl;
  behind = record {
    same = refl;
    behind_cylinders = behind_cylinders (own disk);
    cylinders = refl;
    behind_heads = behind_heads (own disk);
    heads = refl;
    behind_sectors = behind_sectors (own disk);
    sectors = refl;
    ends = ends (own disk).sector_bytes (own disk).first_sector;
  };
}

are_own : (n : DiskNumbers) (disk : IbmDisk) → IsDiskOf n disk → n ≡ own disk
are_own n disk is =
    let parts = asked_of n.rate n.sectors n.first_sector is.track.size (track_of_disk disk) is.track.is in
    same-numbers n (own disk) (sym is.rate) (sym is.cylinders) (sym is.heads) (sym parts.0) (sym is.track.bytes ∙ ap size_of (sym parts.2)) (sym parts.1)

-- a word is a name or writes numbers, not both
pub words_name_disks : WordsNameDisks
words_name_disks word a b (inl is) (inl is') = one-name word a b is is'
words_name_disks word a b (inl is) (inr is') = absurd (no-numbers word a is (writes-begins word b is'))
words_name_disks word a b (inr is) (inl is') = absurd (no-numbers word b is' (writes-begins word a is))
words_name_disks word a b (inr is) (inr is') = one-written word a b is is'

writes_own : (word : List ℕ) (disk : IbmDisk) → WritesDisk word disk → WritesDisk (word_by None disk) disk
writes_own word disk is = record {
  numbers = own disk;
  written = written disk;
  is = subst (λ (m : DiskNumbers). IsDiskOf m disk) (are_own is.numbers disk is.is) is.is;
}

means_itself : (word : List ℕ) (disk : IbmDisk) → IsWordOfDisk word disk → sound disk ≡ disk
means_itself word disk (inl is) = named-made word disk is
means_itself word disk (inr is) = is.is.made

module _ (word : List ℕ) (disk : IbmDisk) where
  -- by whether it has a name
  printed : (o : Option NamedDisk) → Finds (λ row. same_disk row.disk (sound disk)) named_disks o → IsWordOfDisk word disk → IsWordOfDisk (word_by o disk) disk
  printed None none (inl is) = absurd (named-found word disk is none)
  printed None none (inr is) = inr (writes_own word disk is)
  printed (Some row) found is = inl (record {
    row = row;
    listed = found.1;
    word_is = refl;
    disk_is = same-is row.disk (sound disk) found.0 ∙ means_itself word disk is;
  })

pub printed_words_name_disks : PrintedWordsNameDisks
unfolding disk_word
printed_words_name_disks word disk is =
    printed word disk (named_as (sound disk)) (finds (λ row. same_disk row.disk (sound disk)) named_disks) is

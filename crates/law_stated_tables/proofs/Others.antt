-- There are no other words than the stated ones.
use Rattle.std.specs.Prelude.{◌≡◌, ◌⊎◌, ℕ, false, Contains, List, [], ◌∷◌, ◌++◌, codes, decimal, drop, get_or, refl}
use Rattle.std.proofs.Common.{ap, append-nil, arith, inl, inr, subst, sym, ◌∙◌}
use Rattle.std.proofs.lemmas.List.Elements.{All-contains, All-cons, All-nil}
use Rattle.ibm_disks.specs.Disks.{IsWordOfDisk, WritesDisk, track_of_disk}
use Rattle.ibm_disks.specs.Named.{NamedDisk, named_disks}
use Rattle.ibm_disks.specs.Tracks.{pc_8}
use Rattle.ibm_disks.specs.declared.rate.Rate.TheVariants.{Double}
use Rattle.ibm_disks.specs.GapPlans.{density_of}
use Rattle.ibm_disks.specs.Words.{EndsWith, IsWordOf}
use Rattle.ibm_disks.specs.declared.disk.IbmDisk.{IbmDisk}
use Rattle.ibm_disks.specs.declared.word.DiskNumbers.{DiskNumbers}
use Rattle.sector_images.specs.Formats.{IsWordOfFormat, WordsNameFormats}
use Rattle.sector_images.specs.declared.format.Format.{Format}
use Rattle.sector_images.specs.declared.format.Format.TheVariants.{Ibm3740, Ibm360, Ibm720, Ibm1440, Amiga, C1541, C1541Forty, AppleDo, ApplePo, AppleDos33, AppleProdos, Mac400, Mac800, C1571, AmigaHd, C8050, C8250, C1581, Numbered}
use Rattle.law_stated_tables.specs.Laws.{IsStated, IsStatedName, IsStatedWord, NoOtherWords}
use Rattle.law_stated_tables.specs.Table.{StatedFormat, stated_formats}
use Rattle.law_stated_tables.specs.Words.{AreNumbers, FitTrack, StatedNumbers, WritesNumbers, bytes_of_turn, numbers_text, stated_by}
use Rattle.law_stated_tables.proofs.Named.{names_are_stated}
use Rattle.law_stated_tables.proofs.Numbers.{numbers_are_stated}
use Rattle.law_stated_tables.proofs.Fit.{few_sectors, room}
use Rattle.law_stated_tables.proofs.Rates.{begins, is_listed, of_fit, size_listed, stated_rate}

-- a row of the second table has this word
abbrev HasStatedName : List ℕ → Type 0
HasStatedName word = (stated : StatedFormat) × Contains stated_formats stated × (stated.word ≡ word)

-- the row of a number
abbrev stated_at : ℕ → StatedFormat
stated_at k = get_or stated_formats k (record { word = []; cylinders = 0; heads = 0; first_sector = 0; bytes = 0; image = 0; by_head = false; step = 1; zones = [] })

-- the names of disks by their numbers, one by one
abbrev HasName : NamedDisk → Type 0
HasName row = HasStatedName row.word

abbrev row_at : ℕ → NamedDisk
row_at k = get_or named_disks k (record { word = []; label = []; disk = record { cylinders = 40; heads = 1; rate = Double; track = pc_8 } })

name_of : (row : NamedDisk) → Contains named_disks row → HasStatedName row.word
name_of row listed =
    let from_8 = All-cons HasName (row_at 8) (drop 9 named_disks) (stated_at 17, (17, omega arith, refl), refl) (All-nil HasName) in
    let from_7 = All-cons HasName (row_at 7) (drop 8 named_disks) (stated_at 16, (16, omega arith, refl), refl) from_8 in
    let from_6 = All-cons HasName (row_at 6) (drop 7 named_disks) (stated_at 15, (15, omega arith, refl), refl) from_7 in
    let from_5 = All-cons HasName (row_at 5) (drop 6 named_disks) (stated_at 14, (14, omega arith, refl), refl) from_6 in
    let from_4 = All-cons HasName (row_at 4) (drop 5 named_disks) (stated_at 13, (13, omega arith, refl), refl) from_5 in
    let from_3 = All-cons HasName (row_at 3) (drop 4 named_disks) (stated_at 12, (12, omega arith, refl), refl) from_4 in
    let from_2 = All-cons HasName (row_at 2) (drop 3 named_disks) (stated_at 11, (11, omega arith, refl), refl) from_3 in
    let from_1 = All-cons HasName (row_at 1) (drop 2 named_disks) (stated_at 10, (10, omega arith, refl), refl) from_2 in
    let from_0 = All-cons HasName (row_at 0) (drop 1 named_disks) (stated_at 9, (9, omega arith, refl), refl) from_1 in
    All-contains HasName named_disks row from_0 listed

-- the numbers that a word writes, as the second statement has them
abbrev numbers_of : DiskNumbers → StatedNumbers
numbers_of m = record {
  rate = stated_rate m.rate;
  cylinders = m.cylinders;
  heads = m.heads;
  sectors = m.sectors;
  bytes = m.sector_bytes;
  first = m.first_sector;
}

module _ (word : List ℕ) (m : DiskNumbers) (is : IsWordOf word m) where
  -- the word up to what stands behind the sectors
  text_is : word ≡ (stated_rate m.rate).word ++ (decimal m.cylinders ++ 120 ∷ (decimal m.heads ++ 120 ∷ (decimal m.sectors ++ 120 ∷ is.behind.behind_sectors)))
  text_is =
      let sectors = is.behind.sectors in
      let heads = is.behind.heads ∙ ap (λ (l : List ℕ). decimal m.heads ++ 120 ∷ l) sectors in
      let all = is.behind.cylinders ∙ ap (λ (l : List ℕ). decimal m.cylinders ++ 120 ∷ l) heads in
      is.is ∙ sym (begins m.rate is.rest) ∙ ap (λ (l : List ℕ). (stated_rate m.rate).word ++ l) all

  abbrev WithEnd : List ℕ → Type 0
  WithEnd l = word ≡ (stated_rate m.rate).word ++ (decimal m.cylinders ++ 120 ∷ (decimal m.heads ++ 120 ∷ (decimal m.sectors ++ 120 ∷ l)))

  word_is : EndsWith is.behind.behind_sectors m.sector_bytes m.first_sector
      → (word ≡ numbers_text (numbers_of m) (codes "@" ++ decimal m.first_sector)) ⊎ ((word ≡ numbers_text (numbers_of m) []) × (m.first_sector ≡ 1))
  word_is (inl long) = inl (subst WithEnd long text_is)
  word_is (inr short) = inr (subst WithEnd (short.0 ∙ sym (append-nil (decimal m.sector_bytes))) text_is, short.1)

-- the numbers of a disk are within their bounds
are_numbers : (word : List ℕ) (disk : IbmDisk) (is : WritesDisk word disk) → AreNumbers (numbers_of is.numbers)
are_numbers word disk is =
    let m : DiskNumbers = is.numbers in
    let size = is.is.track.size in
    let bytes = is.is.track.bytes in
    let few = few_sectors m.rate m.sectors m.first_sector size (track_of_disk disk) is.is.track.is in
    let room = room m.rate m.sectors m.first_sector size few.0 (density_of m.rate) (track_of_disk disk) few.3 in
    record {
      rate = is_listed m.rate;
      some_cylinders = is.is.some_cylinders;
      most_cylinders = omega (arith, is.is.few_cylinders);
      some_heads = is.is.some_heads;
      most_heads = is.is.few_heads;
      some_sectors = few.0;
      most_sectors = few.1;
      bytes = subst (Contains (128 ∷ 256 ∷ 512 ∷ 1024 ∷ [])) bytes (size_listed size);
      last = few.2;
      fit = subst (λ (b : ℕ). FitTrack (stated_rate m.rate).is_mfm m.sectors b (bytes_of_turn (stated_rate m.rate))) bytes (of_fit m.rate m.sectors _ room);
    }

-- a word of a disk by its numbers is a name, or writes them
of_disk : (word : List ℕ) (disk : IbmDisk) → IsWordOfDisk word disk → HasStatedName word ⊎ ((n : StatedNumbers) × WritesNumbers word n)
of_disk word disk (inl is) =
    let name = name_of is.row is.listed in
    inl (name.0, name.1, name.2 ∙ is.word_is)
of_disk word disk (inr is) =
    inr (
      numbers_of is.numbers,
      record { are = are_numbers word disk is; word_is = word_is word is.numbers is.written is.written.behind.ends },
    )

stated_word : (word : List ℕ) (format : Format) → IsWordOfFormat word format → HasStatedName word ⊎ ((n : StatedNumbers) × WritesNumbers word n)
stated_word word Ibm3740 is = inl (stated_at 0, (0, omega arith, refl), is)
stated_word word Ibm360 is = inl (stated_at 1, (1, omega arith, refl), is)
stated_word word Ibm720 is = inl (stated_at 2, (2, omega arith, refl), is)
stated_word word Ibm1440 is = inl (stated_at 3, (3, omega arith, refl), is)
stated_word word Amiga is = inl (stated_at 4, (4, omega arith, refl), is)
stated_word word C1541 is = inl (stated_at 5, (5, omega arith, refl), is)
stated_word word C1541Forty is = inl (stated_at 6, (6, omega arith, refl), is)
stated_word word AppleDo is = inl (stated_at 7, (7, omega arith, refl), is)
stated_word word ApplePo is = inl (stated_at 8, (8, omega arith, refl), is)
stated_word word AppleDos33 is = inl (stated_at 18, (18, omega arith, refl), is)
stated_word word AppleProdos is = inl (stated_at 19, (19, omega arith, refl), is)
stated_word word Mac400 is = inl (stated_at 20, (20, omega arith, refl), is)
stated_word word Mac800 is = inl (stated_at 21, (21, omega arith, refl), is)
stated_word word C1571 is = inl (stated_at 22, (22, omega arith, refl), is)
stated_word word AmigaHd is = inl (stated_at 23, (23, omega arith, refl), is)
stated_word word C8050 is = inl (stated_at 24, (24, omega arith, refl), is)
stated_word word C8250 is = inl (stated_at 25, (25, omega arith, refl), is)
stated_word word C1581 is = inl (stated_at 26, (26, omega arith, refl), is)
stated_word word (Numbered disk) is = of_disk word disk is

-- so the format that it names is the one that has the numbers
module _ (one : WordsNameFormats) (word : List ℕ) (format : Format) (is : IsWordOfFormat word format) where
  with_numbers : HasStatedName word ⊎ ((n : StatedNumbers) × WritesNumbers word n) → IsStatedName word format ⊎ IsStatedWord word format
  with_numbers (inl name) =
      let stated : StatedFormat = name.0 in
      let named = names_are_stated stated name.1 in
      let same : named.0 ≡ format = one word named.0 format (subst (λ (w : List ℕ). IsWordOfFormat w named.0) name.2 named.1) is in
      inl (stated, name.1, name.2, subst (IsStated stated) same named.2)
  with_numbers (inr writes) =
      let n : StatedNumbers = writes.0 in
      let named = numbers_are_stated word n writes.1 in
      let same : Numbered named.0 ≡ format = one word (Numbered named.0) format named.1 is in
      inr (n, writes.1, named.0, sym same, subst (IsStated (stated_by word n)) same named.2, named.3)

  pub no_other_word : IsStatedName word format ⊎ IsStatedWord word format
  no_other_word = with_numbers (stated_word word format is)

pub no_other_words : WordsNameFormats → NoOtherWords
no_other_words one word format is = no_other_word one word format is

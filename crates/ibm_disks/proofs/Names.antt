-- The disks that have names, and the search for one.
use Rattle.std.specs.Prelude.{◌≡◌, ℕ, suc, ◌<◌, ◌≤◌, Bool, true, false, cond, not, ◌&&◌, ◌||◌, Contains, List, [], ◌∷◌, find, get_or, length, map, MatchOption, nat_eq, nat_le, Option, Some, None, IfNone, if◌then◌else◌, option_map, refl}
use Rattle.std.specs.List.{list_all}
use Rattle.std.specs.Str.{bytes_eq}
use Rattle.std.proofs.Common.{ap, arith, inl, inr, sym, subst, ◌∙◌}
use Rattle.std.proofs.lemmas.Bool.{eqb-true, leb-true}
use Rattle.std.proofs.lemmas.List.{get_or-map, length-map}
use Rattle.std.proofs.lemmas.List.Elements.{All-contains}
use Rattle.std.proofs.lemmas.List.Sums.{AllPass-from_list_all}
use Rattle.std.proofs.lemmas.Slice.Eq.{bytes_eq-Decides}
use Rattle.ibm_disks.specs.declared.disk.IbmDisk.{IbmDisk}
use Rattle.ibm_disks.specs.declared.named.Named.{Named}
use Rattle.ibm_disks.specs.declared.rate.Rate.{Rate}
use Rattle.ibm_disks.specs.declared.rate.Rate.TheVariants.{Double, High, HighAt360, Single, SingleAt360}
use Rattle.ibm_disks.specs.declared.sector_size.SectorSize.{SectorSize}
use Rattle.ibm_disks.specs.declared.track_numbers.LeadIn.{LeadIn}
use Rattle.ibm_disks.specs.declared.track_numbers.LeadIn.TheVariants.{Indexed, Bare}
use Rattle.ibm_disks.specs.declared.track_numbers.TrackNumbers.{TrackNumbers}
use Rattle.ibm_disks.specs.Disks.{IsNameOf, IsWordOfDisk, WritesDisk, is_disk, pc_720, sound}
use Rattle.ibm_disks.specs.Named.{NamedDisk, named_disks, row_of, same_disk, same_track}
use Rattle.ibm_disks.specs.Numbers.{mfm_before, size_of}
use Rattle.ibm_disks.specs.GapPlans.{track_bytes}
use Rattle.ibm_disks.specs.Words.{begins_numbers}
use Rattle.ibm_disks.proofs.Tracks.{one-size, same-disk}

-- what is found passes the test, and where nothing is found nothing passes
abbrev pub Finds : {X : Type 0} → (X → Bool) → List X → Option X → Type 0
Finds test rows o = MatchOption o (list_all (λ r. not (test r)) rows ≡ true) (λ r. (test r ≡ true) × Contains rows r)

module _ {X : Type 0} (test : X → Bool) (r : X) (rows : List X) where
  later : (o : Option X) → test r ≡ false → Finds test rows o → Finds test (r ∷ rows) o
  later None is none = rw is none
  later (Some s) is found = (found.0, (suc found.1.0, omega (arith, found.1.1), found.1.2))

  next : (b : Bool) → test r ≡ b → Finds test rows (find test rows) → Finds test (r ∷ rows) (cond b (Some r) (find test rows))
  next true is others = (is, (0, omega arith, refl))
  next false is others = later (find test rows) is others

pub finds : {X : Type 0} (test : X → Bool) (rows : List X) → Finds test rows (find test rows)
finds test [] = refl
finds test (r ∷ rows) = next test r rows (test r) refl (finds test rows)

-- what all rows pass
pub each_row : (test : NamedDisk → Bool) → list_all test named_disks ≡ true → (row : NamedDisk) → Contains named_disks row → test row ≡ true
each_row test all row listed = All-contains (λ (r : NamedDisk). test r ≡ true) named_disks row (AllPass-from_list_all test named_disks all) listed

both : (a b : Bool) → (a && b) ≡ true → (a ≡ true) × (b ≡ true)
both true true is = (refl, refl)
both true false is = absurd (cc)
both false b is = absurd (cc)

not-both : (b : Bool) → not b ≡ true → b ≡ true → ⊥
not-both b is_not is = cc

-- numbers that are the same make one disk
abbrev bytes_back : ℕ → Rate
bytes_back bytes =
    if nat_eq bytes 6250 then Double else if nat_eq bytes 12500 then High else if nat_eq bytes 10416 then HighAt360 else if nat_eq bytes 3125 then Single else SingleAt360

bytes-back : (rate : Rate) → bytes_back (track_bytes rate) ≡ rate
bytes-back Double = refl
bytes-back High = refl
bytes-back HighAt360 = refl
bytes-back Single = refl
bytes-back SingleAt360 = refl

one-rate : (a b : Rate) → track_bytes a ≡ track_bytes b → a ≡ b
one-rate a b same = sym (bytes-back a) ∙ ap bytes_back same ∙ bytes-back b

abbrev before_back : ℕ → LeadIn
before_back before = if nat_eq before 146 then Indexed else Bare

before-back : (lead_in : LeadIn) → before_back (mfm_before lead_in) ≡ lead_in
before-back Indexed = refl
before-back Bare = refl

one-lead-in : (a b : LeadIn) → mfm_before a ≡ mfm_before b → a ≡ b
one-lead-in a b same = sym (before-back a) ∙ ap before_back same ∙ before-back b

one-track : (a b : TrackNumbers) → same_track a b ≡ true → a ≡ b
one-track a b is =
    let last = both _ (nat_eq a.bytes b.bytes) is in
    let gap = both _ (nat_eq a.sector_gap b.sector_gap) last.0 in
    let lead_in = both _ (nat_eq (mfm_before a.lead_in) (mfm_before b.lead_in)) gap.0 in
    let size = both _ (nat_eq (size_of a.size) (size_of b.size)) lead_in.0 in
    let first = both (nat_eq a.sectors b.sectors) (nat_eq a.first_sector b.first_sector) size.0 in
    made (eqb-true _ _ first.0) (eqb-true _ _ first.1) (one-size a.size b.size (eqb-true _ _ size.1))
    (one-lead-in a.lead_in b.lead_in (eqb-true _ _ lead_in.1)) (eqb-true _ _ gap.1) (eqb-true _ _ last.1)
  where
    track : (sectors first : ℕ) → SectorSize → LeadIn → (gap bytes : ℕ) → TrackNumbers
    track sectors first size lead_in gap bytes = record {
      sectors = sectors;
      first_sector = first;
      size = size;
      lead_in = lead_in;
      sector_gap = gap;
      bytes = bytes;
    }

    made : a.sectors ≡ b.sectors → a.first_sector ≡ b.first_sector → a.size ≡ b.size → a.lead_in ≡ b.lead_in → a.sector_gap ≡ b.sector_gap
        → a.bytes ≡ b.bytes → a ≡ b
    made sectors first size lead_in gap bytes =
        ap (λ (k : ℕ). track k a.first_sector a.size a.lead_in a.sector_gap a.bytes) sectors
        ∙ ap (λ (k : ℕ). track b.sectors k a.size a.lead_in a.sector_gap a.bytes) first
        ∙ ap (λ (s : SectorSize). track b.sectors b.first_sector s a.lead_in a.sector_gap a.bytes) size
        ∙ ap (λ (l : LeadIn). track b.sectors b.first_sector b.size l a.sector_gap a.bytes) lead_in
        ∙ ap (λ (k : ℕ). track b.sectors b.first_sector b.size b.lead_in k a.bytes) gap
        ∙ ap (λ (k : ℕ). track b.sectors b.first_sector b.size b.lead_in b.sector_gap k) bytes

pub same-is : (a b : IbmDisk) → same_disk a b ≡ true → a ≡ b
same-is a b is =
    let last = both _ (same_track a.track b.track) is in
    let rate = both _ (nat_eq (track_bytes a.rate) (track_bytes b.rate)) last.0 in
    let first = both (nat_eq a.cylinders b.cylinders) (nat_eq a.heads b.heads) rate.0 in
    same-disk a b (eqb-true _ _ first.0) (eqb-true _ _ first.1) (one-rate a.rate b.rate (eqb-true _ _ rate.1)) (one-track a.track b.track last.1)

-- no two rows with one word have different numbers
either-of : (a b : Bool) → (not a || b) ≡ true → a ≡ true → b ≡ true
either-of true b is same = is
either-of false b is same = absurd (cc)

abbrev agree : NamedDisk → NamedDisk → Bool
agree a b = not (bytes_eq a.word b.word) || same_disk a.disk b.disk

agree_test : list_all (λ a. list_all (agree a) named_disks) named_disks ≡ true
agree_test = refl

pub one-name : (word : List ℕ) (a b : IbmDisk) → IsNameOf word a → IsNameOf word b → a ≡ b
one-name word a b is is' =
    let others = each_row (λ r. list_all (agree r) named_disks) agree_test is.row is.listed in
    let here = each_row (agree is.row) others is'.row is'.listed in
    let same = either-of (bytes_eq is.row.word is'.row.word) (same_disk is.row.disk is'.row.disk) here
    ((bytes_eq-Decides is.row.word is'.row.word).1 (is.word_is ∙ sym is'.word_is)) in
    sym is.disk_is ∙ same-is is.row.disk is'.row.disk same ∙ is'.disk_is

-- no name begins as a word does that writes numbers
begins_test : list_all (λ r. not (begins_numbers r.word)) named_disks ≡ true
begins_test = refl

pub no-numbers : (word : List ℕ) (disk : IbmDisk) → IsNameOf word disk → begins_numbers word ≡ true → ⊥
no-numbers word disk is begins =
    not-both (begins_numbers word)
    (subst (λ (w : List ℕ). not (begins_numbers w) ≡ true) is.word_is (each_row (λ r. not (begins_numbers r.word)) begins_test is.row is.listed)) begins

-- each row has the numbers of a disk, which are the same as themselves
disks_test : list_all (λ r. is_disk r.disk) named_disks ≡ true
unfolding is_disk
disks_test = refl

known-made : (disk : IbmDisk) → is_disk disk ≡ true → sound disk ≡ disk
unfolding sound
known-made disk is = ap (λ (b : Bool). if b then disk else pc_720) is

pub named-made : (word : List ℕ) (disk : IbmDisk) → IsNameOf word disk → sound disk ≡ disk
named-made word disk is =
    subst (λ (d : IbmDisk). sound d ≡ d) is.disk_is (known-made is.row.disk (each_row (λ r. is_disk r.disk) disks_test is.row is.listed))

itself_test : list_all (λ r. same_disk r.disk r.disk) named_disks ≡ true
itself_test = refl

pub named-found : (word : List ℕ) (disk : IbmDisk) → IsNameOf word disk → list_all (λ r. not (same_disk r.disk (sound disk))) named_disks ≡ true → ⊥
named-found word disk is none =
    let here = each_row (λ r. not (same_disk r.disk (sound disk))) none is.row is.listed in
    let own = each_row (λ r. same_disk r.disk r.disk) itself_test is.row is.listed in
    not-both (same_disk is.row.disk is.row.disk)
    (subst (λ (d : IbmDisk). not (same_disk is.row.disk d) ≡ true) (named-made word disk is ∙ sym is.disk_is) here) own

-- names and labels are short
short_test : list_all (λ r. nat_le (length r.word) 32 && nat_le (length r.label) 100) named_disks ≡ true
short_test = refl

pub row-short : (row : NamedDisk) → Contains named_disks row → (length row.word ≤ 32) × (length row.label ≤ 100)
row-short row listed =
    let is = both (nat_le (length row.word) 32) (nat_le (length row.label) 100)
    (each_row (λ r. nat_le (length r.word) 32 && nat_le (length r.label) 100) short_test row listed) in
    (leb-true _ _ is.0, leb-true _ _ is.1)

-- the disk whose name a word is, if it is one's
module _ (word : List ℕ) where
  abbrev has_name : NamedDisk → Bool
  has_name row = bytes_eq row.word word

  name-found : (o : Option NamedDisk) → Finds has_name named_disks o → MatchOption o ((disk : IbmDisk) → ¬ IsNameOf word disk) (λ row. IsNameOf word row.disk)
  name-found None none = λ disk name.
      not-both (has_name name.row) (each_row (λ r. not (has_name r)) none name.row name.listed) ((bytes_eq-Decides name.row.word word).1 name.word_is)
  name-found (Some row) found = record { row = row; listed = found.1; word_is = (bytes_eq-Decides row.word word).0 found.0; disk_is = refl }

  disk-found : (o : Option NamedDisk) (p : Option IbmDisk) → p ≡ option_map (λ row. row.disk) o
      → MatchOption o ((disk : IbmDisk) → ¬ IsNameOf word disk) (λ row. IsNameOf word row.disk) → MatchOption p ((disk : IbmDisk) → ¬ IsNameOf word disk) (IsNameOf word)
  disk-found None p is none = rw is none
  disk-found (Some row) p is found = rw is found

  pub named-disk : (p : Option IbmDisk) → p ≡ option_map (λ row. row.disk) (find (λ row. bytes_eq row.word word) named_disks)
      → MatchOption p ((disk : IbmDisk) → ¬ IsNameOf word disk) (IsNameOf word)
  named-disk p is = disk-found (find has_name named_disks) p is (name-found (find has_name named_disks) (finds has_name named_disks))

-- a disk that a word neither names nor writes
pub neither : (word : List ℕ) (o : Option IbmDisk) → ((disk : IbmDisk) → ¬ IsNameOf word disk) → IfNone o ((disk : IbmDisk) → ¬ WritesDisk word disk)
    → IfNone o ((disk : IbmDisk) → ¬ IsWordOfDisk word disk)
neither word None names writes = λ disk is. elim is [ inl name ↦ names disk name | inr written ↦ writes disk written ]
neither word (Some disk) names writes = tt

-- the rows of the program's table
pub row-at : (rows : List Named) (i : ℕ) (d : Named) → i < length rows → map row_of rows ≡ named_disks → Contains named_disks (row_of (get_or rows i d))
row-at rows i d below is =
    let row : NamedDisk = row_of (get_or rows i d) in
    (i, omega (arith, below, length-map rows row_of, ap length is), ap (λ (some : List NamedDisk). get_or some i row) (sym is) ∙ get_or-map row_of rows i d row below)

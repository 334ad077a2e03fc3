-- One file of the dump more came, and is noted for all disks.
use Rattle.std.proofs.Common.{◌≡◌, ◌≤◌, ◌<◌, ◌+◌, ◌-◌, ◌++◌, ℕ, zero, suc, true, false, List, [], ◌∷◌, length, map, take, drop, Option, None, refl, sym, ap, subst, ◌∙◌, arith, append-nil, length-append, length-drop}
use Rattle.std.specs.Prelude.{All, get_or, nat_eq}
use Rattle.std.proofs.lemmas.Bool.Decides.{nat_tests}
use Rattle.std.proofs.lemmas.List.{drop_all, ext_get_or, get_or-map, length-map, map-append, take_all}
use Rattle.std.proofs.lemmas.List.Elements.{All-from_get_or, All-get_or, All-take}
use borrow.Rule.Slice.PartMut.{mid_of, post_of, put_mid}
use Rattle.flux_base.specs.declared.track.TrackId.{TrackId}
use Rattle.sector_images.specs.declared.format.Format.TheVariants.{Ibm3740}
use Rattle.sector_report.specs.declared.dump_lines.Passed.{Passed}
use Rattle.track_shelf.specs.declared.stepping.Stepping.TheVariants.{Single}
use Rattle.flux_engine.specs.Plans.{Seen}
use Rattle.dump_reading.specs.DumpStreams.{GaveOf}
use Rattle.dump_reading.specs.Files.{ShelfNow}
use Rattle.dump_reading.specs.lemmas.Coming.{came-gave, none_came}
use Rattle.dump_tallies.specs.Files.{of_files, track_of_file}
use Rattle.dump_tallies.specs.Tallies.{AreTallied, NoteFile, NotesFile, TalliedDisk, no_tallies}
use Rattle.dump_tallies.specs.lemmas.Tallied.{tallied-more, tallied-none}
use Rattle.dump_identity.specs.declared.candidate.Candidate.{Candidate}
use Rattle.dump_identity.specs.Outcomes.{files_for}
use Rattle.dump_identity.specs.inside.Outcomes.{HasRead, HaveRead, HaveReadBehind, candidate_in}

true-false : true ≡ false → ⊥
true-false same = cc

is-zero : (n : ℕ) → nat_eq n 0 ≡ true → n ≡ 0
is-zero n is = grind (arith, nat_tests, is)

abbrev no_disk : TalliedDisk
no_disk = no_tallies Single Ibm3740

abbrev no_candidate : Candidate
no_candidate = record { stepping = Single; format = Ibm3740 }

-- disks that are the same but for what came of them
same-disks : (xs ys : List TalliedDisk) → length ys ≡ length xs → ((k : ℕ) → k < length xs → candidate_in (get_or ys k no_disk) ≡ candidate_in (get_or xs k no_disk))
    → map candidate_in ys ≡ map candidate_in xs
same-disks xs ys many same =
    ext_get_or no_candidate (map candidate_in ys) (map candidate_in xs) (length-map ys candidate_in ∙ many ∙ sym (length-map xs candidate_in))
    (λ k low.
    let mine : k < length ys = (let size = length-map ys candidate_in in omega (arith, low, size)) in
    let other : k < length xs = omega (arith, mine, many) in
    get_or-map candidate_in ys k no_disk no_candidate mine ∙ same k other ∙ sym (get_or-map candidate_in xs k no_disk no_candidate other))

-- a file was read
pub has-read : (dump : List ℕ) (number : ℕ) (start now : ShelfNow) (old new : List TalliedDisk) (passed passed' : List (Option Passed)) (file : TrackId) (here here' : Seen) (names : List (List ℕ))
    (why : Option Passed) → names ≡ dump ∷ [] → GaveOf Single names file 0 start now here → here.fault ≡ None → file ≡ track_of_file number → why ≡ here.passed → passed' ≡ passed ++ why ∷ []
    → NoteFile old new file here → here' ≡ here → HasRead dump number start now old new passed passed' here'
has-read dump number start now old new passed passed' file here here' names why named gave whole is why_is grew note same =
    subst (HasRead dump number start now old new passed passed') (sym same)
    (record {
      gave = subst (λ (t : TrackId). GaveOf Single (dump ∷ []) t 0 start now here) is (subst (λ (ns : List (List ℕ)). GaveOf Single ns file 0 start now here) named gave);
      whole = whole;
      passed_are = grew ∙ ap (λ (w : Option Passed). passed ++ w ∷ []) why_is;
      noted = subst (λ (t : TrackId). NoteFile old new t here) is note;
    })

module _ (dump : List ℕ) (start : ShelfNow) (old : List TalliedDisk) where
  pub read-none : (passed : List (Option Passed)) → passed ≡ [] → All (λ (d : TalliedDisk). d.tallies ≡ []) old → HaveRead dump start start old old passed 0 []
  read-none passed none fresh = record {
    many = refl;
    have = none_came (of_files dump) start;
    passed_are = none;
    noted = record {
      same = refl;
      each = All-from_get_or (λ (d : TalliedDisk). AreTallied d []) old no_disk
          (λ k low. tallied-none (get_or old k no_disk) (All-get_or (λ (d : TalliedDisk). d.tallies ≡ []) old k no_disk low fresh));
    };
  }

  pub read-more : (mid now : ShelfNow) (disks disks' : List TalliedDisk) (passed passed' : List (Option Passed)) (number : ℕ) (came : List Seen) (here : Seen)
      → HaveRead dump start mid old disks passed number came → HasRead dump number mid now disks disks' passed passed' here → HaveRead dump start now old disks' passed' (number + 1) (came ++ here ∷ [])
  read-more mid now disks disks' passed passed' number came here h r = record {
    many = length-append came (here ∷ []) ∙ ap (λ (n : ℕ). n + 1) h.many;
    have = came-gave (of_files dump) start mid came (length came) 0 (omega arith) (omega arith) h.have (track_of_file number) at now here r.gave;
    passed_are = r.passed_are ∙ ap (λ (ps : List (Option Passed)). ps ++ here.passed ∷ []) h.passed_are ∙ sym (map-append (λ (s : Seen). s.passed) came (here ∷ []));
    noted = record {
      same = same-disks disks disks' r.noted.many (λ k low. ap candidate_in (one k low).disk) ∙ h.noted.same;
      each = All-from_get_or (λ (d : TalliedDisk). AreTallied d (came ++ here ∷ [])) disks' no_disk
          (λ k low.
          let below : k < length disks = (let many = r.noted.many in omega (arith, low, many)) in
          tallied-more (get_or disks k no_disk) came here (All-get_or (λ (d : TalliedDisk). AreTallied d came) disks k no_disk below h.noted.each) r.whole (get_or disks' k no_disk)
          (subst (λ (t : TrackId). NotesFile (get_or disks k no_disk) (get_or disks' k no_disk) t here) (sym at) (one k below)));
    };
  }
    where
      at : track_of_file (length came) ≡ track_of_file number
      at = ap track_of_file h.many

      one : (k : ℕ) → k < length disks → NotesFile (get_or disks k no_disk) (get_or disks' k no_disk) (track_of_file number) here
      one k below = r.noted.each k no_disk below

  module _ (now : ShelfNow) (disks : List TalliedDisk) (passed : List (Option Passed)) (number : ℕ) (came : List Seen) (h : HaveRead dump start now old disks passed number came) where
    -- as many of each disk are noted
    pub noted-many : (k : ℕ) (d : TalliedDisk) → k < length disks → length (get_or disks k d).tallies ≡ number
    noted-many k d low = (All-get_or (λ (disk : TalliedDisk). AreTallied disk came) disks k d low h.noted.each).many ∙ h.many

    -- there is room for why one more is passed over
    pub room-more : (room : ℕ) → number < 200 → 200 ≤ room → length passed < room
    room-more room low many =
        let long : length passed ≡ number = ap (λ (ps : List (Option Passed)). length ps) h.passed_are ∙ length-map came (λ (s : Seen). s.passed) ∙ h.many in
        omega (arith, long, low, many)

    -- all came that are opened for some disks
    pub read-all : 200 ≤ number → number ≤ 200 → nat_eq (length old) 0 ≡ false → HaveRead dump start now old disks passed (files_for (length old)) came
    read-all past within some = subst (λ (n : ℕ). HaveRead dump start now old disks passed n came) (omega (arith, past, within) ∙ sym (all (length old) some)) h
      where
        all : (count : ℕ) → nat_eq count 0 ≡ false → files_for count ≡ 200
        all zero never = absurd (true-false never)
        all (suc n) some = refl

  -- none are for none
  pub read-no : (passed : List (Option Passed)) → passed ≡ [] → All (λ (d : TalliedDisk). d.tallies ≡ []) old → nat_eq (length old) 0 ≡ true
      → HaveRead dump start start old old passed (files_for (length old)) []
  read-no passed none fresh empty = subst (λ (n : ℕ). HaveRead dump start start old old passed n []) (sym (no (length old) empty)) (read-none passed none fresh)
    where
      no : (count : ℕ) → nat_eq count 0 ≡ true → files_for count ≡ 0
      no zero is = refl
      no (suc n) never = absurd (let none = is-zero (suc n) never in omega (arith, none))

-- of those of the disks behind a place none was read
pub behind-fresh : (place rest : ℕ) (old : List TalliedDisk) → All (λ (d : TalliedDisk). d.tallies ≡ []) (drop place old) → All (λ (d : TalliedDisk). d.tallies ≡ []) (mid_of place rest old)
behind-fresh place rest old fresh = All-take (λ (d : TalliedDisk). d.tallies ≡ []) rest (drop place old) fresh

-- the disks behind a place were read
pub read-behind : (dump : List ℕ) (start now : ShelfNow) (place rest : ℕ) (old new : List TalliedDisk) (passed : List (Option Passed)) (came : List Seen) → place ≤ length old → rest ≡ length old - place
    → HaveRead dump start now (mid_of place rest old) new passed (files_for (length (mid_of place rest old))) came → HaveReadBehind dump start now place old (put_mid place rest old new) passed
read-behind dump start now place rest old new passed came within rest_is read = record {
  behind = new;
  are = ap (λ (ds : List TalliedDisk). take place old ++ (new ++ ds)) none ∙ ap (λ (ds : List TalliedDisk). take place old ++ ds) (append-nil new);
  came = came;
  read = subst (λ (ds : List TalliedDisk). HaveRead dump start now ds new passed (files_for (length ds)) came) part read;
}
  where
    many : length (drop place old) ≤ rest
    many = omega (arith, length-drop place old, rest_is)

    part : mid_of place rest old ≡ drop place old
    part = take_all rest (drop place old) many

    none : post_of place rest old ≡ []
    none = drop_all rest (drop place old) many

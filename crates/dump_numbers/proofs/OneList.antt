-- The files of a dump decide which disks they tell.
use Rattle.std.proofs.Common.{◌≡◌, ◌<◌, ◌≤◌, ◌+◌, ◌*◌, ◌/◌, ◌%◌, ◌∙◌, ◌&&◌, ℕ, zero, suc, Bool, true, false, List, [], ◌∷◌, ◌++◌, Option, Some, None, Result, get_or, length, refl, sym, ap, subst, arith}
use Rattle.std.specs.Prelude.{flat_map}
use Rattle.std.proofs.lemmas.Bool.{lt-ltb}
use Rattle.std.proofs.lemmas.List.{ext_get_or}
use Rattle.flux_base.specs.declared.track.TrackId.{TrackId}
use Rattle.flux_engine.specs.LoopProgress.{seen_at}
use Rattle.flux_engine.specs.Plans.{Seen}
use Rattle.ibm_disks.specs.Numbers.{code_of}
use Rattle.ibm_disks.specs.declared.rate.Rate.{Rate}
use Rattle.ibm_disks.specs.declared.sector_size.SectorSize.{SectorSize}
use Rattle.ibm_disks.specs.declared.sector_size.SectorSize.TheVariants.{Bytes128, Bytes256, Bytes512, Bytes1024}
use Rattle.scp_files.specs.declared.fault.ScpTrackFault.{ScpTrackFault}
use Rattle.track_shelf.specs.Files.{File}
use Rattle.track_shelf.specs.declared.stepping.Stepping.TheVariants.{Single}
use Rattle.dump_reading.specs.DumpStreams.{AreOfDumps, FailedAlike, IsOrFailed, seen_of, track_in}
use Rattle.dump_reading.specs.lemmas.Alike.{one-stream}
use Rattle.told_disks.specs.Disks.{AreToldDisks}
use Rattle.told_disks.specs.Foreign.{AreForeignDisks}
use Rattle.told_disks.specs.Laws.{ForeignDisksAreOne, ToldDisksAreOne}
use Rattle.told_disks.specs.Names.{has, set_at}
use Rattle.told_disks.specs.declared.disks.NumberedDisk.{NumberedDisk}
use Rattle.told_disks.specs.declared.foreign.ForeignDisk.{ForeignDisk}
use Rattle.told_disks.specs.declared.heads.NamedHeads.{NamedHeads}
use Rattle.told_disks.specs.declared.heads.NamedHeads.TheVariants.{Changed, First, Own}
use Rattle.dump_numbers.specs.Found.{AreByNumbers, AreForeign, files_of}
use Rattle.dump_numbers.specs.Laws.{NumbersAreOne}
use Rattle.dump_numbers.specs.Rates.{rates}
use Rattle.dump_numbers.specs.Sets.{AreSetsOf, IsSetOf, double_file, track_number}

-- the size of a code
size_of_code : ℕ → SectorSize
size_of_code zero = Bytes128
size_of_code (suc zero) = Bytes256
size_of_code (suc (suc zero)) = Bytes512
size_of_code (suc (suc (suc n))) = Bytes1024

code_is : (n : ℕ) → n < 4 → code_of (size_of_code n) ≡ n
unfolding size_of_code
code_is zero low = refl
code_is (suc zero) low = refl
code_is (suc (suc zero)) low = refl
code_is (suc (suc (suc zero))) low = refl
code_is (suc (suc (suc (suc n)))) low = absurd (omega (arith, low))

-- a set has a number where its bit is set
bit_is : (set : List Bool) (size : SectorSize) (number : ℕ) → number < 256 → has set size number ≡ get_or set (256 * code_of size + number) false
unfolding has
bit_is set size number low = ap (λ (b : Bool). b && get_or set (256 * code_of size + number) false) (lt-ltb number 256 low)

same_bool : (a b : Bool) → (a ≡ true → b ≡ true) → (b ≡ true → a ≡ true) → a ≡ b
same_bool true true there back = refl
same_bool true false there back = sym (there refl)
same_bool false true there back = back refl
same_bool false false there back = refl

-- a file has one set
one_set : (heads : NamedHeads) (rate : Rate) (here : Seen) (own : TrackId) (a b : List Bool) → IsSetOf heads rate here own a → IsSetOf heads rate here own b → a ≡ b
one_set heads rate here own a b x y = ext_get_or false a b (x.full ∙ sym y.full) each
  where
    each : (i : ℕ) → i < length a → get_or a i false ≡ get_or b i false
    each i low =
        let full = x.full in
        let size : SectorSize = size_of_code (i / 256) in
        let number : ℕ = i % 256 in
        let few : number < 256 = omega arith in
        let at : 256 * code_of size + number ≡ i = ap (λ (c : ℕ). 256 * c + number) (code_is (i / 256) (omega (arith, low, full))) ∙ omega arith in
        ap (λ (k : ℕ). get_or a k false) (sym at) ∙ sym (bit_is a size number few)
        ∙ same_bool (has a size number) (has b size number) (λ is. (y.has_named size number).1 ((x.has_named size number).0 is)) (λ is. (x.has_named size number).1 ((y.has_named size number).0 is))
        ∙ bit_is b size number few ∙ ap (λ (k : ℕ). get_or b k false) at

-- so a dump has one list of them by each step
module _ (heads : NamedHeads) (rate : Rate) (came : List Seen) (one two one' two' : List (List Bool)) (x : AreSetsOf heads rate came one two) (y : AreSetsOf heads rate came one' two') where
  same_one : one ≡ one'
  same_one =
      let many = x.all_one in
      ext_get_or [] one one' (x.all_one ∙ sym y.all_one)
      (λ i low.
      let few : i < 198 = omega (arith, low, many) in
      one_set heads rate (seen_at came i) (track_number i) (get_or one i []) (get_or one' i []) (x.one_step i few) (y.one_step i few))

  same_two : two ≡ two'
  same_two =
      let many = x.all_two in
      ext_get_or [] two two' (x.all_two ∙ sym y.all_two)
      (λ i low.
      let few : i < 84 = omega (arith, low, many) in
      one_set heads rate (seen_at came (double_file i)) (track_number i) (get_or two i []) (get_or two' i []) (x.two_steps i few) (y.two_steps i few))

-- a list by two functions that agree
flat_agree : {X Y : Type 0} (f g : X → List Y) → ((x : X) → f x ≡ g x) → (xs : List X) → flat_map f xs ≡ flat_map g xs
flat_agree f g same [] = refl
flat_agree f g same (x ∷ xs) = ap (λ (ys : List _). ys ++ flat_map f xs) (same x) ∙ ap (λ (ys : List _). g x ++ ys) (flat_agree f g same xs)

-- and tells one list of disks
one_told : ToldDisksAreOne → (came : List Seen) (a b : List NumberedDisk) → AreByNumbers came a → AreByNumbers came b → a ≡ b
one_told told came a b x y = x.are ∙ flat_agree x.by_rate y.by_rate each rates ∙ sym y.are
  where
    each : (rate : Rate) → x.by_rate rate ≡ y.by_rate rate
    each rate =
        told rate (x.one rate) (x.two rate) (x.by_rate rate) (y.by_rate rate) (x.told rate)
        (subst (λ (one : List (List Bool)). AreToldDisks rate one (x.two rate) (y.by_rate rate)) (sym (same_one Own rate came (x.one rate) (x.two rate) (y.one rate) (y.two rate) (x.sets rate) (y.sets rate)))
        (subst (λ (two : List (List Bool)). AreToldDisks rate (y.one rate) two (y.by_rate rate)) (sym (same_two Own rate came (x.one rate) (x.two rate) (y.one rate) (y.two rate) (x.sets rate) (y.sets rate)))
        (y.told rate)))

-- and one of those whose headers name other heads
one_foreign : ForeignDisksAreOne → (came : List Seen) (a b : List ForeignDisk) → AreForeign came a → AreForeign came b → a ≡ b
one_foreign told came a b x y = x.are ∙ flat_agree x.by_rate y.by_rate each rates ∙ sym y.are
  where
    each : (rate : Rate) → x.by_rate rate ≡ y.by_rate rate
    each rate =
        let first_one = same_one First rate came (x.first_one rate) (x.first_two rate) (y.first_one rate) (y.first_two rate) (x.first rate) (y.first rate) in
        let first_two = same_two First rate came (x.first_one rate) (x.first_two rate) (y.first_one rate) (y.first_two rate) (x.first rate) (y.first rate) in
        let changed_one = same_one Changed rate came (x.changed_one rate) (x.changed_two rate) (y.changed_one rate) (y.changed_two rate) (x.changed rate) (y.changed rate) in
        let changed_two = same_two Changed rate came (x.changed_one rate) (x.changed_two rate) (y.changed_one rate) (y.changed_two rate) (x.changed rate) (y.changed rate) in
        told rate (x.first_one rate) (x.first_two rate) (x.changed_one rate) (x.changed_two rate) (x.by_rate rate) (y.by_rate rate) (x.told rate)
        (subst (λ (one : List (List Bool)). AreForeignDisks rate one (x.first_two rate) (x.changed_one rate) (x.changed_two rate) (y.by_rate rate)) (sym first_one)
        (subst (λ (two : List (List Bool)). AreForeignDisks rate (y.first_one rate) two (x.changed_one rate) (x.changed_two rate) (y.by_rate rate)) (sym first_two)
        (subst (λ (one : List (List Bool)). AreForeignDisks rate (y.first_one rate) (y.first_two rate) one (x.changed_two rate) (y.by_rate rate)) (sym changed_one)
        (subst (λ (two : List (List Bool)). AreForeignDisks rate (y.first_one rate) (y.first_two rate) (y.changed_one rate) two (y.by_rate rate)) (sym changed_two) (y.told rate)))))

abbrev no_seen : Seen
no_seen = record { fault = None; passed = None; times = []; indexes = [] }

-- the same came of the same files
module _ (dump : List ℕ) (files : List File) (told told' : Option (List File)) (known : told ≡ Some files) (known' : told' ≡ Some files) (came came' : List Seen) (all : 198 ≤ length came)
    (all' : 198 ≤ length came') (have : AreOfDumps (files_of dump) told came) (have' : AreOfDumps (files_of dump) told' came') (alike : FailedAlike came came') where
  one_seen : (number : ℕ) → number < 198 → seen_at came' number ≡ seen_at came number
  one_seen i low =
      let at : i * 1 + 0 ≡ i = omega arith in
      let file : Option (Result (List ℕ) ScpTrackFault) = track_in Single (dump ∷ []) files (track_number i) 0 in
      let one : IsOrFailed (seen_at came i) (seen_of file) =
      subst (λ (k : ℕ). IsOrFailed (seen_at came k) (seen_of file)) at (have files known i 0 (omega arith) (omega arith) (omega (arith, low, all))) in
      let other : IsOrFailed (seen_at came' i) (seen_of file) =
      subst (λ (k : ℕ). IsOrFailed (seen_at came' k) (seen_of file)) at (have' files known' i 0 (omega arith) (omega arith) (omega (arith, low, all'))) in
      sym (one-stream file (seen_at came i) (seen_at came' i) one other (alike i (omega (arith, low, all)) (omega (arith, low, all'))))

  -- so their sets are the same
  over : (heads : NamedHeads) (rate : Rate) (one two : List (List Bool)) → AreSetsOf heads rate came' one two → AreSetsOf heads rate came one two
  over heads rate one two are = record {
    all_one = are.all_one;
    all_two = are.all_two;
    one_step = λ number low. subst (λ (s : Seen). IsSetOf heads rate s (track_number number) (set_at one number)) (one_seen number low) (are.one_step number low);
    two_steps = λ number low.
        subst (λ (s : Seen). IsSetOf heads rate s (track_number number) (set_at two number)) (one_seen (double_file number) (omega (arith, low))) (are.two_steps number low);
  }

  numbers_over : (disks : List NumberedDisk) → AreByNumbers came' disks → AreByNumbers came disks
  numbers_over disks are = record {
    one = are.one;
    two = are.two;
    sets = λ rate. over Own rate (are.one rate) (are.two rate) (are.sets rate);
    by_rate = are.by_rate;
    told = are.told;
    are = are.are;
  }

  foreign_over : (disks : List ForeignDisk) → AreForeign came' disks → AreForeign came disks
  foreign_over disks are = record {
    first_one = are.first_one;
    first_two = are.first_two;
    first = λ rate. over First rate (are.first_one rate) (are.first_two rate) (are.first rate);
    changed_one = are.changed_one;
    changed_two = are.changed_two;
    changed = λ rate. over Changed rate (are.changed_one rate) (are.changed_two rate) (are.changed rate);
    by_rate = are.by_rate;
    told = are.told;
    are = are.are;
  }

pub numbers_one : ToldDisksAreOne → ForeignDisksAreOne → NumbersAreOne
numbers_one numbers foreign dump files told told' known known' came came' all all' have have' alike a b one other = (
  one_told numbers came a.disks.items b.disks.items one.by_numbers
      (numbers_over dump files told told' known known' came came' all all' have have' alike b.disks.items other.by_numbers),
  one_foreign foreign came a.foreign.items b.foreign.items one.foreign
      (foreign_over dump files told told' known known' came came' all all' have have' alike b.foreign.items other.foreign),
)

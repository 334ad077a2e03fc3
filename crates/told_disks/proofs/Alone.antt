-- Sets tell one list of disks.
use Rattle.std.proofs.Common.{◌≡◌, ℕ, Bool, true, false, List, [], ◌∷◌, ◌++◌, Option, Some, None, refl, sym, ap, subst, ◌∙◌, inl, inr, arith, append_assoc, append-nil}
use Rattle.std.specs.Prelude.{flat_map, option_to_list}
use Rattle.ibm_disks.specs.Disks.{IsDiskOf}
use Rattle.ibm_disks.specs.declared.disk.IbmDisk.{IbmDisk}
use Rattle.ibm_disks.specs.declared.rate.Rate.{Rate}
use Rattle.ibm_disks.specs.declared.sector_size.SectorSize.{SectorSize}
use Rattle.ibm_disks.specs.declared.sector_size.SectorSize.TheVariants.{Bytes128, Bytes256, Bytes512, Bytes1024}
use Rattle.track_shelf.specs.declared.stepping.Stepping.{Stepping}
use Rattle.track_shelf.specs.declared.stepping.Stepping.TheVariants.{Single, Double}
use Rattle.told_disks.specs.Disks.{AreOfKinds, IsToldDisk, IsToldIf, kinds, numbers_of}
use Rattle.told_disks.specs.Foreign.{IsDiskAt, IsDiskIf, IsForeignIf}
use Rattle.told_disks.specs.Laws.{ForeignDisksAreOne, ToldDisksAreOne}
use Rattle.told_disks.specs.Named.{is_covered}
use Rattle.told_disks.specs.Told.{Tells, TellsIf, sets_by}
use Rattle.told_disks.specs.declared.disks.NumberedDisk.{NumberedDisk}
use Rattle.told_disks.specs.declared.foreign.ForeignDisk.{ForeignDisk}
use Rattle.told_disks.specs.declared.heads.NamedHeads.{NamedHeads}
use Rattle.told_disks.specs.declared.heads.NamedHeads.TheVariants.{Changed, First, Own}
use Rattle.told_disks.specs.declared.told.Told.{Told}
use Rattle.told_disks.specs.lemmas.OneDisk.{one_disk}

-- they tell the same numbers
pub one_told : (sets : List (List Bool)) (size : SectorSize) (a b : Told) → Tells sets size a → Tells sets size b → a ≡ b
one_told sets size a b x y =
    ap (λ (n : ℕ). record { first = n; last = a.last; cylinders = a.cylinders; heads = a.heads }) first
    ∙ ap (λ (n : ℕ). record { first = b.first; last = n; cylinders = a.cylinders; heads = a.heads }) last
    ∙ ap (λ (n : ℕ). record { first = b.first; last = b.last; cylinders = n; heads = a.heads }) cylinders
    ∙ ap (λ (n : ℕ). record { first = b.first; last = b.last; cylinders = b.cylinders; heads = n }) heads
  where
    first : a.first ≡ b.first
    first = let one = (x.within b.first y.first).0 in let other = (y.within a.first x.first).0 in omega (arith, one, other)

    last : a.last ≡ b.last
    last = let one = (x.within b.last y.last).1 in let other = (y.within a.last x.last).1 in omega (arith, one, other)

    cylinders : a.cylinders ≡ b.cylinders
    cylinders =
        let one = (y.reach x.cylinder.0 x.cylinder.1).0 in
        let other = (x.reach y.cylinder.0 y.cylinder.1).0 in
        let at = x.cylinder.2 in
        let at' = y.cylinder.2 in
        omega (arith, one, other, at, at')

    heads : a.heads ≡ b.heads
    heads =
        let one = (y.reach x.head.0 x.head.1).1 in
        let other = (x.reach y.head.0 y.head.1).1 in
        let at = x.head.2 in
        let at' = y.head.2 in
        omega (arith, one, other, at, at')

module _ (heads : NamedHeads) (rate : Rate) (size : SectorSize) (stepping : Stepping) (one two : List (List Bool)) where
  one_numbered : (a b : NumberedDisk) → IsToldDisk heads rate size stepping one two a → IsToldDisk heads rate size stepping one two b → a ≡ b
  one_numbered a b x y =
      let same = one_told (sets_by stepping one two) size y.told x.told y.tells x.tells in
      ap (λ (s : Stepping). record { stepping = s; disk = a.disk }) (x.stepping_is ∙ sym y.stepping_is)
      ∙ ap (λ (d : IbmDisk). record { stepping = b.stepping; disk = d })
      (one_disk (numbers_of rate size x.told) a.disk b.disk x.is (subst (λ (t : Told). IsDiskOf (numbers_of rate size t) b.disk) same y.is))

  one_if : (a b : Option NumberedDisk) → IsToldIf heads rate size stepping one two a → IsToldIf heads rate size stepping one two b → a ≡ b
  one_if None None x y = refl
  one_if None (Some b) x y = absurd (x b y)
  one_if (Some a) None x y = absurd (y a x)
  one_if (Some a) (Some b) x y = ap (λ (d : NumberedDisk). Some d) (one_numbered a b x y)

  -- there is none, where nothing is told
  pub none_told : TellsIf (sets_by stepping one two) size None → IsToldIf heads rate size stepping one two None
  none_told none disk is = none is.tells.cylinder.0 is.tells.cylinder.1

  module _ (told : Told) (tells : Tells (sets_by stepping one two) size told) where
    same_told : (disk : NumberedDisk) (is : IsToldDisk heads rate size stepping one two disk) → is.told ≡ told
    same_told disk is = one_told (sets_by stepping one two) size is.told told is.tells tells

    -- nor where a disk that has a name covers the numbers
    pub none_covered : is_covered heads stepping (numbers_of rate size told) ≡ true → IsToldIf heads rate size stepping one two None
    none_covered covered disk is = no (sym is.not_covered ∙ ap (λ (t : Told). is_covered heads stepping (numbers_of rate size t)) (same_told disk is) ∙ covered)
      where
        no : false ≡ true → ⊥
        no e = cc

    -- nor where they are no disk's
    pub none_of_numbers : ((disk : IbmDisk) → IsDiskOf (numbers_of rate size told) disk → ⊥) → IsToldIf heads rate size stepping one two None
    none_of_numbers none disk is = none disk.disk (subst (λ (t : Told). IsDiskOf (numbers_of rate size t) disk.disk) (same_told disk is) is.is)

-- what is told of each size and each step
module _ {Disk : Type 0} (IsIf : SectorSize → Stepping → Option Disk → Type 0) (a b c d e f g h : Option Disk) where
  pick : SectorSize → Stepping → Option Disk
  pick Bytes128 Single = a
  pick Bytes128 Double = b
  pick Bytes256 Single = c
  pick Bytes256 Double = d
  pick Bytes512 Single = e
  pick Bytes512 Double = f
  pick Bytes1024 Single = g
  pick Bytes1024 Double = h

  pub all_kinds : IsIf Bytes128 Single a → IsIf Bytes128 Double b → IsIf Bytes256 Single c → IsIf Bytes256 Double d → IsIf Bytes512 Single e
      → IsIf Bytes512 Double f → IsIf Bytes1024 Single g → IsIf Bytes1024 Double h
      → AreOfKinds IsIf (option_to_list a ++ (option_to_list b ++ (option_to_list c ++ (option_to_list d ++ (option_to_list e ++ (option_to_list f ++ (option_to_list g ++ (option_to_list h ++ []))))))))
  unfolding pick
  all_kinds is_a is_b is_c is_d is_e is_f is_g is_h = record { each = pick; told = told; are = refl }
    where
      told : (size : SectorSize) (stepping : Stepping) → IsIf size stepping (pick size stepping)
      told Bytes128 Single = is_a
      told Bytes128 Double = is_b
      told Bytes256 Single = is_c
      told Bytes256 Double = is_d
      told Bytes512 Single = is_e
      told Bytes512 Double = is_f
      told Bytes1024 Single = is_g
      told Bytes1024 Double = is_h

-- pairs of lists that were appended one after another
pub appended : {X : Type 0} (before one two three four a b c d e f g h : List X) → one ≡ (before ++ a) ++ b → two ≡ (one ++ c) ++ d → three ≡ (two ++ e) ++ f → four ≡ (three ++ g) ++ h
    → four ≡ before ++ (a ++ (b ++ (c ++ (d ++ (e ++ (f ++ (g ++ (h ++ []))))))))
appended before one two three four a b c d e f g h is_one is_two is_three is_four =
    rw (is_four, is_three, is_two, is_one) (simp (append_assoc, append-nil))

-- a list by two functions that agree
flat_agree : {X Y : Type 0} (f g : X → List Y) → ((x : X) → f x ≡ g x) → (xs : List X) → flat_map f xs ≡ flat_map g xs
flat_agree f g same [] = refl
flat_agree f g same (x ∷ xs) = ap (λ (ys : List _). ys ++ flat_map f xs) (same x) ∙ ap (λ (ys : List _). g x ++ ys) (flat_agree f g same xs)

-- disks of which there is one at most of each kind
kinds_one : {Disk : Type 0} (IsIf : SectorSize → Stepping → Option Disk → Type 0)
    → ((size : SectorSize) (stepping : Stepping) (a b : Option Disk) → IsIf size stepping a → IsIf size stepping b → a ≡ b)
    → (disks others : List Disk) → AreOfKinds IsIf disks → AreOfKinds IsIf others → disks ≡ others
kinds_one IsIf one disks others x y =
    x.are
    ∙ flat_agree (λ kind. option_to_list (x.each kind.0 kind.1)) (λ kind. option_to_list (y.each kind.0 kind.1))
    (λ kind. ap option_to_list (one kind.0 kind.1 (x.each kind.0 kind.1) (y.each kind.0 kind.1) (x.told kind.0 kind.1) (y.told kind.0 kind.1))) kinds
    ∙ sym y.are

pub told_one : ToldDisksAreOne
told_one rate one two disks others x y =
    kinds_one (λ size stepping disk. IsToldIf Own rate size stepping one two disk)
    (λ size stepping a b. one_if Own rate size stepping one two a b) disks others x y

module _ (heads : NamedHeads) (rate : Rate) (size : SectorSize) (stepping : Stepping) (one two : List (List Bool)) where
  disk_one : (a b : ForeignDisk) → IsDiskAt heads rate size stepping one two a → IsDiskAt heads rate size stepping one two b → a ≡ b
  disk_one a b x y =
      ap (λ (h : NamedHeads). record { heads = h; disk = a.disk }) (x.heads_are ∙ sym y.heads_are)
      ∙ ap (λ (d : NumberedDisk). record { heads = b.heads; disk = d }) (one_numbered heads rate size stepping one two a.disk b.disk x.told y.told)

  one_disk_if : (a b : Option ForeignDisk) → IsDiskIf heads rate size stepping one two a → IsDiskIf heads rate size stepping one two b → a ≡ b
  one_disk_if None None x y = refl
  one_disk_if None (Some b) x y = absurd (x b y)
  one_disk_if (Some a) None x y = absurd (y a x)
  one_disk_if (Some a) (Some b) x y = ap (λ (d : ForeignDisk). Some d) (disk_one a b x y)

pub foreign_one : ForeignDisksAreOne
foreign_one rate first_one first_two changed_one changed_two disks others x y =
    kinds_one (IsForeignIf rate first_one first_two changed_one changed_two) one disks others x y
  where
    one : (size : SectorSize) (stepping : Stepping) (a b : Option ForeignDisk) → IsForeignIf rate first_one first_two changed_one changed_two size stepping a
        → IsForeignIf rate first_one first_two changed_one changed_two size stepping b → a ≡ b
    one size stepping a b (inl is_a) (inl is_b) = one_disk_if Changed rate size stepping changed_one changed_two a b is_a.1 is_b.1
    one size stepping a b (inl is_a) (inr is_b) = absurd (is_b.0 is_a.0)
    one size stepping a b (inr is_a) (inl is_b) = absurd (is_a.0 is_b.0)
    one size stepping a b (inr is_a) (inr is_b) = one_disk_if First rate size stepping first_one first_two a b is_a.1 is_b.1

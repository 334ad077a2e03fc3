-- A disk that the sets of its rate tell is among those that all sets tell.
use Rattle.std.proofs.Common.{◌≡◌, ◌+◌, ◌-◌, ◌∙◌, ℕ, zero, suc, Bool, List, [], ◌∷◌, Option, Some, None, refl, sym, ap, subst, arith}
use Rattle.std.specs.Prelude.{Contains, flat_map, option_to_list}
use Rattle.std.proofs.lemmas.List.Elements.{Contains-append_left, Contains-append_right}
use Rattle.flux_engine.specs.Plans.{Seen}
use Rattle.ibm_disks.specs.Disks.{IsDiskOf}
use Rattle.ibm_disks.specs.declared.disk.IbmDisk.{IbmDisk}
use Rattle.ibm_disks.specs.declared.rate.Rate.{Rate}
use Rattle.ibm_disks.specs.declared.rate.Rate.TheVariants.{Double as DoubleRate, High, HighAt360, Single as SingleRate, SingleAt360}
use Rattle.ibm_disks.specs.declared.sector_size.SectorSize.{SectorSize}
use Rattle.ibm_disks.specs.declared.sector_size.SectorSize.TheVariants.{Bytes128, Bytes256, Bytes512, Bytes1024}
use Rattle.track_shelf.specs.declared.stepping.Stepping.{Stepping}
use Rattle.track_shelf.specs.declared.stepping.Stepping.TheVariants.{Single, Double}
use Rattle.told_disks.specs.Disks.{IsToldDisk, IsToldIf, kinds, numbers_of}
use Rattle.told_disks.specs.declared.disks.NumberedDisk.{NumberedDisk}
use Rattle.told_disks.specs.declared.heads.NamedHeads.TheVariants.{Own}
use Rattle.ibm_disks.specs.declared.word.DiskNumbers.{DiskNumbers}
use Rattle.told_disks.specs.lemmas.OneDisk.{one_disk}
use Rattle.dump_numbers.specs.Found.{AreByNumbers}
use Rattle.dump_numbers.specs.Rates.{rates}

-- what a part of a list's parts has, the list has
pub flat_has : {X Y : Type 0} (f : X → List Y) (xs : List X) (x : X) (y : Y) → Contains xs x → Contains (f x) y → Contains (flat_map f xs) y
flat_has f [] x y there here = absurd (let low = there.1 in omega (arith, low))
flat_has f (z ∷ zs) x y (zero, low, same) here =
    Contains-append_left (f z) (flat_map f zs) y (subst (λ (at : _). Contains (f at) y) (sym same) here)
flat_has f (z ∷ zs) x y (suc k, low, same) here =
    Contains-append_right (f z) (flat_map f zs) y (flat_has f zs x y (k, omega (arith, low), same) here)

in_rates : (rate : Rate) → Contains rates rate
in_rates DoubleRate = (0, omega arith, refl)
in_rates High = (1, omega arith, refl)
in_rates HighAt360 = (2, omega arith, refl)
in_rates SingleRate = (3, omega arith, refl)
in_rates SingleAt360 = (4, omega arith, refl)

in_kinds : (size : SectorSize) (stepping : Stepping) → Contains kinds (size, stepping)
in_kinds Bytes128 Single = (0, omega arith, refl)
in_kinds Bytes128 Double = (1, omega arith, refl)
in_kinds Bytes256 Single = (2, omega arith, refl)
in_kinds Bytes256 Double = (3, omega arith, refl)
in_kinds Bytes512 Single = (4, omega arith, refl)
in_kinds Bytes512 Double = (5, omega arith, refl)
in_kinds Bytes1024 Single = (6, omega arith, refl)
in_kinds Bytes1024 Double = (7, omega arith, refl)

-- numbers that agree one by one
pub same_numbers : (m n : DiskNumbers) → m.rate ≡ n.rate → m.cylinders ≡ n.cylinders → m.heads ≡ n.heads → m.sectors ≡ n.sectors → m.sector_bytes ≡ n.sector_bytes
    → m.first_sector ≡ n.first_sector → m ≡ n
same_numbers m n rate cylinders heads sectors bytes first =
    ap (λ (r : Rate). record m { rate = r }) rate
    ∙ ap (λ (k : ℕ). record m { rate = n.rate; cylinders = k }) cylinders
    ∙ ap (λ (k : ℕ). record m { rate = n.rate; cylinders = n.cylinders; heads = k }) heads
    ∙ ap (λ (k : ℕ). record n { sectors = k; sector_bytes = m.sector_bytes; first_sector = m.first_sector }) sectors
    ∙ ap (λ (k : ℕ). record n { sector_bytes = k; first_sector = m.first_sector }) bytes
    ∙ ap (λ (k : ℕ). record n { first_sector = k }) first

module _ (rate : Rate) (size : SectorSize) (one two : List (List Bool)) (disk : NumberedDisk) (is : IsToldDisk Own rate size disk.stepping one two disk) where
  -- what is told of its size and its step is the disk
  module _ (other : NumberedDisk) (told : IsToldDisk Own rate size disk.stepping one two other) where
    first : told.told.first ≡ is.told.first
    first =
        let one = (told.tells.within is.told.first is.tells.first).0 in
        let other = (is.tells.within told.told.first told.tells.first).0 in
        omega (arith, one, other)

    last : told.told.last ≡ is.told.last
    last =
        let one = (told.tells.within is.told.last is.tells.last).1 in
        let other = (is.tells.within told.told.last told.tells.last).1 in
        omega (arith, one, other)

    cylinders : told.told.cylinders ≡ is.told.cylinders
    cylinders =
        let one = (is.tells.reach told.tells.cylinder.0 told.tells.cylinder.1).0 in
        let other = (told.tells.reach is.tells.cylinder.0 is.tells.cylinder.1).0 in
        let at = told.tells.cylinder.2 in
        let at' = is.tells.cylinder.2 in
        omega (arith, one, other, at, at')

    heads : told.told.heads ≡ is.told.heads
    heads =
        let one = (is.tells.reach told.tells.head.0 told.tells.head.1).1 in
        let other = (told.tells.reach is.tells.head.0 is.tells.head.1).1 in
        let at = told.tells.head.2 in
        let at' = is.tells.head.2 in
        omega (arith, one, other, at, at')

    told_same : numbers_of rate size told.told ≡ numbers_of rate size is.told
    told_same =
        same_numbers (numbers_of rate size told.told) (numbers_of rate size is.told) refl cylinders heads
        (ap (λ (n : ℕ). n + 1 - told.told.first) last ∙ ap (λ (n : ℕ). is.told.last + 1 - n) first) refl first

    same_disk : other ≡ disk
    same_disk =
        ap (λ (s : Stepping). record { stepping = s; disk = other.disk }) told.stepping_is
        ∙ ap (λ (d : IbmDisk). record { stepping = disk.stepping; disk = d })
        (one_disk (numbers_of rate size told.told) other.disk disk.disk told.is (subst (λ (n : DiskNumbers). IsDiskOf n disk.disk) (sym told_same) is.is))

  told_has : (o : Option NumberedDisk) → IsToldIf Own rate size disk.stepping one two o → Contains (option_to_list o) disk
  told_has None none = absurd (none disk is)
  told_has (Some other) told = (0, omega arith, same_disk other told)

-- so it is among all
pub is_listed : (came : List Seen) (disks : List NumberedDisk) (are : AreByNumbers came disks) (rate : Rate) (size : SectorSize) (disk : NumberedDisk)
    → IsToldDisk Own rate size disk.stepping (are.one rate) (are.two rate) disk → Contains disks disk
is_listed came disks are rate size disk is =
    let by = are.told rate in
    subst (λ (ds : List NumberedDisk). Contains ds disk) (sym are.are)
    (flat_has are.by_rate rates rate disk (in_rates rate)
    (subst (λ (ds : List NumberedDisk). Contains ds disk) (sym by.are)
    (flat_has (λ kind. option_to_list (by.each kind.0 kind.1)) kinds (size, disk.stepping) disk (in_kinds size disk.stepping)
    (told_has rate size (are.one rate) (are.two rate) disk is (by.each size disk.stepping) (by.told size disk.stepping)))))

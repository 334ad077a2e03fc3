-- The drive reaches all tracks of the disks that are told.
use Rattle.std.proofs.Common.{◌≡◌, ◌<◌, ◌≤◌, ◌⊎◌, ◌∙◌, ℕ, zero, suc, Bool, true, false, List, [], ◌∷◌, Option, Some, None, get_or, length, refl, sym, ap, subst, inl, inr, arith}
use Rattle.std.specs.Prelude.{All, flat_map, nat_lt, option_to_list}
use Rattle.std.proofs.Math.Bool.{and-false}
use Rattle.std.proofs.lemmas.Bool.{cases_lt, lt-ltb}
use Rattle.std.proofs.lemmas.List.{get_or_past}
use Rattle.std.proofs.lemmas.List.Elements.{All-append}
use Rattle.std.proofs.lemmas.List.Sums.{list_all-from_AllPass}
use Rattle.std.proofs.lemmas.Option.{get_or_from_slice_get}
use Rattle.flux_base.specs.declared.track.TrackId.{TrackId}
use Rattle.ibm_disks.specs.declared.rate.Rate.{Rate}
use Rattle.ibm_disks.specs.declared.sector_size.SectorSize.{SectorSize}
use Rattle.sector_images.specs.Formats.{row}
use Rattle.sector_images.specs.Places.{NumbersNameTracks, tracks}
use Rattle.sector_images.specs.declared.format.Format.{Format}
use Rattle.sector_images.specs.declared.format.Format.TheVariants.{Numbered}
use Rattle.track_shelf.specs.Stepping.{reaches, reaches_all}
use Rattle.track_shelf.specs.declared.stepping.Stepping.{Stepping}
use Rattle.track_shelf.specs.declared.stepping.Stepping.TheVariants.{Single, Double}
use Rattle.told_disks.specs.Disks.{AreToldDisks, IsToldDisk, IsToldIf, kinds}
use Rattle.told_disks.specs.Names.{has, set_at}
use Rattle.told_disks.specs.declared.disks.NumberedDisk.{NumberedDisk}
use Rattle.told_disks.specs.declared.heads.NamedHeads.TheVariants.{Own}
use Rattle.dump_numbers.specs.Rates.{rates}
use Rattle.dump_numbers.specs.declared.sets.DumpSets.{DumpSets}
use Rattle.dump_numbers.specs.inside.Noted.{AreEven, AreTold, sets_by}
use Rattle.dump_numbers.proofs.ByRates.{few_sets}

-- no set has no number
has_none : (size : SectorSize) (number : ℕ) → has [] size number ≡ false
unfolding has
has_none size number = and-false (nat_lt number 256)

-- a set that has one is there
is_there : (sets : List (List Bool)) (size : SectorSize) (track number : ℕ) → has (set_at sets track) size number ≡ true → track < length sets
is_there sets size track number is = by (cases_lt track (length sets))
  where
    no : false ≡ true → ⊥
    no e = cc

    by : (track < length sets) ⊎ (length sets ≤ track) → track < length sets
    by (inl low) = low
    by (inr past) = absurd (no (sym (has_none size number) ∙ ap (λ (set : List Bool). has set size number) (sym (get_or_past sets track [] past)) ∙ is))

-- what all elements of a list's parts have, the list's have
all_flat : {X Y : Type 0} (P : Y → Type 0) (f : X → List Y) → ((x : X) → All P (f x)) → (xs : List X) → All P (flat_map f xs)
all_flat P f each [] = λ k d low. absurd (omega (arith, low))
all_flat P f each (x ∷ xs) = All-append P (f x) (flat_map f xs) (each x) (all_flat P f each xs)

module _ (names : NumbersNameTracks) where
  -- a drive reaches all tracks of a format by one step for each cylinder
  reaches_single : (format : Format) → reaches_all Single format ≡ true
  unfolding reaches_all
  reaches_single format = list_all-from_AllPass (reaches Single) (tracks format) (λ k d low. refl)

  -- and by two where they are few
  reaches_double : (format : Format) → (row format).cylinders ≤ 42 → reaches_all Double format ≡ true
  unfolding reaches_all
  reaches_double format few = list_all-from_AllPass (reaches Double) (tracks format) each
    where
      each : (k : ℕ) (d : TrackId) → k < length (tracks format) → reaches Double (get_or (tracks format) k d) ≡ true
      each k d low =
          let named = names format k low in
          let there = named.2.0 in
          ap (reaches Double) (get_or_from_slice_get (tracks format) k named.0 d named.1) ∙ lt-ltb named.0.cylinder 42 (omega (arith, there, few))

  -- it does of a disk that is told
  abbrev Reaches : NumberedDisk → Type 0
  Reaches disk = reaches_all disk.stepping (Numbered disk.disk) ≡ true

  reached_one : (rate : Rate) (size : SectorSize) (stepping : Stepping) (one two : List (List Bool)) (disk : NumberedDisk) → length two ≤ 84
      → IsToldDisk Own rate size stepping one two disk → Reaches disk
  reached_one rate size stepping one two disk many is =
      subst (λ (s : Stepping). reaches_all s (Numbered disk.disk) ≡ true) (sym is.stepping_is) (by stepping is)
    where
      by : (steps : Stepping) → IsToldDisk Own rate size steps one two disk → reaches_all steps (Numbered disk.disk) ≡ true
      by Single told = reaches_single (Numbered disk.disk)
      by Double told =
          let furthest = told.tells.cylinder in
          let there = is_there two size furthest.0 furthest.1.0 furthest.1.2 in
          let last = furthest.2 in
          let cylinders = told.is.cylinders in
          reaches_double (Numbered disk.disk) (omega (arith, there, last, cylinders, many))

  reached_if : (rate : Rate) (size : SectorSize) (stepping : Stepping) (one two : List (List Bool)) → length two ≤ 84 → (disk : Option NumberedDisk)
      → IsToldIf Own rate size stepping one two disk → All Reaches (option_to_list disk)
  reached_if rate size stepping one two many None none = λ k d low. absurd (omega (arith, low))
  reached_if rate size stepping one two many (Some disk) is = alone
    where
      alone : (k : ℕ) (d : NumberedDisk) → k < length (disk ∷ []) → Reaches (get_or (disk ∷ []) k d)
      alone zero d low = reached_one rate size stepping one two disk many is
      alone (suc k) d low = absurd (omega (arith, low))

  reached_by_rate : (rate : Rate) (one two : List (List Bool)) (disks : List NumberedDisk) → length two ≤ 84 → AreToldDisks rate one two disks → All Reaches disks
  reached_by_rate rate one two disks many are =
      subst (All Reaches) (sym are.are)
      (all_flat Reaches (λ kind. option_to_list (are.each kind.0 kind.1))
      (λ kind. reached_if rate kind.0 kind.1 one two many (are.each kind.0 kind.1) (are.told kind.0 kind.1)) kinds)

  pub all_reached : (sets : DumpSets) (disks : List NumberedDisk) → AreEven sets → AreTold sets disks → All Reaches disks
  all_reached sets disks even told =
      subst (All Reaches) (sym told.are)
      (all_flat Reaches told.by_rate
      (λ rate. reached_by_rate rate (sets_by sets rate Own).one.items (sets_by sets rate Own).two.items (told.by_rate rate) (few_sets sets even rate Own).two (told.told rate)) rates)

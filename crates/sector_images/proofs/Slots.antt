-- Where the sectors of a track stand in the image.
use Rattle.std.specs.Prelude.{◌≡◌, ◌&&◌, option_map, List, get_or, map, nat_lt, ◌≤◌, ◌<◌, ℕ, ◌+◌, ◌-◌, Bool, true, false, find, nat_eq, Option, Some, None, unwrap_or, refl}
use Rattle.std.specs.List.{list_all, range_with_len}
use Rattle.std.proofs.Common.{ap, sym, subst, ◌∙◌, arith}
use Rattle.std.proofs.lemmas.Bool.{eq-eqb, eqb-true, ltb-true, ne_eqb}
use Rattle.flux_base.specs.declared.track.TrackId.{TrackId}
use Rattle.flux_base.specs.lemmas.Finding.{find-first}
use Rattle.sector_images.specs.declared.format.Format.{Format}
use Rattle.sector_images.specs.Formats.{row, slot, slot_by, zone}
use Rattle.sector_images.proofs.EachFormat.{each_below, each_format, rows}
use Rattle.sector_images.specs.Places.{IsSector, NumbersHoldSectors, SectorsFillTracks, sector_in}

-- where sectors stand by their number
by_number : (first count sector : ℕ) → first ≤ sector → sector < first + count
    → unwrap_or (find (λ s. nat_eq (s - first) (sector - first)) (range_with_len first count)) 0 ≡ sector
by_number first count sector least below =
    let n : ℕ = sector - first in
    let at : first + n ≡ sector = omega (arith, least) in
    ap (λ (o : Option ℕ). unwrap_or o 0)
    (find-first (λ s. nat_eq (s - first) n) first n count (omega (arith, least, below))
    (λ k above under. ne_eqb (k - first) n (λ same. omega (arith, same, above, under)))
    (eq-eqb ((first + n) - first) n (omega arith)))
    ∙ at

-- an order is of sixteen sectors from 0 on: each stands at a number below 16, and each such number is that of one
abbrev in_order : List ℕ → ℕ → ℕ
in_order order number = unwrap_or (find (λ s. nat_eq (get_or order s 0) number) (range_with_len 0 16)) 0

abbrev orders_pass : (List ℕ → ℕ → Bool) → Format → Bool
orders_pass test f = unwrap_or (option_map (λ order. list_all (λ b. b) (map (test order) (range_with_len 0 16))) (row f).order) true

each_order : (test : List ℕ → ℕ → Bool) → list_all (orders_pass test) rows ≡ true
    → (f : Format) (order : List ℕ) → (row f).order ≡ Some order → (n : ℕ) → n < 16 → test order n ≡ true
each_order test all f order is n below =
    let passes : list_all (λ b. b) (map (test order) (range_with_len 0 16)) ≡ true =
    sym (ap (λ (o : Option (List ℕ)). unwrap_or (option_map (λ (xs : List ℕ). list_all (λ b. b) (map (test xs) (range_with_len 0 16))) o) true) is)
    ∙ each_format (orders_pass test) all (λ d. refl) f in
    each_below (test order) 16 passes n below

below_test : list_all (orders_pass (λ order s. nat_lt (get_or order s 0) 16)) rows ≡ true
below_test = refl

found_test : list_all (orders_pass (λ order s. nat_eq (in_order order (get_or order s 0)) s)) rows ≡ true
found_test = refl

holder_test : list_all (orders_pass (λ order n. nat_lt (in_order order n) 16)) rows ≡ true
holder_test = refl

holds_test : list_all (orders_pass (λ order n. nat_eq (get_or order (in_order order n) 0) n)) rows ≡ true
holds_test = refl

-- a format with an order has sixteen sectors from 0 on
abbrev sixteen : ℕ → Format → Bool
sixteen cylinder f = unwrap_or (option_map (λ order. nat_eq (row f).first_sector 0 && nat_eq (zone f cylinder).sectors 16) (row f).order) true

sixteen_test : (cylinder : ℕ) → list_all (sixteen cylinder) rows ≡ true
sixteen_test cylinder = refl

and_both : (a b : Bool) → (a && b) ≡ true → (a ≡ true) × (b ≡ true)
and_both true b is = (refl, is)
and_both false b is = absurd (cc)

are_sixteen : (f : Format) (order : List ℕ) (cylinder : ℕ) → (row f).order ≡ Some order → ((row f).first_sector ≡ 0) × ((zone f cylinder).sectors ≡ 16)
are_sixteen f order cylinder is =
    let test : (nat_eq (row f).first_sector 0 && nat_eq (zone f cylinder).sectors 16) ≡ true =
    sym (ap (λ (o : Option (List ℕ)). unwrap_or (option_map (λ (xs : List ℕ). nat_eq (row f).first_sector 0 && nat_eq (zone f cylinder).sectors 16) o) true) is)
    ∙ each_format (sixteen cylinder) (sixteen_test cylinder) (λ d. refl) f in
    let both = and_both (nat_eq (row f).first_sector 0) (nat_eq (zone f cylinder).sectors 16) test in
    (eqb-true _ _ both.0, eqb-true _ _ both.1)

-- where the sectors of a format stand, by its order or else by their numbers
fill_by : (format : Format) (track : TrackId) (sector : ℕ) (order : Option (List ℕ)) → (row format).order ≡ order → IsSector format track sector
    → (slot_by order (row format).first_sector sector < (zone format track.cylinder).sectors)
    × (unwrap_or (find (λ s. nat_eq (slot_by order (row format).first_sector s) (slot_by order (row format).first_sector sector))
    (range_with_len (row format).first_sector (zone format track.cylinder).sectors)) 0 ≡ sector)
fill_by format track sector None is known =
    (omega (arith, known.0, known.1), by_number (row format).first_sector (zone format track.cylinder).sectors sector known.0 known.1)
fill_by format track sector (Some order) is known =
    let size = are_sixteen format order track.cylinder is in
    let below : sector < 16 = omega (arith, known.1, size.0, size.1) in
    rw (size.0, size.1) (
      ltb-true _ _ (each_order (λ xs s. nat_lt (get_or xs s 0) 16) below_test format order is sector below),
      eqb-true _ _ (each_order (λ xs s. nat_eq (in_order xs (get_or xs s 0)) s) found_test format order is sector below),
    )

pub sectors_fill_tracks : SectorsFillTracks
unfolding sector_in
sectors_fill_tracks format track sector known = fill_by format track sector (row format).order refl known

-- a format with an order has sixteen sectors from 0 on, and each number stands in the order
pub record IsOrder (format : Format) (order : List ℕ) (track : TrackId) : Type 0 where
  pub first : (row format).first_sector ≡ 0
  pub count : (zone format track.cylinder).sectors ≡ 16
  pub holder : (number : ℕ) → number < 16 → (sector : ℕ) × (sector < 16) × (get_or order sector 0 ≡ number)

pub is_order : (format : Format) (order : List ℕ) (track : TrackId) → (row format).order ≡ Some order → IsOrder format order track
is_order format order track is =
    let size = are_sixteen format order track.cylinder is in
    record {
      first = size.0;
      count = size.1;
      holder = λ number below. (
        in_order order number,
        ltb-true _ _ (each_order (λ xs n. nat_lt (in_order xs n) 16) holder_test format order is number below),
        eqb-true _ _ (each_order (λ xs n. nat_eq (get_or xs (in_order xs n) 0) n) holds_test format order is number below),
      );
    }

pub slot_in_order : (format : Format) (order : List ℕ) (sector : ℕ) → (row format).order ≡ Some order → slot format sector ≡ get_or order sector 0
slot_in_order format order sector is = ap (λ (o : Option (List ℕ)). slot_by o (row format).first_sector sector) is

pub slot_by_number : (format : Format) (number : ℕ) → (row format).order ≡ None → slot format ((row format).first_sector + number) ≡ number
slot_by_number format number is =
    let first = (row format).first_sector in
    ap (λ (o : Option (List ℕ)). slot_by o first (first + number)) is ∙ omega arith

-- the sector that stands at a number is the one that is found there
pub found_there : (format : Format) (track : TrackId) (sector number : ℕ) → IsSector format track sector → slot format sector ≡ number
    → sector ≡ sector_in format track number
found_there format track sector number known same =
    sym (sectors_fill_tracks format track sector known).1 ∙ ap (sector_in format track) same

-- at each number stands a sector, by the format's order or else by its number
record Holder (format : Format) (track : TrackId) (number : ℕ) : Type 0 where
  sector : ℕ
  known : IsSector format track sector
  there : slot format sector ≡ number

holder_by : (format : Format) (track : TrackId) (number : ℕ) (order : Option (List ℕ)) → (row format).order ≡ order
    → number < (zone format track.cylinder).sectors → Holder format track number
holder_by format track number None is below = record {
  sector = (row format).first_sector + number;
  known = (omega arith, omega (arith, below));
  there = slot_by_number format number is;
}
holder_by format track number (Some order) is below =
    let all = is_order format order track is in
    let held = all.holder number (omega (arith, below, all.count)) in
    record {
      sector = held.0;
      known = (omega (arith, all.first), omega (arith, held.1, all.first, all.count));
      there = slot_in_order format order held.0 is ∙ held.2;
    }

pub numbers_hold_sectors : NumbersHoldSectors
numbers_hold_sectors format track number below =
    let held = holder_by format track number (row format).order refl below in
    let found : held.sector ≡ sector_in format track number = found_there format track held.sector number held.known held.there in
    subst (λ (s : ℕ). IsSector format track s × (slot format s ≡ number)) found (held.known, held.there)

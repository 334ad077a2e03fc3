-- Tests that the numbers of a zone and of a format pass, and what they show.
use Rattle.std.specs.Prelude.{◌≡◌, ◌<◌, ◌≤◌, ℕ, suc, ◌+◌, ◌-◌, ◌*◌, ◌/◌, Bool, true, false, ◌&&◌, ◌||◌, Contains, List, [], ◌∷◌, map, nat_eq, nat_le, nat_lt, refl}
use Rattle.std.specs.List.{list_all, list_any, range_with_len}
use Rattle.std.proofs.Common.{arith, sym, ◌∙◌}
use Rattle.std.proofs.lemmas.Bool.{eqb-true, leb-true, ltb-true}
use Rattle.std.proofs.lemmas.List.FromFn.{get_or-map-range_with_len, length-map-range_with_len}
use Rattle.std.proofs.lemmas.List.Sums.{AllPass-from_list_all}
use Rattle.disk_zones.specs.declared.zones.Zone.{Zone}
use Rattle.sector_images.specs.Formats.{slot, zone}
use Rattle.sector_images.specs.declared.format.Format.{Format}
use Rattle.law_stated_tables.specs.Laws.{IsNominal, IsStatedZone}
use Rattle.law_stated_tables.specs.Speeds.{AreMacintoshCells, IsCell, IsTurn, Speed}
use Rattle.law_stated_tables.specs.Table.{StatedFormat, StatedZone, stands_at}

pub both : (a b : Bool) → (a && b) ≡ true → (a ≡ true) × (b ≡ true)
both true true is = (refl, refl)
both true false is = absurd (cc)
both false b is = absurd (cc)

-- an element that passes
module _ {X : Type 0} (test : X → Bool) where
  -- here, or later
  one_of : (x : X) (xs : List X) (b : Bool) → test x ≡ b → (b || list_any test xs) ≡ true → (list_any test xs ≡ true → (y : X) × Contains xs y × (test y ≡ true))
      → (y : X) × Contains (x ∷ xs) y × (test y ≡ true)
  one_of x xs true here is later = (x, (0, omega arith, refl), here)
  one_of x xs false here is later =
      let found = later is in
      (found.0, (suc found.1.0, omega (arith, found.1.1), found.1.2), found.2)

  pub passing : (xs : List X) → list_any test xs ≡ true → (x : X) × Contains xs x × (test x ≡ true)
  passing [] is = absurd (cc)
  passing (x ∷ xs) is = one_of x xs (test x) refl is (passing xs)

-- what all numbers below one pass
pub each_below : (test : ℕ → Bool) (count : ℕ) → list_all (λ b. b) (map test (range_with_len 0 count)) ≡ true → (n : ℕ) → n < count → test n ≡ true
each_below test count all n below =
    sym (get_or-map-range_with_len test 0 count n n true below (omega arith))
    ∙ AllPass-from_list_all (λ b. b) (map test (range_with_len 0 count)) all n true (omega (arith, below, length-map-range_with_len test 0 count))

abbrev pub is_cell : (cells seconds fine : ℕ) → Bool
is_cell cells seconds fine =
    nat_le (7 * cells * fine) (168192000 * 1024 * seconds) && nat_lt (168192000 * 1024 * seconds) (7 * cells * (fine + 1))

pub cell-is : (cells seconds fine : ℕ) → is_cell cells seconds fine ≡ true → IsCell cells seconds fine
cell-is cells seconds fine is =
    let two = both (nat_le (7 * cells * fine) (168192000 * 1024 * seconds)) (nat_lt (168192000 * 1024 * seconds) (7 * cells * (fine + 1))) is in
    record { within = leb-true _ _ two.0; more_is_longer = ltb-true _ _ two.1 }

abbrev pub parts_of : (behind part ring : ℕ) → ℕ
parts_of behind part ring = (ring - behind) / part

abbrev pub is_turn : Speed → (behind part ring : ℕ) → Bool
is_turn speed behind part ring =
    nat_eq ring (behind + parts_of behind part ring * part)
    && (nat_le (ring * speed.turns * speed.seconds) (60 * speed.cells) && nat_lt (60 * speed.cells) ((ring + part) * speed.turns * speed.seconds))

pub turn-is : (speed : Speed) (behind part ring : ℕ) → is_turn speed behind part ring ≡ true → IsTurn speed behind part ring
turn-is speed behind part ring is =
    let within = nat_le (ring * speed.turns * speed.seconds) (60 * speed.cells) in
    let more = nat_lt (60 * speed.cells) ((ring + part) * speed.turns * speed.seconds) in
    let one = both (nat_eq ring (behind + parts_of behind part ring * part)) (within && more) is in
    let two = both within more one.1 in
    record { parts = parts_of behind part ring; whole = eqb-true _ _ one.0; within = leb-true _ _ two.0; more_is_longer = ltb-true _ _ two.1 }

abbrev are_macintosh_cells : (ring turns : ℕ) → Bool
are_macintosh_cells ring turns = nat_le (60 * 505300 * 1999) (ring * turns * 2000) && nat_le (ring * turns * 2000) (60 * 505300 * 2001)

macintosh-are : (ring turns : ℕ) → are_macintosh_cells ring turns ≡ true → AreMacintoshCells ring turns
macintosh-are ring turns is =
    let two = both (nat_le (60 * 505300 * 1999) (ring * turns * 2000)) (nat_le (ring * turns * 2000) (60 * 505300 * 2001)) is in
    record { fast = leb-true _ _ two.0; slow = leb-true _ _ two.1 }

abbrev is_nominal : Bool → Speed → (ring nominal : ℕ) → Bool
is_nominal true speed ring nominal = is_cell speed.cells speed.seconds nominal
is_nominal false speed ring nominal = is_cell (5 * ring) 1 nominal && are_macintosh_cells ring speed.turns

nominal-is : (is_even : Bool) (speed : Speed) (ring nominal : ℕ) → is_nominal is_even speed ring nominal ≡ true → IsNominal is_even speed ring nominal
nominal-is true speed ring nominal is = cell-is speed.cells speed.seconds nominal is
nominal-is false speed ring nominal is =
    let two = both (is_cell (5 * ring) 1 nominal) (are_macintosh_cells ring speed.turns) is in
    (cell-is (5 * ring) 1 nominal two.0, macintosh-are ring speed.turns two.1)

abbrev is_zone : StatedZone → Zone → Bool
is_zone stated zone =
    nat_eq zone.sectors stated.sectors
    && (is_turn stated.speed stated.behind stated.part zone.ring_cells && is_nominal stated.is_even stated.speed zone.ring_cells zone.nominal)

zone-is : (stated : StatedZone) (zone : Zone) → is_zone stated zone ≡ true → IsStatedZone stated zone
zone-is stated zone is =
    let turn = is_turn stated.speed stated.behind stated.part zone.ring_cells in
    let nominal = is_nominal stated.is_even stated.speed zone.ring_cells zone.nominal in
    let one = both (nat_eq zone.sectors stated.sectors) (turn && nominal) is in
    let two = both turn nominal one.1 in
    record {
      sectors = eqb-true _ _ one.0;
      ring = turn-is stated.speed stated.behind stated.part zone.ring_cells two.0;
      nominal = nominal-is stated.is_even stated.speed zone.ring_cells zone.nominal two.1;
    }

abbrev has_cylinder : Format → (cylinder : ℕ) → StatedZone → Bool
has_cylinder format cylinder z = (nat_le z.first cylinder && nat_lt cylinder z.end) && is_zone z (zone format cylinder)

abbrev pub has_zones : StatedFormat → Format → Bool
has_zones stated format =
    list_all (λ b. b) (map (λ cylinder. list_any (has_cylinder format cylinder) stated.zones) (range_with_len 0 stated.cylinders))

abbrev HasZone : StatedFormat → Format → ℕ → Type 0
HasZone stated format cylinder =
    (z : StatedZone) × Contains stated.zones z × (z.first ≤ cylinder) × (cylinder < z.end) × IsStatedZone z (zone format cylinder)

pub has-zone : (stated : StatedFormat) (format : Format) → has_zones stated format ≡ true → (cylinder : ℕ) → cylinder < stated.cylinders → HasZone stated format cylinder
has-zone stated format all cylinder below =
    let any = each_below (λ cylinder. list_any (has_cylinder format cylinder) stated.zones) stated.cylinders all cylinder below in
    let found = passing (has_cylinder format cylinder) stated.zones any in
    let z : StatedZone = found.0 in
    let parts = both (nat_le z.first cylinder && nat_lt cylinder z.end) (is_zone z (zone format cylinder)) found.2 in
    let ends = both (nat_le z.first cylinder) (nat_lt cylinder z.end) parts.0 in
    (z, found.1, leb-true _ _ ends.0, ltb-true _ _ ends.1, zone-is z (zone format cylinder) parts.1)

-- the places of the sectors of each cylinder
abbrev has_slots_of : StatedFormat → Format → (cylinder : ℕ) → Bool
has_slots_of stated format cylinder =
    list_all (λ b. b)
    (map (λ sector. nat_eq (slot format (stated.first_sector + sector)) (stands_at stated.step sector)) (range_with_len 0 (zone format cylinder).sectors))

abbrev pub has_slots : StatedFormat → Format → Bool
has_slots stated format = list_all (λ b. b) (map (has_slots_of stated format) (range_with_len 0 stated.cylinders))

pub has-slots : (stated : StatedFormat) (format : Format) → has_slots stated format ≡ true → (cylinder sector : ℕ) → cylinder < stated.cylinders
    → sector < (zone format cylinder).sectors → slot format (stated.first_sector + sector) ≡ stands_at stated.step sector
has-slots stated format all cylinder sector below one =
    let here = each_below (has_slots_of stated format) stated.cylinders all cylinder below in
    eqb-true _ _
    (each_below (λ sector. nat_eq (slot format (stated.first_sector + sector)) (stands_at stated.step sector)) (zone format cylinder).sectors here sector one)

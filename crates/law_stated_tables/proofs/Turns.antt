-- Cell times ring, format by format.
use Rattle.std.specs.Prelude.{◌≡◌, ◌⊎◌, ℕ, ◌*◌, Bool, true, ◌&&◌, nat_le, refl}
use Rattle.std.proofs.Common.{inl, inr, subst, sym}
use Rattle.std.proofs.lemmas.Bool.{leb-true}
use Rattle.disk_zones.specs.declared.zones.Zone.{Zone}
use Rattle.disk_zones.specs.Zones.{commodore_8050_zone, commodore_zone, macintosh_zone}
use Rattle.disk_zones.specs.lemmas.EachZone.{by_commodore_8050_zone, by_commodore_zone, by_macintosh_zone}
use Rattle.ibm_disks.specs.Disks.{rate_of, track_of_disk}
use Rattle.ibm_disks.specs.GapPlans.{track_bytes}
use Rattle.ibm_disks.specs.declared.disk.IbmDisk.{IbmDisk}
use Rattle.ibm_disks.specs.declared.rate.Rate.{Rate}
use Rattle.ibm_disks.specs.declared.rate.Rate.TheVariants.{Double, High, HighAt360, Single, SingleAt360}
use Rattle.ibm_disks.specs.lemmas.DiskLaws.{all_have_disks}
use Rattle.sector_images.specs.Formats.{cell_of, zone}
use Rattle.sector_images.specs.declared.format.Format.TheVariants.{Ibm3740, C1541, C1541Forty, Mac400, Mac800, C1571, C8050, C8250, Numbered}
use Rattle.law_stated_tables.specs.Laws.{TracksTakeATurn}
use Rattle.law_stated_tables.specs.Speeds.{TakesATurn}
use Rattle.law_stated_tables.proofs.Tests.{both}

abbrev TakesOne : (fine ring : ℕ) → Type 0
TakesOne fine ring = (turns : ℕ) × ((turns ≡ 300) ⊎ (turns ≡ 360)) × TakesATurn turns fine ring

abbrev takes_a_turn : (turns fine ring : ℕ) → Bool
takes_a_turn turns fine ring =
    nat_le (7 * turns * (ring * fine)) (60 * 168192000 * 1024) && nat_le (60 * 168192000 * 1024 * 389) (7 * turns * (ring * fine) * 390)

turn-taken : (turns fine ring : ℕ) → takes_a_turn turns fine ring ≡ true → TakesATurn turns fine ring
turn-taken turns fine ring is =
    let two = both (nat_le (7 * turns * (ring * fine)) (60 * 168192000 * 1024)) (nat_le (60 * 168192000 * 1024 * 389) (7 * turns * (ring * fine) * 390)) is in
    record { within = leb-true _ _ two.0; nearly = leb-true _ _ two.1 }

at_300 : (fine ring : ℕ) → takes_a_turn 300 fine ring ≡ true → TakesOne fine ring
at_300 fine ring is = (300, inl refl, turn-taken 300 fine ring is)

at_360 : (fine ring : ℕ) → takes_a_turn 360 fine ring ≡ true → TakesOne fine ring
at_360 fine ring is = (360, inr refl, turn-taken 360 fine ring is)

abbrev ZoneTakesOne : Zone → Type 0
ZoneTakesOne zone = TakesOne zone.nominal zone.ring_cells

commodore : (cylinder : ℕ) → ZoneTakesOne (zone C1541 cylinder)
unfolding commodore_zone
commodore cylinder = by_commodore_zone ZoneTakesOne cylinder (at_300 _ _ refl, (at_300 _ _ refl, (at_300 _ _ refl, at_300 _ _ refl)))

commodore_8050 : (cylinder : ℕ) → ZoneTakesOne (zone C8050 cylinder)
unfolding commodore_8050_zone
commodore_8050 cylinder = by_commodore_8050_zone ZoneTakesOne cylinder (at_300 _ _ refl, (at_300 _ _ refl, (at_300 _ _ refl, at_300 _ _ refl)))

macintosh : (cylinder : ℕ) → ZoneTakesOne (zone Mac400 cylinder)
unfolding macintosh_zone
macintosh cylinder =
    by_macintosh_zone ZoneTakesOne cylinder (at_300 _ _ refl, (at_300 _ _ refl, (at_300 _ _ refl, (at_300 _ _ refl, at_300 _ _ refl))))

by_rate : (rate : Rate) → TakesOne (cell_of rate) (16 * track_bytes rate)
by_rate Double = at_300 _ _ refl
by_rate High = at_300 _ _ refl
by_rate HighAt360 = at_360 _ _ refl
by_rate Single = at_300 _ _ refl
by_rate SingleAt360 = at_360 _ _ refl

numbered : (disk : IbmDisk) → TakesOne (cell_of (rate_of disk)) (16 * (track_of_disk disk).bytes)
numbered disk =
    subst (λ (bytes : ℕ). TakesOne (cell_of (rate_of disk)) (16 * bytes)) (sym (all_have_disks disk).fills.1) (by_rate (rate_of disk))

pub tracks_take_a_turn : TracksTakeATurn
tracks_take_a_turn Ibm3740 cylinder = at_360 _ _ refl
tracks_take_a_turn C1541 cylinder = commodore cylinder
tracks_take_a_turn C1541Forty cylinder = commodore cylinder
tracks_take_a_turn C1571 cylinder = commodore cylinder
tracks_take_a_turn C8050 cylinder = commodore_8050 cylinder
tracks_take_a_turn C8250 cylinder = commodore_8050 cylinder
tracks_take_a_turn Mac400 cylinder = macintosh cylinder
tracks_take_a_turn Mac800 cylinder = macintosh cylinder
tracks_take_a_turn (Numbered disk) cylinder = numbered disk
tracks_take_a_turn format cylinder = at_300 _ _ refl

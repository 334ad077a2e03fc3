-- The zones of a disk are the same in its recording and in its format: both have them from one table.
use Rattle.std.specs.Prelude.{◌≡◌, refl}
use Rattle.commodore_gcr.specs.Zones.{zone_of}
use Rattle.commodore_gcr.specs.declared.drive.CommodoreDrive.TheVariants.{C1541, C8050}
use Rattle.flux_base.specs.declared.track.TrackId.{TrackId}
use Rattle.disk_zones.specs.Zones.{commodore_8050_zone as zone_of_8050, commodore_zone as zone_of_commodore, macintosh_zone as zone_of_macintosh}
use Rattle.macintosh_gcr.specs.Sectors.{zone_of as macintosh_zone_of}
use Rattle.sector_images.specs.Formats.{commodore_8050_zone, commodore_zone, macintosh_zone}

pub commodore_sectors : (track : TrackId) → (zone_of C1541 track).sectors ≡ (commodore_zone track.cylinder).sectors
unfolding zone_of_commodore
commodore_sectors track = refl

pub commodore_cells : (track : TrackId) → (zone_of C1541 track).ring_cells ≡ (commodore_zone track.cylinder).ring_cells
unfolding zone_of_commodore
commodore_cells track = refl

pub commodore_8050_sectors : (track : TrackId) → (zone_of C8050 track).sectors ≡ (commodore_8050_zone track.cylinder).sectors
unfolding zone_of_8050
commodore_8050_sectors track = refl

pub commodore_8050_cells : (track : TrackId) → (zone_of C8050 track).ring_cells ≡ (commodore_8050_zone track.cylinder).ring_cells
unfolding zone_of_8050
commodore_8050_cells track = refl

pub macintosh_sectors : (track : TrackId) → (macintosh_zone_of track).sectors ≡ (macintosh_zone track.cylinder).sectors
unfolding zone_of_macintosh
macintosh_sectors track = refl

pub macintosh_cells : (track : TrackId) → (macintosh_zone_of track).ring_cells ≡ (macintosh_zone track.cylinder).ring_cells
unfolding zone_of_macintosh
macintosh_cells track = refl

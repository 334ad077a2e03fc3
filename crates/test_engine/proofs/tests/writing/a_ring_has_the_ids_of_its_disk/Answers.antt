use Rattle.std.proofs.Common.{refl}
use Rattle.disk_zones.specs.Zones.{commodore_zone}
use Rattle.test_engine.proofs.tests.writing.a_ring_has_the_ids_of_its_disk.Goals as goal

pub ring-requires-clause-bytes : goal.ring-requires-clause-bytes
unfolding commodore_zone
ring-requires-clause-bytes g c = refl

use Rattle.std.proofs.Common.{◌≡◌, ◌*◌}
use Rattle.std.specs.List.{flat_map, range_with_len}
use Rattle.arrayvec.specs.ArrayVec.{array_vec_len}
use Rattle.flux_engine.specs.Rings.{sector_bytes}
use Rattle.flux_engine.proofs.ring_making.sector_bytes.Given as goal

abbrev pub invariant-loop-index : goal.invariant-loop-index
invariant-loop-index l = record {
  bytes : l.bytes.items ≡ flat_map (sector_bytes l.format l.track l.image) (range_with_len l.sectors.first l.index);
  len : array_vec_len l.bytes ≡ l.index * l.sectors.size;
}

-- The fields of a track stand in the order of its sectors.
use Rattle.std.specs.Prelude.{◌+◌, ◌-◌, flat_map, refl}
use Rattle.std.specs.List.{range_with_len}
use Rattle.flux_engine.specs.Recordings.{sectors_of}
use Rattle.flux_engine.specs.lemmas.Pieces.{pieces-at}
use Rattle.disk_map.specs.Laws.{EachSectorHasItsField}
use Rattle.disk_map.specs.Maps.{field_of, fields_by}

pub fields_in_order : EachSectorHasItsField
unfolding fields_by
fields_in_order naming format track readings index low = record {
  before = flat_map (field_of naming format track readings) (range_with_len (sectors_of format track).first index);
  after = flat_map (field_of naming format track readings) (range_with_len ((sectors_of format track).first + index + 1) ((sectors_of format track).count - index - 1));
  field = field_of naming format track readings ((sectors_of format track).first + index);
  are = pieces-at (field_of naming format track readings) (sectors_of format track).first index (sectors_of format track).count low;
  others = refl;
  tells = refl;
}

use Rattle.disk_map.proofs.Fields.{fields_in_order}
use Rattle.disk_map.proofs.laws.each_sector_has_its_field.Goals as goal

pub returns : goal.returns
returns c = fields_in_order

use Rattle.dump_reading.specs.Beside.{beside_lines}
use Rattle.dump_reading.specs.Outcomes.{report_of}
use Rattle.dump_reading.specs.Reports.{read_part}
use Rattle.law_read_dumps.proofs.laws.dumps_are_one.Goals as goal

pub returns : goal.returns
returns c = c.all_of_dumps_is_one.ensures read_part beside_lines report_of

use Rattle.law_read_dumps.proofs.Reports.{Laws, lines_are_known, other_files_are_said, passed_streams_are_said, reports_have_no_other_lines}
use Rattle.law_read_dumps.proofs.laws.dump_reports_have_lines.Goals as goal

laws : (c : goal.After-rules_are_read) → Laws
laws c = record {
  lines = record {
    one = c.sectors_have_one_line.ensures;
    dump_lines = c.dumps_have_lines.ensures.lines;
    rules = c.rules_are_read.ensures;
  };
  total_one = c.totals_have_one_line.ensures;
  readings = c.plans_are_right.ensures.readings;
  said = c.dumps_say_each_sector.ensures.said;
}

pub returns-clause-passed : goal.returns-clause-passed
returns-clause-passed c = passed_streams_are_said (laws c)

pub returns-clause-passed_beside : goal.returns-clause-passed_beside
returns-clause-passed_beside c = other_files_are_said (laws c)

pub returns-clause-known : goal.returns-clause-known
returns-clause-known c = lines_are_known (laws c)

pub returns-clause-count : goal.returns-clause-count
returns-clause-count c = reports_have_no_other_lines (laws c)

use Rattle.law_read_dumps.proofs.Said.{Laws, each_said, good_stays, said_is_right}
use Rattle.law_read_dumps.proofs.Streams.{beside_streams_are_of_files, streams_are_of_files}
use Rattle.law_read_dumps.proofs.laws.dumps_say_each_sector.Goals as goal

laws : (c : goal.After-rules_are_read) → Laws
laws c = record {
  said = c.planned_sectors_are_said.ensures;
  readings = c.plans_are_right.ensures.readings;
  lines = record {
    one = c.sectors_have_one_line.ensures;
    dump_lines = c.dumps_have_lines.ensures.lines;
    rules = c.rules_are_read.ensures;
  };
}

pub returns-clause-said : goal.returns-clause-said
returns-clause-said c disk shelf o is n sector one = each_said (laws c) disk shelf o is n sector one

pub returns-clause-right : goal.returns-clause-right
returns-clause-right c = said_is_right c.plans_are_right.ensures.good c.plans_are_right.ensures.contradictory

pub returns-clause-stays : goal.returns-clause-stays
returns-clause-stays c = good_stays c.plans_are_right.ensures.strict

pub returns-clause-of_files : goal.returns-clause-of_files
returns-clause-of_files c = streams_are_of_files

pub returns-clause-beside_of_files : goal.returns-clause-beside_of_files
returns-clause-beside_of_files c = beside_streams_are_of_files

use Rattle.law_reported_dumps.proofs.Told.{Laws, lines_tell, no_sector_is_told_twice, passed_lines_are_told}
use Rattle.law_reported_dumps.proofs.laws.dump_lines_tell.Goals as goal

laws : (c : goal.After-tracks_fill_images) → Laws
laws c = record {
  known = c.dump_reports_have_lines.ensures.known;
  of_files = c.dumps_say_each_sector.ensures.of_files;
  tell = c.sector_lines_tell.ensures.sectors;
  no_total = c.sector_lines_tell.ensures.totals;
  passed_tell = c.dumps_have_lines.ensures.tell;
  readings = c.plans_are_right.ensures.readings;
  bounds = record {
    names = c.headers_have_names.ensures;
    read = c.rewritten_tracks_are_read.ensures;
    cells_few = c.cells_are_few.ensures;
    short = c.growth_law.ensures.short;
    keep = c.tracks_keep_bounds.ensures.bounds;
    numbers = c.sectors_lie_in_images.ensures.numbers;
  };
  tracks = record {
    joined = c.tracks_fill_images.ensures.joined;
    numbers = c.sectors_lie_in_images.ensures.numbers;
    keep = c.tracks_keep_bounds.ensures.bounds;
  };
}

pub returns-clause-told : goal.returns-clause-told
returns-clause-told c = lines_tell (laws c)

pub returns-clause-once : goal.returns-clause-once
returns-clause-once c = no_sector_is_told_twice (laws c)

pub returns-clause-passed_told : goal.returns-clause-passed_told
returns-clause-passed_told c = passed_lines_are_told (laws c)

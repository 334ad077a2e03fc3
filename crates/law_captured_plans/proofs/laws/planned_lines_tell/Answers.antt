use Rattle.law_captured_plans.proofs.Telling.{Laws, good_lines_are_right, inputs_are_short, lines_tell, reports_have_no_other_lines}
use Rattle.law_captured_plans.proofs.laws.planned_lines_tell.Goals as goal

laws : (c : goal.After-tracks_fill_images) → Laws
laws c = record {
  sectors = record {
    good = c.plans_are_right.ensures.good;
    names = c.sectors_lie_in_images.ensures.numbers;
    fill = c.sectors_fill_tracks.ensures.sectors;
    joined = c.tracks_fill_images.ensures.joined;
    one = c.sectors_have_one_line.ensures;
  };
  read = c.tracks_are_read.ensures;
  total_one = c.totals_have_one_line.ensures;
  tell = c.sector_lines_tell.ensures.sectors;
  no_sector = c.sector_lines_tell.ensures.totals;
  keep = c.tracks_keep_bounds.ensures.bounds;
  cells_few = c.cells_are_few.ensures;
}

pub returns-clause-count : goal.returns-clause-count
returns-clause-count c = reports_have_no_other_lines (laws c)

pub returns-clause-short : goal.returns-clause-short
returns-clause-short c = inputs_are_short c.growth_law.ensures.short

pub returns-clause-told : goal.returns-clause-told
returns-clause-told c = lines_tell (laws c)

pub returns-clause-good : goal.returns-clause-good
returns-clause-good c = good_lines_are_right (laws c)

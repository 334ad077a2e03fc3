use Rattle.g64_image.proofs.FileLines.{Laws, lines_name_verdicts, lines_tell, reports_have_no_other_lines}
use Rattle.g64_image.proofs.laws.file_lines_tell.Goals as goal

laws : (c : goal.After-sectors_lie_in_images) → Laws
laws c = record {
  read = c.tracks_are_read.ensures;
  one = c.sectors_have_one_line.ensures;
  total_one = c.totals_have_one_line.ensures;
  tell = c.sector_lines_tell.ensures.sectors;
  no_sector = c.sector_lines_tell.ensures.totals;
  names = c.sectors_lie_in_images.ensures.numbers;
  keep = c.tracks_keep_bounds.ensures.bounds;
}

pub returns-clause-count : goal.returns-clause-count
returns-clause-count c = reports_have_no_other_lines (laws c)

pub returns-clause-lines : goal.returns-clause-lines
returns-clause-lines c = lines_name_verdicts (laws c)

pub returns-clause-told : goal.returns-clause-told
returns-clause-told c = lines_tell (laws c)

use Rattle.law_imd_one.proofs.One.{found_is_one, not_without, one_without}
use Rattle.law_imd_one.proofs.laws.found_files_are_one.Goals as goal

pub returns-clause-one : goal.returns-clause-one
returns-clause-one c = found_is_one c.headers_have_names.ensures c.rewritten_tracks_are_read.ensures

pub returns-clause-refused : goal.returns-clause-refused
returns-clause-refused c = not_without

pub returns-clause-first : goal.returns-clause-first
returns-clause-first c = one_without

use Rattle.scp_files.proofs.Fronts.{file_begin_tells, goes_on, head_tells}
use Rattle.scp_files.proofs.laws.begins_tell.Goals as goal

pub returns-clause-files : goal.returns-clause-files
returns-clause-files c = file_begin_tells

pub returns-clause-tracks : goal.returns-clause-tracks
returns-clause-tracks c = head_tells

pub returns-clause-goes_on : goal.returns-clause-goes_on
returns-clause-goes_on c = goes_on

use Rattle.flux_writer.proofs.Capturing.{capture_same, capture_takes, faults_of, reads_back}
use Rattle.flux_writer.proofs.laws.capture_law.Goals as goal

pub returns-clause-same : goal.returns-clause-same
returns-clause-same c = capture_same

pub returns-clause-reads : goal.returns-clause-reads
returns-clause-reads c = reads_back c.blocks_law.ensures

pub returns-clause-faults : goal.returns-clause-faults
returns-clause-faults c = faults_of c.turn_faults_law.ensures

pub returns-clause-size : goal.returns-clause-size
returns-clause-size c = capture_takes

use Rattle.scp_files.proofs.Noting.{takes_revolution}
use Rattle.scp_files.proofs.capture.Capture.read_revolution.Goals as goal

pub returns-in-Ok-clause-reads : goal.returns-in-Ok-clause-reads
returns-in-Ok-clause-reads g c =
    let r = c.in-Ok.ensures.reads in
    takes_revolution _ _ c.args.revolution c.args.self.now c.read_entries.new.self c.end_revolution.new.self r.0 r.1 r.2 r.3 c.end_revolution.ensures

use Rattle.std.proofs.Common.{sym, ◌∙◌}
use Rattle.scp_files.proofs.Refusing.{reads, same-stream, short}
use Rattle.scp_files.proofs.refusal.find_refusal.Goals as goal

pub returns-in-Ok-clause-stream : goal.returns-in-Ok-clause-stream
returns-in-Ok-clause-stream c values durations holds none =
    let capture = c.args.capture.now in
    same-stream capture.resolution values durations capture.flux (c.in-Ok.ensures.says values durations holds) c.args.fault
    (sym c.refusing.ensures ∙ c.in-None.is)

pub returns-in-Ok-clause-reads : goal.returns-in-Ok-clause-reads
returns-in-Ok-clause-reads c values durations holds none =
    let capture = c.args.capture.now in
    reads capture.resolution values durations capture.flux (c.in-Ok.ensures.says values durations holds)

pub returns-in-Ok-clause-short : goal.returns-in-Ok-clause-short
returns-in-Ok-clause-short c values durations holds none =
    let capture = c.args.capture.now in
    short capture.resolution values durations capture.flux (c.in-Ok.ensures.says values durations holds)

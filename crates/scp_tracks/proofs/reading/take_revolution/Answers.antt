use Rattle.std.proofs.Common.{◌*◌, ◌++◌, ◌∷◌, [], subst}
use Rattle.std.specs.Io.KnownBytes.{Consumes}
use Rattle.scp_files.specs.Captures.{Holds}
use Rattle.scp_files.specs.Tracks.{words}
use Rattle.scp_tracks.proofs.Fronts.{all-are, all-there}
use Rattle.scp_tracks.proofs.reading.take_revolution.Goals as goal

pub returns-in-Ok-clause-is : goal.returns-in-Ok-clause-is
returns-in-Ok-clause-is g c bytes left =
    let it = c.args.revolution in
    let reads = c.in-Ok.ensures.reads in
    let behind = g.H.File.Source.left c.read_revolution-answer.new.source in
    let consumed = subst (λ o. Consumes o behind reads.taken) left reads.consumed in (
      all-there (2 * it.entries) bytes reads.taken behind consumed reads.size,
      λ values durations holds. subst (λ x. Holds (values ++ words x) (durations ++ it.duration ∷ []) c.read_revolution-answer.new.self)
          (all-are (2 * it.entries) bytes reads.taken behind consumed reads.size) (reads.holds values durations holds),
    )

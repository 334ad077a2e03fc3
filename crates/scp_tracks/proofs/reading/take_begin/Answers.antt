use Rattle.scp_files.specs.Files.{FRONT_SIZE}
use Rattle.scp_tracks.proofs.Fronts.{begin-is}
use Rattle.scp_tracks.proofs.reading.take_begin.Goals as goal

pub returns-clause-is : goal.returns-clause-is
returns-clause-is g c bytes left =
    begin-is FRONT_SIZE bytes (g.H.File.Source.left c.args.file) (g.H.File.Source.left c.read-header.new.source) c.read-header.result left
    c.read-header.ensures.ok c.read-header.ensures.bound c.read-header.ensures.ended

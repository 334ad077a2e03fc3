use Rattle.flux_cli.proofs.empty.write_kind.Goals as goal

pub returns-in-NotThere : goal.returns-in-NotThere
returns-in-NotThere g c = rw c.in-NotThere.is c.write_told.ensures

pub returns-in-AFile : goal.returns-in-AFile
returns-in-AFile g c = rw c.in-AFile.is c.write_told-in-AFile.ensures

pub returns-in-NoFiles : goal.returns-in-NoFiles
returns-in-NoFiles g c = rw c.in-NoFiles.is c.write_told-in-NoFiles.ensures

pub returns-in-OtherTracks : goal.returns-in-OtherTracks
returns-in-OtherTracks g c = rw c.in-OtherTracks.is c.write_told-in-OtherTracks.ensures

pub returns-in-Named : goal.returns-in-Named
returns-in-Named g c = rw c.in-Named.is c.write_named.ensures

pub returns-in-RefusedScp : goal.returns-in-RefusedScp
returns-in-RefusedScp g c = rw c.in-RefusedScp.is (rw c.scp_line.ensures at c.write_line.ensures)

pub returns-in-Unknown : goal.returns-in-Unknown
returns-in-Unknown g c = rw c.in-Unknown.is c.write_told-in-Unknown.ensures

use Rattle.std.proofs.Common.{◌∷◌, ◌++◌, [], codes, decimal}
use Rattle.disk_summary.specs.inside.Pieces.{name_piece, track_piece, written_piece}
use Rattle.disk_summary.proofs.Joined.{appended}
use Rattle.disk_summary.proofs.note.other_piece.Goals as goal

pub returns : goal.returns
unfolding written_piece
returns c =
    let told = c.args.told.now in
    rw (c.put.ensures.bytes, c.put_long-2.ensures.bytes, c.put_long.ensures.bytes, c.put_name.ensures.bytes, c.put_track.ensures.bytes, c.new-line.ensures)
    (appended [] (track_piece c.args.track)
    (name_piece told.name ∷ (codes ",\"headers\":" ++ decimal told.headers) ∷ (codes ",\"whole\":" ++ decimal told.whole) ∷ codes "}" ∷ []))

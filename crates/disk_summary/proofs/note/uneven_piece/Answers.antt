use Rattle.std.proofs.Common.{◌∷◌, ◌++◌, [], codes, decimal}
use Rattle.disk_summary.specs.inside.Pieces.{track_piece, written_piece}
use Rattle.disk_summary.proofs.Joined.{appended}
use Rattle.disk_summary.proofs.note.uneven_piece.Goals as goal

pub returns : goal.returns
unfolding written_piece
returns c =
    rw (c.put.ensures.bytes, c.put_long.ensures.bytes, c.put_named.ensures.bytes, c.from.ensures, c.put_track.ensures.bytes, c.new-line.ensures)
    (appended [] (track_piece c.args.track) ((codes ",\"dump\":" ++ decimal c.args.dump) ∷ (codes ",\"uneven\":" ++ decimal c.args.ticks) ∷ codes "}" ∷ []))

use Rattle.std.proofs.Common.{◌∷◌, ◌++◌, [], codes, decimal}
use Rattle.disk_map.specs.Looks.{name_of}
use Rattle.disk_summary.specs.inside.Pieces.{track_piece, written_piece}
use Rattle.disk_summary.proofs.Joined.{appended}
use Rattle.disk_summary.proofs.note.sector_piece.Goals as goal

pub returns : goal.returns
unfolding written_piece
returns c =
    rw (c.put-3.ensures.bytes, c.put-2.ensures.bytes, c.name_of.ensures, c.put.ensures.bytes, c.put_named.ensures.bytes, c.from.ensures, c.put_track.ensures.bytes, c.new-line.ensures)
    (appended [] (track_piece c.args.track)
    ((codes ",\"sector\":" ++ decimal c.args.sector) ∷ codes ",\"verdict\":\"" ∷ name_of c.args.kind ∷ codes "\"}" ∷ []))

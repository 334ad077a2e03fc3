use Rattle.std.proofs.Common.{◌∙◌}
use Rattle.disk_summary.proofs.Notes.{written_is}
use Rattle.disk_summary.proofs.note.note_piece.Goals as goal

pub returns-in-Unread : goal.returns-in-Unread
returns-in-Unread c = rw (c.in-Unread.is) (c.unread_piece.ensures ∙ written_is _)

pub returns-in-Sector : goal.returns-in-Sector
returns-in-Sector c = rw (c.in-Sector.is) (c.sector_piece.ensures ∙ written_is _)

pub returns-in-Other : goal.returns-in-Other
returns-in-Other c = rw (c.in-Other.is) (c.other_piece.ensures ∙ written_is _)

pub returns-in-Untold : goal.returns-in-Untold
returns-in-Untold c = rw (c.in-Untold.is) (c.untold_piece.ensures ∙ written_is _)

pub returns-in-Uneven : goal.returns-in-Uneven
returns-in-Uneven c = rw (c.in-Uneven.is) (c.uneven_piece.ensures ∙ written_is _)

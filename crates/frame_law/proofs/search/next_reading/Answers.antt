use Rattle.frame_law.proofs.Skips.{no_header-none}
use Rattle.frame_law.proofs.search.next_reading.Goals as goal

pub returns-clause-first : goal.returns-clause-first
returns-clause-first g c = (
  c.clear.ensures,
  no_header-none (g.R.Recording.header_at c.args.recording.now c.args.track) _ _ _ _ _
      (g.met.R.Recording.sync_leads c.args.recording.now c.args.track)
      (g.met.R.Recording.sync_size c.args.recording.now).0 c.loop-place.invariant.1
      (rw (c.len.ensures.length, c.sync-sync.ensures, c.sync_cells-sync_cells.ensures) at c.in_default.ensures),
)

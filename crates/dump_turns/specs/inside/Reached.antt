-- How far the files of a dump reach that were looked for so far.
use Rattle.std.specs.Prelude.{◌+◌, max}
use Rattle.flux_base.specs.declared.track.TrackId.{TrackId}
use Rattle.dump_turns.specs.declared.reach.Reach.{Reach}

-- with a track too
abbrev pub with_track : Reach → TrackId → Reach
with_track reach track =
    record {
      cylinders = max reach.cylinders (track.cylinder + 1);
      heads = max reach.heads (track.head + 1);
    }

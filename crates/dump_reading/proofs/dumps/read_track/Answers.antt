use Rattle.std.proofs.Common.{ap, inl, sym, ◌∙◌}
use Rattle.track_shelf.specs.Files.{file_at, scp_track_in}
use Rattle.dump_reading.specs.DumpStreams.{seen_of}
use Rattle.dump_reading.specs.lemmas.DumpTracks.{of-scp, scp-says}
use Rattle.dump_reading.proofs.dumps.read_track.Goals as goal

pub returns-in-Ok : goal.returns-in-Ok
returns-in-Ok g c =
    let flux = c.read_scp.new.stream.flux in record {
      seen = λ files known.
          inl
          (c.next_of.ensures.seen flux
          ∙ scp-says (scp_track_in (file_at files c.args.dump.now) c.args.track) c.in-Ok.read flux (c.in-Ok.ensures.is files known)
          ∙ ap seen_of (sym (of-scp files c.args.dump.now c.args.track c.requires)));
      told = rw c.next_of.ensures.kept c.in-Ok.ensures.told;
      bounded = c.next_of.ensures.bounded flux c.in-Ok.ensures.bounded;
      counts = rw c.next_of.ensures.kept c.in-Ok.ensures.counts;
    }

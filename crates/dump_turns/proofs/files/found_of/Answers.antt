use Rattle.std.proofs.Common.{refl}
use Rattle.track_shelf.specs.Files.{scp_track_in}
use Rattle.sector_report.specs.declared.dump_lines.Passed.TheVariants.{Absent, Refused, RefusedScp}
use Rattle.dump_turns.proofs.Openings.{passed-sized}
use Rattle.dump_turns.proofs.Sizes.{scp-sized}
use Rattle.dump_turns.proofs.files.found_of.Goals as goal

pub returns-in-Absent : goal.returns-in-Absent
returns-in-Absent c = rw c.in-Absent.is (record { told = refl; sized = λ file track is. passed-sized (scp_track_in file track) Absent; bounded = tt })

pub returns-in-Read : goal.returns-in-Read
returns-in-Read c = rw c.in-Read.is (record {
  told = (refl, c.measure.ensures.are, c.measure.ensures.bounded);
  sized = λ file track is. scp-sized file track c.in-Read.size c.args.flux.now c.measure.result c.measure.ensures.bytes is;
  bounded = c.measure.ensures.bounded;
})

pub returns-in-Refused : goal.returns-in-Refused
returns-in-Refused c = rw c.in-Refused.is (record { told = refl; sized = λ file track is. passed-sized (scp_track_in file track) (RefusedScp c.in-Refused.fault); bounded = tt })

pub returns-in-Faulty : goal.returns-in-Faulty
returns-in-Faulty c = rw c.in-Faulty.is (record {
  told = refl;
  sized = λ file track is. passed-sized (scp_track_in file track) (Refused c.in-Faulty.block c.in-Faulty.fault);
  bounded = tt;
})

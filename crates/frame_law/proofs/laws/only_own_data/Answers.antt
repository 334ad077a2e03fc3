use Rattle.std.proofs.Common.{drop}
use Rattle.track_rings.specs.Rings.{bytes_of, stretch}
use Rattle.frame_law.proofs.HeaderData.{sector_alone}
use Rattle.frame_law.proofs.laws.only_own_data.Goals as goal

pub returns-clause-alone : goal.returns-clause-alone
returns-clause-alone g c = λ r track.
    let laws = g.met.R.Recording in
    record {
      data_alone = laws.data_alone r;
      sectors = λ cells s bytes sector.
          sector_alone (g.R.Recording.header_at r track) (g.R.Recording.data_at r) cells s bytes (laws.header_alone r track cells s sector.0)
          sector.1.0 (laws.data_alone r cells sector.1.0 bytes sector.1.1);
    }

pub returns-clause-between_zeros : goal.returns-clause-between_zeros
returns-clause-between_zeros g c r track bytes zeros from count behind known given = λ place s content sector.
    let laws = g.met.R.Recording in (
      laws.header_own r track bytes s zeros from count behind place known given sector.0,
      laws.data_own r track bytes s zeros from count behind place sector.1.0 content known given sector.0 sector.1.1,
    )

pub returns-clause-stand : goal.returns-clause-stand
returns-clause-stand g c r track bytes s from count place known given number lies =
    let laws = g.met.R.Recording in
    let cells = drop place (stretch (g.R.Recording.ring r track bytes) from count) in
    let content = bytes_of (g.R.Recording.first_sector r) (g.R.Recording.sector_size r) bytes s in
    let sector = laws.sector_stands r track bytes s from count place known given number lies in
    (laws.header_of_sector r track cells s content sector, laws.data_of_sector r track cells s content sector)

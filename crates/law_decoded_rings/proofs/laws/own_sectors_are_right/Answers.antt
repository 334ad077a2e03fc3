use Rattle.std.proofs.Common.{arith}
use Rattle.frame_law.specs.Controller.{START_ZEROS, SectorStandsBy}
use Rattle.law_decoded_rings.proofs.Agreeing.{verdicts_are_right}
use Rattle.law_decoded_rings.proofs.Standing.{stands_as_written}
use Rattle.law_decoded_rings.proofs.TwoRings.{two_rings_have_sectors}
use Rattle.law_decoded_rings.proofs.laws.own_sectors_are_right.Goals as goal

pub returns-clause-pieces : goal.returns-clause-pieces
returns-clause-pieces g c =
    λ r track written read first later.
    let sector = g.R.Recording.sector_at r track in
    let stands = stands_as_written 8 (omega arith) written first later sector read in
    (stands, λ readings are. verdicts_are_right 8 sector written first later stands readings are)

pub returns-clause-two_rings : goal.returns-clause-two_rings
returns-clause-two_rings g c =
    λ r track written read. two_rings_have_sectors (g.R.Recording.sector_at r track) written 8 read

pub returns-clause-rewritten : goal.returns-clause-rewritten
returns-clause-rewritten g c =
    λ r track written read.
    let sector = SectorStandsBy (g.R.Recording.header_at r track) (g.R.Recording.data_at r) in (
      λ first later.
          let stands = stands_as_written START_ZEROS (omega arith) written first later sector read in
          (stands, λ readings are. verdicts_are_right START_ZEROS sector written first later stands readings are),
      two_rings_have_sectors sector written START_ZEROS read,
    )

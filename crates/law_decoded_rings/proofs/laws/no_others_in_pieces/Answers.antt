use Rattle.std.proofs.Common.{Bool, List, [], arith, drop, subst}
use Rattle.flux_base.specs.declared.header_name.HeaderName.{HeaderName}
use Rattle.law_decoded_rings.specs.Pieces.{cells_of_ring_pieces}
use Rattle.law_decoded_rings.specs.Written.{WrittenTrack}
use Rattle.law_decoded_rings.proofs.Standing.{in_piece, of_piece}
use Rattle.law_decoded_rings.proofs.laws.no_others_in_pieces.Goals as goal

pub returns-clause-pieces : goal.returns-clause-pieces
returns-clause-pieces g c = λ r track ring none first later place name other.
    let laws = g.met.R.Recording in
    let written : WrittenTrack = record {
      ring = ring;
      begin_of = λ s. 0;
      frame_cells = 0;
      first = 0;
      sectors = 0;
      bytes_of = λ s. [];
    } in
    let cells = drop place (cells_of_ring_pieces ring first later) in
    let Here : List Bool → Type 0 = λ others. g.R.Recording.named_at r others name in
    let alone = laws.named_alone r cells name other.0 in
    let found = of_piece 8 (omega arith) written first later Here place alone in
    let here = in_piece 8 (omega arith) written first later Here place alone found in
    let named = laws.header_named r track in
    none found.zeros found.piece.from found.piece.count found.after found.offset name (
      here,
      λ s header.
          let has = named.has_name _ s header in
          other.1 s
          (named.is_named cells name s other.0
          (subst (λ (n : HeaderName). g.R.Recording.is_name_of r track n s) (laws.one_name r _ has.0 name has.1 here) has.2)),
    )

pub returns-clause-rings : goal.returns-clause-rings
returns-clause-rings g c = λ r track bytes first later known given.
    returns-clause-pieces g c r track (g.R.Recording.ring r track bytes)
    (λ zeros from count behind. c.no_others.ensures r track bytes zeros from count behind known given) first later

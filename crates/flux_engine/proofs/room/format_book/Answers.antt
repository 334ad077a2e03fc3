use Rattle.std.proofs.Common.{◌≡◌, Option, None, ap, sym, ◌∙◌, replicate, unwrap_or}
use Rattle.flux_base.specs.declared.track.TrackId.{TrackId}
use Rattle.flux_engine.specs.Recordings.{sectors_of, track_at}
use Rattle.turn_merge.specs.Book.{Knowledge}
use Rattle.turn_merge.specs.declared.verdict.Verdict.TheVariants.{Missing}
use Rattle.disk_recordings.specs.declared.sectors.Sectors.{Sectors}
use Rattle.flux_engine.proofs.Noting.{empty_is}
use Rattle.flux_engine.proofs.room.format_book.Goals as goal

pub returns : goal.returns
returns c =
    let first : c.sectors_of-sectors.result ≡ sectors_of c.args.format (track_at c.args.format 0) =
    c.sectors_of-sectors.ensures ∙ ap (λ (o : Option TrackId). sectors_of c.args.format (unwrap_or o (record { cylinder = 0; head = 0 }))) (sym c.track_id.ensures.at) in
    let s = c.sectors_of-sectors.result in
    empty_is c.in_ok-book.book s.first s.count s.size s.count c.in_ok-book.ensures.empty c.in_ok-book.ensures.shape
    ∙ ap (λ (s : Sectors). let k : Knowledge = record { first_sector = s.first; most = s.count; size = s.size; notes = 0; found = replicate s.count (record { verdict = Missing; bytes = None }) } in k) first

pub track_id-requires : goal.track_id-requires
track_id-requires c = c.tracks_keep_bounds.ensures.some c.args.format

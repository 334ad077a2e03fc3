use Rattle.std.proofs.Common.{◌≡◌, Option, ap, arith, subst, sym, unwrap_or}
use Rattle.flux_base.specs.declared.track.TrackId.{TrackId}
use Rattle.disk_recordings.specs.TrackSectors.{track_at}
use Rattle.flux_words.specs.SectorWords.{IsTrackWord}
use Rattle.flux_words.proofs.SectorWords.{fails, holds, next-number}
use Rattle.flux_words.proofs.sector_words.track_number.Goals as goal

pub loop-number-preserved : goal.loop-number-preserved
loop-number-preserved c =
    let is : c.track_id.result ≡ track_at c.args.format c.loop-number.number =
    sym (ap (λ (o : Option TrackId). unwrap_or o (record { cylinder = 0; head = 0 })) c.track_id.ensures.at) in
    next-number (λ k. IsTrackWord (track_at c.args.format k) c.args.word.now) c.loop-number.number c.loop-number.invariant
    (subst (λ (t : TrackId). ¬ IsTrackWord t c.args.word.now) is (fails _ _ c.is_track_word.ensures c.if-is_track_word.false))

pub returns-then-is_track_word : goal.returns-then-is_track_word
returns-then-is_track_word c =
    let is : c.track_id.result ≡ track_at c.args.format c.loop-number.number =
    sym (ap (λ (o : Option TrackId). unwrap_or o (record { cylinder = 0; head = 0 })) c.track_id.ensures.at) in (
      omega arith,
      subst (λ (t : TrackId). IsTrackWord t c.args.word.now) is (holds _ _ c.is_track_word.ensures c.if-is_track_word.true),
      c.loop-number.invariant,
    )

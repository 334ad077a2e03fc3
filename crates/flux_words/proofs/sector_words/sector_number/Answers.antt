use Rattle.std.proofs.Common.{◌≡◌, ◌+◌, ◌-◌, ℕ, Option, Some, ap, arith, subst, sym, unwrap_or, ◌∙◌}
use Rattle.flux_base.specs.declared.track.TrackId.{TrackId}
use Rattle.disk_recordings.specs.TrackSectors.{sectors_of, track_at}
use Rattle.disk_recordings.specs.declared.sectors.Sectors.{Sectors}
use Rattle.flux_words.specs.SectorWords.{IsSectorWord, NamesSector}
use Rattle.flux_words.proofs.SectorWords.{fails, holds, next-number}
use Rattle.flux_words.proofs.sector_words.sector_number.Goals as goal

pub loop-index-preserved : goal.loop-index-preserved
loop-index-preserved c =
    let track : c.track_id.result ≡ track_at c.args.format c.args.number =
    sym (ap (λ (o : Option TrackId). unwrap_or o (record { cylinder = 0; head = 0 })) c.track_id.ensures.at) in
    let is : c.sectors_of-sectors.result ≡ sectors_of c.args.format (track_at c.args.format c.args.number) =
    c.sectors_of-sectors.ensures ∙ ap (sectors_of c.args.format) track in
    next-number (λ k. IsSectorWord ((sectors_of c.args.format (track_at c.args.format c.args.number)).first + k) c.args.word.now) c.loop-index.index c.loop-index.invariant
    (subst (λ (s : Sectors). ¬ IsSectorWord (s.first + c.loop-index.index) c.args.word.now) is (fails _ _ c.is_sector_word.ensures c.if-is_sector_word.false))

pub returns-then-is_sector_word-clause-names : goal.returns-then-is_sector_word-clause-names
returns-then-is_sector_word-clause-names c =
    let track : c.track_id.result ≡ track_at c.args.format c.args.number =
    sym (ap (λ (o : Option TrackId). unwrap_or o (record { cylinder = 0; head = 0 })) c.track_id.ensures.at) in
    let is : c.sectors_of-sectors.result ≡ sectors_of c.args.format (track_at c.args.format c.args.number) =
    c.sectors_of-sectors.ensures ∙ ap (sectors_of c.args.format) track in
    let all : Sectors = sectors_of c.args.format (track_at c.args.format c.args.number) in
    let many = ap (λ (s : Sectors). s.count) is in
    let first = ap (λ (s : Sectors). s.first) is in
    let index : c.loop-index.index ≡ c.sectors_of-sectors.result.first + c.loop-index.index - all.first = omega (arith, first) in
    subst (λ (n : ℕ). NamesSector c.args.format c.args.number c.args.word.now (Some n)) index (
      omega (arith, many),
      subst (λ (s : Sectors). IsSectorWord (s.first + c.loop-index.index) c.args.word.now) is (holds _ _ c.is_sector_word.ensures c.if-is_sector_word.true),
      c.loop-index.invariant,
    )

pub returns-clause-names : goal.returns-clause-names
returns-clause-names c =
    let track : c.track_id.result ≡ track_at c.args.format c.args.number =
    sym (ap (λ (o : Option TrackId). unwrap_or o (record { cylinder = 0; head = 0 })) c.track_id.ensures.at) in
    let is : c.sectors_of-sectors.result ≡ sectors_of c.args.format (track_at c.args.format c.args.number) =
    c.sectors_of-sectors.ensures ∙ ap (sectors_of c.args.format) track in
    let many = ap (λ (s : Sectors). s.count) is in
    λ k low. c.loop-index.invariant k (omega (arith, low, many, c.loop-index-test.false))

use Rattle.std.proofs.Common.{◌<◌, ◌∙◌, ap, sym, arith, length}
use Rattle.sector_images.specs.Places.{tracks}
use Rattle.flux_trial.proofs.Giving.{never-empty, not-given, refilled}
use Rattle.flux_trial.specs.inside.Giving.{SourceState, left_of}
use Rattle.flux_trial.proofs.source.TrialSource.refill.Goals as goal

pub returns-then-self-bytes-clause-some : goal.returns-then-self-bytes-clause-some
returns-then-self-bytes-clause-some c = λ none. absurd (not-given c.args.self.now.at_hand c.self.inside.stream c.bytes.result.now c.self.inside.given
    (sym (ap (λ (s : SourceState). s.at_hand) c.self.view_is)) c.bytes.ensures.value c.if-self-bytes.true none)

pub returns-clause-left : goal.returns-clause-left
returns-clause-left c =
    let below : c.self.inside.next < length (tracks c.self.inside.format) = omega (arith, c.if-self-track_count.false, c.track_count.ensures, c.self.invariant.1.few) in
    refilled c.self.inside.format c.self.inside.seed c.self.inside.next c.self.inside.given c.self.inside.stream c.bytes.result.now c.write_track_of.new.stream
    below c.bytes.ensures.value c.if-self-bytes.false c.write_track_of.ensures.stream
    ∙ ap left_of c.self.view_is

pub returns-clause-some : goal.returns-clause-some
returns-clause-some c = λ none.
    absurd (never-empty c.self.inside.format c.self.inside.seed c.self.inside.next c.write_track_of.new.stream c.write_track_of.ensures.stream none)

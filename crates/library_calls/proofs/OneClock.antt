-- A stream that is read by the one clock.
use Rattle.std.specs.Prelude.{ℕ, List, Option, Ok, Err, Bool}
use Rattle.std.proofs.Common.{sym, subst}
use Rattle.flux_base.specs.declared.track.TrackId.{TrackId}
use Rattle.sector_images.specs.declared.format.Format.{Format}
use Rattle.turn_merge.specs.Book.{Knowledge}
use Rattle.flux_engine.specs.Answers.{CaptureAnswer}
use Rattle.library_calls.specs.Answers.{ReadsCapture}
use Rattle.flux_engine.specs.Captured.{AreReadingsBy}
use Rattle.flux_engine.specs.PlanAnswers.{ReadsByClocks}
use Rattle.flux_engine.specs.declared.plan.Rule.TheVariants.{Strict}
use Rattle.flux_engine.specs.declared.plan.Clocks.TheVariants.{FollowingAlone}
use Rattle.turn_merge.specs.Others.{OthersKnown}
use Rattle.turn_merge.specs.declared.clock.Clock.TheVariants.{Following}

module _ (format : Format) (track : TrackId) (left left' : Option (List ℕ)) (used : Bool) (held held' : List ℕ) (old new : Knowledge) where
  -- by the one clock
  pub reads_capture : (before after : OthersKnown) (capture : ℕ) (answer : CaptureAnswer)
      → ReadsByClocks Strict FollowingAlone format track capture left left' used held held' old new before after answer
      → ReadsCapture format track capture left left' used held held' old new answer
  reads_capture before after capture (Ok u) c = record {
    times = c.times;
    indexes = c.indexes;
    read = c.read;
    noted = (
      c.noted.0,
      subst (AreReadingsBy Strict Following format track c.times c.indexes capture) (sym c.noted.1.are) (c.noted.1.each Following tt),
      c.noted.2,
    );
  }
  reads_capture before after capture (Err fault) c = record { times = c.times; indexes = c.indexes; read = c.read; noted = tt }

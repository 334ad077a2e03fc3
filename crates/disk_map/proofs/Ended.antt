-- The counts of the outside where a picture is brought to its end early.
use Rattle.std.specs.Prelude.{◌≡◌, true, false, Err}
use Rattle.std.proofs.Common.{sym, subst}
use Rattle.flux_base.specs.Blames.{CountsBy, no_counts, no_one, the_image, three_counts}
use Rattle.flux_base.specs.Counts.{FaultCounts}
use Rattle.flux_base.specs.Moments.{Moment}
use Rattle.flux_base.specs.lemmas.Blaming.{CountsBy-image, CountsBy-then}
use Rattle.flux_engine.specs.Blamed.{stop_blame}
use Rattle.flux_engine.specs.declared.fault.RefusedCapture.{RefusedCapture}
use Rattle.flux_engine.specs.declared.fault.Stopped.{Stopped}
use Rattle.flux_engine.specs.declared.fault.Stopped.TheVariants.{ReadFault, ImageFault, NotesFault, Refused}
use Rattle.sector_images.specs.declared.format.Format.{Format}
use Rattle.sector_report.specs.declared.totals.Totals.{Totals}
use Rattle.disk_map.specs.Progress.{EndsEarly}

module _ (A B : Type 0) {P : Type 0} (format : Format) (totals : Totals) (source source' old : FaultCounts) (before after : Moment P) where
  -- after a fault of an object nothing was called
  same : (fault answer : Stopped RefusedCapture) → (answer ≡ fault) × (after ≡ before)
      → CountsBy (stop_blame {A = A} (Err fault)) (three_counts source old no_counts) (three_counts source' before.counts no_counts)
      → CountsBy (stop_blame {A = B} (Err answer)) (three_counts source old no_counts) (three_counts source' after.counts no_counts)
  same fault answer is counts =
      subst (λ (m : Moment P). CountsBy (stop_blame {A = B} (Err answer)) (three_counts source old no_counts) (three_counts source' m.counts no_counts)) (sym is.1)
      (subst (λ (f : Stopped RefusedCapture). CountsBy (stop_blame {A = B} (Err f)) (three_counts source old no_counts) (three_counts source' before.counts no_counts)) (sym is.0)
      (again fault counts))
    where
      again : (f : Stopped RefusedCapture) → CountsBy (stop_blame {A = A} (Err f)) (three_counts source old no_counts) (three_counts source' before.counts no_counts)
          → CountsBy (stop_blame {A = B} (Err f)) (three_counts source old no_counts) (three_counts source' before.counts no_counts)
      again ReadFault c = c
      again ImageFault c = c
      again NotesFault c = c
      again (Refused stop) c = c

  -- after a stream that was refused the foot was written, or its sink failed
  pub ended_blames : (fault answer : Stopped RefusedCapture) → EndsEarly format totals before after fault answer
      → CountsBy (stop_blame {A = A} (Err fault)) (three_counts source old no_counts) (three_counts source' before.counts no_counts)
      → CountsBy (stop_blame {A = B} (Err answer)) (three_counts source old no_counts) (three_counts source' after.counts no_counts)
  ended_blames (Refused stop) (Refused stop') ends counts =
      CountsBy-then no_one counts (CountsBy-image source' no_counts false ends.1.counts)
  ended_blames (Refused stop) ImageFault ends counts =
      CountsBy-then the_image counts (CountsBy-image source' no_counts true ends.1.counts)
  ended_blames (Refused stop) ReadFault ends counts = absurd ends
  ended_blames (Refused stop) NotesFault ends counts = absurd ends
  ended_blames ReadFault answer ends counts = same ReadFault answer ends counts
  ended_blames ImageFault answer ends counts = same ImageFault answer ends counts
  ended_blames NotesFault answer ends counts = same NotesFault answer ends counts

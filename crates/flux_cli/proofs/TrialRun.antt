-- What `trial` does by what the trial says.
use Rattle.std.proofs.Common.{ℕ, List, [], refl}
use Rattle.flux_base.specs.declared.status.Status.TheVariants.{AllGood, ImageFault}
use Rattle.flux_trial.specs.Tracks.{IsTrialLine}
use Rattle.sector_images.specs.declared.format.Format.{Format}
use Rattle.flux_cli.specs.Runs.{Finished, IsCut, growth}
use Rattle.flux_cli.specs.TrialWork.{trial_work}
use Rattle.flux_cli.specs.Work.{Got, GotNothing, GotPart}
use Rattle.flux_cli.specs.World.{Outside}
use Rattle.flux_cli.proofs.Inputs.{rest}
use Rattle.std.specs.Io.KnownBytes.{Consumes}
use Rattle.kryo_stream.specs.Reads.{SourceMoment}
use Rattle.flux_cli.specs.BytesWork.{of_bytes}

module _ {S W N : Type 0} (format : Format) (seed : ℕ) (before after : Outside S SourceMoment W N) (unread : Consumes before.input.seen.left after.input.seen.left [])
    (line : List ℕ) (is : IsTrialLine format seed line) where
  pub trial-finish : Got (growth before.image after.image) line → Got (growth before.notes after.notes) [] → Finished (of_bytes (trial_work format seed)) AllGood before after
  trial-finish image notes =
      let r = rest before.input.seen after.input.seen [] unread in record {
        outcome = record { status = AllGood; image = line; notes = [] };
        gives = record {
          taken = [];
          later = r.later;
          input = r.input;
          gives = (line, is, refl);
          leaves = refl;
        };
        status_is = refl;
        image_got = image;
        notes_got = notes;
      }

  pub trial-cut : GotPart (growth before.image after.image) line → GotNothing (growth before.notes after.notes) → IsCut (of_bytes (trial_work format seed)) ImageFault before after
  trial-cut image notes =
      let r = rest before.input.seen after.input.seen [] unread in record {
        taken = [];
        later = r.later;
        input = r.input;
        place = record { unread = refl; line = line; is = is; image_got = image; notes_got = notes };
      }

-- What a run does, by what its status says, and where it reads nothing.
use Rattle.std.proofs.Common.{◌≡◌, ℕ, List, [], refl}
use Rattle.std.specs.Io.KnownBytes.{Consumes}
use Rattle.flux_base.specs.declared.status.Status.TheVariants.{Usage, NotesFault, Memory}
use Rattle.flux_engine.specs.lemmas.ReadLaws.{no_reads}
use Rattle.flux_cli.specs.Runs.{Does, Finished, growth}
use Rattle.flux_cli.specs.Work.{Got, GotNothing, GotPart, Growth}
use Rattle.flux_cli.specs.Works.{usage_work}
use Rattle.flux_cli.specs.World.{Outside}
use Rattle.flux_cli.proofs.Inputs.{rest}
use Rattle.flux_cli.specs.BytesWork.{BytesWork, of_bytes, IsCutBehind}
use Rattle.kryo_stream.specs.Reads.{SourceMoment}

-- work for which there was no memory
pub out_of_memory : {S W N : Type 0} (work : BytesWork) → work.ends Memory → (now : Outside S SourceMoment W N) → Does (of_bytes work) Memory now now
out_of_memory work ends now = record { answer = ends; says = refl; keeps = λ x told. no_reads work.untold now.input.seen }

module _ {S W N : Type 0} (before after : Outside S SourceMoment W N) (unread : Consumes before.input.seen.left after.input.seen.left []) where
  -- what is told of wrong words
  pub usage-finish : (text : List ℕ) → Got (growth before.image after.image) [] → Got (growth before.notes after.notes) text
      → Finished (of_bytes (usage_work text)) Usage before after
  usage-finish text image notes =
      let r = rest before.input.seen after.input.seen [] unread in record {
        outcome = record { status = Usage; image = []; notes = text };
        gives = record {
          taken = [];
          later = r.later;
          input = r.input;
          gives = refl;
          leaves = refl;
        };
        status_is = refl;
        image_got = image;
        notes_got = notes;
      }

-- a part of it
pub usage-cut : (start now : SourceMoment) (image notes : Growth) → Consumes start.left now.left [] → (text : List ℕ) → GotNothing image → GotPart notes text
    → IsCutBehind (usage_work text) NotesFault start now image notes
usage-cut start now image notes unread text none part =
    let r = rest start now [] unread in
    record { taken = []; later = r.later; input = r.input; place = (refl, none, part) }

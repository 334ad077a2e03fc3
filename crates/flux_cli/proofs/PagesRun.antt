-- What telling a page does by what was written of it.
use Rattle.std.proofs.Common.{[], refl}
use Rattle.std.specs.Io.KnownBytes.{Consumes}
use Rattle.flux_base.specs.declared.status.Status.TheVariants.{AllGood, ImageFault}
use Rattle.flux_help.specs.Pages.{page_text}
use Rattle.flux_help.specs.declared.page.Page.{Page}
use Rattle.flux_cli.specs.PagesWork.{page_work}
use Rattle.flux_cli.specs.Runs.{Finished, IsCut, growth}
use Rattle.flux_cli.specs.Work.{Got, GotNothing, GotPart}
use Rattle.flux_cli.specs.World.{Outside}
use Rattle.flux_cli.proofs.Inputs.{rest}
use Rattle.kryo_stream.specs.Reads.{SourceMoment}
use Rattle.flux_cli.specs.BytesWork.{of_bytes}

module _ {S W N : Type 0} (page : Page) (before after : Outside S SourceMoment W N) (unread : Consumes before.input.seen.left after.input.seen.left []) where
  pub page-finish : Got (growth before.image after.image) (page_text page) → Got (growth before.notes after.notes) [] → Finished (of_bytes (page_work page)) AllGood before after
  page-finish image notes =
      let r = rest before.input.seen after.input.seen [] unread in record {
        outcome = record { status = AllGood; image = page_text page; notes = [] };
        gives = record {
          taken = [];
          later = r.later;
          input = r.input;
          gives = refl;
          leaves = refl;
        };
        status_is = refl;
        image_got = image;
        notes_got = notes;
      }

  pub page-cut : GotPart (growth before.image after.image) (page_text page) → GotNothing (growth before.notes after.notes) → IsCut (of_bytes (page_work page)) ImageFault before after
  page-cut image notes =
      let r = rest before.input.seen after.input.seen [] unread in record {
        taken = [];
        later = r.later;
        input = r.input;
        place = (refl, image, notes);
      }

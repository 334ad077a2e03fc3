-- The work of the words that ask what the program says of itself.
use Rattle.std.specs.Prelude.{◌≡◌, ℕ, List, []}
use Rattle.flux_base.specs.declared.status.Status.{Status}
use Rattle.flux_base.specs.declared.status.Status.TheVariants.{AllGood, ImageFault}
use Rattle.flux_help.specs.Pages.{page_text}
use Rattle.flux_help.specs.declared.page.Page.{Page}
use Rattle.flux_cli.specs.BytesWork.{BytesWork}
use Rattle.flux_cli.specs.Work.{Growth, GotNothing, GotPart, ends_memoryless}

-- nothing is read
abbrev pub page_leaves : Status → (x later : List ℕ) → Type 0
page_leaves AllGood x later = later ≡ x
page_leaves _ x later = ⊥

-- a part of the text that is shorter than it
abbrev pub page_cut : Page → Status → (taken later : List ℕ) → (image notes : Growth) → Type 0
page_cut page ImageFault taken later image notes =
    (taken ≡ []) × GotPart image (page_text page) × GotNothing notes
page_cut page _ taken later image notes = ⊥

abbrev pub page_work : Page → BytesWork
page_work page = record {
  ends = ends_memoryless;
  gives = λ x o. o ≡ record { status = AllGood; image = page_text page; notes = [] };
  untold = λ x. ⊥;
  leaves = page_leaves;
  cut = page_cut page;
}

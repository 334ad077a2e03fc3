-- What a run did: what its words ask for, over the source, or over the shelf
-- where they name a folder or dumps, or over what makes files where they ask for some.
use Rattle.std.specs.Prelude.{◌≡◌, ℕ, List, Option}
use Rattle.flux_base.specs.declared.status.Status.{Status}
use Rattle.flux_words.specs.Asked.{Asked}
use Rattle.flux_words.specs.CommandWords.{AskFor}
use Rattle.flux_cli.specs.ArchiveRuns.{Keeps}
use Rattle.flux_cli.specs.BytesWork.{of_bytes}
use Rattle.flux_cli.specs.FolderRuns.{DoesFolder}
use Rattle.flux_cli.specs.MakingWork.{Makes}
use Rattle.flux_cli.specs.Runs.{Does}
use Rattle.flux_cli.specs.UnpackRuns.{Unpacks}
use Rattle.flux_cli.specs.Works.{Row, row_for, with_bytes, with_files, with_folder, with_keeping}
use Rattle.flux_cli.specs.Works.{with_maker, with_unpacking}
use Rattle.flux_cli.specs.World.{World, on_shelf, on_source}

-- The source is not touched where the shelf is read, and the shelf is not where the source may be.
-- What makes files is touched where some are asked for, and then the image is not, save that it gets
-- the summary of a disk that is kept.
abbrev pub DoesRow : {S W N H M : Type 0} → Row → Status → (before after : World S W N H M) → Type 0
DoesRow (with_bytes work) status before after =
    Does (of_bytes work) status (on_source before) (on_source after)
    × (after.shelf ≡ before.shelf) × (after.maker ≡ before.maker)
DoesRow (with_files work) status before after =
    Does work status (on_shelf before) (on_shelf after)
    × (after.source ≡ before.source) × (after.maker ≡ before.maker)
DoesRow (with_folder format folder) status before after =
    DoesFolder format folder status (on_shelf before) (on_shelf after)
    × (after.source ≡ before.source) × (after.maker ≡ before.maker)
DoesRow (with_maker work) status before after =
    Makes work status before after
    × (after.shelf ≡ before.shelf) × (after.image ≡ before.image)
DoesRow (with_unpacking file folder) status before after =
    Unpacks file folder status before after
    × (after.source ≡ before.source) × (after.image ≡ before.image)
DoesRow (with_keeping asked) status before after =
    Keeps asked status before after × (after.source ≡ before.source)

-- what a run with these words did
pub record Ran {S W N H M : Type 0} (words : List (List ℕ)) (status : Status)
    (before after : World S W N H M) : Type 0 where
  pub asked : Option Asked
  pub asks : AskFor words asked
  pub did : DoesRow (row_for words asked) status before after

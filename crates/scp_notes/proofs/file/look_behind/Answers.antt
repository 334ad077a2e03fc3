use Rattle.std.proofs.Common.{List, [], ◌∷◌, Option, ap, ◌∙◌}
use Rattle.flux_base.specs.lemmas.Counting.{Counts-then}
use Rattle.track_shelf.specs.Told.{ShelfTold, with_failed}
use Rattle.scp_tracks.specs.lemmas.Failing.{none-failed}
use Rattle.scp_notes.specs.Files.{sums_of}
use Rattle.scp_notes.specs.declared.early.EarlyEnd.{EarlyEnd}
use Rattle.scp_notes.specs.declared.sums.Sums.{Sums}
use Rattle.scp_notes.proofs.file.look_behind.Goals as goal

pub returns-in-Ok-find_early_ends-clause-is : goal.returns-in-Ok-find_early_ends-clause-is
returns-in-Ok-find_early_ends-clause-is g c files file told at front =
    let same = ap (λ (t : ShelfTold). t.files) c.in-Ok.ensures.told in
    ap (λ (s : Option Sums). record { sums = s; ends = c.in-Ok-find_early_ends.ends.items }) (c.in-Ok.ensures.is files file told at front)
    ∙ ap (λ (e : List EarlyEnd). record { sums = sums_of file.bytes; ends = e }) (c.in-Ok-find_early_ends.ensures.is files file (same ∙ told) at front)

pub returns-in-Ok-find_early_ends-clause-told : goal.returns-in-Ok-find_early_ends-clause-told
returns-in-Ok-find_early_ends-clause-told g c =
    c.in-Ok-find_early_ends.ensures.told ∙ ap (with_failed []) (c.in-Ok.ensures.told ∙ none-failed _)

pub returns-in-Ok-find_early_ends-clause-counts : goal.returns-in-Ok-find_early_ends-clause-counts
returns-in-Ok-find_early_ends-clause-counts g c = Counts-then _ c.in-Ok.ensures.counts c.in-Ok-find_early_ends.ensures.counts

pub returns-in-Err-find_early_ends-clause-told : goal.returns-in-Err-find_early_ends-clause-told
returns-in-Err-find_early_ends-clause-told g c =
    c.in-Err-find_early_ends.ensures.told ∙ ap (with_failed (c.args.path.now ∷ [])) (c.in-Ok.ensures.told ∙ none-failed _)

pub returns-in-Err-find_early_ends-clause-counts : goal.returns-in-Err-find_early_ends-clause-counts
returns-in-Err-find_early_ends-clause-counts g c = Counts-then _ c.in-Ok.ensures.counts c.in-Err-find_early_ends.ensures.counts

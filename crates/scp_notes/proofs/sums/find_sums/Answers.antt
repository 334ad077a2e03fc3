use Rattle.std.proofs.Common.{◌≡◌, IfOk, sym, ap, subst, ◌∙◌}
use Rattle.flux_base.specs.lemmas.Counting.{Counts-then}
use Rattle.track_shelf.specs.Files.{file_at}
use Rattle.track_shelf.specs.Told.{ShelfTold, with_failed}
use Rattle.scp_tracks.specs.Tracks.{lost}
use Rattle.scp_tracks.specs.lemmas.Failing.{none-failed}
use Rattle.scp_notes.specs.Files.{Notes}
use Rattle.scp_notes.proofs.Finding.{fine-is, none-there, of-begin, refused-is}
use Rattle.scp_notes.proofs.sums.find_sums.Goals as goal

pub returns-in-Ok-None-clause-is : goal.returns-in-Ok-None-clause-is
returns-in-Ok-None-clause-is g c files told =
    ap (λ (n : Notes). n.sums) (none-there (file_at files c.args.path.now) c.in-Ok-None.field-0 c.in-Ok-None.field-0-is (c.in-Ok-None.ensures.is files told))

pub compare_sums-requires : goal.compare_sums-requires
compare_sums-requires g c = sym c.in-None.ensures

pub returns-in-Some-clause-is : goal.returns-in-Some-clause-is
returns-in-Some-clause-is g c files told =
    let it = c.in-Ok-Some in
    ap (λ (n : Notes). n.sums)
    (refused-is c.begins_tell.ensures.files (file_at files c.args.path.now) it.field-0 it.header it.field-0-is (it.ensures.is files told) c.in-Some.field-0
    c.in-Some.ensures)

pub returns-in-None-clause-is : goal.returns-in-None-clause-is
returns-in-None-clause-is g c files told =
    let it = c.in-Ok-Some in
    let at = file_at files c.args.path.now in
    let begins = it.ensures.is files told in
    let p = of-begin at it.field-0 it.header it.field-0-is begins in
    let same = ap (λ (t : ShelfTold). t.files) it.ensures.told in
    subst (λ s. IfOk c.compare_sums.result (λ sums. sums ≡ s))
    (sym (ap (λ (n : Notes). n.sums) (fine-is c.begins_tell.ensures.files at it.field-0 it.header it.field-0-is begins c.in-None.ensures)))
    (c.compare_sums.ensures.is files p.0 (same ∙ told) p.1 p.2)

pub returns-in-None-clause-told : goal.returns-in-None-clause-told
returns-in-None-clause-told g c =
    c.compare_sums.ensures.told ∙ ap (with_failed (lost c.args.path.now c.compare_sums.result)) (c.in-Ok-Some.ensures.told ∙ none-failed _)

pub returns-in-None-clause-counts : goal.returns-in-None-clause-counts
returns-in-None-clause-counts g c = Counts-then _ c.in-Ok-Some.ensures.counts c.compare_sums.ensures.counts

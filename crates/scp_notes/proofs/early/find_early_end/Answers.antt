use Rattle.std.proofs.Common.{◌≡◌, IfOk, drop, take, sym, ap, subst, ◌∙◌, arith}
use Rattle.flux_base.specs.lemmas.Counting.{Counts-then}
use Rattle.track_shelf.specs.Told.{ShelfTold, with_failed}
use Rattle.scp_files.specs.Tracks.{end_fault, fault_by, head_fault, head_size}
use Rattle.scp_tracks.specs.Tracks.{lost}
use Rattle.scp_tracks.specs.lemmas.Failing.{none-failed}
use Rattle.scp_notes.specs.Files.{whole_before}
use Rattle.scp_notes.proofs.Passing.{head-untold, none_some, sized, some_same}
use Rattle.scp_notes.proofs.early.find_early_end.Goals as goal

pub returns-in-Ok-None-clause-is : goal.returns-in-Ok-None-clause-is
returns-in-Ok-None-clause-is g c files file told at =
    absurd (none_some (sym c.in-Ok-None.field-0-is ∙ c.in-Ok-None.ensures.is files file told at))

pub find_early_revolution-requires : goal.find_early_revolution-requires
find_early_revolution-requires g c = record { head = sized c.args.place.revolutions c.args.place.number c.in-Ok-Some.head (sym c.in-None.ensures) }

pub returns-in-Some-clause-is : goal.returns-in-Some-clause-is
returns-in-Some-clause-is g c files file told at =
    let track = drop c.args.place.offset file.bytes in
    let R = c.args.place.revolutions in
    let place : c.from-offset.result ≡ c.args.place.offset = omega (arith, c.from-offset.ensures) in
    let head : c.in-Ok-Some.head ≡ take (head_size R) track =
    some_same (sym c.in-Ok-Some.field-0-is ∙ c.in-Ok-Some.ensures.is files file told at) ∙ ap (λ n. take (head_size R) (drop n file.bytes)) place in
    let fault = sym ((c.begins_tell.ensures.tracks R track).fault c.args.place.number) ∙ ap (head_fault R c.args.place.number) (sym head) ∙ sym c.in-Some.ensures in
    head-untold R c.args.place.number track c.in-Some.field-0 fault

pub returns-in-None-clause-is : goal.returns-in-None-clause-is
returns-in-None-clause-is g c files file told at =
    let track = drop c.args.place.offset file.bytes in
    let R = c.args.place.revolutions in
    let place : c.from-offset.result ≡ c.args.place.offset = omega (arith, c.from-offset.ensures) in
    let head : c.in-Ok-Some.head ≡ take (head_size R) track =
    some_same (sym c.in-Ok-Some.field-0-is ∙ c.in-Ok-Some.ensures.is files file told at) ∙ ap (λ n. take (head_size R) (drop n file.bytes)) place in
    let none = sym ((c.begins_tell.ensures.tracks R track).fault c.args.place.number) ∙ ap (head_fault R c.args.place.number) (sym head) ∙ sym c.in-None.ensures in
    let same_files = ap (λ (t : ShelfTold). t.files) c.in-Ok-Some.ensures.told in
    subst (λ f. IfOk c.find_early_revolution.result (λ it. it ≡ whole_before (fault_by f (end_fault R track)))) (sym none)
    (c.find_early_revolution.ensures.is files file (same_files ∙ told) at head)

pub returns-in-None-clause-told : goal.returns-in-None-clause-told
returns-in-None-clause-told g c =
    c.find_early_revolution.ensures.told ∙ ap (with_failed (lost c.args.path.now c.find_early_revolution.result)) (c.in-Ok-Some.ensures.told ∙ none-failed _)

pub returns-in-None-clause-counts : goal.returns-in-None-clause-counts
returns-in-None-clause-counts g c = Counts-then _ c.in-Ok-Some.ensures.counts c.find_early_revolution.ensures.counts

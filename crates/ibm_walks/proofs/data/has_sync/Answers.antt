use Rattle.std.proofs.Common.{◌≡◌, ◌+◌, ◌∙◌, ℕ, List, Bool, true, drop, ap, arith, subst}
use Rattle.std.specs.Prelude.{◌↔◌}
use Rattle.frame_law.specs.Frames.{IsFirstSync}
use Rattle.ibm_disks.specs.GapPlans.{density_of}
use Rattle.ibm_disks.specs.declared.rate.Density.{Density}
use Rattle.ibm_walks.specs.Headers.{DataSyncAt, header_cells}
use Rattle.ibm_walks.specs.inside.Walked.{HasNameFrom}
use Rattle.ibm_walks.proofs.Syncs.{short_header, sync_decides}
use Rattle.ibm_walks.proofs.data.has_sync.Goals as goal

pub overflow_add-place : goal.overflow_add-place
overflow_add-place c =
    let short = short_header c.density.result in
    omega (arith, short, c.header_cells-end.ensures, c.requires.place, c.requires.few)

pub overflow_add-place-in-Some : goal.overflow_add-place-in-Some
overflow_add-place-in-Some c =
    let short = short_header c.density.result in
    let near = c.in-Some.ensures.first.near in
    omega (arith, short, near, c.header_cells-end.ensures, c.requires.place, c.requires.few)

pub overflow_add-place-in-Some-2 : goal.overflow_add-place-in-Some-2
overflow_add-place-in-Some-2 c =
    let short = short_header c.density.result in
    let near = c.in-Some.ensures.first.near in
    omega (arith, short, near, c.header_cells-end.ensures, c.requires.place, c.requires.few)

pub returns-in-Some : goal.returns-in-Some
returns-in-Some c =
    let end : c.header_cells-end.result ≡ header_cells (density_of c.args.rate) = c.header_cells-end.ensures ∙ ap header_cells c.density.ensures in
    let first = subst (λ (n : ℕ). IsFirstSync (DataSyncAt (density_of c.args.rate) (drop c.args.place c.args.cells.now.cells)) n (n + 1024) c.in-Some.sync) end
    (subst (λ (d : Density). IsFirstSync (DataSyncAt d (drop c.args.place c.args.cells.now.cells)) c.header_cells-end.result (c.header_cells-end.result + 1024) c.in-Some.sync) c.density-2.ensures
    (subst (λ (xs : List Bool). IsFirstSync (DataSyncAt c.density-2.result xs) c.header_cells-end.result (c.header_cells-end.result + 1024) c.in-Some.sync) c.new-frame.ensures
    c.in-Some.ensures.first)) in
    sync_decides c.args.rate c.args.cells.now.cells c.args.place c.in-Some.sync first c.has_name.result
    (subst (λ (n : ℕ). (c.has_name.result ≡ true) ↔ HasNameFrom c.args.rate c.args.cells.now.cells (c.args.place + n) (c.args.place + c.in-Some.sync + 1)) end c.has_name.ensures)

use Rattle.std.proofs.Common.{◌≡◌, ◌∙◌, true, false, sym}
use Rattle.dump_numbers.proofs.Walks.{adds_bare, adds_none, adds_one}
use Rattle.dump_numbers.proofs.names.note_name.Goals as goal

no : false ≡ true → ⊥
no e = cc

pub returns-in_default-clause-adds : goal.returns-in_default-clause-adds
returns-in_default-clause-adds c =
    adds_none c.args.header.now.rate c.args.own c.args.header.now.flux.now.times c.args.header.now.flux.now.indexes c.args.header.now.cells.now.cells c.args.header.now.place c.args.name c.args.names.now c.in_default.ensures.none

pub returns-then-has_whole-clause-adds : goal.returns-then-has_whole-clause-adds
returns-then-has_whole-clause-adds c =
    let told = c.in-Some.ensures.some in
    adds_one c.args.header.now.rate c.args.own c.args.header.now.flux.now.times c.args.header.now.flux.now.indexes c.args.header.now.cells.now.cells c.args.header.now.place c.args.name c.in-Some.size c.in-Some.number told.0 told.1
    c.args.names.now c.insert.new.self (c.has_whole.ensures.0 c.if-has_whole.true) c.insert.ensures.has

pub returns-else-has_whole-clause-adds : goal.returns-else-has_whole-clause-adds
returns-else-has_whole-clause-adds c =
    let told = c.in-Some.ensures.some in
    adds_bare c.args.header.now.rate c.args.own c.args.header.now.flux.now.times c.args.header.now.flux.now.indexes c.args.header.now.cells.now.cells c.args.header.now.place c.args.name c.in-Some.size c.in-Some.number told.0 told.1
    c.args.names.now (λ whole. no (sym c.if-has_whole.false ∙ c.has_whole.ensures.1 whole))

use Rattle.std.proofs.Common.{refl}
use Rattle.dump_numbers.proofs.Others.{on_first, on_second}
use Rattle.dump_numbers.proofs.heads.head_names.Goals as goal

pub returns-then-own-eq0 : goal.returns-then-own-eq0
returns-then-own-eq0 c =
    let names = c.track_names-names in
    let changed = c.only_of-changed in
    on_first c.args.rate c.args.own c.args.flux.now.times c.args.flux.now.indexes c.args.cells.now.cells
    (record { own = names.result.own; first = names.result.own; changed = changed.result }) names.result.other names.ensures.own names.ensures.other changed.ensures.has
    names.ensures.full.0 changed.ensures.full c.if-own-eq0.true refl

pub returns-else-own-eq0 : goal.returns-else-own-eq0
returns-else-own-eq0 c =
    let names = c.track_names-names in
    let changed = c.only_of-changed in
    on_second c.args.rate c.args.own c.args.flux.now.times c.args.flux.now.indexes c.args.cells.now.cells
    (record { own = names.result.own; first = changed.result; changed = changed.result }) names.result.other names.ensures.own names.ensures.other changed.ensures.has
    names.ensures.full.0 changed.ensures.full c.if-own-eq0.false refl

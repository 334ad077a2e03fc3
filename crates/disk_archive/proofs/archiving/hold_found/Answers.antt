use Rattle.std.proofs.Common.{◌∙◌}
use Rattle.dump_reading.specs.Files.{shelf_at}
use Rattle.disk_archive.specs.Finding.{asked_of}
use Rattle.disk_archive.proofs.Holding.{after-found, after-read, holds, not-read}
use Rattle.disk_archive.proofs.archiving.hold_found.Goals as goal

pub returns-in-Err-clause-err : goal.returns-in-Err-clause-err
returns-in-Err-clause-err g c = λ start has.
    let asked = asked_of c.args.asked.now in
    let begun = shelf_at g.H.Source g.H.Shelf c.args.shelf.now in
    not-read asked start begun begun (shelf_at g.H.Source g.H.Shelf c.read_texts.new.shelf) c.args.found.candidate c.in-Err.fault has.disk
    (after-found asked start begun c.args.found has) c.in-Err.ensures.err

pub returns-in-Ok-line_of-clause-ok : goal.returns-in-Ok-line_of-clause-ok
returns-in-Ok-line_of-clause-ok g c = λ start has.
    holds (asked_of c.args.asked.now) start (shelf_at g.H.Source g.H.Shelf c.args.shelf.now) (shelf_at g.H.Source g.H.Shelf c.read_texts.new.shelf)
    c.args.found c.in-Ok.read has
    c.in-Ok.ensures.ok c.summary_of-summary.result c.in-Ok-line_of.line c.summary_of-summary.ensures
    (λ ns are. c.in-Ok-line_of.ensures ns (c.bytes.ensures ∙ are))

pub returns-in-Err-line_of-clause-err : goal.returns-in-Err-line_of-clause-err
returns-in-Err-line_of-clause-err g c = λ start has.
    let asked = asked_of c.args.asked.now in
    let begun = shelf_at g.H.Source g.H.Shelf c.args.shelf.now in
    after-read asked start begun (shelf_at g.H.Source g.H.Shelf c.read_texts.new.shelf) c.args.found.candidate c.in-Ok.read
    (after-found asked start begun c.args.found has) c.in-Ok.ensures.ok

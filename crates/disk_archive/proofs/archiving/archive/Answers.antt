use Rattle.std.proofs.Common.{ℕ, List, Err, refl, subst, sym, ◌∙◌}
use Rattle.dump_reading.specs.Files.{shelf_at}
use Rattle.flux_base.specs.lemmas.Blaming.{CountsBy-none}
use Rattle.disk_archive.specs.Finding.{asked_of}
use Rattle.disk_archive.specs.Kept.{kept_of}
use Rattle.disk_archive.specs.Making.{WritesKept}
use Rattle.disk_archive.specs.declared.fault.ArchiveFault.TheVariants.{Exists}
use Rattle.disk_archive.proofs.Holding.{kept-did, kept-some, some-did, unheld-some}
use Rattle.disk_archive.proofs.Saying.{kept-blames, kept-says, unheld-blames, unheld-says}
use Rattle.disk_archive.proofs.Shelves.{none-often}
use Rattle.disk_archive.proofs.archiving.archive.Goals as goal

pub returns-then-has_folder-clause-says : goal.returns-then-has_folder-clause-says
returns-then-has_folder-clause-says g c = (λ told known. sym c.if-has_folder.true ∙ (rw c.bytes.ensures at c.has_folder.ensures) told known, refl, (refl, refl))

pub returns-then-has_folder-clause-shelf : goal.returns-then-has_folder-clause-shelf
returns-then-has_folder-clause-shelf g c =
    let start = shelf_at g.H.Source g.H.Shelf c.args.shelf.now in
    some-did (asked_of c.args.asked.now) start start Exists (0, none-often start)

pub returns-then-has_folder-clause-blames : goal.returns-then-has_folder-clause-blames
returns-then-has_folder-clause-blames g c = CountsBy-none _

pub returns-in-Err-clause-says : goal.returns-in-Err-clause-says
returns-in-Err-clause-says g c =
    unheld-says (asked_of c.args.asked.now) (shelf_at g.H.Source g.H.Shelf c.args.shelf.now) (shelf_at g.H.Source g.H.Shelf c.hold_disk.new.shelf)
    (g.M.FileMaker.made c.args.maker.now) (g.W.Sink.written c.args.line.now) c.in-Err.fault c.in-Err.ensures.err

pub returns-in-Err-clause-shelf : goal.returns-in-Err-clause-shelf
returns-in-Err-clause-shelf g c =
    let asked = asked_of c.args.asked.now in
    let start = shelf_at g.H.Source g.H.Shelf c.args.shelf.now in
    let now = shelf_at g.H.Source g.H.Shelf c.hold_disk.new.shelf in
    some-did asked start now c.in-Err.fault (unheld-some asked start now c.in-Err.fault c.in-Err.ensures.err)

pub returns-in-Err-clause-blames : goal.returns-in-Err-clause-blames
returns-in-Err-clause-blames g c =
    unheld-blames (asked_of c.args.asked.now) (shelf_at g.H.Source g.H.Shelf c.args.shelf.now) (shelf_at g.H.Source g.H.Shelf c.hold_disk.new.shelf) _ c.in-Err.fault c.in-Err.ensures.err

pub returns-in-Ok-write_kept-clause-says : goal.returns-in-Ok-write_kept-clause-says
returns-in-Ok-write_kept-clause-says g c = (
  kept_of c.in-Ok.held,
  (
    λ told known. sym c.if-has_folder.false ∙ (rw c.bytes.ensures at c.has_folder.ensures) told known,
    c.in-Ok.ensures.ok,
    rw c.bytes-2.ensures at c.in-Ok-write_kept.ensures.wrote,
  ),
  refl,
)

pub returns-in-Ok-write_kept-clause-shelf : goal.returns-in-Ok-write_kept-clause-shelf
returns-in-Ok-write_kept-clause-shelf g c =
    kept-did (asked_of c.args.asked.now) (shelf_at g.H.Source g.H.Shelf c.args.shelf.now) (shelf_at g.H.Source g.H.Shelf c.hold_disk.new.shelf) (kept_of c.in-Ok.held) _ refl c.in-Ok.ensures.ok

pub returns-clause-says : goal.returns-clause-says
returns-clause-says g c =
    kept-says (asked_of c.args.asked.now) (shelf_at g.H.Source g.H.Shelf c.args.shelf.now) (shelf_at g.H.Source g.H.Shelf c.hold_disk.new.shelf)
    (g.M.FileMaker.made c.args.maker.now) (g.M.FileMaker.made c.write_kept.new.maker) (g.W.Sink.written c.args.line.now) (g.W.Sink.written c.write_kept.new.line)
    (kept_of c.in-Ok.held) c.in-Err-write_kept.fault (
      λ told known. sym c.if-has_folder.false ∙ (rw c.bytes.ensures at c.has_folder.ensures) told known,
      c.in-Ok.ensures.ok,
      subst (λ (folder : List ℕ). WritesKept folder (kept_of c.in-Ok.held) (g.M.FileMaker.made c.args.maker.now) (g.M.FileMaker.made c.write_kept.new.maker) (g.W.Sink.written c.args.line.now)
          (g.W.Sink.written c.write_kept.new.line) (Err c.in-Err-write_kept.fault)) c.bytes-2.ensures c.in-Err-write_kept.ensures.wrote,
    )

pub returns-clause-shelf : goal.returns-clause-shelf
returns-clause-shelf g c =
    let asked = asked_of c.args.asked.now in
    let start = shelf_at g.H.Source g.H.Shelf c.args.shelf.now in
    let now = shelf_at g.H.Source g.H.Shelf c.hold_disk.new.shelf in
    some-did asked start now c.in-Err-write_kept.fault (kept-some asked start now (kept_of c.in-Ok.held) c.in-Ok.ensures.ok)

pub returns-clause-blames : goal.returns-clause-blames
returns-clause-blames g c = kept-blames _ _ c.in-Err-write_kept.fault c.in-Err-write_kept.ensures.blames

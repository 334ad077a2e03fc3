use Rattle.std.proofs.Common.{None, Some, refl, sym, ap, subst, ◌∙◌}
use Rattle.std.proofs.lemmas.Iterator.Adapters.{option_map_id}
use Rattle.track_shelf.specs.Told.{ShelfTold, with_failed}
use Rattle.scp_tracks.specs.lemmas.Failing.{none-failed}
use Rattle.scp_unpack.specs.Answers.{Asked, SaysOfTracks}
use Rattle.scp_unpack.specs.Blamed.{unpack_lost}
use Rattle.scp_unpack.specs.inside.Steps.{MakesBehind}
use Rattle.scp_files.specs.lemmas.Beginnings.{sized}
use Rattle.scp_unpack.proofs.Beginning.{fault-is, says-whole}
use Rattle.scp_unpack.proofs.unpacking.unpack.Goals as goal

pub returns-in-Some-clause-says : goal.returns-in-Some-clause-says
returns-in-Some-clause-says g c = (
  λ files told. fault-is c.begins_tell.ensures.files _ c.in-Ok-Some.field-0 c.in-Ok-Some.header (Some c.in-Some.fault) c.in-Ok-Some.field-0-is
      (c.in-Ok-Some.ensures.is files told) c.in-Some.ensures,
  (refl, refl),
)

pub returns-in-Some-first_there-clause-says : goal.returns-in-Some-first_there-clause-says
returns-in-Some-first_there-clause-says g c = (
  c.in-Some-first_there.ensures.bound,
  λ files told. fault-is c.begins_tell.ensures.files _ c.in-Ok-Some.field-0 c.in-Ok-Some.header None c.in-Ok-Some.field-0-is
      (c.in-Ok-Some.ensures.is files told) c.in-None.ensures,
  c.in-Some-first_there.ensures.first,
  (refl, refl),
)

pub returns-in-Err-make_folder-clause-says : goal.returns-in-Err-make_folder-clause-says
returns-in-Err-make_folder-clause-says g c = (
  (
    λ files told. fault-is c.begins_tell.ensures.files _ c.in-Ok-Some.field-0 c.in-Ok-Some.header None c.in-Ok-Some.field-0-is
        (c.in-Ok-Some.ensures.is files told) c.in-None.ensures,
    c.in-None-first_there.ensures.first,
  ),
  (c.in-Err-make_folder.ensures.made ∙ option_map_id _, refl),
)

pub unpack_tracks-requires-clause-size : goal.unpack_tracks-requires-clause-size
unpack_tracks-requires-clause-size g c = sized c.in-Ok-Some.header (sym c.in-None.ensures)

pub returns-clause-says : goal.returns-clause-says
returns-clause-says g c =
    let asked : Asked = record { shelf = g.H.Shelf.files c.args.shelf.now; path = c.args.path.now; folder = c.args.folder.now } in
    let made = g.M.FileMaker.made c.args.maker.now in
    let mid = g.M.FileMaker.made c.make_folder.new.self in
    let made' = g.M.FileMaker.made c.unpack_tracks.new.maker in
    let notes = g.N.Sink.written c.args.notes.now in
    let notes' = g.N.Sink.written c.unpack_tracks.new.notes in
    let same = ap (λ (t : ShelfTold). t.files) c.in-Ok-Some.ensures.told in
    says-whole asked made mid made' notes notes' c.in-Ok.field-0 (
      λ files told. fault-is c.begins_tell.ensures.files _ c.in-Ok-Some.field-0 c.in-Ok-Some.header None c.in-Ok-Some.field-0-is
          (c.in-Ok-Some.ensures.is files told) c.in-None.ensures,
      c.in-None-first_there.ensures.first,
    ) c.in-Ok.ensures.made c.unpack_tracks.result
    (subst (λ shelf. SaysOfTracks (record { shelf = shelf; path = c.args.path.now; folder = c.args.folder.now }) (MakesBehind mid made') notes notes'
    c.unpack_tracks.result) same c.unpack_tracks.ensures.says)

pub returns-clause-told : goal.returns-clause-told
returns-clause-told g c =
    c.unpack_tracks.ensures.told
    ∙ ap (with_failed (unpack_lost c.args.path.now c.unpack_tracks.result)) (c.in-Ok-Some.ensures.told ∙ none-failed _)

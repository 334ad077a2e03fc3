use Rattle.std.proofs.Common.{true, false, arith, Ok, refl, ap, ◌∙◌, subst}
use Rattle.flux_base.specs.declared.status.Status.TheVariants.{ReadFault}
use Rattle.flux_base.specs.lemmas.Blaming.{CountsBy-source, CountsBy-then}
use Rattle.flux_base.specs.World.{sink_at}
use Rattle.flux_cli.proofs.Blaming.{other_blames}
use Rattle.flux_cli.proofs.Ended.{missing-refused}
use Rattle.flux_cli.proofs.EndingLaws.{IsOverSource, ended-by-line, ends-blame}
use Rattle.flux_cli.specs.Endings.{refuses}
use Rattle.flux_cli.specs.Blamed.{shelf_blame}
use Rattle.flux_cli.proofs.FolderRun.{decoded-so, folder-decodes, folder-fails, folder-lacks, other_status}
use Rattle.flux_engine.specs.Room.{RoomState}
use Rattle.flux_cli.specs.ShelfWork.{ends_over_shelf}
use Rattle.flux_cli.specs.World.{shelf_input}
use Rattle.flux_cli.proofs.folder.decode_folder.Goals as goal

pub returns-in-ReadFault-clause-did : goal.returns-in-ReadFault-clause-did
returns-in-ReadFault-clause-did g c =
    let e = c.begin.ensures in
    folder-decodes c.args.format c.args.folder.now _ _ _ c.begin.result (shelf_input g.H.Source g.H.Shelf c.begin.new.self)
    (record { bound = e.bound; missing = e.missing; left = e.left; kept = e.kept; unhandled = e.unhandled; unread = e.unread; later = e.later; cause = e.cause })
    (c.in-Ok-None.is ∙ ap Ok c.in-Ok-None.field-0-is)
    (record { inner = ReadFault; status_is = refl; enough = λ same. c.decode.ensures.memory (c.in-ReadFault.is ∙ same); later = c.decode.ensures.blames.source.later; does = decoded-so c.decoding_plan-plan.result c.args.room.now.format c.args.format ReadFault _ _ c.decoding_plan-plan.ensures (ap (λ (room : RoomState). room.format) c.requires) c.in-ReadFault.ensures.does })

pub returns-in_default-clause-did : goal.returns-in_default-clause-did
returns-in_default-clause-did g c =
    let e = c.begin.ensures in
    folder-decodes c.args.format c.args.folder.now _ _ _ c.begin.result (shelf_input g.H.Source g.H.Shelf c.begin.new.self)
    (record { bound = e.bound; missing = e.missing; left = e.left; kept = e.kept; unhandled = e.unhandled; unread = e.unread; later = e.later; cause = e.cause })
    (c.in-Ok-None.is ∙ ap Ok c.in-Ok-None.field-0-is)
    (record { inner = c.decode.result; status_is = other_status c.decode.result c.in_default.not-ReadFault; enough = c.decode.ensures.memory; later = c.decode.ensures.blames.source.later; does = decoded-so c.decoding_plan-plan.result c.args.room.now.format c.args.format c.decode.result _ _ c.decoding_plan-plan.ensures (ap (λ (room : RoomState). room.format) c.requires) c.decode.ensures.does })

pub returns-in_default-clause-memory : goal.returns-in_default-clause-memory
returns-in_default-clause-memory g c = c.decode.ensures.memory

pub returns-in-Ok-Some-clause-did : goal.returns-in-Ok-Some-clause-did
returns-in-Ok-Some-clause-did g c =
    let e = c.begin.ensures in
    folder-lacks c.args.format c.args.folder.now _ _ _ c.begin.result _
    (record { bound = e.bound; missing = e.missing; left = e.left; kept = e.kept; unhandled = e.unhandled; unread = e.unread; later = e.later; cause = e.cause })
    c.in-Ok-Some.number (c.in-Ok-Some.is ∙ ap Ok c.in-Ok-Some.field-0-is)
    (missing-refused _ _ _ _ c.refuse.result c.args.format c.in-Ok-Some.number c.track_id.result c.track_id.ensures.at (rw c.missing_line.ensures at c.refuse.ensures))

pub returns-in-Err-clause-did : goal.returns-in-Err-clause-did
returns-in-Err-clause-did g c =
    let e = c.begin.ensures in
    folder-fails c.args.format c.args.folder.now _ _ _ c.begin.result _
    (record { bound = e.bound; missing = e.missing; left = e.left; kept = e.kept; unhandled = e.unhandled; unread = e.unread; later = e.later; cause = e.cause })
    c.in-Err.field-0 c.in-Err.is refl refl

pub missing_line-requires-clause-cylinder : goal.missing_line-requires-clause-cylinder
missing_line-requires-clause-cylinder g c =
    let keeps = c.tracks_keep_bounds.ensures.bounds c.args.format c.track_id.result c.track_id.ensures.track in
    omega (arith, keeps.cylinder)

pub missing_line-requires-clause-head : goal.missing_line-requires-clause-head
missing_line-requires-clause-head g c =
    let keeps = c.tracks_keep_bounds.ensures.bounds c.args.format c.track_id.result c.track_id.ensures.track in
    omega (arith, keeps.head)

pub returns-in-ReadFault-clause-blames : goal.returns-in-ReadFault-clause-blames
returns-in-ReadFault-clause-blames g c =
    CountsBy-then _ (CountsBy-source _ _ false (record { later = c.begin.ensures.later; cause = tt; counted = c.in-Ok-None.ensures.counted }))
    (rw c.in-ReadFault.is at c.decode.ensures.blames)

pub returns-in_default-clause-blames : goal.returns-in_default-clause-blames
returns-in_default-clause-blames g c =
    CountsBy-then _ (CountsBy-source _ _ false (record { later = c.begin.ensures.later; cause = tt; counted = c.in-Ok-None.ensures.counted }))
    (other_blames c.decode.result c.in_default.not-ReadFault c.decode.ensures.no_shelf c.decode.ensures.blames)

pub returns-in-Ok-Some-clause-blames : goal.returns-in-Ok-Some-clause-blames
returns-in-Ok-Some-clause-blames g c =
    ends-blame shelf_blame refl refl (refuses c.missing_line.result.bytes) c.refuse.result (sink_at g.N.Sink c.args.notes.now) (sink_at g.N.Sink c.refuse.new.notes)
    (CountsBy-source _ _ false (record { later = c.begin.ensures.later; cause = tt; counted = c.in-Ok-Some.ensures.counted })) c.refuse.ensures

pub returns-in-Ok-Some-clause-no_source : goal.returns-in-Ok-Some-clause-no_source
returns-in-Ok-Some-clause-no_source g c = λ same. subst ends_over_shelf same (ended-by-line _ _ c.refuse.result _ ends_over_shelf tt tt c.refuse.ensures)

pub returns-in-Ok-Some-clause-memory : goal.returns-in-Ok-Some-clause-memory
returns-in-Ok-Some-clause-memory g c = λ same. subst IsOverSource same (ended-by-line _ _ c.refuse.result _ IsOverSource tt tt c.refuse.ensures)

pub returns-in-Err-clause-blames : goal.returns-in-Err-clause-blames
returns-in-Err-clause-blames g c =
    CountsBy-source _ _ true (record { later = c.in-Err.ensures.later; cause = c.in-Err.ensures.cause; counted = c.in-Err.ensures.counted })

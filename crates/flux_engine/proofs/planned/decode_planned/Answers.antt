use Rattle.std.proofs.Common.{true, false, Ok, Err, subst}
use Rattle.std.specs.Io.KnownBytes.{Appends}
use Rattle.flux_base.specs.Outside.{AppendsPart}
use Rattle.flux_base.specs.lemmas.Blaming.{CountsBy-notes, CountsBy-then}
use Rattle.flux_engine.specs.declared.fault.Stopped.TheVariants.{NotesFault}
use Rattle.flux_engine.specs.Tracks.{part_by}
use Rattle.flux_engine.proofs.BlamedSteps.{is_finished}
use Rattle.flux_engine.proofs.PlanDecoding.{planned_all, planned_ends, planned_no_total}
use Rattle.flux_engine.proofs.PlanTelling.{says_of_planned}
use Rattle.flux_engine.proofs.planned.decode_planned.Goals as goal

pub returns-in-Err-clause-decoded : goal.returns-in-Err-clause-decoded
returns-in-Err-clause-decoded g c =
    planned_ends c.args.plan (part_by c.args.plan.naming) c.args.room.now.format _ _ _ _ _ _ c.decode_planned_tracks.new.totals c.in-Err.fault c.in-Err.ensures.err

pub returns-in-Err-clause-told : goal.returns-in-Err-clause-told
returns-in-Err-clause-told g c = λ bytes told.
    says_of_planned c.args.plan (part_by c.args.plan.naming) c.args.room.now.format bytes (g.S.Source.left c.args.source.now) _ _ _ _ _ told (Err c.in-Err.fault)
    (returns-in-Err-clause-decoded g c)

pub returns-in-Err-clause-complete : goal.returns-in-Err-clause-complete
returns-in-Err-clause-complete g c = is_finished (Err c.in-Err.fault) c.in-Err.ensures.blames

pub returns-in-Ok-write_line-clause-decoded : goal.returns-in-Ok-write_line-clause-decoded
returns-in-Ok-write_line-clause-decoded g c =
    planned_all c.args.plan (part_by c.args.plan.naming) c.args.room.now.format _ _ _ _ _ (g.N.Sink.written c.decode_planned_tracks.new.notes) _ c.decode_planned_tracks.new.room c.decode_planned_tracks.new.totals c.in-Ok.ensures.ok
    (subst (Appends (g.N.Sink.written c.decode_planned_tracks.new.notes) (g.N.Sink.written c.write_line.new.sink)) c.total_line.ensures c.in-Ok-write_line.ensures.ok)

pub returns-in-Ok-write_line-clause-told : goal.returns-in-Ok-write_line-clause-told
returns-in-Ok-write_line-clause-told g c = λ bytes told.
    says_of_planned c.args.plan (part_by c.args.plan.naming) c.args.room.now.format bytes (g.S.Source.left c.args.source.now) _ _ _ _ _ told (Ok c.decode_planned_tracks.new.totals)
    (returns-in-Ok-write_line-clause-decoded g c)

pub returns-in-Err-write_line-clause-decoded : goal.returns-in-Err-write_line-clause-decoded
returns-in-Err-write_line-clause-decoded g c =
    planned_no_total c.args.plan (part_by c.args.plan.naming) c.args.room.now.format _ _ _ _ _ (g.N.Sink.written c.decode_planned_tracks.new.notes) _ c.decode_planned_tracks.new.room c.decode_planned_tracks.new.totals c.in-Ok.ensures.ok
    (subst (AppendsPart (g.N.Sink.written c.decode_planned_tracks.new.notes) (g.N.Sink.written c.write_line.new.sink)) c.total_line.ensures c.in-Err-write_line.ensures.err)

pub returns-in-Err-write_line-clause-told : goal.returns-in-Err-write_line-clause-told
returns-in-Err-write_line-clause-told g c = λ bytes told.
    says_of_planned c.args.plan (part_by c.args.plan.naming) c.args.room.now.format bytes (g.S.Source.left c.args.source.now) _ _ _ _ _ told (Err NotesFault)
    (returns-in-Err-write_line-clause-decoded g c)

pub returns-in-Ok-write_line-clause-blames : goal.returns-in-Ok-write_line-clause-blames
returns-in-Ok-write_line-clause-blames g c = CountsBy-then _ c.in-Ok.ensures.blames (CountsBy-notes _ _ false c.in-Ok-write_line.ensures.counts)

pub returns-in-Err-write_line-clause-blames : goal.returns-in-Err-write_line-clause-blames
returns-in-Err-write_line-clause-blames g c = CountsBy-then _ c.in-Ok.ensures.blames (CountsBy-notes _ _ true c.in-Err-write_line.ensures.counts)

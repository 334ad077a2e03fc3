use Rattle.std.proofs.Common.{true, false, refl, Ok, Err, subst}
use Rattle.std.specs.Io.KnownBytes.{Appends}
use Rattle.flux_base.specs.lemmas.Blaming.{CountsBy-image, CountsBy-then}
use Rattle.flux_base.specs.Outside.{AppendsPart}
use Rattle.flux_base.specs.World.{sink_at}
use Rattle.kryo_stream.specs.Reads.{reads_at}
use Rattle.sector_images.specs.declared.format.Format.{Format}
use Rattle.flux_engine.specs.lemmas.Blamed.{CountsBy-unnoted}
use Rattle.flux_engine.specs.Plans.{EndsInPlan}
use Rattle.flux_engine.specs.declared.fault.Stopped.TheVariants.{ImageFault}
use Rattle.flux_engine.specs.lemmas.ReadLaws.{no_reads}
use Rattle.sector_report.specs.declared.totals.Totals.{Totals}
use Rattle.disk_map.specs.Progress.{EndsEarly}
use Rattle.disk_map.specs.Texts.{top_text}
use Rattle.disk_map.proofs.Drawing.{mapped_all, mapped_fault, mapped_no_foot, mapped_no_top}
use Rattle.disk_map.proofs.Ended.{ended_blames}
use Rattle.disk_map.proofs.Telling.{is_finished, no_notes_fault, says_of_input}
use Rattle.disk_map.proofs.disk.map_disk.Goals as goal

pub returns-in-Err-clause-mapped : goal.returns-in-Err-clause-mapped
returns-in-Err-clause-mapped g c =
    mapped_no_top c.args.plan c.args.room.now.format (g.S.Source.left c.args.source.now) (g.P.Sink.written c.args.picture.now) (g.P.Sink.written c.write_top.new.picture)
    c.requires.some
    (subst (λ (f : Format). AppendsPart (g.P.Sink.written c.args.picture.now) (g.P.Sink.written c.write_top.new.picture) (top_text f)) c.room_format-format.ensures c.in-Err.ensures.err)

pub returns-in-Err-clause-told : goal.returns-in-Err-clause-told
returns-in-Err-clause-told g c = λ bytes told.
    says_of_input c.args.plan c.args.room.now.format bytes (g.S.Source.left c.args.source.now) _ _ _ told (Err ImageFault) (returns-in-Err-clause-mapped g c)

pub returns-in-Err-clause-needed : goal.returns-in-Err-clause-needed
returns-in-Err-clause-needed g c = λ bytes told. no_reads (EndsInPlan c.args.plan c.args.room.now.format) (reads_at g.S.Source c.args.source.now)

pub returns-in-Err-decode_planned_tracks-clause-mapped : goal.returns-in-Err-decode_planned_tracks-clause-mapped
returns-in-Err-decode_planned_tracks-clause-mapped g c =
    let e = c.in-Err-decode_planned_tracks.ensures in
    let picture = sink_at g.P.Sink c.decode_planned_tracks.new.image in
    let picture' = sink_at g.P.Sink c.end_early.new.picture in
    mapped_fault c.args.plan c.requires.some c.args.room.now.format _ _ _ (g.P.Sink.written c.write_top.new.picture) _ _ c.decode_planned_tracks.new.totals
    (subst (λ (f : Format). Appends (g.P.Sink.written c.args.picture.now) (g.P.Sink.written c.write_top.new.picture) (top_text f)) c.room_format-format.ensures c.in-Ok.ensures.ok)
    picture picture' c.in-Err-decode_planned_tracks.fault c.end_early.result e.err (no_notes_fault c.in-Err-decode_planned_tracks.fault (CountsBy-unnoted _ refl e.blames))
    (subst (λ (f : Format). EndsEarly f c.decode_planned_tracks.new.totals picture picture' c.in-Err-decode_planned_tracks.fault c.end_early.result) c.room_format-format.ensures c.end_early.ensures)

pub returns-in-Err-decode_planned_tracks-clause-told : goal.returns-in-Err-decode_planned_tracks-clause-told
returns-in-Err-decode_planned_tracks-clause-told g c = λ bytes told.
    says_of_input c.args.plan c.args.room.now.format bytes (g.S.Source.left c.args.source.now) _ _ _ told (Err c.end_early.result) (returns-in-Err-decode_planned_tracks-clause-mapped g c)

pub returns-in-Ok-write_text-clause-mapped : goal.returns-in-Ok-write_text-clause-mapped
returns-in-Ok-write_text-clause-mapped g c =
    mapped_all c.args.plan c.requires.some c.args.room.now.format _ _ _ (g.P.Sink.written c.write_top.new.picture) _
    (subst (λ (f : Format). Appends (g.P.Sink.written c.args.picture.now) (g.P.Sink.written c.write_top.new.picture) (top_text f)) c.room_format-format.ensures c.in-Ok.ensures.ok)
    _ _ (g.P.Sink.written c.decode_planned_tracks.new.image) c.decode_planned_tracks.new.room c.decode_planned_tracks.new.totals c.in-Ok-decode_planned_tracks.ensures.ok
    (rw (c.foot_text-foot.ensures, c.total_line.ensures, c.of_format.ensures, c.room_format-format.ensures) at c.in-Ok-write_text.ensures.ok)

pub returns-in-Ok-write_text-clause-told : goal.returns-in-Ok-write_text-clause-told
returns-in-Ok-write_text-clause-told g c = λ bytes told.
    says_of_input c.args.plan c.args.room.now.format bytes (g.S.Source.left c.args.source.now) _ _ _ told (Ok c.decode_planned_tracks.new.totals) (returns-in-Ok-write_text-clause-mapped g c)

pub returns-in-Err-write_text-clause-mapped : goal.returns-in-Err-write_text-clause-mapped
returns-in-Err-write_text-clause-mapped g c =
    mapped_no_foot c.args.plan c.requires.some c.args.room.now.format _ _ _ (g.P.Sink.written c.write_top.new.picture) _
    (subst (λ (f : Format). Appends (g.P.Sink.written c.args.picture.now) (g.P.Sink.written c.write_top.new.picture) (top_text f)) c.room_format-format.ensures c.in-Ok.ensures.ok)
    _ _ (g.P.Sink.written c.decode_planned_tracks.new.image) c.decode_planned_tracks.new.room c.decode_planned_tracks.new.totals c.in-Ok-decode_planned_tracks.ensures.ok
    (rw (c.foot_text-foot.ensures, c.total_line.ensures, c.of_format.ensures, c.room_format-format.ensures) at c.in-Err-write_text.ensures.err)

pub returns-in-Err-write_text-clause-told : goal.returns-in-Err-write_text-clause-told
returns-in-Err-write_text-clause-told g c = λ bytes told.
    says_of_input c.args.plan c.args.room.now.format bytes (g.S.Source.left c.args.source.now) _ _ _ told (Err ImageFault) (returns-in-Err-write_text-clause-mapped g c)

pub returns-in-Err-clause-blames : goal.returns-in-Err-clause-blames
returns-in-Err-clause-blames g c = CountsBy-image _ _ true c.in-Err.ensures.counts

pub returns-in-Err-decode_planned_tracks-clause-blames : goal.returns-in-Err-decode_planned_tracks-clause-blames
returns-in-Err-decode_planned_tracks-clause-blames g c =
    ended_blames (Unit {0}) Totals c.room_format-format.result c.decode_planned_tracks.new.totals _ _ _ (sink_at g.P.Sink c.decode_planned_tracks.new.image)
    (sink_at g.P.Sink c.end_early.new.picture) c.in-Err-decode_planned_tracks.fault c.end_early.result c.end_early.ensures
    (CountsBy-then _ (CountsBy-image _ _ false c.in-Ok.ensures.counts) (CountsBy-unnoted _ refl c.in-Err-decode_planned_tracks.ensures.blames))

pub returns-in-Ok-write_text-clause-blames : goal.returns-in-Ok-write_text-clause-blames
returns-in-Ok-write_text-clause-blames g c =
    CountsBy-then _ (CountsBy-then _ (CountsBy-image _ _ false c.in-Ok.ensures.counts) (CountsBy-unnoted _ refl c.in-Ok-decode_planned_tracks.ensures.blames))
    (CountsBy-image _ _ false c.in-Ok-write_text.ensures.counts)

pub returns-in-Err-write_text-clause-blames : goal.returns-in-Err-write_text-clause-blames
returns-in-Err-write_text-clause-blames g c =
    CountsBy-then _ (CountsBy-then _ (CountsBy-image _ _ false c.in-Ok.ensures.counts) (CountsBy-unnoted _ refl c.in-Ok-decode_planned_tracks.ensures.blames))
    (CountsBy-image _ _ true c.in-Err-write_text.ensures.counts)

pub returns-in-Err-decode_planned_tracks-clause-complete : goal.returns-in-Err-decode_planned_tracks-clause-complete
returns-in-Err-decode_planned_tracks-clause-complete g c = is_finished (Err c.end_early.result) (returns-in-Err-decode_planned_tracks-clause-blames g c)

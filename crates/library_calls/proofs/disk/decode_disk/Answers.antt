use Rattle.std.proofs.Common.{subst}
use Rattle.kryo_stream.specs.Reads.{reads_at}
use Rattle.library_calls.specs.Answers.{EndsInStreams}
use Rattle.flux_engine.specs.Needed.{ReadsWhereOpen}
use Rattle.flux_engine.specs.PlanAnswers.{DecodesPlanned}
use Rattle.flux_engine.specs.Plans.{EndsInPlan, decoding}
use Rattle.flux_engine.specs.Tracks.{part_by}
use Rattle.flux_engine.specs.declared.plan.Plan.{Plan}
use Rattle.library_calls.proofs.OneStream.{ends_in_streams, reads_weaken}
use Rattle.library_calls.proofs.EngineBlames.{engine_blames, engine_cause}
use Rattle.library_calls.proofs.DecodedPlans.{decodes_disk}
use Rattle.library_calls.proofs.Telling.{says_of_input, whole_or_refused}
use Rattle.library_calls.proofs.disk.decode_disk.Goals as goal

pub returns-clause-decoded : goal.returns-clause-decoded
returns-clause-decoded g c =
    rw c.engine_answer.ensures
    (decodes_disk c.args.room.now.format (g.S.Source.left c.args.source.now) (g.S.Source.left c.decode_planned-answer.new.source)
    (g.W.Sink.written c.args.image.now) (g.W.Sink.written c.decode_planned-answer.new.image) (g.N.Sink.written c.args.notes.now) (g.N.Sink.written c.decode_planned-answer.new.notes)
    c.decode_planned-answer.result
    (subst (λ (p : Plan). DecodesPlanned p (part_by p.naming) c.args.room.now.format (g.S.Source.left c.args.source.now) (g.S.Source.left c.decode_planned-answer.new.source)
    (g.W.Sink.written c.args.image.now) (g.W.Sink.written c.decode_planned-answer.new.image) (g.N.Sink.written c.args.notes.now) (g.N.Sink.written c.decode_planned-answer.new.notes)
    c.decode_planned-answer.result) c.decoding_plan.ensures c.decode_planned-answer.ensures.decoded))

pub returns-clause-told : goal.returns-clause-told
returns-clause-told g c = λ bytes told.
    says_of_input c.args.room.now.format bytes (g.S.Source.left c.args.source.now) _ _ _ _ _ told c.engine_answer.result (returns-clause-decoded g c)

pub returns-clause-needed : goal.returns-clause-needed
returns-clause-needed g c = λ bytes told.
    reads_weaken (EndsInPlan decoding c.args.room.now.format) (EndsInStreams c.args.room.now.format)
    (reads_at g.S.Source c.args.source.now) (reads_at g.S.Source c.decode_planned-answer.new.source)
    (ends_in_streams c.args.room.now.format)
    (subst (λ (p : Plan). ReadsWhereOpen (EndsInPlan p c.args.room.now.format) (reads_at g.S.Source c.args.source.now)
    (reads_at g.S.Source c.decode_planned-answer.new.source)) c.decoding_plan.ensures (c.decode_planned-answer.ensures.needed bytes told))

pub returns-clause-blames : goal.returns-clause-blames
returns-clause-blames g c =
    rw c.engine_answer.ensures (engine_blames c.decode_planned-answer.result c.decode_planned-answer.ensures.blames)

pub returns-clause-cause : goal.returns-clause-cause
returns-clause-cause g c = engine_cause c.engine_answer.result (returns-clause-blames g c)

pub returns-clause-complete : goal.returns-clause-complete
returns-clause-complete g c = whole_or_refused _ _ _ _ _ _ c.engine_answer.result (returns-clause-cause g c)

pub returns-clause-source_later : goal.returns-clause-source_later
returns-clause-source_later g c = c.decode_planned-answer.ensures.blames.source.later

pub returns-clause-image_later : goal.returns-clause-image_later
returns-clause-image_later g c = c.decode_planned-answer.ensures.blames.image.later

pub returns-clause-notes_later : goal.returns-clause-notes_later
returns-clause-notes_later g c = c.decode_planned-answer.ensures.blames.notes.later

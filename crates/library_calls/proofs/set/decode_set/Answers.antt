use Rattle.std.proofs.Common.{subst}
use Rattle.kryo_stream.specs.Reads.{reads_at}
use Rattle.flux_engine.specs.Needed.{ReadsWhereOpen}
use Rattle.flux_engine.specs.Plans.{EndsInPlan}
use Rattle.library_calls.specs.SetAnswers.{plan_answer}
use Rattle.flux_engine.specs.declared.plan.Plan.{Plan}
use Rattle.library_calls.proofs.SetCauses.{same_blames, set_cause}
use Rattle.library_calls.proofs.set.decode_set.Goals as goal

pub returns-clause-needed : goal.returns-clause-needed
returns-clause-needed g c = λ bytes told.
    subst (λ (p : Plan). ReadsWhereOpen (EndsInPlan p c.args.room.now.format) (reads_at g.S.Source c.args.source.now)
    (reads_at g.S.Source c.decode_planned.new.source)) c.set_plan.ensures (c.decode_planned.ensures.needed bytes told)

pub returns-clause-blames : goal.returns-clause-blames
returns-clause-blames g c =
    same_blames (plan_answer c.set_answer.result) c.decode_planned.result c.set_answer.ensures c.decode_planned.ensures.blames

pub returns-clause-cause : goal.returns-clause-cause
returns-clause-cause g c = set_cause c.set_answer.result (returns-clause-blames g c)

pub returns-clause-source_later : goal.returns-clause-source_later
returns-clause-source_later g c = c.decode_planned.ensures.blames.source.later

pub returns-clause-image_later : goal.returns-clause-image_later
returns-clause-image_later g c = c.decode_planned.ensures.blames.image.later

pub returns-clause-notes_later : goal.returns-clause-notes_later
returns-clause-notes_later g c = c.decode_planned.ensures.blames.notes.later

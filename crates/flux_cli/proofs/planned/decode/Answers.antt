use Rattle.std.proofs.Common.{refl, subst}
use Rattle.flux_cli.proofs.Blaming.{CountsBy-noteless}
use Rattle.flux_cli.proofs.EndingLaws.{IsOverSource, ends-blame, plan-blame, plan-over-source}
use Rattle.flux_cli.proofs.PlanRun.{plan-ended, reads-both, reads-picture, reads-report, report-blames}
use Rattle.flux_cli.specs.Blamed.{source_blame}
use Rattle.flux_cli.specs.Endings.{in_image}
use Rattle.flux_words.specs.declared.commands.Output.TheVariants.{ImageAndReport, ReportAlone, Picture}
use Rattle.flux_cli.proofs.planned.decode.Goals as goal

pub returns-in-ImageAndReport-clause-does : goal.returns-in-ImageAndReport-clause-does
returns-in-ImageAndReport-clause-does g c =
    let e = c.decode_planned-answer.ensures in
    rw c.in-ImageAndReport.is (plan-ended c.args.plan ImageAndReport c.args.room.now.format _ _ _ c.decode_planned-answer.result c.end_of_plan.result _ _
    (reads-both c.args.plan c.args.room.now.format _ _ c.decode_planned-answer.result e.decoded e.blames e.needed) c.end_of_plan.ensures)

pub returns-in-ReportAlone-clause-does : goal.returns-in-ReportAlone-clause-does
returns-in-ReportAlone-clause-does g c =
    let e = c.decode_planned-answer-in-ReportAlone.ensures in
    rw c.in-ReportAlone.is (plan-ended c.args.plan ReportAlone c.args.room.now.format _ _ _ (in_image c.decode_planned-answer-in-ReportAlone.result) c.end_of_plan-in-ReportAlone.result _ _
    (reads-report c.args.plan c.args.room.now.format _ _ _ c.decode_planned-answer-in-ReportAlone.result e.decoded e.blames e.needed) (rw c.in_image.ensures at c.end_of_plan-in-ReportAlone.ensures))

pub returns-in-ImageAndReport-clause-blames : goal.returns-in-ImageAndReport-clause-blames
returns-in-ImageAndReport-clause-blames g c =
    ends-blame source_blame refl refl _ c.end_of_plan.result _ _ (plan-blame c.args.plan.naming c.decode_planned-answer.result c.decode_planned-answer.ensures.blames) c.end_of_plan.ensures

pub returns-in-ReportAlone-clause-blames : goal.returns-in-ReportAlone-clause-blames
returns-in-ReportAlone-clause-blames g c =
    ends-blame source_blame refl refl _ c.end_of_plan-in-ReportAlone.result _ _
    (plan-blame c.args.plan.naming (in_image c.decode_planned-answer-in-ReportAlone.result)
    (report-blames _ c.decode_planned-answer-in-ReportAlone.result c.decode_planned-answer-in-ReportAlone.ensures.blames))
    (rw c.in_image.ensures at c.end_of_plan-in-ReportAlone.ensures)

pub returns-in-ImageAndReport-clause-no_shelf : goal.returns-in-ImageAndReport-clause-no_shelf
returns-in-ImageAndReport-clause-no_shelf g c = λ same. subst IsOverSource same (plan-over-source _ _ c.end_of_plan.result c.args.plan.naming c.decode_planned-answer.result c.end_of_plan.ensures)

pub returns-in-ReportAlone-clause-no_shelf : goal.returns-in-ReportAlone-clause-no_shelf
returns-in-ReportAlone-clause-no_shelf g c = λ same. subst IsOverSource same (plan-over-source _ _ c.end_of_plan-in-ReportAlone.result c.args.plan.naming c.in_image.result c.end_of_plan-in-ReportAlone.ensures)

pub returns-in-ImageAndReport-clause-memory : goal.returns-in-ImageAndReport-clause-memory
returns-in-ImageAndReport-clause-memory g c = λ same. subst IsOverSource same (plan-over-source _ _ c.end_of_plan.result c.args.plan.naming c.decode_planned-answer.result c.end_of_plan.ensures)

pub returns-in-ReportAlone-clause-memory : goal.returns-in-ReportAlone-clause-memory
returns-in-ReportAlone-clause-memory g c = λ same. subst IsOverSource same (plan-over-source _ _ c.end_of_plan-in-ReportAlone.result c.args.plan.naming c.in_image.result c.end_of_plan-in-ReportAlone.ensures)

pub returns-in-Picture-clause-does : goal.returns-in-Picture-clause-does
returns-in-Picture-clause-does g c =
    let e = c.map_disk-answer.ensures in
    rw c.in-Picture.is (plan-ended c.args.plan Picture c.args.room.now.format _ _ _ c.map_disk-answer.result c.end_of_plan-in-Picture.result _ _
    (reads-picture c.args.plan c.args.room.now.format _ _ _ c.map_disk-answer.result e.mapped e.blames e.needed) c.end_of_plan-in-Picture.ensures)

pub returns-in-Picture-clause-blames : goal.returns-in-Picture-clause-blames
returns-in-Picture-clause-blames g c =
    ends-blame source_blame refl refl _ c.end_of_plan-in-Picture.result _ _
    (plan-blame c.args.plan.naming c.map_disk-answer.result (CountsBy-noteless _ _ c.map_disk-answer.ensures.blames)) c.end_of_plan-in-Picture.ensures

pub returns-in-Picture-clause-no_shelf : goal.returns-in-Picture-clause-no_shelf
returns-in-Picture-clause-no_shelf g c = λ same. subst IsOverSource same (plan-over-source _ _ c.end_of_plan-in-Picture.result c.args.plan.naming c.map_disk-answer.result c.end_of_plan-in-Picture.ensures)

pub returns-in-Picture-clause-memory : goal.returns-in-Picture-clause-memory
returns-in-Picture-clause-memory g c = λ same. subst IsOverSource same (plan-over-source _ _ c.end_of_plan-in-Picture.result c.args.plan.naming c.map_disk-answer.result c.end_of_plan-in-Picture.ensures)

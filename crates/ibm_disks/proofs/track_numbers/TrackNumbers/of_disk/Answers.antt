use Rattle.std.proofs.Common.{◌≡◌, ◌∙◌, Option, sym, subst, arith}
use Rattle.std.specs.Prelude.{IfSome}
use Rattle.ibm_disks.specs.declared.gap_plan.GapPlan.{GapPlan}
use Rattle.ibm_disks.specs.declared.rate.Density.{Density}
use Rattle.ibm_disks.specs.declared.rate.Density.TheVariants.{Single, Double}
use Rattle.ibm_disks.specs.declared.track_numbers.TrackNumbers.{TrackNumbers}
use Rattle.ibm_disks.specs.GapPlans.{FillAt, density_of, track_bytes}
use Rattle.ibm_disks.specs.lemmas.GapPlanLaws.{filled}
use Rattle.ibm_disks.proofs.track_numbers.TrackNumbers.of_disk.Goals as goal

pub returns-in-Double-clause-fills : goal.returns-in-Double-clause-fills
returns-in-Double-clause-fills c =
    let rate = c.args.rate in
    let plan : GapPlan = record { rate = rate; sectors = c.args.sectors; first_sector = c.args.first_sector; size = c.args.size } in
    let known : density_of rate ≡ Double = sym c.density.ensures ∙ c.in-Double.is in
    subst (λ (d : Density). IfSome c.double_track.result (λ track. FillAt d track × (track.bytes ≡ track_bytes rate))) (sym known)
    (subst (λ (o : Option TrackNumbers). IfSome o (λ track. FillAt Double track × (track.bytes ≡ track_bytes rate))) (sym c.double_track.ensures)
    (filled plan (omega arith) (omega arith) Double))

pub returns-in-Single-clause-fills : goal.returns-in-Single-clause-fills
returns-in-Single-clause-fills c =
    let rate = c.args.rate in
    let plan : GapPlan = record { rate = rate; sectors = c.args.sectors; first_sector = c.args.first_sector; size = c.args.size } in
    let known : density_of rate ≡ Single = sym c.density.ensures ∙ c.in-Single.is in
    subst (λ (d : Density). IfSome c.single_track.result (λ track. FillAt d track × (track.bytes ≡ track_bytes rate))) (sym known)
    (subst (λ (o : Option TrackNumbers). IfSome o (λ track. FillAt Single track × (track.bytes ≡ track_bytes rate))) (sym c.single_track.ensures)
    (filled plan (omega arith) (omega arith) Single))

-- How a picture of which a stream was refused is brought to its end.
use Rattle.std.specs.Prelude.{◌≡◌, Ok, Err}
use Rattle.flux_base.specs.Moments.{Moment, Puts}
use Rattle.flux_base.specs.declared.outside.Failed.{Failed}
use Rattle.flux_engine.specs.declared.fault.RefusedCapture.{RefusedCapture}
use Rattle.flux_engine.specs.declared.fault.Stopped.{Stopped}
use Rattle.flux_engine.specs.declared.fault.Stopped.TheVariants.{ImageFault, Refused}
use Rattle.sector_images.specs.declared.format.Format.{Format}
use Rattle.sector_report.specs.Lines.{refused_text}
use Rattle.sector_report.specs.declared.totals.Totals.{Totals}
use Rattle.disk_map.specs.Places.{layout_of}
use Rattle.disk_map.specs.Texts.{foot_text}

-- the foot of a refused disk was written, with these totals of the tracks
-- before; after another fault nothing
abbrev pub EndsEarly : {P : Type 0} → Format → Totals → (before after : Moment P)
    → (fault answer : Stopped RefusedCapture) → Type 0
EndsEarly format totals before after (Refused stop) (Refused stop') =
    (stop ≡ stop')
    × Puts {T = Unit {0}} before after
    (foot_text (layout_of format) totals (refused_text stop.track stop.block stop.fault)) (Ok tt)
EndsEarly format totals before after (Refused stop) ImageFault =
    (failed : Failed)
    × Puts {T = Unit {0}} before after
    (foot_text (layout_of format) totals (refused_text stop.track stop.block stop.fault))
    (Err failed)
EndsEarly format totals before after (Refused stop) answer = ⊥
EndsEarly format totals before after fault answer = (answer ≡ fault) × (after ≡ before)

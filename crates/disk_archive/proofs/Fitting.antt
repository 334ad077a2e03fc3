-- What a picture and notes took, where all of it fitted.
use Rattle.std.specs.Prelude.{◌≡◌, ℕ, Bool, true, false, not, is_err, List, Option, Result, Ok, Err}
use Rattle.std.specs.Io.KnownBytes.{Appends}
use Rattle.std.proofs.Common.{refl, sym, ap, ◌∙◌, true≢false}
use Rattle.flux_base.specs.Moments.{Moment, Puts}
use Rattle.flux_base.specs.declared.outside.Failed.{Failed}
use Rattle.sector_report.specs.declared.totals.Totals.{Totals}
use Rattle.flux_engine.specs.TrackParts.{WritesPart}
use Rattle.flux_engine.specs.Tracks.{TrackPart}
use Rattle.flux_engine.specs.declared.track_part.PartFault.{PartFault}

-- what did not fit before does not fit
pub not-full : (full : Bool) → full ≡ true → not full ≡ true → ⊥
not-full full is sound = true≢false (sym sound ∙ ap not is)

pub fits : (full : Bool) → full ≡ false → not full ≡ true
fits full is = ap not is

-- a track's part
pub part-fits : (part : TrackPart) (image image' notes notes' : Option (List ℕ)) (answer : Result Totals PartFault) → not (is_err answer) ≡ true
    → WritesPart part image image' notes notes' answer → WritesPart part image image' notes notes' (Ok part.totals)
part-fits part image image' notes notes' (Ok totals) sound (grew, lines, same) = (grew, lines, refl)
part-fits part image image' notes notes' (Err fault) sound wrote = absurd (true≢false (sym sound))

-- lines
pub lines-fit : {A : Type 0} (before after : Moment A) (text : List ℕ) (answer : Result (Unit {0}) Failed) → not (is_err answer) ≡ true → Puts before after text answer
    → Appends before.bytes after.bytes text
lines-fit before after text (Ok done) sound puts = puts.ok
lines-fit before after text (Err failed) sound puts = absurd (true≢false (sym sound))

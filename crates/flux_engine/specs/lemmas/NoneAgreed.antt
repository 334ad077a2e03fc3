-- Where the verdict over some readings is not good, no bytes are agreed on.
use Rattle.std.specs.Prelude.{◌≡◌, ℕ, false, List, [], ◌∷◌, length, is_none, Option, Some, None}
use Rattle.std.specs.Prelude.{if◌then◌else◌, refl}
use Rattle.std.proofs.Common.{ap, ◌∙◌}
use Rattle.flux_engine.specs.Tracks.{is_good}
use Rattle.turn_merge.specs.Readings.{NotedReading, agreed, agreed_of, bad_ones, bytes_of}
use Rattle.turn_merge.specs.Readings.{first_other, good_ones, verdict, verdict_of, verdict_with}
use Rattle.turn_merge.specs.declared.verdict.Place.{Place}
use Rattle.turn_merge.specs.declared.verdict.Verdict.{Verdict}

none_with : (good bad : ℕ) (place : Place) (other : Option NotedReading) (own : List ℕ)
    → is_good (verdict_with good bad place other) ≡ false
    → (if is_none other then Some own else None) ≡ None
none_with good bad place None own is = absurd (cc)
none_with good bad place (Some r) own is = refl

none_of : (goods bads : List NotedReading) → is_good (verdict_of goods bads) ≡ false
    → agreed_of goods ≡ None
none_of [] bads is = refl
none_of (r ∷ rs) bads is =
    none_with (length (r ∷ rs)) (length bads) r.place (first_other (bytes_of r) rs) (bytes_of r) is

pub none_agreed : (readings : List NotedReading) (sector : ℕ) (v : Verdict)
    → verdict readings sector ≡ v → is_good v ≡ false → agreed readings sector ≡ None
unfolding verdict agreed
none_agreed readings sector v same is =
    none_of (good_ones readings sector) (bad_ones readings sector) (ap is_good same ∙ is)

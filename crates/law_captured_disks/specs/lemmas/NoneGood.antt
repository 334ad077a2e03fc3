-- Where the verdict over some readings is not good.
use Rattle.std.specs.Prelude.{◌≡◌, ℕ, List, [], ◌∷◌, length, Option, Some, None}
use Rattle.std.specs.Prelude.{refl}
use Rattle.turn_merge.specs.Readings.{NotedReading, bytes_of, first_other, verdict_of, verdict_with}
use Rattle.turn_merge.specs.declared.verdict.Place.{Place}
use Rattle.law_captured_disks.specs.Headline.{IsBadOrMissing}

-- where it is bad or missing, there is no good reading
no_first : (good bad : ℕ) (place : Place) (other : Option NotedReading)
    → IsBadOrMissing (verdict_with good bad place other) → ⊥
no_first good bad place None is = is
no_first good bad place (Some r) is = is

pub no_goods : (goods bads : List NotedReading) → IsBadOrMissing (verdict_of goods bads)
    → goods ≡ []
no_goods [] bads is = refl
no_goods (r ∷ rs) bads is =
    absurd (no_first (length (r ∷ rs)) (length bads) r.place (first_other (bytes_of r) rs) is)

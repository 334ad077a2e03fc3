-- What is good by the strict rule is good by the rule of a plan, or contradictory.
use Rattle.std.specs.Prelude.{◌≡◌, ◌⊎◌, ℕ, Bool, true, ◌&&◌, List, [], ◌∷◌, drop, length, Option, Some, None, refl}
use Rattle.std.proofs.Common.{ap, sym, subst, ◌∙◌, inl, inr}
use Rattle.std.proofs.lemmas.Bool.{eq-eqb}
use Rattle.disk_recordings.specs.Laws.{TracksAreRead}
use Rattle.disk_recordings.specs.Members.{header_at, sector_at}
use Rattle.flux_base.specs.declared.track.TrackId.{TrackId}
use Rattle.sector_images.specs.Formats.{row}
use Rattle.turn_merge.specs.Readings.{NotedReading, agreed, bad_ones, bytes_of, first_other, good_ones, verdict, verdict_of, verdict_with}
use Rattle.turn_merge.specs.declared.verdict.Place.{Place}
use Rattle.turn_merge.specs.declared.verdict.Verdict.TheVariants.{Contradictory, Good}
use Rattle.flux_engine.specs.PlanLaws.{StandsIn, StrictGoodStays, cells_in}
use Rattle.flux_engine.specs.Plans.{joined}
use Rattle.flux_engine.specs.Recordings.{track_at}
use Rattle.flux_engine.specs.Rules.{RulesAreRead}
use Rattle.flux_engine.specs.Tracks.{readings_in}
use Rattle.flux_engine.specs.lemmas.Each.{Each, each-unfilter}
use Rattle.flux_engine.specs.lemmas.GoodSectors.{agreed_head, head_holds, head_of, is_good_of, strict_good}
use Rattle.flux_engine.proofs.PlanSectors.{agrees, stands_has}

-- a verdict where there is a good reading
abbrev HasGood : List NotedReading → List NotedReading → Type 0
HasGood goods bads =
    ((good bad : ℕ) × (first : Place) × (verdict_of goods bads ≡ Good good bad first))
    ⊎ ((good bad : ℕ) × (first other : Place) × (verdict_of goods bads ≡ Contradictory good bad first other))

by_other : (g b : ℕ) (p : Place) (o : Option NotedReading)
    → ((good bad : ℕ) × (first : Place) × (verdict_with g b p o ≡ Good good bad first))
    ⊎ ((good bad : ℕ) × (first other : Place) × (verdict_with g b p o ≡ Contradictory good bad first other))
by_other g b p None = inl (g, b, p, refl)
by_other g b p (Some q) = inr (g, b, p, q.place, refl)

by_goods : (goods bads : List NotedReading) → (goods ≡ [] → ⊥) → HasGood goods bads
by_goods [] bads some = absurd (some refl)
by_goods (r ∷ more) bads some = by_other (length (r ∷ more)) (length bads) r.place (first_other (bytes_of r) more)

pub strict_good_stays : TracksAreRead → RulesAreRead → StrictGoodStays
unfolding agreed verdict
strict_good_stays tracks read plan format streams n captures many each q low clock used found all sector good bad first is =
    let track : TrackId = track_at format n in
    let cells : List Bool = cells_in format streams n q clock in
    let own : List NotedReading = readings_in q clock (streams n q).times (streams n q).indexes cells found in
    let goods : List NotedReading = good_ones (joined captures) sector in
    let bads : List NotedReading = bad_ones (joined captures) sector in
    let h = head_of own sector good bad first is in
    let mine : List ℕ = bytes_of h.head in
    let stand = head_holds (sector_at format track) (row format).sector_size (tracks.told format track).content_size q clock (streams n q).times (streams n q).indexes cells found
    (strict_good (header_at format track) (sector_at format track) (tracks.all format track) cells found all) sector first h in
    let here : StandsIn plan.rule format streams n q clock first.cell sector mine = read.strict plan.rule format track (drop first.cell cells) sector mine stand.0 in
    let some : goods ≡ [] → ⊥ = λ none.
    let never : Each (λ (r : NotedReading). is_good_of sector r ≡ true → ⊥) (joined captures) =
    each-unfilter (is_good_of sector) (λ (r : NotedReading). ⊥) (joined captures) (subst (Each (λ (r : NotedReading). ⊥)) (sym none) tt) in
    stands_has read plan format streams n captures many each (λ (r : NotedReading). is_good_of sector r ≡ true → ⊥) never
    q clock first.cell sector mine low used here (ap (λ (b : Bool). b && true) (eq-eqb sector sector refl)) in
    elim (by_goods goods bads some) [
      | inl (g, b, place, good_is) ↦
          let there = head_of (joined captures) sector g b place good_is in
          let same : mine ≡ bytes_of there.head = agrees read plan format streams n captures many each sector place there q clock first.cell mine low used here in
          inl (g, b, place, good_is, agreed_head goods place there ∙ ap Some (sym same) ∙ sym (agreed_head (good_ones own sector) first h))
      | inr contrary ↦ inr contrary
    ]

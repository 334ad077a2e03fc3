-- Good readings of a sector that differ, and what becomes of a verdict as more readings are appended.
use Rattle.std.specs.Prelude.{◌≡◌, ◌⊎◌, ℕ, Bool, true, false, not, cond, List, [], ◌∷◌, ◌++◌, find, if◌then◌else◌, is_none, length, Option, Some, None, refl}
use Rattle.std.proofs.Common.{ap, sym, subst, ◌∙◌, inl, inr}
use Rattle.std.proofs.lemmas.List.Elements.{filter-append}
use Rattle.turn_merge.specs.Readings.{NotedReading, agreed, agreed_of, bad_ones, bytes_of, first_other, good_ones, verdict, verdict_of, verdict_with}
use Rattle.turn_merge.specs.declared.verdict.Place.{Place}
use Rattle.turn_merge.specs.declared.verdict.Verdict.TheVariants.{Contradictory, Good}
use Rattle.flux_engine.specs.PlanLaws.{StaysGoodOrIsContradicted}
use Rattle.flux_engine.specs.lemmas.Each.{Each}
use Rattle.flux_engine.specs.lemmas.GoodSectors.{agreed_head, head_of, is_good_of}

module _ {X : Type 0} (p : X → Bool) (P : X → Type 0) where
  found_step : (x q : X) (b : Bool) (rest : Option X) → p x ≡ b → cond b (Some x) rest ≡ Some q → P x
      → (rest ≡ Some q → P q × (p q ≡ true)) → P q × (p q ≡ true)
  found_step x q true rest test is here later =
      let same : x ≡ q = cc in
      subst (λ (y : X). P y × (p y ≡ true)) same (here, test)
  found_step x q false rest test is here later = later is

  pub each-found : (xs : List X) (q : X) → Each P xs → find p xs ≡ Some q → P q × (p q ≡ true)
  each-found [] q all is = absurd (cc)
  each-found (x ∷ xs) q all is = found_step x q (p x) (find p xs) refl is all.0 (each-found xs q all.1)

-- the first two of the good readings that differ, where the verdict is contradictory
pub record Clash (goods : List NotedReading) (first other : Place) : Type 0 where
  pub head : NotedReading
  pub more : List NotedReading
  pub all : goods ≡ head ∷ more
  pub next : NotedReading
  pub differs : first_other (bytes_of head) more ≡ Some next
  pub place : head.place ≡ first
  pub next_place : next.place ≡ other

-- the place of the reading that differs
record Differs (o : Option NotedReading) (p first other : Place) : Type 0 where
  pub next : NotedReading
  pub is : o ≡ Some next
  pub place : p ≡ first
  pub next_place : next.place ≡ other

by_next : (g b : ℕ) (p : Place) (o : Option NotedReading) (good bad : ℕ) (first other : Place) → verdict_with g b p o ≡ Contradictory good bad first other → Differs o p first other
by_next g b p None good bad first other is = absurd (cc)
by_next g b p (Some next) good bad first other is = record { next = next; is = refl; place = cc; next_place = cc }

clash : (goods bads : List NotedReading) (good bad : ℕ) (first other : Place) → verdict_of goods bads ≡ Contradictory good bad first other → Clash goods first other
clash [] [] good bad first other is = absurd (cc)
clash [] (b ∷ bs) good bad first other is = absurd (cc)
clash (r ∷ more) bads good bad first other is =
    let by = by_next (length (r ∷ more)) (length bads) r.place (first_other (bytes_of r) more) good bad first other is in
    record { head = r; more = more; all = refl; next = by.next; differs = by.is; place = by.place; next_place = by.next_place }

pub clash_of : (readings : List NotedReading) (sector good bad : ℕ) (first other : Place) → verdict readings sector ≡ Contradictory good bad first other
    → Clash (good_ones readings sector) first other
unfolding verdict
clash_of readings sector good bad first other is = clash (good_ones readings sector) (bad_ones readings sector) good bad first other is

pub not_true : (b : Bool) → not b ≡ true → b ≡ false
not_true true is = absurd (cc)
not_true false is = refl

-- by whether another reading differs
by_other : (g b : ℕ) (p first : Place) (bytes : List ℕ) (o : Option NotedReading) → p ≡ first
    → ((good bad : ℕ) × (verdict_with g b p o ≡ Good good bad first) × ((if is_none o then Some bytes else None) ≡ Some bytes))
    ⊎ ((good bad : ℕ) × (other : Place) × (verdict_with g b p o ≡ Contradictory good bad first other))
by_other g b p first bytes None is = inl (g, b, ap (Good g b) is, refl)
by_other g b p first bytes (Some q) is = inr (g, b, q.place, ap (λ (f : Place). Contradictory g b f q.place) is)

pub stays : (xs rest : List NotedReading) (sector good bad : ℕ) (first : Place) → verdict xs sector ≡ Good good bad first
    → StaysGoodOrIsContradicted xs (xs ++ rest) sector first
unfolding verdict agreed
stays xs rest sector good bad first is =
    let h = head_of xs sector good bad first is in
    let more : List NotedReading = h.more ++ good_ones rest sector in
    let bads : List NotedReading = bad_ones (xs ++ rest) sector in
    let goods : good_ones (xs ++ rest) sector ≡ h.head ∷ more =
    filter-append (is_good_of sector) xs rest ∙ ap (λ (rs : List NotedReading). rs ++ good_ones rest sector) h.all in
    let by = by_other (length (h.head ∷ more)) (length bads) h.head.place first (bytes_of h.head) (first_other (bytes_of h.head) more) h.place in
    elim by [
      | inl one ↦ inl (one.0, one.1, ap (λ (gs : List NotedReading). verdict_of gs bads) goods ∙ one.2, ap agreed_of goods ∙ one.3 ∙ sym (agreed_head (good_ones xs sector) first h))
      | inr two ↦ inr (two.0, two.1, two.2, ap (λ (gs : List NotedReading). verdict_of gs bads) goods ∙ two.3)
    ]

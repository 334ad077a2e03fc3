-- The verdict over the readings of several captures, none of which alone makes the sector good with other bytes.
use Rattle.std.specs.Prelude.{◌≡◌, ℕ, Bool, true, false, not, cond, List, [], ◌∷◌, length, is_none, Option, Some, None, if◌then◌else◌, refl}
use Rattle.std.specs.Str.{bytes_eq}
use Rattle.std.proofs.Common.{ap, sym, subst, ◌∙◌}
use Rattle.std.proofs.lemmas.Slice.Eq.{bytes_eq-Decides}
use Rattle.turn_merge.specs.Readings.{NotedReading, agreed, agreed_of, bad_ones, bytes_of, first_other, good_ones, verdict, verdict_of, verdict_with}
use Rattle.turn_merge.specs.declared.verdict.Place.{Place}
use Rattle.turn_merge.specs.declared.verdict.Verdict.{Verdict}
use Rattle.turn_merge.specs.declared.verdict.Verdict.TheVariants.{Good, Contradictory, Bad, Missing}
use Rattle.law_captured_disks.specs.Headline.{IsBadOrMissing}
use Rattle.law_captured_disks.specs.lemmas.NoneGood.{no_goods}
use Rattle.law_decoded_rings.specs.Verdicts.{IsGoodWith, IsGoodWithOrLost}
use Rattle.flux_engine.specs.lemmas.Each.{Each, each-filter, each-map, each-unfilter}
use Rattle.flux_engine.specs.lemmas.GoodSectors.{Head, agreed_head, head_of, is_good_of, same_bytes}

or_lost_of : (v : Verdict) (held : Option (List ℕ)) (bytes : List ℕ) → IsGoodWith v held bytes → IsGoodWithOrLost v held bytes
or_lost_of (Good g b first) held bytes is = is
or_lost_of (Contradictory g b first other) held bytes is = is
or_lost_of (Bad b first) held bytes is = absurd is
or_lost_of Missing held bytes is = absurd is

same_eq : (xs ys : List ℕ) → xs ≡ ys → not (bytes_eq xs ys) ≡ false
same_eq xs ys same = ap not ((bytes_eq-Decides xs ys).1 same)

module _ (s : ℕ) (bytes : List ℕ) where
  -- over these readings the sector is good with the bytes
  abbrev pub IsWith : List NotedReading → Type 0
  IsWith readings = IsGoodWith (verdict readings s) (agreed readings s) bytes

  -- or it is bad or missing
  abbrev pub IsWithOrLost : List NotedReading → Type 0
  IsWithOrLost readings = IsGoodWithOrLost (verdict readings s) (agreed readings s) bytes

  -- the reading is no good one of the sector, or holds the bytes
  abbrev pub Holds : NotedReading → Type 0
  Holds r = is_good_of s r ≡ true → bytes_of r ≡ bytes

  abbrev pub IsNone : NotedReading → Type 0
  IsNone r = is_good_of s r ≡ true → ⊥

  abbrev HasBytes : NotedReading → Type 0
  HasBytes r = bytes_of r ≡ bytes

  record HasHead (readings : List NotedReading) : Type 0 where
    first : Place
    head : Head (good_ones readings s) first
    mine : bytes_of head.head ≡ bytes

  one_some : (xs ys : List ℕ) → Some xs ≡ Some ys → xs ≡ ys
  one_some xs ys same = cc

  head_with : (readings : List NotedReading) (g b : ℕ) (first : Place) → verdict readings s ≡ Good g b first → agreed readings s ≡ Some bytes → HasHead readings
  unfolding agreed
  head_with readings g b first same data_is =
      let h = head_of readings s g b first same in
      record { first = first; head = h; mine = one_some (bytes_of h.head) bytes (sym (agreed_head (good_ones readings s) first h) ∙ data_is) }

  hold_with : (readings : List NotedReading) → HasHead readings → Each Holds readings
  hold_with readings h =
      each-unfilter (is_good_of s) HasBytes readings
      (subst (λ (b : List ℕ). Each (λ (r : NotedReading). bytes_of r ≡ b) (good_ones readings s)) h.mine (same_bytes (good_ones readings s) h.first h.head))

  hold_lost : (readings : List NotedReading) → IsBadOrMissing (verdict readings s) → Each Holds readings
  unfolding verdict
  hold_lost readings lost =
      each-unfilter (is_good_of s) HasBytes readings (subst (Each HasBytes) (sym (no_goods (good_ones readings s) (bad_ones readings s) lost)) tt)

  -- each good reading of the sector holds the bytes, where it is good with them, bad or missing
  hold_by : (readings : List NotedReading) (v : Verdict) → verdict readings s ≡ v → IsGoodWithOrLost v (agreed readings s) bytes → Each Holds readings
  hold_by readings (Good g b first) same is = hold_with readings (head_with readings g b first same is)
  hold_by readings (Contradictory g b first other) same is = absurd is
  hold_by readings (Bad b first) same is = hold_lost readings (subst IsBadOrMissing (sym same) tt)
  hold_by readings Missing same is = hold_lost readings (subst IsBadOrMissing (sym same) tt)

  pub all_hold : (readings : List NotedReading) → IsWithOrLost readings → Each Holds readings
  all_hold readings is = hold_by readings (verdict readings s) refl is

  -- and there is one, where it is good
  some_by : (readings : List NotedReading) (v : Verdict) → verdict readings s ≡ v → IsGoodWith v (agreed readings s) bytes → Each IsNone readings → ⊥
  some_by readings (Good g b first) same is none =
      let h = head_with readings g b first same is in
      let goods = subst (Each (λ (r : NotedReading). IsNone r × (is_good_of s r ≡ true))) h.head.all (each-filter (is_good_of s) IsNone readings none) in
      goods.0.0 goods.0.1
  some_by readings (Contradictory g b first other) same is none = is
  some_by readings (Bad b first) same is none = is
  some_by readings Missing same is none = is

  pub some_good : (readings : List NotedReading) → IsWith readings → Each IsNone readings → ⊥
  some_good readings is none = some_by readings (verdict readings s) refl is none

  missed : (first : NotedReading) (more : List NotedReading) → HasBytes first → Each HasBytes more → first_other (bytes_of first) more ≡ None
  missed first [] here all = refl
  missed first (r ∷ more) here all =
      ap (λ (b : Bool). cond b (Some r) (first_other (bytes_of first) more)) (same_eq (bytes_of r) (bytes_of first) (all.0 ∙ sym here))
      ∙ missed first more here all.1

  good_with : (good bad : ℕ) (place : Place) (other : Option NotedReading) (own : List ℕ) → other ≡ None → own ≡ bytes
      → IsGoodWith (verdict_with good bad place other) (if is_none other then Some own else None) bytes
  good_with good bad place None own none same = ap (λ (b : List ℕ). Some b) same
  good_with good bad place (Some other) own none same = absurd (cc)

  good_first : (first : NotedReading) (more bads : List NotedReading) → Each HasBytes (first ∷ more)
      → IsGoodWith (verdict_of (first ∷ more) bads) (agreed_of (first ∷ more)) bytes
  good_first first more bads same =
      good_with (length (first ∷ more)) (length bads) first.place (first_other (bytes_of first) more) (bytes_of first)
      (missed first more same.0 same.1) same.0

  lost_of : (bads : List NotedReading) → IsGoodWithOrLost (verdict_of [] bads) (agreed_of []) bytes
  lost_of [] = refl
  lost_of (b ∷ bads) = refl

  or_lost_by : (goods bads : List NotedReading) → Each HasBytes goods → IsGoodWithOrLost (verdict_of goods bads) (agreed_of goods) bytes
  or_lost_by [] bads same = lost_of bads
  or_lost_by (first ∷ more) bads same = or_lost_of (verdict_of (first ∷ more) bads) (agreed_of (first ∷ more)) bytes (good_first first more bads same)

  good_by : (goods bads : List NotedReading) → Each HasBytes goods → (goods ≡ [] → ⊥) → IsGoodWith (verdict_of goods bads) (agreed_of goods) bytes
  good_by [] bads same some = absurd (some refl)
  good_by (first ∷ more) bads same some = good_first first more bads same

  goods_hold : (readings : List NotedReading) → Each Holds readings → Each HasBytes (good_ones readings s)
  goods_hold readings hold =
      each-map (λ (r : NotedReading). Holds r × (is_good_of s r ≡ true)) HasBytes (λ r both. both.0 both.1) (good_ones readings s)
      (each-filter (is_good_of s) Holds readings hold)

  -- where each good reading holds the bytes, the sector is good with them, bad or missing
  pub with_or_lost : (readings : List NotedReading) → Each Holds readings → IsWithOrLost readings
  unfolding verdict agreed
  with_or_lost readings hold = or_lost_by (good_ones readings s) (bad_ones readings s) (goods_hold readings hold)

  -- and good, where there is one
  pub with_all : (readings : List NotedReading) → Each Holds readings → (Each IsNone readings → ⊥) → IsWith readings
  unfolding verdict agreed
  with_all readings hold some =
      good_by (good_ones readings s) (bad_ones readings s) (goods_hold readings hold)
      (λ none. some (each-unfilter (is_good_of s) (λ (r : NotedReading). ⊥) readings (subst (Each (λ (r : NotedReading). ⊥)) (sym none) tt)))

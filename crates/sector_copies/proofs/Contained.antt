-- What is read of a sector in the cells is among the contents that are kept, where there is room for one more.
use Rattle.std.specs.Prelude.{◌≡◌, ◌<◌, ◌≤◌, ℕ, zero, suc, ◌&&◌, Bool, Contains, true, false, not, List, [], ◌∷◌, filter, get_or, is_some, length, map, nat_eq, take, Some, refl}
use Rattle.std.specs.Str.{bytes_eq}
use Rattle.std.proofs.Common.{ap, arith, eq-eqb, inl, inr, subst, sym, ◌∙◌}
use Rattle.std.proofs.lemmas.List.{length-map, length-take, take_all}
use Rattle.std.proofs.lemmas.Slice.Eq.{bytes_eq-Decides}
use Rattle.frame_law.specs.declared.reading.Reading.TheVariants.{Good as GoodFrame}
use Rattle.sector_copies.specs.Copies.{Copy, MOST_COPIES, copies_over, copy_of, first_holders, holds}
use Rattle.turn_merge.specs.Readings.{NotedReading, bytes_of, good_ones}
use Rattle.turn_merge.specs.declared.clock.Clock.{Clock}
use Rattle.turn_merge.specs.declared.clock.Clock.TheVariants.{Following, Held}
use Rattle.flux_engine.specs.Captured.{joined_by}
use Rattle.flux_engine.specs.Plans.{joined}
use Rattle.flux_engine.specs.Tracks.{Found, place_in, readings_at, readings_in}
use Rattle.flux_engine.specs.declared.plan.Clocks.TheVariants.{Both}
use Rattle.sector_copies.proofs.Somewhere.{Has, has-at, has-filter, has-flat, has-left, has-map, has-one, has-right}

module _ (sector : ℕ) (bytes : List ℕ) where
  -- a good reading of the sector that holds the bytes
  pub record IsOf (r : NotedReading) : Type 0 where
    pub named : r.sector ≡ sector
    pub held : r.bytes ≡ Some bytes

  abbrev pub Holds : NotedReading → Type 0
  Holds r = bytes_of r ≡ bytes

  -- what is found in the cells of a capture
  pub in_cells : (capture : ℕ) (clock : Clock) (times indexes : List ℕ) (cells : List Bool) (found : List Found) (place : ℕ) → Contains found (place, GoodFrame sector, bytes)
      → Has IsOf (readings_in capture clock times indexes cells found)
  in_cells capture clock times indexes cells found place has =
      let here : Found = (place, GoodFrame sector, bytes) in
      has-flat (λ (f : Found). readings_at (place_in capture clock times indexes cells f.0) f.1 f.2) (λ (f : Found). here ≡ f) IsOf
      (λ f same. subst (λ (g : Found). Has IsOf (readings_at (place_in capture clock times indexes cells g.0) g.1 g.2)) same (inl (record { named = refl; held = refl })))
      found (has-at (λ (f : Found). here ≡ f) found here has refl)

  pub by_clock : (by : Clock → List NotedReading) (clock : Clock) → Has IsOf (by clock) → Has IsOf (joined_by Both by)
  by_clock by Following has = has-left IsOf (by Following) (by Held) has
  by_clock by Held has = has-right IsOf (by Following) (by Held) has

  pub in_joined : (captures : List (List NotedReading)) (q : ℕ) → q < length captures → Has IsOf (get_or captures q []) → Has IsOf (joined captures)
  in_joined [] q low has = absurd (omega (arith, low))
  in_joined (noted ∷ captures) zero low has = has-left IsOf noted (joined captures) has
  in_joined (noted ∷ captures) (suc q) low has = has-right IsOf noted (joined captures) (in_joined captures q (omega (arith, low)) has)

  is_good : (r : NotedReading) → IsOf r → (nat_eq r.sector sector && is_some r.bytes) ≡ true
  is_good r of = rw (of.named, of.held, eq-eqb sector sector refl) refl

  to_holder : (xs : List NotedReading) → Has IsOf xs → Has Holds xs
  to_holder [] has = absurd has
  to_holder (x ∷ xs) (inl of) = (let held : bytes_of x ≡ bytes = rw of.held refl in inl held)
  to_holder (x ∷ xs) (inr later) = inr (to_holder xs later)

  -- the first reading of each content has it too
  in_first : (xs : List NotedReading) → Has Holds xs → Has Holds (first_holders xs)
  in_first [] has = absurd has
  in_first (x ∷ xs) (inl here) = inl here
  in_first (x ∷ xs) (inr later) = by (bytes_eq (bytes_of x) bytes) refl (in_first xs later)
    where
      by : (b : Bool) → bytes_eq (bytes_of x) bytes ≡ b → Has Holds (first_holders xs) → Has Holds (x ∷ filter (λ r. not (holds (bytes_of x) r)) (first_holders xs))
      by true same there = inl ((bytes_eq-Decides (bytes_of x) bytes).0 same)
      by false other there =
          let kept : (r : NotedReading) → Holds r → not (holds (bytes_of x) r) ≡ true = λ r holds_it. ap not (ap (bytes_eq (bytes_of x)) holds_it ∙ other) in
          inr (has-filter (λ (r : NotedReading). not (holds (bytes_of x) r)) Holds kept (first_holders xs) there)

  -- and so have the contents that are kept
  pub in_copies : (readings : List NotedReading) → length (copies_over (good_ones readings sector)) < MOST_COPIES → Has IsOf readings
      → (c : Copy) × Contains (copies_over (good_ones readings sector)) c × (c.bytes ≡ bytes)
  unfolding copies_over
  in_copies readings few has =
      let goods : List NotedReading = good_ones readings sector in
      let firsts : List NotedReading = first_holders goods in
      let size = length-map (take MOST_COPIES firsts) (copy_of goods) in
      let least = length-take MOST_COPIES firsts in
      let few_first : length firsts ≤ MOST_COPIES = omega (arith, size, least, few) in
      let all : take MOST_COPIES firsts ≡ firsts = take_all MOST_COPIES firsts few_first in
      let there : Has Holds firsts = in_first goods (to_holder goods (has-filter (λ (r : NotedReading). nat_eq r.sector sector && is_some r.bytes) IsOf is_good readings has)) in
      has-one (λ (c : Copy). c.bytes ≡ bytes) (map (copy_of goods) (take MOST_COPIES firsts))
      (has-map (copy_of goods) Holds (λ (c : Copy). c.bytes ≡ bytes) (λ r holds_it. holds_it) (take MOST_COPIES firsts) (subst (Has Holds) (sym all) there))

-- Times that keep the bounds in plain numbers carry a ring, and no others do.
use Rattle.std.specs.Prelude.{◌≡◌, ◌<◌, ◌≤◌, ℕ, ◌+◌, ◌-◌, ◌*◌, ℤ, pos, ◌+ℤ◌, ◌-ℤ◌, nat_abs, Bool, true, false, List, length, map, slice_index}
use Rattle.std.specs.Int.{abs_diff}
use Rattle.std.specs.List.{range_with_len}
use Rattle.std.proofs.Common.{arith, ap, sym, subst, ◌∙◌}
use Rattle.std.proofs.lemmas.Int.{ints}
use Rattle.std.proofs.lemmas.List.FromFn.{get_or-map-range_with_len}
use Rattle.track_rings.specs.Rings.{cell_of}
use Rattle.phase_loop.specs.Carried.{Carried}
use Rattle.law_stated_captures.specs.Bounds.{KeepBounds}
use Rattle.law_stated_captures.specs.Laws.{StatedTimesAreCarried}

-- a difference of two numbers, spelled both ways
pub differ : (a b : ℕ) → nat_abs (pos a -ℤ pos b) ≡ abs_diff a b
differ a b = omega (arith, ints)

-- an ideal place, counted from one nominal cell before time 0 on
lifted : ℕ → ℤ → ℕ
lifted nominal ideal = nat_abs (ideal +ℤ pos nominal)

near_lifted : (nominal time : ℕ) (ideal : ℤ) → 8 * nat_abs (pos (1024 * time) -ℤ ideal) ≤ nominal
    → 8 * abs_diff (1024 * time + nominal) (lifted nominal ideal) ≤ nominal
unfolding lifted
near_lifted nominal time ideal near = omega (arith, ints)

spaced_lifted : (nominal time steps : ℕ) (ideal next : ℤ) → 8 * nat_abs (pos (1024 * time) -ℤ ideal) ≤ nominal → next ≡ ideal +ℤ pos steps
    → lifted nominal next ≡ lifted nominal ideal + steps
unfolding lifted
spaced_lifted nominal time steps ideal next near spaced = omega (arith, ints)

near_lowered : (nominal time ideal : ℕ) → 8 * abs_diff (1024 * time + nominal) ideal ≤ nominal
    → 8 * nat_abs (pos (1024 * time) -ℤ (pos ideal -ℤ pos nominal)) ≤ nominal
near_lowered nominal time ideal near = omega (arith, ints)

spaced_lowered : (nominal steps ideal next : ℕ) → next ≡ ideal + steps → pos next -ℤ pos nominal ≡ (pos ideal -ℤ pos nominal) +ℤ pos steps
spaced_lowered nominal steps ideal next spaced = omega (arith, ints)

module _ (times : List ℕ) (ring : List Bool) (nominal : ℕ) (places periods : List ℕ) where
  pub carried : KeepBounds times ring nominal places periods → Carried times ring nominal places periods
  carried kept =
      let n : ℕ = length times in
      let at : ℕ → ℕ = λ i. lifted nominal (kept.ideal i) in
      let ideal : List ℕ = map at (range_with_len 0 n) in
      let ideal_is : (i : ℕ) → i < n → slice_index ideal i ≡ at i = λ i within. get_or-map-range_with_len at 0 n i i 0 within (omega arith) in record {
        each_place = kept.each_place;
        each_period = kept.each_period;
        ones = kept.ones;
        consecutive = λ i within.
            let here : ℕ = slice_index places i in
            let next : ℕ = slice_index places (i + 1) in
            let rising : here < next = kept.rising i within in
            let joined : here + (next - here) ≡ next = omega (arith, rising) in record {
              first = kept.ones i (omega (arith, within));
              next = subst (λ (place : ℕ). cell_of ring place ≡ true) (sym joined) (kept.ones (i + 1) within);
              behind = omega (arith, rising);
              zeros = λ k some under. kept.none_between i (here + k) within (omega (arith, some)) (omega (arith, under, joined));
            };
        ideal = ideal;
        spaced = λ i within.
            ideal_is (i + 1) within
            ∙ spaced_lifted nominal (slice_index times i) ((slice_index places (i + 1) - slice_index places i) * slice_index periods i) (kept.ideal i) (kept.ideal (i + 1))
            (kept.near i (omega (arith, within))) (kept.spaced i within)
            ∙ ap (λ (m : ℕ). m + (slice_index places (i + 1) - slice_index places i) * slice_index periods i) (sym (ideal_is i (omega (arith, within))));
        near_speed = λ i within. (let least = kept.fastest i within in let most = kept.slowest i within in omega (arith, least, most));
        steady = λ i within.
            subst (λ (m : ℕ). 16384 * m ≤ nominal) (differ (slice_index periods (i + 1)) (slice_index periods i)) (kept.steady i within);
        near_place = λ i within.
            subst (λ (m : ℕ). 8 * abs_diff (1024 * slice_index times i + nominal) m ≤ nominal) (sym (ideal_is i within))
            (near_lifted nominal (slice_index times i) (kept.ideal i) (kept.near i within));
      }

  pub kept_by : Carried times ring nominal places periods → KeepBounds times ring nominal places periods
  kept_by carries = record {
    each_place = carries.each_place;
    each_period = carries.each_period;
    ones = carries.ones;
    rising = λ i within. (let near = carries.consecutive i within in let some = near.behind in omega (arith, some));
    none_between = λ i place within above below.
        let here : ℕ = slice_index places i in
        let joined : here + (place - here) ≡ place = omega (arith, above) in
        subst (λ (p : ℕ). cell_of ring p ≡ false) joined
        ((carries.consecutive i within).zeros (place - here) (omega (arith, above)) (omega (arith, above, below)));
    ideal = λ i. pos (slice_index carries.ideal i) -ℤ pos nominal;
    spaced = λ i within.
        spaced_lowered nominal ((slice_index places (i + 1) - slice_index places i) * slice_index periods i) (slice_index carries.ideal i)
        (slice_index carries.ideal (i + 1)) (carries.spaced i within);
    fastest = λ i within. (let near = carries.near_speed i within in omega (arith, near));
    slowest = λ i within. (let near = carries.near_speed i within in omega (arith, near));
    steady = λ i within.
        subst (λ (m : ℕ). 16384 * m ≤ nominal) (sym (differ (slice_index periods (i + 1)) (slice_index periods i))) (carries.steady i within);
    near = λ i within. near_lowered nominal (slice_index times i) (slice_index carries.ideal i) (carries.near_place i within);
  }

pub times_are_carried : StatedTimesAreCarried
times_are_carried times ring nominal places periods = (carried times ring nominal places periods, kept_by times ring nominal places periods)

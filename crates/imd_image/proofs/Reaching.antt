-- How far files reach of which the first ones were looked for.
use Rattle.std.proofs.Common.{◌≡◌, ◌<◌, ◌≤◌, ◌⊎◌, ◌+◌, ◌*◌, ◌/◌, ◌%◌, ℕ, Bool, true, false, List, [], length, get_or, Option, Some, None, refl, sym, ap, subst, ◌∙◌, inl, inr, arith}
use Rattle.std.proofs.lemmas.Bool.{cases_lt}
use Rattle.dump_turns.specs.Reaches.{IsBoundedReach}
use Rattle.dump_turns.specs.declared.reach.Reach.{Reach}
use Rattle.flux_base.specs.declared.track.TrackId.{TrackId}
use Rattle.track_shelf.specs.Files.{File, has_track}
use Rattle.track_shelf.specs.Stepping.{file_track}
use Rattle.track_shelf.specs.declared.stepping.Stepping.{Stepping}
use Rattle.track_shelf.specs.declared.stepping.Stepping.TheVariants.{Single, Double}
use Rattle.imd_image.specs.Reaches.{HasAFile, HasFile, IsReachIn, IsReachOver, IsWithout, cylinders_by}
use Rattle.imd_image.specs.inside.Reached.{IsOwnReach, reach_to, wider}

-- so far they reach, or there is none yet
pub record ReachesAll (Has : TrackId → Type 0) (reach : Reach) : Type 0 where
  pub within : (track : TrackId) → Has track → (track.cylinder < reach.cylinders) × (track.head < reach.heads)
  pub some : 0 < reach.cylinders → IsReachOver Has reach
  pub none : reach.cylinders ≡ 0 → reach.heads ≡ 0

abbrev no_reach : Reach
no_reach = record { cylinders = 0; heads = 0 }

pub all-none : (Has : TrackId → Type 0) → ((track : TrackId) → Has track → ⊥) → ReachesAll Has (record { cylinders = 0; heads = 0 })
all-none Has none = record { within = λ track has. absurd (none track has); some = λ some. absurd (omega (arith, some)); none = λ same. same }

pub all-over : (Has : TrackId → Type 0) (reach : Reach) → IsReachOver Has reach → ReachesAll Has reach
all-over Has reach is = record {
  within = is.within;
  some = λ some. is;
  none = λ zero_cylinders. absurd (let e = is.cylinder.2 in omega (arith, e, zero_cylinders));
}

-- none more
pub all-same : (Has Wide : TrackId → Type 0) (reach : Reach) → ReachesAll Has reach → ((track : TrackId) → Wide track → Has track) → ((track : TrackId) → Has track → Wide track)
    → ReachesAll Wide reach
all-same Has Wide reach all narrow widen = record {
  within = λ track has. all.within track (narrow track has);
  some = λ some.
      let is = all.some some in record {
        within = λ track has. all.within track (narrow track has);
        cylinder = (is.cylinder.0, widen is.cylinder.0 is.cylinder.1, is.cylinder.2);
        head = (is.head.0, widen is.head.0 is.head.1, is.head.2);
      };
  none = all.none;
}

module _ (Has Own Wide : TrackId → Type 0) (reach own : Reach) (all : ReachesAll Has reach) (is : IsReachOver Own own)
    (narrow : (track : TrackId) → Wide track → Has track ⊎ Own track) (widen : (track : TrackId) → Has track → Wide track) (widen-own : (track : TrackId) → Own track → Wide track) where
  within-both : (track : TrackId) → Has track ⊎ Own track → (track.cylinder < (wider reach own).cylinders) × (track.head < (wider reach own).heads)
  within-both track (inl has) =
      let low = all.within track has in
      let a = low.0 in
      let b = low.1 in
      (omega (arith, a), omega (arith, b))
  within-both track (inr has) =
      let low = is.within track has in
      let a = low.0 in
      let b = low.1 in
      (omega (arith, a), omega (arith, b))

  cylinder-both : (own.cylinders < reach.cylinders) ⊎ (reach.cylinders ≤ own.cylinders) → (t : TrackId) × Wide t × (t.cylinder + 1 ≡ (wider reach own).cylinders)
  cylinder-both (inl less) =
      let far = (all.some (omega (arith, less))).cylinder in
      let e = far.2 in
      (far.0, widen far.0 far.1, omega (arith, e, less))
  cylinder-both (inr more) =
      let far = is.cylinder in
      let e = far.2 in
      (far.0, widen-own far.0 far.1, omega (arith, e, more))

  some-cylinder : (0 < reach.cylinders) ⊎ (reach.cylinders ≤ 0) → own.heads < reach.heads → 0 < reach.cylinders
  some-cylinder (inl some) less = some
  some-cylinder (inr none) less = absurd (let e = all.none (omega (arith, none)) in omega (arith, e, less))

  head-both : (own.heads < reach.heads) ⊎ (reach.heads ≤ own.heads) → (t : TrackId) × Wide t × (t.head + 1 ≡ (wider reach own).heads)
  head-both (inl less) =
      let far = (all.some (some-cylinder (cases_lt 0 reach.cylinders) less)).head in
      let e = far.2 in
      (far.0, widen far.0 far.1, omega (arith, e, less))
  head-both (inr more) =
      let far = is.head in
      let e = far.2 in
      (far.0, widen-own far.0 far.1, omega (arith, e, more))

  -- some more
  pub all-both : ReachesAll Wide (wider reach own)
  all-both = all-over Wide (wider reach own) (record {
    within = λ track has. within-both track (narrow track has);
    cylinder = cylinder-both (cases_lt own.cylinders reach.cylinders);
    head = head-both (cases_lt own.heads reach.heads);
  })

-- Of one dump the tracks with a number below one were looked for.
abbrev pub number_of : TrackId → ℕ
number_of track = 2 * track.cylinder + track.head

abbrev pub HasBelow : List File → Stepping → (dump : List ℕ) → (number : ℕ) → TrackId → Type 0
HasBelow files stepping dump number track = HasFile files stepping dump track × (number_of track < number)

pub record IsOwnTo (told : Option (List File)) (stepping : Stepping) (dump : List ℕ) (number : ℕ) (reach : Reach) : Type 0 where
  pub few_cylinders : reach.cylinders ≤ 99
  pub few_heads : reach.heads ≤ 2
  pub some_head : 0 < reach.cylinders → 0 < reach.heads
  pub in_files : (files : List File) → told ≡ Some files → ReachesAll (HasBelow files stepping dump number) reach

pub own-none : (told : Option (List File)) (stepping : Stepping) (dump : List ℕ) → IsOwnTo told stepping dump 0 (record { cylinders = 0; heads = 0 })
own-none told stepping dump = record {
  few_cylinders = omega arith;
  few_heads = omega arith;
  some_head = λ some. some;
  in_files = λ files known. all-none (HasBelow files stepping dump 0) (λ track has. let low = has.1 in omega (arith, low));
}

module _ (told : Option (List File)) (stepping : Stepping) (dump : List ℕ) (number : ℕ) (below : number < 2 * cylinders_by stepping) (reach : Reach)
    (so_far : IsOwnTo told stepping dump number reach) (holds : Bool) where
  abbrev track : TrackId
  track = record { cylinder = number / 2; head = number % 2 }

  module _ (says : (files : List File) → told ≡ Some files → holds ≡ has_track files dump (file_track stepping track)) where
    -- the track of the number
    same-track : (other : TrackId) → other.head < 2 → number_of other ≡ number → other ≡ track
    same-track other low at =
        let row : other.cylinder ≡ number / 2 = omega (arith, low, at) in
        let side : other.head ≡ number % 2 = omega (arith, low, at) in
        ap (λ (c : ℕ). record { cylinder = c; head = other.head }) row ∙ ap (λ (h : ℕ). record { cylinder = number / 2; head = h }) side

    module _ (files : List File) (known : told ≡ Some files) where
      not-both : (b : Bool) → b ≡ false → b ≡ true → ⊥
      not-both b e f = cc

      not-here : holds ≡ false → (other : TrackId) → HasBelow files stepping dump (number + 1) other → (number_of other < number) ⊎ (number ≤ number_of other)
          → HasBelow files stepping dump number other
      not-here gone other has (inl less) = (has.0, less)
      not-here gone other has (inr past) =
          let low = has.1 in
          let at : number_of other ≡ number = omega (arith, low, past) in
          let same = same-track other has.0.head at in
          absurd (not-both (has_track files dump (file_track stepping track)) (sym (says files known) ∙ gone)
          (ap (λ (t : TrackId). has_track files dump (file_track stepping t)) (sym same) ∙ has.0.there))

      here-or : (other : TrackId) → HasBelow files stepping dump (number + 1) other → (number_of other < number) ⊎ (number ≤ number_of other)
          → HasBelow files stepping dump number other ⊎ ((other ≡ track) × HasFile files stepping dump other)
      here-or other has (inl less) = inl (has.0, less)
      here-or other has (inr past) =
          let low = has.1 in
          inr (same-track other has.0.head (omega (arith, low, past)), has.0)

      it-has : holds ≡ true → HasFile files stepping dump track
      it-has there = record { cylinder = omega (arith, below); head = omega arith; there = sym (says files known) ∙ there }

      widen-here : (other : TrackId) → HasBelow files stepping dump number other → HasBelow files stepping dump (number + 1) other
      widen-here other has = (has.0, let low = has.1 in omega (arith, low))

      widen-track : (other : TrackId) → (other ≡ track) × HasFile files stepping dump other → HasBelow files stepping dump (number + 1) other
      widen-track other has =
          let c : other.cylinder ≡ number / 2 = ap (λ (t : TrackId). t.cylinder) has.0 in
          let h : other.head ≡ number % 2 = ap (λ (t : TrackId). t.head) has.0 in
          (has.1, omega (arith, c, h))

      one-track : holds ≡ true → IsReachOver (λ other. (other ≡ track) × HasFile files stepping dump other) (reach_to track)
      one-track there = record {
        within = λ other has.
            let c : other.cylinder ≡ number / 2 = ap (λ (t : TrackId). t.cylinder) has.0 in
            let h : other.head ≡ number % 2 = ap (λ (t : TrackId). t.head) has.0 in
            (omega (arith, c), omega (arith, h));
        cylinder = (track, (refl, it-has there), refl);
        head = (track, (refl, it-has there), refl);
      }

    -- it has no file
    pub own-gone : holds ≡ false → IsOwnTo told stepping dump (number + 1) reach
    own-gone gone = record {
      few_cylinders = so_far.few_cylinders;
      few_heads = so_far.few_heads;
      some_head = so_far.some_head;
      in_files = λ files known.
          all-same (HasBelow files stepping dump number) (HasBelow files stepping dump (number + 1)) reach (so_far.in_files files known)
          (λ other has. not-here files known gone other has (cases_lt (number_of other) number)) (widen-here files known);
    }

    -- it has one
    pub own-there : (to : Reach) → to.cylinders ≡ number / 2 + 1 → to.heads ≡ number % 2 + 1 → number < 198 → holds ≡ true
        → IsOwnTo told stepping dump (number + 1) (wider reach to)
    own-there to rows sides few there =
        let few_cylinders = so_far.few_cylinders in
        let few_heads = so_far.few_heads in
        let same : reach_to track ≡ to =
        ap (λ (c : ℕ). record { cylinders = c; heads = number % 2 + 1 }) (sym rows) ∙ ap (λ (h : ℕ). record { cylinders = to.cylinders; heads = h }) (sym sides) in
        subst (λ (r : Reach). IsOwnTo told stepping dump (number + 1) (wider reach r)) same (record {
          few_cylinders = omega (arith, few_cylinders, few);
          few_heads = omega (arith, few_heads);
          some_head = λ some. omega arith;
          in_files = λ files known.
              all-both (HasBelow files stepping dump number) (λ other. (other ≡ track) × HasFile files stepping dump other) (HasBelow files stepping dump (number + 1)) reach
              (reach_to track) (so_far.in_files files known) (one-track files known there)
              (λ other has. here-or files known other has (cases_lt (number_of other) number)) (widen-here files known) (widen-track files known);
        })

-- all were looked for
module _ (files : List File) (stepping : Stepping) (dump : List ℕ) (number : ℕ) (all : 2 * cylinders_by stepping ≤ number) (reach : Reach)
    (so_far : ReachesAll (HasBelow files stepping dump number) reach) where
  below-all : (track : TrackId) → HasFile files stepping dump track → HasBelow files stepping dump number track
  below-all track has =
      let rows = has.cylinder in
      let sides = has.head in
      (has, omega (arith, rows, sides, all))

  whole : ReachesAll (HasFile files stepping dump) reach
  whole = all-same (HasBelow files stepping dump number) (HasFile files stepping dump) reach so_far below-all (λ track has. has.0)

  pub own-found : 0 < reach.cylinders → IsOwnReach files stepping dump (Some reach)
  own-found some = whole.some some

  pub own-empty : reach.cylinders ≡ 0 → IsOwnReach files stepping dump None
  own-empty none = λ track has. let low = (whole.within track has).0 in omega (arith, low, none)

-- Of some dumps the first ones were looked for.
pub record IsReachTo (told : Option (List File)) (stepping : Stepping) (dumps : List (List ℕ)) (count : ℕ) (reach : Reach) : Type 0 where
  pub few_cylinders : reach.cylinders ≤ 99
  pub few_heads : reach.heads ≤ 2
  pub some_cylinder : 0 < count → 0 < reach.cylinders
  pub some_head : 0 < count → 0 < reach.heads
  pub each : (files : List File) → told ≡ Some files → (dump : ℕ) → dump < count → (track : TrackId) × HasFile files stepping (get_or dumps dump []) track
  pub in_files : (files : List File) → told ≡ Some files → ReachesAll (HasAFile files stepping dumps count) reach

pub to-none : (told : Option (List File)) (stepping : Stepping) (dumps : List (List ℕ)) → IsReachTo told stepping dumps 0 (record { cylinders = 0; heads = 0 })
to-none told stepping dumps = record {
  few_cylinders = omega arith;
  few_heads = omega arith;
  some_cylinder = λ some. some;
  some_head = λ some. some;
  each = λ files known dump low. absurd (omega (arith, low));
  in_files = λ files known. all-none (HasAFile files stepping dumps 0) (λ track has. let low = has.1 in omega (arith, low));
}

module _ (told : Option (List File)) (stepping : Stepping) (dumps : List (List ℕ)) (count : ℕ) (reach : Reach) (so_far : IsReachTo told stepping dumps count reach) where
  module _ (own : Reach) (bounded : IsBoundedReach own) (says : (files : List File) → told ≡ Some files → IsOwnReach files stepping (get_or dumps count []) (Some own)) where
    module _ (files : List File) (known : told ≡ Some files) where
      each-more : (dump : ℕ) → dump < count + 1 → (dump < count) ⊎ (count ≤ dump) → (track : TrackId) × HasFile files stepping (get_or dumps dump []) track
      each-more dump low (inl less) = so_far.each files known dump less
      each-more dump low (inr past) =
          let at : count ≡ dump = omega (arith, low, past) in
          let far = (says files known).cylinder in
          (far.0, subst (λ (k : ℕ). HasFile files stepping (get_or dumps k []) far.0) at far.1)

      narrow : (track : TrackId) → (has : HasAFile files stepping dumps (count + 1) track) → (has.0 < count) ⊎ (count ≤ has.0)
          → HasAFile files stepping dumps count track ⊎ HasFile files stepping (get_or dumps count []) track
      narrow track has (inl less) = inl (has.0, less, has.2)
      narrow track has (inr past) =
          let low = has.1 in
          let at : has.0 ≡ count = omega (arith, low, past) in
          inr (subst (λ (k : ℕ). HasFile files stepping (get_or dumps k []) track) at has.2)

    -- one more
    pub to-more : IsReachTo told stepping dumps (count + 1) (wider reach own)
    to-more =
        let few_cylinders = so_far.few_cylinders in
        let few_heads = so_far.few_heads in
        let own_cylinders = bounded.cylinders in
        let own_heads = bounded.heads in
        let own_some = bounded.some_cylinder in
        let own_side = bounded.some_head in record {
          few_cylinders = omega (arith, few_cylinders, own_cylinders);
          few_heads = omega (arith, few_heads, own_heads);
          some_cylinder = λ some. omega (arith, own_some);
          some_head = λ some. omega (arith, own_side);
          each = λ files known dump low. each-more files known dump low (cases_lt dump count);
          in_files = λ files known.
              all-both (HasAFile files stepping dumps count) (HasFile files stepping (get_or dumps count [])) (HasAFile files stepping dumps (count + 1)) reach own
              (so_far.in_files files known) (says files known) (λ track has. narrow files known track has (cases_lt has.0 count))
              (λ track has. (has.0, (let low = has.1 in omega (arith, low)), has.2)) (λ track has. (count, omega arith, has));
        }

  -- the next has none
  pub to-without : (files : List File) → told ≡ Some files → count < length dumps → IsOwnReach files stepping (get_or dumps count []) None
      → IsWithout files stepping dumps count
  to-without files known low none = record { known = low; none = none; first = so_far.each files known }

  -- all were looked for
  pub to-all : (files : List File) → told ≡ Some files → count ≡ length dumps → 0 < count → IsReachIn files stepping dumps reach
  to-all files known all some =
      let is = (so_far.in_files files known).some (so_far.some_cylinder some) in record {
        each = λ dump low. so_far.each files known dump (omega (arith, low, all));
        is = subst (λ (k : ℕ). IsReachOver (HasAFile files stepping dumps k) reach) all is;
      }

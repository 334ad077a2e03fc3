-- How far the files of a dump reach of which the first tracks were looked for.
use Rattle.std.proofs.Common.{◌≡◌, ◌<◌, ◌≤◌, ◌⊎◌, ◌+◌, ◌*◌, ◌/◌, ◌%◌, ℕ, Bool, true, false, List, Option, Some, None, refl, sym, ap, ◌∙◌, inl, inr, arith}
use Rattle.std.proofs.lemmas.Bool.{cases_lt}
use Rattle.flux_base.specs.declared.track.TrackId.{TrackId}
use Rattle.track_shelf.specs.Files.{File, has_track}
use Rattle.dump_turns.specs.Reaches.{HasFile, IsReachOf, MOST_CYLINDERS}
use Rattle.dump_turns.specs.declared.reach.Reach.{Reach}
use Rattle.dump_turns.specs.inside.Reached.{with_track}

-- the track's number, cylinder by cylinder and head by head
abbrev pub number_of : TrackId → ℕ
number_of track = 2 * track.cylinder + track.head

-- a file has the greatest cylinder, and one the greatest head
pub record Reaches (files : List File) (dump : List ℕ) (reach : Reach) : Type 0 where
  pub cylinder : (track : TrackId) × HasFile files dump track × (track.cylinder + 1 ≡ reach.cylinders)
  pub head : (track : TrackId) × HasFile files dump track × (track.head + 1 ≡ reach.heads)

-- what is known of the files with a number below one
pub record IsReachIn (files : List File) (dump : List ℕ) (number : ℕ) (reach : Reach) : Type 0 where
  pub within : (track : TrackId) → HasFile files dump track → number_of track < number → (track.cylinder < reach.cylinders) × (track.head < reach.heads)
  pub some : 0 < reach.cylinders → Reaches files dump reach

pub record IsReachTo (told : Option (List File)) (dump : List ℕ) (number : ℕ) (reach : Reach) : Type 0 where
  pub few_cylinders : reach.cylinders ≤ MOST_CYLINDERS
  pub few_heads : reach.heads ≤ 2
  pub some_head : 0 < reach.cylinders → 0 < reach.heads
  pub some_cylinder : 0 < reach.heads → 0 < reach.cylinders
  pub in_files : (files : List File) → told ≡ Some files → IsReachIn files dump number reach

-- nothing was looked for
pub reach-none : (told : Option (List File)) (dump : List ℕ) → IsReachTo told dump 0 (record { cylinders = 0; heads = 0 })
reach-none told dump = record {
  few_cylinders = omega arith;
  few_heads = omega arith;
  some_head = λ some. some;
  some_cylinder = λ some. some;
  in_files = λ files known. record {
    within = λ track has below. absurd (omega (arith, below));
    some = λ some. absurd (omega (arith, some));
  };
}

module _ (files : List File) (dump : List ℕ) (number : ℕ) (track : TrackId) (cylinder : track.cylinder ≡ number / 2) (head : track.head ≡ number % 2) where
  -- the track of the number
  same-track : (other : TrackId) → other.head < 2 → number_of other ≡ number → other ≡ track
  same-track other low at =
      let row : other.cylinder ≡ track.cylinder = omega (arith, low, at, cylinder) in
      let side : other.head ≡ track.head = omega (arith, low, at, head) in
      ap (λ (c : ℕ). record { cylinder = c; head = other.head }) row ∙ ap (λ (h : ℕ). record { cylinder = track.cylinder; head = h }) side

  module _ (reach : Reach) (so_far : IsReachIn files dump number reach) where
    -- it has no file
    reach-same : has_track files dump track ≡ false → IsReachIn files dump (number + 1) reach
    reach-same none = record { within = λ other has below. by other has below (cases_lt (number_of other) number); some = so_far.some }
      where
        by : (other : TrackId) → HasFile files dump other → number_of other < number + 1 → (number_of other < number) ⊎ (number ≤ number_of other)
            → (other.cylinder < reach.cylinders) × (other.head < reach.heads)
        by other has below (inl less) = so_far.within other has less
        by other has below (inr past) =
            let at : number_of other ≡ number = omega (arith, below, past) in
            let same = same-track other has.looked_for.head at in
            absurd (not_both (sym none ∙ ap (has_track files dump) (sym same) ∙ has.there))
          where
            not_both : false ≡ true → ⊥
            not_both e = cc

    module _ (row : track.cylinder < MOST_CYLINDERS) (side : track.head < 2) (there : has_track files dump track ≡ true)
        (some_cylinder : 0 < reach.heads → 0 < reach.cylinders) where
      has : HasFile files dump track
      has = record {
        looked_for = record { cylinder = row; head = side };
        there = there;
      }

      abbrev wider : Reach
      wider = with_track reach track

      within-more : (other : TrackId) → HasFile files dump other → number_of other < number + 1 → (number_of other < number) ⊎ (number ≤ number_of other)
          → (other.cylinder < wider.cylinders) × (other.head < wider.heads)
      within-more other has_other below (inl less) =
          let before = so_far.within other has_other less in
          let rows = before.0 in
          let sides = before.1 in
          (omega (arith, rows), omega (arith, sides))
      within-more other has_other below (inr past) =
          let at : number_of other ≡ number = omega (arith, below, past) in
          let same = same-track other has_other.looked_for.head at in
          let rows : other.cylinder ≡ track.cylinder = ap (λ (t : TrackId). t.cylinder) same in
          let sides : other.head ≡ track.head = ap (λ (t : TrackId). t.head) same in
          (omega (arith, rows), omega (arith, sides))

      rows-of : (track.cylinder + 1 < reach.cylinders) ⊎ (reach.cylinders ≤ track.cylinder + 1) → (t : TrackId) × HasFile files dump t × (t.cylinder + 1 ≡ wider.cylinders)
      rows-of (inl less) =
          let reached = (so_far.some (omega (arith, less))).cylinder in
          let is = reached.2 in
          (reached.0, reached.1, omega (arith, is, less))
      rows-of (inr more) = (track, has, omega (arith, more))

      sides-of : (track.head + 1 < reach.heads) ⊎ (reach.heads ≤ track.head + 1) → (t : TrackId) × HasFile files dump t × (t.head + 1 ≡ wider.heads)
      sides-of (inl less) =
          let reached = (so_far.some (some_cylinder (omega (arith, less)))).head in
          let is = reached.2 in
          (reached.0, reached.1, omega (arith, is, less))
      sides-of (inr more) = (track, has, omega (arith, more))

      -- it has one
      reach-more : IsReachIn files dump (number + 1) wider
      reach-more = record {
        within = λ other has_other below. within-more other has_other below (cases_lt (number_of other) number);
        some = λ some. record { cylinder = rows-of (cases_lt (track.cylinder + 1) reach.cylinders); head = sides-of (cases_lt (track.head + 1) reach.heads) };
      }

-- the track of one number more was looked for
module _ (told : Option (List File)) (dump : List ℕ) (number : ℕ) (below : number < 198) (reach : Reach) (so_far : IsReachTo told dump number reach) (holds : Bool)
    (says : (files : List File) → told ≡ Some files → holds ≡ has_track files dump (record { cylinder = number / 2; head = number % 2 })) where
  abbrev track : TrackId
  track = record { cylinder = number / 2; head = number % 2 }

  -- it has no file
  pub reach-gone : holds ≡ false → IsReachTo told dump (number + 1) reach
  reach-gone gone = record {
    few_cylinders = so_far.few_cylinders;
    few_heads = so_far.few_heads;
    some_head = so_far.some_head;
    some_cylinder = so_far.some_cylinder;
    in_files = λ files known.
        reach-same files dump number track refl refl reach (so_far.in_files files known) (sym (says files known) ∙ gone);
  }

  -- it has one
  pub reach-there : holds ≡ true → IsReachTo told dump (number + 1) (with_track reach track)
  reach-there there =
      let few_cylinders = so_far.few_cylinders in
      let few_heads = so_far.few_heads in record {
        few_cylinders = omega (arith, below, few_cylinders);
        few_heads = omega (arith, few_heads);
        some_head = λ some. omega arith;
        some_cylinder = λ some. omega arith;
        in_files = λ files known.
            reach-more files dump number track refl refl reach (so_far.in_files files known) (omega (arith, below)) (omega arith) (sym (says files known) ∙ there) so_far.some_cylinder;
      }

-- all were looked for
module _ (files : List File) (dump : List ℕ) (number : ℕ) (all : 198 ≤ number) (reach : Reach) (so_far : IsReachIn files dump number reach) where
  below-all : (track : TrackId) → HasFile files dump track → number_of track < number
  below-all track has =
      let rows = has.looked_for.cylinder in
      let sides = has.looked_for.head in
      omega (arith, rows, sides, all)

  pub reach-found : 0 < reach.cylinders → IsReachOf files dump (Some reach)
  reach-found some = record {
    within = λ track has. so_far.within track has (below-all track has);
    cylinder = (so_far.some some).cylinder;
    head = (so_far.some some).head;
  }

  pub reach-empty : reach.cylinders ≡ 0 → IsReachOf files dump None
  reach-empty none = λ track has.
      let inside = (so_far.within track has (below-all track has)).0 in
      omega (arith, inside, none)

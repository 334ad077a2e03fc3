-- A drive turns over a ring, turn by turn.
use Rattle.std.proofs.Common.{◌≡◌, ◌≤◌, ◌<◌, ◌+◌, ◌-◌, ◌*◌, ◌/◌, ◌++◌, ℕ, zero, suc, Bool, true, false, List, [], ◌∷◌, All, length, map, take, drop, get_or, refl, ap, sym, subst, ◌∙◌, arith, length-drop}
use Rattle.std.proofs.lemmas.List.{map-append, take_all}
use Rattle.cell_bits.specs.Search.{HasNoOne}
use Rattle.flux_writer.specs.Written.{ones_of, quarter, track_cells, track_turns}
use Rattle.flux_trial.specs.Drive.{Drive, index_time}
use Rattle.flux_trial.specs.Hole.{ring_cell}
use Rattle.flux_trial.specs.Times.{times_seen, trial_indexes, trial_times}
use Rattle.flux_trial.specs.declared.head.Head.{Head}
use Rattle.flux_trial.specs.declared.hole.Hole.{Hole}
use Rattle.flux_trial.specs.inside.Heads.{AreBefore, IsAt, IsHole, IsSound, passed_all, reach, seen_time, seen_times, started}
use Rattle.flux_trial.specs.inside.Turning.{HasTurned, ones_after}
use Rattle.flux_trial.proofs.Drives.{passed_all-at, started-at, times_seen-more, times_seen-one}
use Rattle.flux_trial.proofs.Indexes.{index-is}
use Rattle.flux_trial.proofs.Parts.{ones-before, ones-end, ones-rest, ones-turn}
use Rattle.flux_trial.proofs.Passing.{on_ring}
use Rattle.flux_writer.specs.lemmas.FoundOnes.{ones_between, ones_from, ones_between-one, ones_between-split, ones_between-start}
use Rattle.flux_writer.specs.lemmas.TrackParts.{turn_cell}

-- the index time after some turns
pub index-at : (d : Drive) (ring : List Bool) (turns : ℕ) (head : Head) → turns ≤ 3 → IsAt d (ones_after ring turns) head
    → index_time d (ones_of (track_cells ring)) (turn_cell ring turns) ≡ reach head (turn_cell ring turns) / 1024
index-at d ring turns head few is =
    let rest = ones-rest ring turns few in
    ap (λ (ones : List ℕ). index_time d ones (turn_cell ring turns)) rest.1
    ∙ index-is d (ones_after ring turns) head (turn_cell ring turns) is (ones-before ring turns) rest.0 rest.2 rest.3

-- one index cell more
turns-next : (ring : List Bool) (turns : ℕ) → turns < 3
    → take (suc turns + 1) (track_turns ring) ≡ take (turns + 1) (track_turns ring) ++ turn_cell ring (suc turns) ∷ []
turns-next ring zero few = (let e : quarter ring + length ring ≡ turn_cell ring 1 = omega arith in ap (λ (n : ℕ). quarter ring ∷ n ∷ []) e)
turns-next ring (suc zero) few = refl
turns-next ring (suc (suc zero)) few = refl
turns-next ring (suc (suc (suc turns))) few = absurd (omega (arith, few))

-- one turn more
module _ (d : Drive) (ring : List Bool) (hole : Hole) (turns len number : ℕ) (few : turns < 3) (len_is : len ≡ length ring)
    (number_is : number ≡ turn_cell ring turns) (hole_is : IsHole d.seed (length ring) hole)
    (head : Head) (times indexes : List ℕ) (turned : HasTurned d ring turns head times indexes)
    (head' : Head) (times' indexes' : List ℕ) where
  end : number + (len - 0) ≡ turn_cell ring (suc turns)
  end = (let product : suc turns * length ring ≡ turns * length ring + length ring = grind arith in omega (arith, number_is, len_is, product))

  passing : List ℕ
  passing = ones_between ring 0 len number

  all_ones : ones_after ring turns ++ ones_between ring 0 len number ≡ ones_after ring (suc turns)
  all_ones = ap (λ (n : ℕ). ones_after ring turns ++ ones_between ring 0 len n) number_is ∙ ones-turn ring turns len len_is

  turned_on : head' ≡ passed_all head (ones_between ring 0 len number)
      → times' ≡ times ++ seen_times hole head (ones_between ring 0 len number)
      → indexes' ≡ indexes ++ (reach head' (number + (len - 0)) / 1024) ∷ []
      → IsSound head' → head'.cell < number + (len - 0) → AreBefore head' times'
      → All (λ time. 1024 * time ≤ reach head' (number + (len - 0))) indexes'
      → HasTurned d ring (suc turns) head' times' indexes'
  turned_on head_is times_is indexes_is sound later before early =
      let between : List ℕ = ones_between ring 0 len number in
      let whole : List ℕ = ones_of (track_cells ring) in
      let at : IsAt d (ones_after ring (suc turns)) head' =
      subst (λ (h : Head). IsAt d (ones_after ring (suc turns)) h) (sym head_is)
      (subst (λ (ones : List ℕ). IsAt d ones (passed_all head between)) all_ones (passed_all-at d (ones_after ring turns) head between turned.at)) in
      record {
        at = at;
        sound = sound;
        later = omega (arith, later, end);
        before = before;
        times_are = times_is ∙ ap (λ (l : List ℕ). l ++ seen_times hole head between) turned.times_are
            ∙ sym (times_seen-more d (length ring) (ones_after ring turns) between hole head hole_is turned.at)
            ∙ ap (times_seen d (length ring)) all_ones;
        indexes_are = indexes_is ∙ ap (λ (n : ℕ). indexes ++ (reach head' n / 1024) ∷ []) end
            ∙ ap (λ (n : ℕ). indexes ++ n ∷ []) (sym (index-at d ring (suc turns) head' (omega (arith, few)) at))
            ∙ ap (λ (l : List ℕ). l ++ index_time d whole (turn_cell ring (suc turns)) ∷ []) turned.indexes_are
            ∙ sym (map-append (index_time d whole) (take (turns + 1) (track_turns ring)) (turn_cell ring (suc turns) ∷ []))
            ∙ ap (map (index_time d whole)) (sym (turns-next ring turns few));
        early = subst (λ (n : ℕ). All (λ time. 1024 * time ≤ reach head' n) indexes') end early;
      }

  pub turned_more : head' ≡ passed_all head (ones_between ring 0 len number)
      → times' ≡ times ++ seen_times hole head (ones_between ring 0 len number)
      → indexes' ≡ indexes ++ (reach head' (number + (len - 0)) / 1024) ∷ []
      → IsSound head' → head'.cell < number + (len - 0) → AreBefore head' times'
      → All (λ time. 1024 * time ≤ reach head' (number + (len - 0))) indexes'
      → HasTurned d ring (turns + 1) head' times' indexes'
  turned_more head_is times_is indexes_is sound later before early =
      let e : suc turns ≡ turns + 1 = omega arith in
      subst (λ (n : ℕ). HasTurned d ring n head' times' indexes') e (turned_on head_is times_is indexes_is sound later before early)

-- up to the first index cell
module _ (d : Drive) (ring : List Bool) (hole : Hole) (len first : ℕ) (len_is : len ≡ length ring) (hole_is : IsHole d.seed (length ring) hole)
    (after : len - len / 4 ≤ first) (within : first < len) (stands : get_or ring first false ≡ true) (nowhere : HasNoOne ring (len - len / 4) first) where
  abbrev start : ℕ
  start = len - len / 4

  abbrev one : ℕ
  one = first - (len - len / 4)

  abbrev rest : List ℕ
  rest = ones_between ring (first + 1) len (one + 1)

  ones_are : ones_after ring 0 ≡ one ∷ rest
  ones_are =
      let same : length ring - quarter ring ≡ start = omega (arith, len_is) in
      let none : 0 + (first - start) ≡ one = omega arith in
      let next : 0 + (first + 1 - start) ≡ one + 1 = omega (arith, after) in
      ap (λ (n : ℕ). ones_from 0 (drop n ring)) same
      ∙ ap (ones_from 0) (sym (take_all (len - start) (drop start ring) (omega (arith, length-drop start ring, len_is))))
      ∙ ones_between-split ring start (first + 1) len 0 (omega (arith, after)) (omega (arith, within)) (omega (arith, len_is))
      ∙ ap (λ (l : List ℕ). l ++ ones_from (0 + (first + 1 - start)) (take (len - (first + 1)) (drop (first + 1) ring)))
      (ones_between-one ring start 0 start first (omega arith) after stands nowhere
      ∙ ap (λ (l : List ℕ). l ++ (0 + (first - start)) ∷ []) (ones_between-start ring start 0 start refl))
      ∙ ap (λ (n : ℕ). n ∷ ones_from (0 + (first + 1 - start)) (take (len - (first + 1)) (drop (first + 1) ring))) none
      ∙ ap (λ (n : ℕ). one ∷ ones_from n (take (len - (first + 1)) (drop (first + 1) ring))) next

  end_first : one + 1 + (len - (first + 1)) ≡ turn_cell ring 0
  end_first = omega (arith, after, within, len_is)

  pub turned_first : (h0 head' : Head) (times indexes times' indexes' : List ℕ) → h0 ≡ started d one
      → times ≡ [] ++ seen_time hole first h0 → indexes ≡ []
      → head' ≡ passed_all h0 (ones_between ring (first + 1) len (one + 1))
      → times' ≡ times ++ seen_times hole h0 (ones_between ring (first + 1) len (one + 1))
      → indexes' ≡ indexes ++ (reach head' (one + 1 + (len - (first + 1))) / 1024) ∷ []
      → IsSound head' → head'.cell < one + 1 + (len - (first + 1)) → AreBefore head' times'
      → All (λ time. 1024 * time ≤ reach head' (one + 1 + (len - (first + 1)))) indexes'
      → HasTurned d ring 0 head' times' indexes'
  turned_first h0 head' times indexes times' indexes' start_is first_is none head_is times_is indexes_is sound later before early =
      let begun : IsAt d (one ∷ []) h0 = subst (IsAt d (one ∷ [])) (sym start_is) (started-at d one) in
      let at : IsAt d (ones_after ring 0) head' =
      subst (λ (h : Head). IsAt d (ones_after ring 0) h) (sym head_is)
      (subst (λ (ones : List ℕ). IsAt d ones (passed_all h0 rest)) (sym ones_are) (passed_all-at d (one ∷ []) h0 rest begun)) in
      let none_yet : (0 + length ring - length ring / 4 ≡ start + 0 * length ring) = omega (arith, len_is) in
      let zero_less : 0 + (first - start) ≡ one = omega arith in
      let cell : ring_cell hole.ring one ≡ first =
      ap (λ (n : ℕ). ring_cell n one) hole_is.ring_is ∙ ap (ring_cell (length ring)) (sym zero_less)
      ∙ on_ring (length ring) start 0 first 0 none_yet after (omega (arith, within, len_is)) in
      let whole : List ℕ = ones_of (track_cells ring) in
      record {
        at = at;
        sound = sound;
        later = omega (arith, later, end_first);
        before = before;
        times_are = times_is ∙ ap (λ (l : List ℕ). l ++ seen_times hole h0 rest)
            (first_is ∙ ap (λ (n : ℕ). [] ++ seen_time hole n h0) (sym cell) ∙ sym (times_seen-one d (length ring) [] one hole h0 hole_is begun))
            ∙ sym (times_seen-more d (length ring) (one ∷ []) rest hole h0 hole_is begun)
            ∙ ap (times_seen d (length ring)) (sym ones_are);
        indexes_are = indexes_is ∙ ap (λ (l : List ℕ). l ++ (reach head' (one + 1 + (len - (first + 1))) / 1024) ∷ []) none
            ∙ ap (λ (n : ℕ). (reach head' n / 1024) ∷ []) end_first
            ∙ ap (λ (n : ℕ). n ∷ []) (sym (index-at d ring 0 head' (omega arith) at)) ∙ first_cell;
        early = subst (λ (n : ℕ). All (λ time. 1024 * time ≤ reach head' n) indexes') end_first early;
      }
    where
      first_cell : index_time d (ones_of (track_cells ring)) (turn_cell ring 0) ∷ [] ≡ map (index_time d (ones_of (track_cells ring))) (take (0 + 1) (track_turns ring))
      first_cell = (let e : turn_cell ring 0 ≡ quarter ring = omega arith in ap (λ (n : ℕ). index_time d (ones_of (track_cells ring)) n ∷ []) e)

-- all of it
pub all_times : (d : Drive) (ring : List Bool) (hole : Hole) (q number : ℕ) (head : Head) (times indexes times' : List ℕ)
    → q ≡ quarter ring → number ≡ turn_cell ring 3 → IsHole d.seed (length ring) hole → HasTurned d ring 3 head times indexes
    → times' ≡ times ++ seen_times hole head (ones_between ring 0 q number) → times' ≡ trial_times d ring
unfolding trial_times
all_times d ring hole q number head times indexes times' q_is number_is hole_is turned times_is =
    let between : List ℕ = ones_between ring 0 q (turn_cell ring 3) in
    times_is ∙ ap (λ (n : ℕ). times ++ seen_times hole head (ones_between ring 0 q n)) number_is
    ∙ ap (λ (l : List ℕ). l ++ seen_times hole head between) turned.times_are
    ∙ sym (times_seen-more d (length ring) (ones_after ring 3) between hole head hole_is turned.at)
    ∙ ap (times_seen d (length ring)) (ones-end ring q q_is)

pub all_indexes : (d : Drive) (ring : List Bool) (head : Head) (times indexes : List ℕ) → HasTurned d ring 3 head times indexes
    → indexes ≡ trial_indexes d ring
unfolding trial_indexes
all_indexes d ring head times indexes turned = turned.indexes_are

-- Searches for data by the second rule.
use Rattle.std.proofs.Common.{◌≡◌, ℕ, ◌+◌, ◌-◌, ◌<◌, ◌≤◌, Bool, false, List, drop, take, length, replicate, refl, arith, inl, inr, ap, sym, ◌∙◌}
use Rattle.std.proofs.lemmas.Bool.{cases_lt}
use Rattle.std.proofs.lemmas.List.{drop-drop}
use Rattle.cell_bits.specs.Broken.{Unbroken}
use Rattle.cell_bits.specs.Search.{StandsNowhere}
use Rattle.cell_bits.specs.Word.{Stands, word_cells}
use Rattle.track_rings.specs.lemmas.Cuts.{zeros_inside}
use Rattle.track_rings.specs.lemmas.Fronts.{agree-part}
use Rattle.track_rings.specs.OwnSectors.{NoZeros}
use Rattle.frame_law.specs.Controller.{DataStandAt, NamedHeaderStands, START_ZEROS, WholeDataAt}
use Rattle.flux_base.specs.declared.header_name.HeaderName.{HeaderName}
use Rattle.frame_law.specs.Frames.{DATA_REACH, IsSyncInReach, NoSync}
use Rattle.frame_law.specs.lemmas.ControllerLaws.{fewer_zeros}
use Rattle.frame_law.proofs.Headers.{NoNamed}

zero_word : word_cells 31 0 ≡ replicate 31 false
unfolding word_cells
zero_word = refl

-- Where the cells from the sync on are unbroken, it is enough to look for the zeros of a start before it.
pub no_start-before : (cells : List Bool) (sync end : ℕ) → StandsNowhere cells 0 31 0 sync → Unbroken cells sync end → NoZeros START_ZEROS cells 0 end
no_start-before cells sync end nowhere whole place above below zeros =
    elim (cases_lt place sync) [
      | inl early ↦ nowhere place above early (zeros ∙ sym zero_word)
      | inr late ↦ fewer_zeros 8 31 cells sync end (omega arith) whole place late below zeros
    ]

pub start-broken : (cells : List Bool) (sync end place : ℕ) → sync + 8 ≤ end → place < sync → Stands cells 0 31 place → Unbroken cells sync end
    → ¬ NoZeros START_ZEROS cells 0 end
start-broken cells sync end place long early stands whole none =
    elim (cases_lt end (place + 31)) [
      | inr inside ↦ none place (omega arith) inside (stands ∙ zero_word)
      | inl over ↦
          let k = sync - place in
          let e : place + k ≡ sync = omega (arith, early) in
          let same : take 31 (drop place cells) ≡ take 31 (replicate 31 false) = stands ∙ zero_word in
          whole sync (omega arith) long
          (ap (λ (n : ℕ). take 8 (drop n cells)) (sym e) ∙ ap (take 8) (sym (drop-drop k place cells))
          ∙ agree-part 31 (drop place cells) (replicate 31 false) same k 8 (omega (arith, over, long, early))
          ∙ zeros_inside k 31 (omega (arith, over, long, early)))
    ]

module _ (sync sync_cells : ℕ) (header_end : List Bool → ℕ) (data_end : List Bool → ℕ → ℕ)
    (is_sync : List Bool → ℕ → Type 0) (hold : List Bool → ℕ → List ℕ → Type 0) (names : List Bool → HeaderName → Type 0)
    (cells : List Bool) where
  abbrev Data : ℕ → List ℕ → Type 0
  Data place bytes = DataStandAt header_end data_end is_sync hold (NamedHeaderStands sync sync_cells header_end names) cells place bytes

  -- none where the header is not whole
  pub no_data-cut : ((sync : ℕ) → sync + 8 ≤ data_end cells sync) → length cells < header_end cells → (place : ℕ) (bytes : List ℕ) → ¬ Data place bytes
  no_data-cut some cut place bytes content = omega (arith, cut, content.begin.after, content.rest.whole, some place)

  -- none where no sync stands
  pub no_data-to : (from start stop : ℕ) → ((place : ℕ) (bytes : List ℕ) → from ≤ place → place < start → ¬ Data place bytes)
      → NoSync (is_sync cells) start stop → (place : ℕ) (bytes : List ℕ) → from ≤ place → place < stop → ¬ Data place bytes
  no_data-to from start stop before behind place bytes above below content =
      elim (cases_lt place start) [
        | inl early ↦ before place bytes above early content
        | inr late ↦ behind place late below content.begin.stands
      ]

  -- none behind another header, and none out of reach
  pub no_data-behind : (from stop : ℕ) → ((place : ℕ) (bytes : List ℕ) → from ≤ place → place < stop → ¬ Data place bytes)
      → ((place : ℕ) → stop ≤ place → place < header_end cells + DATA_REACH
      → (other : ℕ) × (name : HeaderName) × (header_end cells ≤ other) × (other < place)
      × NamedHeaderStands sync sync_cells header_end names (drop other cells) name)
      → (place : ℕ) (bytes : List ℕ) → from ≤ place → ¬ Data place bytes
  no_data-behind from stop before behind place bytes above content =
      elim (cases_lt place stop) [
        | inl early ↦ before place bytes above early content
        | inr late ↦
            let there = behind place late content.begin.near in
            content.nearest there.0 there.1 there.2 there.3 there.4
      ]

  -- what stands at a sync before which no other header does
  pub data-at : (place : ℕ) (bytes : List ℕ) → IsSyncInReach (header_end cells) (is_sync cells) place
      → NoNamed sync sync_cells header_end names cells (header_end cells) place → WholeDataAt data_end hold cells place bytes → Data place bytes
  data-at place bytes in_reach none rest = record {
    begin = in_reach;
    nearest = λ other name above below. none other name above below;
    rest = rest;
  }

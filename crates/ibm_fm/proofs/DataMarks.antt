-- Where a mark that opens data stands, there stands what both begin with.
use Rattle.std.proofs.Common.{◌≡◌, ℕ, ◌+◌, ◌<◌, ◌≤◌, Bool, List, take, drop, ap, arith, inl, inr, refl, subst, sym, ◌∙◌}
use Rattle.std.proofs.lemmas.Bool.{cases_lt}
use Rattle.std.proofs.lemmas.List.{take-take}
use Rattle.cell_bits.specs.Search.{StandsNowhere}
use Rattle.cell_bits.specs.Word.{Stands, word_cells}
use Rattle.ibm_fm.specs.Sectors.{DATA_MARK, DELETED_DATA_MARK, DataMarkAt, MarkAt}

data_front : take 12 (word_cells 16 DATA_MARK) ≡ word_cells 12 0xF56
unfolding word_cells
data_front = refl

deleted_front : take 12 (word_cells 16 DELETED_DATA_MARK) ≡ word_cells 12 0xF56
unfolding word_cells
deleted_front = refl

front : (cells : List Bool) (mark place : ℕ) → take 12 (word_cells 16 mark) ≡ word_cells 12 0xF56 → MarkAt cells mark place → Stands cells 0xF56 12 place
front cells mark place begins stands = sym (take-take 12 16 (drop place cells) (omega arith)) ∙ ap (take 12) stands ∙ begins

pub front_stands : (cells : List Bool) (place : ℕ) → DataMarkAt cells place → Stands cells 0xF56 12 place
front_stands cells place (inl stands) = front cells DATA_MARK place data_front stands
front_stands cells place (inr stands) = front cells DELETED_DATA_MARK place deleted_front stands

-- no mark that opens data stands from a place to below another
abbrev pub NoDataMark : List Bool → ℕ → ℕ → Type 0
NoDataMark cells from to = (place : ℕ) → from ≤ place → place < to → ¬ DataMarkAt cells place

-- nor up to where what both begin with is found
pub none-before : (cells : List Bool) (from start to : ℕ) → NoDataMark cells from start → StandsNowhere cells 0xF56 12 start to → NoDataMark cells from to
none-before cells from start to before nowhere place low high stands =
    elim (cases_lt place start) [
      | inl less ↦ before place low less stands
      | inr more ↦ nowhere place more high (front_stands cells place stands)
    ]

-- nor there
pub none-there : (cells : List Bool) (from place : ℕ) → NoDataMark cells from place → (¬ DataMarkAt cells place) → NoDataMark cells from (place + 1)
none-there cells from place before not other low high stands =
    elim (cases_lt other place) [
      | inl less ↦ before other low less stands
      | inr more ↦
          let same : other ≡ place = omega (arith, more, high) in
          not (subst (DataMarkAt cells) same stands)
    ]

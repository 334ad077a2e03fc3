-- Four runs of cells from a table.
use Rattle.std.proofs.Common.{◌≡◌, ℕ, ◌+◌, ◌-◌, ◌*◌, ◌/◌, ◌%◌, ◌^◌, ◌<◌, ◌≤◌, Bool, true, ◌==◌, All, List, [], ◌∷◌, ◌++◌, length, get_or, refl, sym, ap, ◌∙◌, subst, arith, bit_or, length-append}
use Rattle.std.specs.List.{flat_map}
use Rattle.std.proofs.lemmas.Bool.{eqb-true}
use Rattle.std.proofs.lemmas.List.Concat.{flat_map-append}
use Rattle.cell_bits.specs.Word.{number_of, word_cells}
use Rattle.cell_bits.specs.lemmas.WordLaws.{number_of-lt, word_cells-number_of}
use Rattle.cell_bits.specs.Run.{run_cells, IsShortRun}
use Rattle.cell_bits.specs.declared.cells.pushes.TheConstants.{FOUR_RUNS}
use Rattle.cell_bits.proofs.Appending.{joint-cells}
use Rattle.cell_bits.proofs.Runs.{length-run}
use Rattle.flux_base.specs.lemmas.EachBelow.{each_below, from_each}

-- the counts that stand at a place of the table
abbrev counts_at : ℕ → List ℕ
counts_at place = (place / 64 + 1) ∷ (place / 16 % 4 + 1) ∷ (place / 4 % 4 + 1) ∷ (place % 4 + 1) ∷ []

table : each_below (λ place. get_or FOUR_RUNS place 0 == number_of (flat_map run_cells (counts_at place))) 256 ≡ true
unfolding each_below number_of
table = refl

four-number : (a b c d : ℕ) → IsShortRun a → IsShortRun b → IsShortRun c → IsShortRun d
    → get_or FOUR_RUNS (4 * (4 * (4 * a + b) + c) + d - 85) 0 ≡ number_of (flat_map run_cells (a ∷ b ∷ c ∷ d ∷ []))
four-number a b c d a_short b_short c_short d_short =
    let place : ℕ = 4 * (4 * (4 * a + b) + c) + d - 85 in
    let below : place < 256 = omega (arith, a_short, b_short, c_short, d_short) in
    let first : place / 64 + 1 ≡ a = omega (arith, a_short, b_short, c_short, d_short) in
    let second : place / 16 % 4 + 1 ≡ b = omega (arith, a_short, b_short, c_short, d_short) in
    let third : place / 4 % 4 + 1 ≡ c = omega (arith, a_short, b_short, c_short, d_short) in
    let fourth : place % 4 + 1 ≡ d = omega (arith, a_short, b_short, c_short, d_short) in
    let counts : counts_at place ≡ a ∷ b ∷ c ∷ d ∷ [] = cc in
    eqb-true _ _ (from_each (λ k. get_or FOUR_RUNS k 0 == number_of (flat_map run_cells (counts_at k))) 256 table place below)
    ∙ ap (λ (some : List ℕ). number_of (flat_map run_cells some)) counts

-- how many cells four runs have
length-four : (a b c d : ℕ) → 1 ≤ a → 1 ≤ b → 1 ≤ c → 1 ≤ d → length (flat_map run_cells (a ∷ b ∷ c ∷ d ∷ [])) ≡ a + b + c + d
length-four a b c d a_some b_some c_some d_some =
    omega (
      arith,
      length-append (run_cells a) (flat_map run_cells (b ∷ c ∷ d ∷ [])),
      length-append (run_cells b) (flat_map run_cells (c ∷ d ∷ [])),
      length-append (run_cells c) (flat_map run_cells (d ∷ [])),
      length-append (run_cells d) [],
      length-run a a_some,
      length-run b b_some,
      length-run c c_some,
      length-run d d_some,
    )

-- what the table says of four counts
pub record FourRuns (counts : List ℕ) (bits cells : ℕ) : Type 0 where
  pub cells_are : word_cells cells bits ≡ flat_map run_cells counts
  pub fits : bits < 2 ^ cells

pub four_runs : (a b c d : ℕ) → All IsShortRun (a ∷ b ∷ c ∷ d ∷ [])
    → FourRuns (a ∷ b ∷ c ∷ d ∷ []) (get_or FOUR_RUNS (4 * (4 * (4 * a + b) + c) + d - 85) 0) (a + b + c + d)
four_runs a b c d short =
    let a_short : IsShortRun a = short 0 0 (omega arith) in
    let b_short : IsShortRun b = short 1 0 (omega arith) in
    let c_short : IsShortRun c = short 2 0 (omega arith) in
    let d_short : IsShortRun d = short 3 0 (omega arith) in
    let cells : List Bool = flat_map run_cells (a ∷ b ∷ c ∷ d ∷ []) in
    let is = four-number a b c d a_short b_short c_short d_short in
    let long : length cells ≡ a + b + c + d = length-four a b c d a_short.0 b_short.0 c_short.0 d_short.0 in
    record {
      cells_are = ap (word_cells (a + b + c + d)) is ∙ ap (λ n. word_cells n (number_of cells)) (sym long) ∙ word_cells-number_of cells;
      fits = subst (λ n. n < 2 ^ (a + b + c + d)) (sym is) (subst (λ n. number_of cells < 2 ^ n) long (number_of-lt cells));
    }

-- eight counts are twice four
pub eight : (counts : List ℕ) → length counts ≡ 8
    → (get_or counts 0 0 ∷ get_or counts 1 0 ∷ get_or counts 2 0 ∷ get_or counts 3 0 ∷ [])
    ++ (get_or counts 4 0 ∷ get_or counts 5 0 ∷ get_or counts 6 0 ∷ get_or counts 7 0 ∷ []) ≡ counts
eight [] many = absurd (omega (arith, many))
eight (a ∷ []) many = absurd (omega (arith, many))
eight (a ∷ b ∷ []) many = absurd (omega (arith, many))
eight (a ∷ b ∷ c ∷ []) many = absurd (omega (arith, many))
eight (a ∷ b ∷ c ∷ d ∷ []) many = absurd (omega (arith, many))
eight (a ∷ b ∷ c ∷ d ∷ e ∷ []) many = absurd (omega (arith, many))
eight (a ∷ b ∷ c ∷ d ∷ e ∷ f ∷ []) many = absurd (omega (arith, many))
eight (a ∷ b ∷ c ∷ d ∷ e ∷ f ∷ g ∷ []) many = absurd (omega (arith, many))
eight (a ∷ b ∷ c ∷ d ∷ e ∷ f ∷ g ∷ h ∷ []) many = refl
eight (a ∷ b ∷ c ∷ d ∷ e ∷ f ∷ g ∷ h ∷ i ∷ counts) many = absurd (omega (arith, many))

pub eight_runs : (counts first second : List ℕ) (a b m n : ℕ) → first ++ second ≡ counts
    → word_cells m a ≡ flat_map run_cells first → word_cells n b ≡ flat_map run_cells second → a < 2 ^ m → b < 2 ^ n → m + n ≤ 64
    → word_cells (m + n) (bit_or (a * 2 ^ n % 2 ^ 64) b) ≡ flat_map run_cells counts
eight_runs counts first second a b m n are before behind a_fits b_fits within =
    joint-cells a b m n a_fits b_fits within
    ∙ ap (λ (cells : List Bool). cells ++ word_cells n b) before
    ∙ ap (λ (cells : List Bool). flat_map run_cells first ++ cells) behind
    ∙ sym (flat_map-append run_cells first second) ∙ ap (λ (all : List ℕ). flat_map run_cells all) are

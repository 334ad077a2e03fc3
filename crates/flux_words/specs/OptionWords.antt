-- The options that stand before a format: each at most once, in any order.
use Rattle.std.specs.Prelude.{◌≡◌, ◌<◌, ℕ, List, [], ◌∷◌, codes, decimal, Some, None}
use Rattle.track_shelf.specs.declared.stepping.Stepping.TheVariants.{Single, Double}
use Rattle.flux_words.specs.declared.options.Choice.{Choice}
use Rattle.flux_words.specs.declared.options.Choice.TheVariants.{DoubleStep, Picture, Copy}
use Rattle.flux_words.specs.declared.options.Options.{Options}
use Rattle.flux_words.specs.declared.options.Shown.TheVariants.{Image}
use Rattle.flux_words.specs.declared.options.Shown.TheVariants.{Picture as PictureShown}

-- nothing is chosen
abbrev pub plain : Options
plain = record { stepping = Single; shown = Image; alone = None }

-- most contents that can be asked for
abbrev pub MOST_COPY_NUMBERS : ℕ
MOST_COPY_NUMBERS = 16

-- an option stands before these words
abbrev pub IsChoice : Choice → (words rest : List (List ℕ)) → Type 0
IsChoice DoubleStep words rest = words ≡ codes "--double-step" ∷ rest
IsChoice Picture words rest = words ≡ codes "--picture" ∷ rest
IsChoice (Copy number) words rest =
    (number < MOST_COPY_NUMBERS) × (words ≡ codes "--copy" ∷ decimal number ∷ rest)

-- one more is chosen, which was not yet
abbrev pub Adds : Choice → (before after : Options) → Type 0
Adds DoubleStep before after =
    (before.stepping ≡ Single) × (after ≡ record before { stepping = Double })
Adds Picture before after =
    (before.shown ≡ Image) × (after ≡ record before { shown = PictureShown })
Adds (Copy number) before after =
    (before.alone ≡ None) × (after ≡ record before { alone = Some number })

-- and by all of these, one after another
abbrev pub AreChosen : List Choice → (before after : Options)
    → (words rest : List (List ℕ)) → Type 0
AreChosen [] before after words rest = (after ≡ before) × (words ≡ rest)
AreChosen (choice ∷ choices) before after words rest =
    (next : Options) × (behind : List (List ℕ)) × Adds choice before next
    × IsChoice choice words behind
    × AreChosen choices next after behind rest

-- by some that stand before these words
abbrev pub StandBefore : (before after : Options) → (words rest : List (List ℕ)) → Type 0
StandBefore before after words rest =
    (choices : List Choice) × AreChosen choices before after words rest

-- the words of what is asked, by its options and by what stands behind them
pub record HaveOptions {A : Type 0} (options_of : A → Options)
    (AreLast : A → List (List ℕ) → Type 0) (words : List (List ℕ)) (asked : A) : Type 0 where
  pub rest : List (List ℕ)
  pub stand : StandBefore plain (options_of asked) words rest
  pub are : AreLast asked rest

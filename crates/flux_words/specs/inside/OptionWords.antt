-- How options are found: one after another, and then what stands behind them.
use Rattle.std.specs.Prelude.{◌≡◌, ◌<◌, ℕ, List, ◌∷◌, decimal}
use Rattle.flux_words.specs.OptionWords.{Adds, IsChoice, MOST_COPY_NUMBERS, StandBefore, plain}
use Rattle.flux_words.specs.declared.options.Choice.{Choice}
use Rattle.flux_words.specs.declared.options.Choice.TheVariants.{Copy}
use Rattle.flux_words.specs.declared.options.Options.{Options}

-- something that words name, with the words behind its own
abbrev pub Behind : {A : Type 0} → (Is : A → (words rest : List (List ℕ)) → Type 0)
    → (words : List (List ℕ)) → A × List (List ℕ) → Type 0
Behind Is words found = Is found.0 words found.1

-- the first word is the number of a content, as it is printed
abbrev pub HasNumber : Choice → (words rest : List (List ℕ)) → Type 0
HasNumber (Copy number) words rest =
    (number < MOST_COPY_NUMBERS) × (words ≡ decimal number ∷ rest)
HasNumber _ words rest = ⊥

-- no option stands first
abbrev pub IsPast : List (List ℕ) → Type 0
IsPast words = (choice : Choice) (rest : List (List ℕ)) → ¬ IsChoice choice words rest

-- one more is chosen, by the option that stands first
pub record IsNext (before after : Options) (words rest : List (List ℕ)) : Type 0 where
  pub choice : Choice
  pub added : Adds choice before after
  pub is : IsChoice choice words rest

-- there are no others before words that begin with none
abbrev pub AreAllOf : Options → (words rest : List (List ℕ)) → Type 0
AreAllOf options words rest = (others : Options) (later : List (List ℕ)) → IsPast later
    → StandBefore plain others words later → (others ≡ options) × (later ≡ rest)

-- the words behind these options, of what is asked with them
pub record FollowOptions {A : Type 0} (options_of : A → Options)
    (AreLast : A → List (List ℕ) → Type 0) (options : Options) (words : List (List ℕ))
    (asked : A) : Type 0 where
  pub options_are : options_of asked ≡ options
  pub are : AreLast asked words

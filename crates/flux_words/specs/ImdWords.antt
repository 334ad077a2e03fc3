-- The words that ask for any IBM disk of its dumps.
use Rattle.std.specs.Prelude.{◌≡◌, ◌≤◌, ℕ, false, List, [], ◌∷◌, codes, if◌then◌else◌, length}
use Rattle.std.specs.List.{list_any}
use Rattle.std.specs.Str.{bytes_eq}
use Rattle.track_shelf.specs.declared.stepping.Stepping.{Stepping}
use Rattle.track_shelf.specs.declared.stepping.Stepping.TheVariants.{Single, Double}
use Rattle.flux_words.specs.DumpWords.{MOST_DUMPS, is_nameless}
use Rattle.flux_words.specs.declared.imd_words.ImdAsked.{ImdAsked}

-- what is asked of dumps without a format: how the drive stepped, and the dumps by their names
pub record AskedImd : Type 0 where
  pub stepping : Stepping
  pub dumps : List (List ℕ)

abbrev pub asked_imd : ImdAsked → AskedImd
asked_imd asked = record { stepping = asked.stepping; dumps = asked.dumps.now }

-- The word of two steps may stand before the dumps.
abbrev pub asked_in : (others : List (List ℕ)) → AskedImd
asked_in [] = record { stepping = Single; dumps = [] }
asked_in (first ∷ others) = if bytes_eq first (codes "--double-step")
    then record { stepping = Double; dumps = others }
    else record { stepping = Single; dumps = first ∷ others }

-- there are 1 to 8 dumps, each with a name
pub record AreNamed (dumps : List (List ℕ)) : Type 0 where
  pub some : 1 ≤ length dumps
  pub most : length dumps ≤ MOST_DUMPS
  pub named : list_any is_nameless dumps ≡ false

-- what the words behind the verb's ask for
pub record AreImdWords (others : List (List ℕ)) (asked : AskedImd) : Type 0 where
  pub is : asked ≡ asked_in others
  pub named : AreNamed asked.dumps

-- What the words behind a verb's ask for, as the functions of each verb say it.
use Rattle.std.specs.Prelude.{ℕ, List, Option}
use Rattle.flux_help.specs.declared.verb.Verb.{Verb}
use Rattle.flux_words.specs.Asked.{Asked}
use Rattle.flux_words.specs.CommandWords.{AreBehind}
use Rattle.flux_words.specs.Names.{Names}

-- what they ask for; nothing where it can be nothing
abbrev pub AskBehind : Verb → (others : List (List ℕ)) → Option Asked → Type 0
AskBehind verb others asked = Names (AreBehind verb others) asked

-- Words that people have for a disk or for the file of its image, and the end of the line that
-- such a word is answered by (own).
use Rattle.std.specs.Prelude.{ℕ, List, Bool, map, Option, find, unwrap_or}
use Rattle.std.specs.Char.{to_ascii_lowercase}
use Rattle.std.specs.Option.{option_map}
use Rattle.std.specs.Str.{bytes_eq}
use Rattle.flux_help.specs.Nearest.{nearest_text}
use Rattle.flux_help.specs.declared.meanings.TheConstants.{MEANINGS}

-- each with that end of the line, as the code has them
abbrev pub meanings : List (List ℕ × List ℕ)
meanings = map (λ meaning. (meaning.word.now, meaning.ending.now)) MEANINGS

-- the same letters, of any case
abbrev pub same_letters : List ℕ → List ℕ → Bool
same_letters a b = bytes_eq (map to_ascii_lowercase a) (map to_ascii_lowercase b)

-- the first of this word
abbrev pub meaning_of : List ℕ → Option (List ℕ × List ℕ)
meaning_of word = find (λ meaning. same_letters meaning.0 word) meanings

-- what the word means, if it is one of them, and else the format whose word is nearest
abbrev pub no_format_ending : List ℕ → List ℕ
no_format_ending word =
    unwrap_or (option_map (λ meaning. meaning.1) (meaning_of word)) (nearest_text word)

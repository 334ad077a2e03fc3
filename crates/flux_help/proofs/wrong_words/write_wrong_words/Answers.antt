use Rattle.std.proofs.Common.{◌≡◌, ◌≤◌, ◌-◌, ℕ, List, [], ◌∷◌, Option, length, take, drop, get_or, ap, subst, ◌∙◌, arith}
use Rattle.std.proofs.lemmas.List.{take_rest}
use Rattle.flux_base.specs.Moments.{Puts}
use Rattle.flux_base.specs.World.{sink_at}
use Rattle.flux_help.specs.Verbs.{verb_of}
use Rattle.flux_help.specs.WrongWords.{told_behind, wrong_text}
use Rattle.flux_help.specs.declared.verb.Verb.{Verb}
use Rattle.flux_help.proofs.wrong_words.write_wrong_words.Goals as goal

wrong-is : (words : List (List ℕ)) (first : List ℕ) (verb : Option Verb) → 1 ≤ length words → first ≡ get_or words 0 first → verb ≡ verb_of first
    → told_behind verb (take (length words - 1) (drop 1 words)) ≡ wrong_text words
wrong-is [] first verb one at is = absurd (omega (arith, one))
wrong-is (word ∷ words) first verb one at is =
    ap (told_behind verb) (take_rest (word ∷ words) 1) ∙ ap (λ (v : Option Verb). told_behind v words) (is ∙ ap verb_of at)

pub returns-in-len1-up : goal.returns-in-len1-up
returns-in-len1-up g c =
    let is = wrong-is c.args.words.now c.first-item.result c.of_word.result c.in-len1-up.len_at_least c.first-item.is (c.of_word.ensures ∙ ap verb_of c.bytes.ensures) in
    subst (λ (text : List ℕ). Puts (sink_at g.N.Sink c.args.notes.now) (sink_at g.N.Sink c.write_behind.new.notes) text c.write_behind.result) is c.write_behind.ensures

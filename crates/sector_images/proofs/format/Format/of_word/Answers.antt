use Rattle.std.proofs.Common.{◌≡◌, ◌≢◌, ◌∙◌, MatchOption, Option, true, subst, sym}
use Rattle.sector_images.proofs.Words.{found_or, is_found}
use Rattle.sector_images.specs.Formats.{IsWordOfFormat, has_row, row}
use Rattle.sector_images.specs.declared.format.Format.{Format}
use Rattle.sector_images.proofs.format.Format.of_word.Goals as goal

pub returns-in-Some : goal.returns-in-Some
returns-in-Some c =
    let word = c.args.word.now in
    subst (λ (o : Option Format). MatchOption o ((f : Format) → has_row f ≡ true → (row f).word ≢ word) (IsWordOfFormat word))
    (sym c.first_named.ensures ∙ c.in-Some.is) (is_found word)

pub returns-in-None : goal.returns-in-None
returns-in-None c =
    let word = c.args.word.now in
    found_or word c.by_numbers.result
    (subst (λ (o : Option Format). MatchOption o ((f : Format) → has_row f ≡ true → (row f).word ≢ word) (IsWordOfFormat word))
    (sym c.first_named.ensures ∙ c.in-None.is) (is_found word))
    c.by_numbers.ensures

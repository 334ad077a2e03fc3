use Rattle.std.proofs.Common.{◌≡◌, ◌∙◌, List, Option, Some, ℕ, ap, subst}
use Rattle.flux_base.specs.Moments.{Puts}
use Rattle.flux_base.specs.World.{sink_at}
use Rattle.flux_help.specs.WrongWords.{format_word, told_by}
use Rattle.flux_help.proofs.wrong_words.write_at_format.Goals as goal

pub returns-in-Some : goal.returns-in-Some
returns-in-Some g c =
    let some : Some c.in-Some.word.now ≡ format_word c.args.words.now = rw c.in-Some.is at c.format_word.ensures in
    let is : Some c.bytes.result.now ≡ format_word c.args.words.now = ap Some c.bytes.ensures ∙ some in
    subst (λ (word : Option (List ℕ)). Puts (sink_at g.N.Sink c.args.notes.now)
    (sink_at g.N.Sink c.write_by.new.notes) (told_by c.args.verb word) c.write_by.result) is c.write_by.ensures

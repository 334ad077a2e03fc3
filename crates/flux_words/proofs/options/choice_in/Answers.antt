use Rattle.std.proofs.Common.{◌≡◌, ◌∙◌, codes, sym}
use Rattle.std.specs.Option.{option_map}
use Rattle.std.proofs.lemmas.Slice.Eq.{bytes_eq-Decides}
use Rattle.flux_words.proofs.OptionWords.{copy-named}
use Rattle.flux_words.proofs.options.choice_in.Goals as goal

pub returns-then-eq-3 : goal.returns-then-eq-3
returns-then-eq-3 c =
    let copy : c.in-Some.word.now ≡ codes "--copy" =
    sym c.bytes-word.ensures ∙ (bytes_eq-Decides _ _).0 (sym c.eq-else-eq-2.ensures ∙ c.if-eq-3.true) ∙ c.as_slice-else-eq-2.ensures in
    copy-named c.args.words.now c.in-Some.word.now c.in-Some.rest.now c.in-Some.ensures.cases.0 copy (option_map (λ found. (found.0, found.1.now)) c.numbered.result) c.numbered.ensures

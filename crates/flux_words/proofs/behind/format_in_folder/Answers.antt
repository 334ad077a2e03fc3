use Rattle.std.proofs.Common.{◌≡◌, ◌∙◌, ℕ, List, [], ◌∷◌, ap, codes, sym}
use Rattle.std.proofs.lemmas.Slice.Eq.{bytes_eq-Decides}
use Rattle.flux_words.proofs.SectorWords.{three_words}
use Rattle.flux_words.proofs.behind.format_in_folder.Goals as goal

pub returns-in-Some-clause-some : goal.returns-in-Some-clause-some
returns-in-Some-clause-some c =
    let option : c.option-item.result ≡ codes "--folder" = sym c.bytes.ensures ∙ (bytes_eq-Decides _ _).0 (sym c.eq.ensures ∙ c.if-eq.true) ∙ c.as_slice.ensures in
    let folder = c.folder-item.result in
    let word = c.word-item.result in
    let are = three_words c.args.others.now c.option-item.result folder word c.in-len3.len_at_least c.in-len3.len_below c.option-item.is c.folder-item.is c.word-item.is in
    (word, are ∙ ap (λ (w : List ℕ). w ∷ folder ∷ word ∷ []) option, rw c.bytes-then-eq.ensures at c.in-Some.ensures)

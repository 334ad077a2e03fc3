use Rattle.std.proofs.Common.{◌≡◌, ◌∙◌, codes, sym}
use Rattle.std.proofs.lemmas.Slice.Eq.{bytes_eq-Decides}
use Rattle.flux_words.proofs.ArchiveWords.{none-named}
use Rattle.flux_words.proofs.archive_words.disk_before.Goals as goal

pub returns-in-None : goal.returns-in-None
returns-in-None c =
    let option : c.option-item.result ≡ codes "--format" = sym c.bytes.ensures ∙ (bytes_eq-Decides _ _).0 (sym c.eq.ensures ∙ c.if-eq.true) ∙ c.as_slice.ensures in
    none-named c.args.others.now c.option-item.result c.word-item.result c.in-len2-up.len_at_least c.option-item.is c.word-item.is option
    (rw c.bytes-in-len2-up.ensures at c.in-None.ensures)

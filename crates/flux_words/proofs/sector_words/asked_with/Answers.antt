use Rattle.std.proofs.Common.{◌≡◌, ◌-◌, ◌∷◌, ℕ, List, Option, ap, drop, length, subst, sym, take, ◌∙◌}
use Rattle.flux_words.specs.Names.{Names}
use Rattle.flux_words.specs.inside.OptionWords.{FollowOptions}
use Rattle.flux_words.specs.SectorWords.{ArePlaceWords, AskedSector, asked_sector, sector_options}
use Rattle.flux_words.proofs.DumpWords.{then-asked}
use Rattle.flux_words.proofs.SectorWords.{no-sector, three_first, with-place}
use Rattle.flux_words.proofs.sector_words.asked_with.Goals as goal

pub returns : goal.returns
returns c =
    let words = c.args.words.now in
    let dumps : List (List ℕ) = take (length words - 3) (drop 3 words) in
    let at : words ≡ c.bytes.result.now ∷ c.bytes-2.result.now ∷ c.bytes-3.result.now ∷ dumps =
    three_first words c.word-item.result c.track-item.result c.sector-item.result c.in-len3-up.len_at_least c.word-item.is c.track-item.is c.sector-item.is
    ∙ ap (λ (w : List ℕ). w ∷ c.track-item.result ∷ c.sector-item.result ∷ dumps) (sym c.bytes.ensures)
    ∙ ap (λ (w : List ℕ). c.bytes.result.now ∷ w ∷ c.sector-item.result ∷ dumps) (sym c.bytes-2.ensures)
    ∙ ap (λ (w : List ℕ). c.bytes.result.now ∷ c.bytes-2.result.now ∷ w ∷ dumps) (sym c.bytes-3.ensures) in
    subst (λ (o : Option AskedSector). Names (FollowOptions sector_options ArePlaceWords c.args.options words) o)
    (then-asked asked_sector c.are_readable.result _ c.then_some.result c.then_some.ensures)
    (with-place c.words_name_formats.ensures.one c.args.options words c.bytes.result.now c.bytes-2.result.now c.bytes-3.result.now dumps at
    c.in-Some.format c.in-Some.ensures c.in-Some-track_number.number c.in-Some-track_number.ensures c.in-Image.is
    c.in-Some-sector_number.sector c.in-Some-sector_number.ensures.least c.in-Some-sector_number.ensures.names c.are_readable.result c.are_readable.ensures)

pub returns-in_default-sector_number : goal.returns-in_default-sector_number
returns-in_default-sector_number c =
    let words = c.args.words.now in
    let dumps : List (List ℕ) = take (length words - 3) (drop 3 words) in
    let at : words ≡ c.bytes.result.now ∷ c.bytes-2.result.now ∷ c.bytes-3.result.now ∷ dumps =
    three_first words c.word-item.result c.track-item.result c.sector-item.result c.in-len3-up.len_at_least c.word-item.is c.track-item.is c.sector-item.is
    ∙ ap (λ (w : List ℕ). w ∷ c.track-item.result ∷ c.sector-item.result ∷ dumps) (sym c.bytes.ensures)
    ∙ ap (λ (w : List ℕ). c.bytes.result.now ∷ w ∷ c.sector-item.result ∷ dumps) (sym c.bytes-2.ensures)
    ∙ ap (λ (w : List ℕ). c.bytes.result.now ∷ c.bytes-2.result.now ∷ w ∷ dumps) (sym c.bytes-3.ensures) in
    no-sector c.words_name_formats.ensures.one c.args.options words c.bytes.result.now c.bytes-2.result.now c.bytes-3.result.now dumps at
    c.in-Some.format c.in-Some.ensures c.in-Some-track_number.number c.in-Some-track_number.ensures c.in_default-sector_number.ensures.names

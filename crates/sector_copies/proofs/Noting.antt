-- What a note does to what is known of a sector.
use Rattle.std.specs.Prelude.{◌≡◌, ◌&&◌, ℕ, Bool, false, true, List, [], ◌∷◌, ◌++◌, cond, is_some, nat_eq, refl}
use Rattle.std.proofs.Common.{ap, append-nil, eq-eqb, sym, ◌∙◌}
use Rattle.std.proofs.lemmas.List.Elements.{filter-append}
use Rattle.turn_merge.specs.Book.{AppendsReading, Knowledge}
use Rattle.turn_merge.specs.Readings.{NotedReading, bad_reading, good_ones, good_reading}
use Rattle.turn_merge.specs.declared.verdict.Place.{Place}
use Rattle.sector_copies.specs.Copies.{Copy, copies_over}
use Rattle.sector_copies.specs.inside.Notes.{AppendsNotes}

-- no reading has a content
pub no_copies : copies_over [] ≡ []
unfolding copies_over
no_copies = refl

module _ (readings : List NotedReading) (sector : ℕ) (place : Place) where
  abbrev IsGood : NotedReading → Bool
  IsGood r = nat_eq r.sector sector && is_some r.bytes

  by_good : (b : Bool) (bytes : List ℕ) → b ≡ true
      → cond (b && true) (good_reading sector place bytes ∷ []) [] ≡ good_reading sector place bytes ∷ []
  by_good true bytes is = refl
  by_good false bytes is = absurd (cc)

  by_bad : (b : Bool) → cond (b && false) (bad_reading sector place ∷ []) [] ≡ []
  by_bad true = refl
  by_bad false = refl

  pub good_push : (bytes : List ℕ) → good_ones (readings ++ good_reading sector place bytes ∷ []) sector ≡ good_ones readings sector ++ good_reading sector place bytes ∷ []
  good_push bytes =
      filter-append IsGood readings (good_reading sector place bytes ∷ [])
      ∙ ap (λ (rs : List NotedReading). good_ones readings sector ++ rs) (by_good (nat_eq sector sector) bytes (eq-eqb sector sector refl))

  pub bad_push : good_ones (readings ++ bad_reading sector place ∷ []) sector ≡ good_ones readings sector
  bad_push =
      filter-append IsGood readings (bad_reading sector place ∷ [])
      ∙ ap (λ (rs : List NotedReading). good_ones readings sector ++ rs) (by_bad (nat_eq sector sector)) ∙ append-nil (good_ones readings sector)

-- what is known of the sector stands for one reading more
pub good_stands : (sector : ℕ) (book book' : Knowledge) (copies copies' : List Copy) (place : Place) (bytes : List ℕ)
    → AppendsReading book book' (good_reading sector place bytes)
    → ((goods : List NotedReading) → copies ≡ copies_over goods → copies' ≡ copies_over (goods ++ good_reading sector place bytes ∷ []))
    → AppendsNotes (record { sector = sector; book = book; copies = copies }) (record { sector = sector; book = book'; copies = copies' }) (good_reading sector place bytes ∷ [])
good_stands sector book book' copies copies' place bytes appends noted readings stands = record {
  book = appends readings stands.book;
  copies = noted (good_ones readings sector) stands.copies ∙ ap copies_over (sym (good_push readings sector place bytes));
}

pub bad_stands : (sector : ℕ) (book book' : Knowledge) (copies : List Copy) (place : Place) → AppendsReading book book' (bad_reading sector place)
    → AppendsNotes (record { sector = sector; book = book; copies = copies }) (record { sector = sector; book = book'; copies = copies }) (bad_reading sector place ∷ [])
bad_stands sector book book' copies place appends readings stands = record {
  book = appends readings stands.book;
  copies = stands.copies ∙ ap copies_over (sym (bad_push readings sector place));
}

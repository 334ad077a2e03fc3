-- What a book knows of the headers and the data that were noted in it, and of which kinds names
-- are.
use Rattle.std.specs.Prelude.{◌≡◌, ℕ, Bool, List, [], ◌∷◌, ◌++◌, if◌then◌else◌, false, get_or}
use Rattle.std.specs.Prelude.{All, is_some, None, true}
use Rattle.name_book.specs.Names.{NameTold, NotedData, has_more, is_met, names_over}
use Rattle.name_book.specs.declared.name.NameKind.{NameKind}
use Rattle.name_book.specs.declared.name.NameKind.TheVariants.{Bad, Bare, Whole}
use Rattle.name_book.specs.declared.name.NamedHeader.{NamedHeader}
use Rattle.name_book.specs.declared.name.SectorPlace.TheVariants.{Early}

-- what is told of each name, and whether names were passed over
pub record NamesKnown : Type 0 where
  pub told : List NameTold
  pub more : Bool

-- What is known stands for these headers and these data, each of which is of a header's name.
pub record NamesStandFor (known : NamesKnown) (headers : List NamedHeader)
    («data» : List NotedData) : Type 0 where
  pub told : known.told ≡ names_over headers «data»
  pub more : known.more ≡ has_more headers
  pub named : All (λ d. is_met d.name headers ≡ true) «data»

-- a call appends a header to whatever headers are stood for
abbrev pub AppendsHeader : NamesKnown → NamesKnown → NamedHeader → Type 0
AppendsHeader old new header = (headers : List NamedHeader) («data» : List NotedData)
    → NamesStandFor old headers «data» → NamesStandFor new (headers ++ header ∷ []) «data»

-- and data to whatever data are, behind a header of their name
abbrev pub AppendsData : NamesKnown → NamesKnown → NotedData → Type 0
AppendsData old new d = (headers : List NamedHeader) («data» : List NotedData)
    → NamesStandFor old headers «data» → is_met d.name headers ≡ true
    → NamesStandFor new headers («data» ++ d ∷ [])

-- what is told of the name of this number
abbrev pub told_at : NamesKnown → (number : ℕ) → NameTold
told_at known number = get_or known.told number (record {
  name = record { cylinder = 0; head = 0; number = 0; code = 0 };
  dump = 0;
  place = Early 0;
  opens = false;
  whole = false;
  agreed = None;
})

-- A name is whole where whole data stand behind a header of it, bad where only a data sync does,
-- and bare where none does behind any.
abbrev pub kind_of : NameTold → NameKind
kind_of told = if told.whole then Whole else (if told.opens then Bad else Bare)

-- all whole data of a name hold the same
abbrev pub is_good : NameTold → Bool
is_good told = is_some told.agreed

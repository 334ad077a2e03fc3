-- What is noted of one header.
use Rattle.std.specs.Prelude.{◌≡◌, ◌<◌, ◌≤◌, ℕ, Bool, true, List, [], ◌∷◌, ◌++◌, drop}
use Rattle.flux_base.specs.declared.header_name.HeaderName.{HeaderName}
use Rattle.frame_law.specs.Controller.{AreFound}
use Rattle.ibm_disks.specs.declared.rate.Rate.{Rate}
use Rattle.name_book.specs.Book.{NamesKnown, NamesStandFor}
use Rattle.name_book.specs.Names.{NotedData, is_met}
use Rattle.name_book.specs.declared.name.NamedHeader.{NamedHeader}
use Rattle.name_book.specs.declared.name.SectorName.{SectorName}
use Rattle.ibm_walks.specs.Headers.{FoundName, IsNameAt, IsNamed, data_of}
use Rattle.ibm_walks.specs.Walks.{AppendsNames}

-- A header stands at a place from one on to below another, by a rate.
pub record HasNameFrom (rate : Rate) (cells : List Bool) (from to : ℕ) : Type 0 where
  pub place : ℕ
  pub name : HeaderName
  pub lower : from ≤ place
  pub upper : place < to
  pub named : IsNamed rate (drop place cells) name

-- A header that stands at a place was noted, with all its whole data.
pub record HasNotedOne (rate : Rate) (dump : ℕ) (times indexes : List ℕ) (cells : List Bool)
    (place : ℕ) (old new : NamesKnown) : Type 0 where
  pub found : FoundName
  pub stands : IsNameAt rate dump times indexes cells place found
  pub noted : AppendsNames old new (found.0 ∷ []) found.1

-- Data of a name were noted, behind a header of it that was.
abbrev pub AppendsHeld : SectorName → NamesKnown → NamesKnown → List (ℕ × List ℕ) → Type 0
AppendsHeld name old new held = (headers : List NamedHeader) («data» : List NotedData)
    → NamesStandFor old headers «data» → is_met name headers ≡ true
    → NamesStandFor new headers («data» ++ data_of name held)

-- All whole data of a header, which stands at the front of the cells, were.
pub record HaveNotedHeld (HoldHere : ℕ → List ℕ → Type 0) (name : SectorName)
    (old new : NamesKnown) : Type 0 where
  pub held : List (ℕ × List ℕ)
  pub all : AreFound HoldHere 0 held
  pub noted : AppendsHeld name old new held

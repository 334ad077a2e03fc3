-- All headers of a stream by a rate and a clock, with all their whole data.
use Rattle.std.specs.Prelude.{◌≡◌, ℕ, Bool, List, flat_map, map}
use Rattle.frame_law.specs.Controller.{AreFound}
use Rattle.ibm_disks.specs.declared.rate.Rate.{Rate}
use Rattle.name_book.specs.Book.{NamesKnown, NamesStandFor}
use Rattle.name_book.specs.Names.{NotedData}
use Rattle.name_book.specs.declared.name.NamedHeader.{NamedHeader}
use Rattle.std.specs.Prelude.{◌++◌}
use Rattle.turn_merge.specs.declared.clock.Clock.{Clock}
use Rattle.ibm_walks.specs.Headers.{FoundName, IsNameAt}
use Rattle.ibm_walks.specs.Rates.{cells_at}

-- those that stand in cells, by rising place
pub record AreNamesIn (rate : Rate) (dump : ℕ) (times indexes : List ℕ) (cells : List Bool)
    (headers : List NamedHeader) («data» : List NotedData) : Type 0 where
  pub found : List (ℕ × FoundName)
  pub all : AreFound (IsNameAt rate dump times indexes cells) 0 found
  pub headers_are : headers ≡ map (λ f. f.1.0) found
  pub data_are : «data» ≡ flat_map (λ f. f.1.1) found

-- those in the cells that a clock recovers
abbrev pub AreNamesBy : Clock → Rate → (dump : ℕ) → (times indexes : List ℕ) → List NamedHeader
    → List NotedData → Type 0
AreNamesBy clock rate dump times indexes headers «data» =
    AreNamesIn rate dump times indexes (cells_at clock rate times indexes) headers «data»

-- These were noted: the book stands for what was before and then for them.
abbrev pub AppendsNames : NamesKnown → NamesKnown → List NamedHeader → List NotedData → Type 0
AppendsNames old new headers «data» = (before : List NamedHeader) (held : List NotedData)
    → NamesStandFor old before held → NamesStandFor new (before ++ headers) (held ++ «data»)

-- All of some headers and data were.
pub record HaveNoted (Are : List NamedHeader → List NotedData → Type 0) (old new : NamesKnown)
    : Type 0 where
  pub headers : List NamedHeader
  pub «data» : List NotedData
  pub are : Are headers «data»
  pub noted : AppendsNames old new headers «data»

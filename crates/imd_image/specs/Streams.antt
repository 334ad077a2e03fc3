-- What the streams of a track say by each mode of ImageDisk's files.
use Rattle.std.specs.Prelude.{◌≡◌, ℕ, List, [], ◌∷◌, ◌++◌, length, Option, Some, None}
use Rattle.std.specs.List.{range_with_len}
use Rattle.flux_engine.specs.LoopProgress.{seen_at}
use Rattle.flux_engine.specs.Plans.{Seen}
use Rattle.ibm_disks.specs.declared.rate.Rate.{Rate}
use Rattle.ibm_disks.specs.declared.rate.Rate.TheVariants.{Double, High, HighAt360, Single}
use Rattle.ibm_disks.specs.declared.rate.Rate.TheVariants.{SingleAt360}
use Rattle.ibm_walks.specs.Walks.{AreNamesBy}
use Rattle.imd_records.specs.declared.mode.Mode.{Mode}
use Rattle.imd_records.specs.declared.mode.Mode.TheVariants.{Fm250, Fm500, Mfm250, Mfm500}
use Rattle.name_book.specs.Book.{NamesKnown, NamesStandFor}
use Rattle.name_book.specs.Names.{NotedData}
use Rattle.name_book.specs.declared.name.NamedHeader.{NamedHeader}
use Rattle.sector_report.specs.declared.dump_lines.Passed.{Passed}
use Rattle.turn_merge.specs.declared.clock.Clock.{Clock}
use Rattle.turn_merge.specs.declared.clock.Clock.TheVariants.{Following, Held}

-- by a rate a stream is read with both clocks
abbrev pub by_clocks : Rate → List (Rate × Clock)
by_clocks rate = (rate, Following) ∷ (rate, Held) ∷ []

-- The readings of a mode: by its rate, and in high density by two, since a disk was written at 300
-- revolutions a minute or at 360.
abbrev pub readings_of : Mode → List (Rate × Clock)
readings_of Mfm250 = by_clocks Double
readings_of Mfm500 = by_clocks High ++ by_clocks HighAt360
readings_of Fm250 = by_clocks Single
readings_of Fm500 = by_clocks SingleAt360

-- Headers and data are those of one part, and then those of others.
pub record Joins (One Others : List NamedHeader → List NotedData → Type 0)
    (headers : List NamedHeader) («data» : List NotedData) : Type 0 where
  pub first : List NamedHeader
  pub later : List NamedHeader
  pub held_first : List NotedData
  pub held_later : List NotedData
  pub one : One first held_first
  pub others : Others later held_later
  pub headers_are : headers ≡ first ++ later
  pub data_are : «data» ≡ held_first ++ held_later

-- They are those of several parts, joined in order.
abbrev pub AreJoined : {K : Type 0} → (K → List NamedHeader → List NotedData → Type 0) → List K
    → List NamedHeader → List NotedData → Type 0
AreJoined Are [] headers «data» = (headers ≡ []) × («data» ≡ [])
AreJoined Are (key ∷ keys) headers «data» = Joins (Are key) (AreJoined Are keys) headers «data»

-- The headers and the data that a stream has by a mode. One that is passed over says nothing.
abbrev pub AreNamesUnless : Option Passed → Mode → (dump : ℕ) → (times indexes : List ℕ)
    → List NamedHeader → List NotedData → Type 0
AreNamesUnless None mode dump times indexes =
    AreJoined (λ reading. AreNamesBy reading.1 reading.0 dump times indexes) (readings_of mode)
AreNamesUnless (Some why) mode dump times indexes = λ headers «data». (headers ≡ []) × («data» ≡ [])

abbrev pub AreNamesIn : Mode → Seen → (dump : ℕ) → List NamedHeader → List NotedData → Type 0
AreNamesIn mode seen dump = AreNamesUnless seen.passed mode dump seen.times seen.indexes

-- This is known of what the streams of a track say by a mode, dump by dump.
pub record AreNamesOf (mode : Mode) (streams : List Seen) (known : NamesKnown) : Type 0 where
  pub headers : List NamedHeader
  pub «data» : List NotedData
  pub are : AreJoined (λ dump. AreNamesIn mode (seen_at streams dump) dump)
      (range_with_len 0 (length streams)) headers «data»
  pub stand : NamesStandFor known headers «data»

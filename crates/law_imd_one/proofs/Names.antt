-- What the streams of a track say by a mode is one thing.
use Rattle.std.proofs.Common.{◌≡◌, ◌↔◌, ◌∙◌, ℕ, Bool, true, false, List, ◌∷◌, drop, length, map, Option, Some, None, ap, refl, sym, subst}
use Rattle.std.specs.Prelude.{IsTrue, flat_map}
use Rattle.std.specs.List.{range_with_len}
use Rattle.disk_recordings.specs.Laws.{DataAreRead, NamesAreTold}
use Rattle.flux_base.specs.declared.header_name.HeaderName.TheVariants.{Address}
use Rattle.flux_engine.specs.LoopProgress.{seen_at}
use Rattle.flux_engine.specs.Plans.{Seen}
use Rattle.frame_law.specs.Controller.{AreFound}
use Rattle.ibm_disks.specs.GapPlans.{density_of}
use Rattle.ibm_disks.specs.declared.rate.Rate.{Rate}
use Rattle.ibm_disks.specs.declared.sector_size.SectorSize.{SectorSize}
use Rattle.ibm_disks.specs.declared.sector_size.SectorSize.TheVariants.{Bytes128}
use Rattle.ibm_walks.specs.Headers.{FoundName, HoldBy, IsNameAt, address_of, data_of, mark_at, since_index, size_of_code}
use Rattle.ibm_walks.specs.Rates.{cells_at, format_with_one}
use Rattle.ibm_walks.specs.Walks.{AreNamesBy}
use Rattle.imd_image.specs.Streams.{AreNamesIn, AreNamesOf, AreNamesUnless, readings_of}
use Rattle.imd_records.specs.declared.mode.Mode.{Mode}
use Rattle.name_book.specs.Book.{NamesKnown}
use Rattle.name_book.specs.Names.{NotedData, has_more, names_over}
use Rattle.name_book.specs.declared.name.NamedHeader.{NamedHeader}
use Rattle.name_book.specs.declared.name.SectorName.{SectorName}
use Rattle.sector_report.specs.declared.dump_lines.Passed.{Passed}
use Rattle.turn_merge.specs.declared.clock.Clock.{Clock}
use Rattle.law_imd_one.proofs.Lists.{AreOne, found_one, joined_one}

-- the parts of a name
module _ (c h s k c' h' s' k' : ℕ) (e : Address c h s k ≡ Address c' h' s' k') where
  row_is : c ≡ c'
  row_is = cc

  side_is : h ≡ h'
  side_is = cc

  number_is : s ≡ s'
  number_is = cc

  code_is : k ≡ k'
  code_is = cc

-- a name by its parts
one_sector_name : (a b : SectorName) → address_of a ≡ address_of b → a ≡ b
one_sector_name a b e =
    let row = row_is a.cylinder a.head a.number a.code b.cylinder b.head b.number b.code e in
    let side = side_is a.cylinder a.head a.number a.code b.cylinder b.head b.number b.code e in
    let number = number_is a.cylinder a.head a.number a.code b.cylinder b.head b.number b.code e in
    let code = code_is a.cylinder a.head a.number a.code b.cylinder b.head b.number b.code e in
    λ i. record { cylinder = row i; head = side i; number = number i; code = code i }

-- what tells the same is the same
one_bool : {A : Type 0} (a b : Bool) → IsTrue a ↔ A → IsTrue b ↔ A → a ≡ b
one_bool true true p q = refl
one_bool false false p q = refl
one_bool true false p q = sym (q.1 (p.0 refl))
one_bool false true p q = p.1 (q.0 refl)

module _ (names : NamesAreTold) (reads : DataAreRead) where
  -- whole data at a place
  one_held : (rate : Rate) (size : Option SectorSize) (cells : List Bool) (place : ℕ) (a b : List ℕ) → HoldBy rate size cells place a → HoldBy rate size cells place b → a ≡ b
  one_held rate None cells place a b p q = absurd p
  one_held rate (Some size) cells place a b p q =
      p.are
      ∙ ap (λ (bytes : List ℕ). mark_at (density_of rate) cells place ∷ bytes) ((reads.told (format_with_one rate size)).one cells place p.bytes q.bytes p.stand q.stand)
      ∙ sym q.are

  module _ (rate : Rate) (dump : ℕ) (times indexes : List ℕ) (cells : List Bool) where
    -- a header at a place, with its data
    one_name : (place : ℕ) (x y : FoundName) → IsNameAt rate dump times indexes cells place x → IsNameAt rate dump times indexes cells place y → x ≡ y
    one_name place x y p q =
        let name : x.0.name ≡ y.0.name =
        one_sector_name x.0.name y.0.name
        ((names.told (format_with_one rate Bytes128) (record { cylinder = 0; head = 0 })).one_name (drop place cells) (address_of x.0.name) (address_of y.0.name) p.named q.named) in
        let time : x.0.time ≡ y.0.time = p.time ∙ sym q.time in
        let since : x.0.since ≡ y.0.since = p.since ∙ ap (since_index indexes) time ∙ sym q.since in
        let whose : x.0.dump ≡ y.0.dump = p.dump_is ∙ sym q.dump_is in
        let opens : x.0.opens ≡ y.0.opens = one_bool x.0.opens y.0.opens p.opens q.opens in
        let held : p.held ≡ q.held =
        found_one (HoldBy rate (size_of_code x.0.name.code) (drop place cells)) (one_held rate (size_of_code x.0.name.code) (drop place cells)) 0 p.held q.held p.all
        (subst (λ (n : SectorName). AreFound (HoldBy rate (size_of_code n.code) (drop place cells)) 0 q.held) (sym name) q.all) in
        let noted : x.1 ≡ y.1 = p.are ∙ ap (λ (n : SectorName). data_of n p.held) name ∙ ap (data_of y.0.name) held ∙ sym q.are in
        λ i. (record { name = name i; dump = whose i; time = time i; since = since i; opens = opens i }, noted i)

  -- what a stream says by a rate and a clock
  one_reading : (clock : Clock) (rate : Rate) (dump : ℕ) (times indexes : List ℕ) (headers headers' : List NamedHeader) (noted noted' : List NotedData)
      → AreNamesBy clock rate dump times indexes headers noted → AreNamesBy clock rate dump times indexes headers' noted' → AreOne headers headers' noted noted'
  one_reading clock rate dump times indexes headers headers' noted noted' p q =
      let cells = cells_at clock rate times indexes in
      let found = found_one (IsNameAt rate dump times indexes cells) (one_name rate dump times indexes cells) 0 p.found q.found p.all q.all in (
        p.headers_are ∙ ap (map (λ (f : ℕ × FoundName). f.1.0)) found ∙ sym q.headers_are,
        p.data_are ∙ ap (flat_map (λ (f : ℕ × FoundName). f.1.1)) found ∙ sym q.data_are,
      )

  -- by all readings of a mode
  one_stream_names : (passed : Option Passed) (mode : Mode) (dump : ℕ) (times indexes : List ℕ) (headers headers' : List NamedHeader) (noted noted' : List NotedData)
      → AreNamesUnless passed mode dump times indexes headers noted → AreNamesUnless passed mode dump times indexes headers' noted' → AreOne headers headers' noted noted'
  one_stream_names (Some why) mode dump times indexes headers headers' noted noted' p q = (p.0 ∙ sym q.0, p.1 ∙ sym q.1)
  one_stream_names None mode dump times indexes headers headers' noted noted' p q =
      joined_one (λ (reading : Rate × Clock). AreNamesBy reading.1 reading.0 dump times indexes) (λ reading. one_reading reading.1 reading.0 dump times indexes) (readings_of mode) headers
      headers' noted noted' p q

  -- and what all streams do
  pub one_known : (mode : Mode) (streams : List Seen) (known known' : NamesKnown) → AreNamesOf mode streams known → AreNamesOf mode streams known' → known ≡ known'
  one_known mode streams known known' p q =
      let are : AreOne p.headers q.headers p.«data» q.«data» =
      joined_one (λ (dump : ℕ). AreNamesIn mode (seen_at streams dump) dump)
      (λ dump. one_stream_names (seen_at streams dump).passed mode dump (seen_at streams dump).times (seen_at streams dump).indexes) (range_with_len 0 (length streams)) p.headers q.headers
      p.«data» q.«data» p.are q.are in
      let told : known.told ≡ known'.told =
      p.stand.told ∙ ap (λ (hs : List NamedHeader). names_over hs p.«data») are.0 ∙ ap (names_over q.headers) are.1 ∙ sym q.stand.told in
      let more : known.more ≡ known'.more = p.stand.more ∙ ap has_more are.0 ∙ sym q.stand.more in
      λ i. record { told = told i; more = more i }

-- What stands in a stream's cells is in the book of its rate, and so in the file.
use Rattle.std.proofs.Common.{◌≡◌, ◌<◌, ◌⊎◌, ◌∙◌, ◌&&◌, ℕ, zero, suc, Bool, true, false, not, List, [], ◌∷◌, drop, length, Option, Some, None, Result, Ok, Err, is_some, ap, refl, sym, subst, inl, inr, arith}
use Rattle.std.specs.Prelude.{Contains}
use Rattle.std.specs.List.{range_with_len}
use Rattle.std.proofs.lemmas.Bool.{eq-eqb}
use Rattle.std.proofs.lemmas.List.{get_or_default}
use Rattle.disk_recordings.specs.Laws.{DataAreRead}
use Rattle.disk_recordings.specs.Members.{as_controllers_read}
use Rattle.dump_reading.specs.DumpStreams.{IsOrFailed, seen_of, seen_unless}
use Rattle.flux_base.specs.declared.track.TrackId.{TrackId}
use Rattle.flux_engine.specs.LoopProgress.{seen_at}
use Rattle.flux_engine.specs.PlanLaws.{GoodIsRightInPlans, IsRightlyGood}
use Rattle.flux_engine.specs.Plans.{AreCaptures, Seen, Streams, joined}
use Rattle.flux_engine.specs.Recordings.{cells_by, sectors_of, start_by, start_of, track_at}
use Rattle.flux_engine.specs.Rules.{StandsBy}
use Rattle.flux_engine.specs.Tracks.{image_bytes}
use Rattle.flux_engine.specs.declared.plan.Plan.{Plan}
use Rattle.flux_engine.specs.declared.plan.Rule.{Rule}
use Rattle.flux_engine.specs.declared.plan.Rule.TheVariants.{Controller}
use Rattle.ibm_disks.specs.declared.rate.Rate.{Rate}
use Rattle.ibm_disks.specs.declared.rate.Rate.TheVariants.{Double, High, HighAt360, Single, SingleAt360}
use Rattle.ibm_walks.specs.Walks.{AreNamesBy}
use Rattle.imd_image.specs.Found.{IsFoundOf, TrackFound, sectors_in}
use Rattle.imd_image.specs.Streams.{AreNamesIn, AreNamesUnless, readings_of}
use Rattle.imd_records.specs.Choices.{is_in, is_kind}
use Rattle.imd_records.specs.declared.mode.Mode.{Mode}
use Rattle.kryo_stream.specs.Stream.{first_fault}
use Rattle.kryo_stream.specs.declared.fault.StreamFault.{StreamFault}
use Rattle.law_imd_files.proofs.Books.{agreed_is, all_agree, data_held, held_from, name_told, same_itself}
use Rattle.law_imd_files.proofs.Joined.{IsPart, joined_has}
use Rattle.law_imd_files.proofs.Lists.{any_has, in_range}
use Rattle.law_imd_files.specs.Headline.{mode_of}
use Rattle.law_imd_files.specs.Read.{IsEmptyOrRead, IsInBook, IsReadOf, IsToldWith}
use Rattle.law_imd_tracks.specs.Standing.{HaveSector, StandingSectorsAreNamed, rate_in}
use Rattle.law_imd_tracks.specs.lemmas.Elements.{map_has}
use Rattle.name_book.specs.Book.{NamesKnown, told_at}
use Rattle.name_book.specs.Names.{NameTold, NotedData, agreed_of, held_of, same_sector, told_of}
use Rattle.name_book.specs.declared.name.NameKind.TheVariants.{Bare}
use Rattle.name_book.specs.declared.name.NamedHeader.{NamedHeader}
use Rattle.name_book.specs.declared.name.SectorName.{SectorName}
use Rattle.phase_loop.specs.Rows.{recovered}
use Rattle.phase_loop.specs.declared.start.LoopStart.{LoopStart}
use Rattle.scp_files.specs.declared.fault.ScpTrackFault.{ScpTrackFault}
use Rattle.sector_images.specs.declared.format.Format.{Format}
use Rattle.turn_merge.specs.Readings.{NotedReading, verdict}
use Rattle.turn_merge.specs.declared.clock.Clock.{Clock}
use Rattle.turn_merge.specs.declared.clock.Clock.TheVariants.{Following, Held}
use Rattle.turn_merge.specs.declared.verdict.Place.{Place}
use Rattle.turn_merge.specs.declared.verdict.Verdict.TheVariants.{Good}

-- a mode is read by each of its rates, with both clocks
is_read_by : (rate : Rate) (clock : Clock) → Contains (readings_of (mode_of rate)) (rate, clock)
is_read_by Double Following = (0, omega arith, refl)
is_read_by Double Held = (1, omega arith, refl)
is_read_by High Following = (0, omega arith, refl)
is_read_by High Held = (1, omega arith, refl)
is_read_by HighAt360 Following = (2, omega arith, refl)
is_read_by HighAt360 Held = (3, omega arith, refl)
is_read_by Single Following = (0, omega arith, refl)
is_read_by Single Held = (1, omega arith, refl)
is_read_by SingleAt360 Following = (0, omega arith, refl)
is_read_by SingleAt360 Held = (1, omega arith, refl)

-- of no transitions no cells are recovered, in which nothing stands
no_cells : (start : LoopStart) (place : ℕ) → length (drop place (recovered start [])) ≡ 0
unfolding recovered
no_cells start zero = refl
no_cells start (suc place) = refl

no_data : (reads : DataAreRead) (format : Format) (on : TrackId) (clock : Clock) (times indexes : List ℕ) (place sector : ℕ) (bytes : List ℕ) → times ≡ []
    → StandsBy Controller format on (drop place (cells_by clock format on times indexes)) sector bytes → ⊥
no_data reads format on clock times indexes place sector bytes empty stands =
    let behind = stands.1.0 in
    let low = (reads.told (as_controllers_read format)).inside (drop place (cells_by clock format on times indexes)) behind bytes stands.1.1 in
    let none = ap (λ (ts : List ℕ). length (drop place (cells_by clock format on ts indexes))) empty ∙ no_cells (start_by clock (start_of format on indexes)) place in
    omega (arith, low, none)

module _ (law : StandingSectorsAreNamed) (format : Format) (rate : Rate) (by_rate : rate_in format ≡ Some rate) (track : TrackId) (streams : List Seen) (found : TrackFound)
    (are : IsFoundOf track streams found) where
  pub in_book : (dump : ℕ) → dump < length streams → (seen_at streams dump).passed ≡ None → (clock : Clock) (on : TrackId) (place sector : ℕ) (bytes : List ℕ)
      → StandsBy Controller format on (drop place (cells_by clock format on (seen_at streams dump).times (seen_at streams dump).indexes)) sector bytes
      → IsInBook are (mode_of rate) format on sector bytes
  in_book dump low is_read clock on place sector bytes stands = record {
    name = have.name;
    is = have.is;
    mark = have.mark;
    header = (have.header.0, of_dump.all have.header.0 (of_rate.all have.header.0 have.header.1), have.header.2);
    held = of_dump.each _ (of_rate.each _ have.held);
  }
    where
      seen : Seen
      seen = seen_at streams dump

      mode : Mode
      mode = mode_of rate

      By : Rate × Clock → List NamedHeader → List NotedData → Type 0
      By reading = AreNamesBy reading.1 reading.0 dump seen.times seen.indexes

      of_dump : IsPart (λ (d : ℕ). AreNamesIn mode (seen_at streams d) d) dump (are.names mode).headers (are.names mode).«data»
      of_dump =
          joined_has (λ (d : ℕ). AreNamesIn mode (seen_at streams d) d) (range_with_len 0 (length streams)) (are.names mode).headers (are.names mode).«data» (are.names mode).are dump
          (in_range (length streams) dump low)

      of_rate : IsPart By (rate, clock) of_dump.its of_dump.held
      of_rate =
          joined_has By (readings_of mode) of_dump.its of_dump.held
          (subst (λ (p : Option _). AreNamesUnless p mode dump seen.times seen.indexes of_dump.its of_dump.held) is_read of_dump.are) (rate, clock) (is_read_by rate clock)

      have : HaveSector format on sector bytes of_rate.its of_rate.held
      have = law format rate by_rate clock on dump seen.times seen.indexes of_rate.its of_rate.held of_rate.are place sector bytes stands

  -- what a plan calls good
  module _ (reads : DataAreRead) (right : GoodIsRightInPlans) (plan : Plan) (came : Streams) (n : ℕ) (is : IsReadOf plan came n streams) (captures : List (List NotedReading))
      (many : length captures ≡ plan.captures) (each : AreCaptures plan format came n captures) (sector good bad : ℕ) (first : Place)
      (says : verdict (joined captures) sector ≡ Good good bad first) where
    abbrev its_track : TrackId
    its_track = track_at format n

    abbrev held : List ℕ
    held = image_bytes (sectors_of format its_track) (joined captures) sector

    abbrev rightly : IsRightlyGood plan format came n held sector first
    rightly = right plan format came n captures many each sector good bad first says

    abbrev its : ℕ
    its = rightly.named.capture

    its_low : its < length streams
    its_low = let low = rightly.named.low in let same = is.many in omega (arith, low, same)

    abbrev cells_of_stream : Seen → List Bool
    cells_of_stream seen = drop rightly.named.place (cells_by rightly.named.clock format its_track seen.times seen.indexes)

    stands : StandsBy Controller format its_track (cells_of_stream (seen_at streams its)) sector held
    stands =
        subst (λ (r : Rule). StandsBy r format its_track (cells_of_stream (seen_at streams its)) sector held) is.rule
        (subst (λ (s : Seen). StandsBy plan.rule format its_track (cells_of_stream s) sector held) (is.each its its_low)
        (subst (λ (bytes : List ℕ). StandsBy plan.rule format its_track (cells_of_stream (came n its)) sector bytes) (sym rightly.in_image) rightly.named.stands))

    -- so its stream is not passed over
    is_read : IsEmptyOrRead (seen_at streams its) → (seen_at streams its).passed ≡ None
    is_read (inl none) = none
    is_read (inr empty) = absurd (no_data reads format its_track rightly.named.clock (seen_at streams its).times (seen_at streams its).indexes rightly.named.place sector held empty stands)

    pub good_in_book : IsInBook are (mode_of rate) format its_track sector held
    good_in_book =
        in_book its its_low (is_read (is.empty its its_low)) rightly.named.clock its_track rightly.named.place sector held stands

-- what comes of a file
came_empty : (came says : Seen) → IsOrFailed came says → IsEmptyOrRead says → IsEmptyOrRead came
came_empty came says (inl same) is = subst IsEmptyOrRead (sym same) is
came_empty came says (inr failed) is = inr (ap (λ (s : Seen). s.times) failed)

says_empty : (file : Option (Result (List ℕ) ScpTrackFault)) → IsEmptyOrRead (seen_of file)
says_empty None = inr refl
says_empty (Some (Err fault)) = inr refl
says_empty (Some (Ok bytes)) = by (first_fault bytes)
  where
    by : (fault : Option (ℕ × StreamFault)) → IsEmptyOrRead (seen_unless bytes fault)
    by None = inl refl
    by (Some fault) = inr refl

pub coming_streams : (file : Option (Result (List ℕ) ScpTrackFault)) (seen : Seen) → IsOrFailed seen (seen_of file) → IsEmptyOrRead seen
coming_streams file seen came = came_empty seen (seen_of file) came (says_empty file)

-- what is in a book is told, and is in the file
is_whole : (told : NameTold) → told.whole ≡ true → is_kind Bare told ≡ false
is_whole told whole = ap (λ (b : Bool). is_kind Bare (record told { whole = b })) whole

module _ (track : TrackId) (streams : List Seen) (found : TrackFound) (are : IsFoundOf track streams found) (mode : Mode) (none : (found.names mode).more ≡ false) where
  abbrev known : NamesKnown
  known = found.names mode

  abbrev headers : List NamedHeader
  headers = (are.names mode).headers

  abbrev noted : List NotedData
  noted = (are.names mode).«data»

  -- a name of the mode and the size of the record
  in_rows : (told : NameTold) → Contains known.told told → told.whole ≡ true → found.choice.mode ≡ mode → found.choice.code ≡ told.name.code → Contains (sectors_in found) told
  in_rows told has whole same size =
      subst (λ (t : NameTold). Contains (sectors_in found) t) here
      (subst (λ (m : Mode). Contains (sectors_in found) (told_at (found.names m) has.0)) same
      (map_has (told_at (found.names found.choice.mode)) found.rows has.0 ((are.rows.each has.0).1 (low, is_one))))
    where
      at : told_at known has.0 ≡ told
      at = get_or_default known.told has.0 _ told has.1 ∙ has.2

      here : told_at (found.names mode) has.0 ≡ told
      here = at

      low : has.0 < length (found.names found.choice.mode).told
      low = subst (λ (m : Mode). has.0 < length (found.names m).told) (sym same) has.1

      one : is_in found.choice.code told ≡ true
      one =
          ap (λ (b : Bool). b && not (is_kind Bare told)) (eq-eqb told.name.code found.choice.code (sym size)) ∙ ap (λ (b : Bool). true && not b) (is_whole told whole)

      is_one : is_in found.choice.code (told_at (found.names found.choice.mode) has.0) ≡ true
      is_one =
          subst (λ (m : Mode). is_in found.choice.code (told_at (found.names m) has.0) ≡ true) (sym same)
          (subst (λ (t : NameTold). is_in found.choice.code t ≡ true) (sym at) one)

  pub book_told : (format : Format) (on : TrackId) (sector : ℕ) (bytes : List ℕ) (has : IsInBook are mode format on sector bytes) → IsToldWith found mode noted has.name (has.mark ∷ bytes)
  book_told format on sector bytes has = record {
    told = told;
    there = there;
    name_is = refl;
    whole = whole;
    either = by (agreed_of (held_of has.name noted)) refl;
    agreed = λ all. agreed_is (held_of has.name noted) (has.mark ∷ bytes) held (λ y there. let d = held_from has.name noted y there in sym d.3 ∙ all d.0 d.1 d.2);
    in_file = in_rows told there whole;
  }
    where
      its : NotedData
      its = record { name = has.name; held = has.mark ∷ bytes }

      told : NameTold
      told = told_of headers noted has.name

      there : Contains known.told told
      there =
          subst (λ (name : SectorName). Contains known.told (told_of headers noted name)) has.header.2
          (name_told known headers noted (are.names mode).stand none has.header.0 has.header.1)

      whole : told.whole ≡ true
      whole = any_has (λ (d : NotedData). same_sector has.name d.name) noted its has.held (same_itself has.name)

      held : Contains (held_of has.name noted) (has.mark ∷ bytes)
      held = data_held noted its has.held

      by : (o : Option (List ℕ)) → agreed_of (held_of has.name noted) ≡ o → (told.agreed ≡ None) ⊎ (told.agreed ≡ Some (has.mark ∷ bytes))
      by None is = inl is
      by (Some x) is = inr (all_agree (held_of has.name noted) (has.mark ∷ bytes) held (ap is_some is))

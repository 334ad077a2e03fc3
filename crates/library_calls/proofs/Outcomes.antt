-- The laws of the engine.
use Rattle.std.specs.Prelude.{◌≡◌, ◌≤◌, ◌<◌, ℕ, ◌-◌, ◌*◌, List, [], ◌++◌, length, take, drop, Option, Some, None, refl}
use Rattle.std.proofs.Common.{ap, sym, ◌∙◌, arith, inl, inr, append_assoc, length-take-le}
use Rattle.std.proofs.lemmas.List.{ext_get_or, get_or-take, take-append-drop}
use Rattle.std.proofs.lemmas.Bool.{cases_lt}
use Rattle.std.proofs.lemmas.List.Concat.{flat_map-append}
use Rattle.flux_base.specs.declared.track.TrackId.{TrackId}
use Rattle.kryo_stream.specs.Stream.{first_fault, times, indexes}
use Rattle.kryo_stream.specs.declared.fault.StreamFault.{StreamFault}
use Rattle.sector_images.specs.Formats.{row, slot}
use Rattle.sector_images.specs.Places.{SectorsFillTracks, place_of, sector_in, sector_place, tracks}
use Rattle.sector_images.specs.declared.format.Format.{Format}
use Rattle.turn_merge.specs.Readings.{bytes_of}
use Rattle.turn_merge.specs.declared.clock.Clock.TheVariants.{Following}
use Rattle.library_calls.specs.Disks.{AreParts, Decoded, Stop, decoded_count, stop_of, IsPart}
use Rattle.flux_engine.specs.Disks.{images, last_line, lines, no_totals, part_at, report_over, totals_over}
use Rattle.library_calls.specs.Laws.{OneOutcome, FirstTracksLead, GoodIsRight}
use Rattle.disk_recordings.specs.Laws.{TracksAreRead}
use Rattle.disk_recordings.specs.Members.{header_at, sector_at}
use Rattle.flux_engine.specs.Recordings.{track_at, sectors_of, cells_of}
use Rattle.flux_engine.specs.Streams.{stream_at}
use Rattle.flux_engine.specs.Tracks.{Found, TrackPart, image_of, part_of, readings_of}
use Rattle.library_calls.proofs.Stops.{stops_there}
use Rattle.flux_engine.specs.lemmas.GoodSectors.{head_of, head_holds, all_agree, good_image, strict_good}

no_part : TrackPart
no_part = record { image = []; lines = []; totals = no_totals }

not_none : (o : Option (ℕ × StreamFault)) (f : ℕ × StreamFault) → o ≡ Some f → o ≡ None → ⊥
not_none o f some none = cc

stop_late : (format : Format) (x : List ℕ) (parts : List TrackPart) → AreParts format x parts → length parts ≤ length (tracks format)
    → (stop : Option Stop) → stop_of format x ≡ stop → length parts ≤ decoded_count format stop
stop_late format x parts are within None is = within
stop_late format x parts are within (Some s) is =
    elim (cases_lt s.track (length parts)) [
      | inr late ↦ late
      | inl early ↦
          let fault = (stops_there format x s is).1 in
          absurd (not_none (first_fault (stream_at x s.track)) (s.block, s.fault) fault (are s.track early).no_fault)
    ]

module _ (read : TracksAreRead) where
  -- one list of readings
  pub one_found : (format : Format) (track : TrackId) (times' indexes' : List ℕ) (a b : TrackPart) (p : IsPart format track times' indexes' a) (q : IsPart format track times' indexes' b)
      → p.found ≡ q.found
  one_found format track times' indexes' a b p q =
      read.one format track (cells_of format track times' indexes') 0 p.found q.found p.all q.all

  pub one_part : (format : Format) (track : TrackId) (times' indexes' : List ℕ) (a b : TrackPart) → IsPart format track times' indexes' a → IsPart format track times' indexes' b → a ≡ b
  one_part format track times' indexes' a b p q =
      p.is ∙ ap (λ (found : List Found). part_of format track (readings_of times' indexes' (cells_of format track times' indexes') found))
      (one_found format track times' indexes' a b p q) ∙ sym q.is

  one_parts : (format : Format) (x : List ℕ) (ps qs : List TrackPart) → AreParts format x ps → AreParts format x qs → length ps ≡ length qs → ps ≡ qs
  unfolding no_part
  one_parts format x ps qs are others same =
      ext_get_or no_part ps qs same
      (λ k low. one_part format (track_at format k) (times (stream_at x k)) (indexes (stream_at x k)) (part_at ps k) (part_at qs k)
      (are k low).comes (others k (omega (arith, low, same))).comes)

  pub one_outcome : OneOutcome
  one_outcome format x a b p q =
      p.is ∙ ap (λ (parts : List TrackPart). report_over parts (stop_of format x)) (one_parts format x p.parts q.parts p.each q.each (p.many ∙ sym q.many)) ∙ sym q.is

  -- the first parts of an outcome
  first_parts : (format : Format) (x : List ℕ) (ps qs : List TrackPart) → AreParts format x ps → AreParts format x qs → length ps ≤ length qs → take (length ps) qs ≡ ps
  unfolding no_part
  first_parts format x ps qs are others fewer =
      let size : length (take (length ps) qs) ≡ length ps = length-take-le (length ps) qs fewer in
      ext_get_or no_part (take (length ps) qs) ps size
      (λ (k : ℕ) low.
      let within : k < length ps = omega (arith, low, size) in
      get_or-take (length ps) qs k no_part within
      ∙ one_part format (track_at format k) (times (stream_at x k)) (indexes (stream_at x k)) (part_at qs k) (part_at ps k)
      (others k (omega (arith, within, fewer))).comes (are k within).comes)

  pub first_tracks_lead : FirstTracksLead
  first_tracks_lead format x parts o are within d =
      let n : ℕ = length parts in
      let late : n ≤ decoded_count format (stop_of format x) = stop_late format x parts are within (stop_of format x) refl in
      let fewer : n ≤ length d.parts = omega (arith, late, d.many) in
      let rest : List TrackPart = drop n d.parts in
      let split : d.parts ≡ parts ++ rest =
      sym (take-append-drop n d.parts) ∙ ap (λ (ps : List TrackPart). ps ++ rest) (first_parts format x parts d.parts are d.each fewer) in
      let image : o.image ≡ images parts ++ images rest =
      ap (λ (a : Decoded). a.image) d.is ∙ ap images split ∙ flat_map-append (λ (p : TrackPart). p.image) parts rest in
      let last : List ℕ = last_line (totals_over d.parts) (stop_of format x) in
      let notes : o.notes ≡ lines parts ++ (lines rest ++ last) =
      ap (λ (a : Decoded). a.notes) d.is
      ∙ ap (λ (xs : List ℕ). xs ++ last) (ap lines split ∙ flat_map-append (λ (p : TrackPart). p.lines) parts rest)
      ∙ append_assoc (lines parts) (lines rest) last in
      ((images rest, image), (lines rest ++ last, notes))

  pub good_is_right : SectorsFillTracks → GoodIsRight
  unfolding image_of sector_place
  good_is_right fills format track times' indexes' part is sector good bad first known verdict_is =
      let cells = cells_of format track times' indexes' in
      let h = head_of (readings_of times' indexes' cells is.found) sector good bad first verdict_is in
      let size : ℕ = (row format).sector_size in
      let fill = fills format track sector known in
      let place : sector_place format track sector - place_of format track ≡ size * slot format sector = omega arith in
      let stand = (strict_good (header_at format track) (sector_at format track) (read.all format track) cells is.found is.all) in
      let holds = head_holds (sector_at format track) size (read.told format track).content_size
      0 Following times' indexes' cells is.found stand sector first h in
      record {
        bytes = bytes_of h.head;
        stands = holds.0;
        turn = holds.1;
        in_image =
            ap (λ (n : ℕ). take {A = ℕ} size (drop n part.image)) place
            ∙ ap (λ (p : TrackPart). take {A = ℕ} size (drop (size * slot format sector) p.image)) is.is
            ∙ good_image (sector_at format track) size (read.told format track).content_size
            0 Following times' indexes' cells is.found stand (sectors_of format track) refl (sector_in format track) sector (slot format sector) first h fill.1 fill.0;
        agreed = all_agree (sector_at format track) size (read.told format track).content_size
            0 Following times' indexes' cells is.found stand sector first h;
      }

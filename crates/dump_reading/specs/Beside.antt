-- The tracks that dumps may have files of beside those of the format: no sector of them is wanted,
-- and all headers in them are others.
use Rattle.std.specs.Prelude.{◌≡◌, ◌<◌, ◌≤◌, ◌&&◌, ℕ, zero, suc, ◌+◌, ◌-◌, ◌*◌, Bool, true, not}
use Rattle.std.specs.Prelude.{filter, flat_map, get_or, length, List, [], ◌∷◌, ◌++◌, min, nat_lt}
use Rattle.std.specs.Prelude.{sum_by, Option}
use Rattle.std.specs.Io.KnownBytes.{Appends}
use Rattle.std.specs.List.{range_with_len}
use Rattle.flux_base.specs.declared.track.TrackId.{TrackId}
use Rattle.sector_images.specs.Formats.{row}
use Rattle.sector_images.specs.declared.format.Format.{Format}
use Rattle.sector_report.specs.declared.totals.Totals.{Totals}
use Rattle.track_shelf.specs.Files.{File}
use Rattle.track_shelf.specs.declared.stepping.Stepping.{Stepping}
use Rattle.track_shelf.specs.declared.stepping.Stepping.TheVariants.{Single, Double}
use Rattle.turn_merge.specs.Others.{NotedOther, has_untold, others_over}
use Rattle.flux_engine.specs.LoopProgress.{seen_at}
use Rattle.flux_engine.specs.Names.{passed_beside}
use Rattle.flux_engine.specs.Plans.{AreNamesTo, Seen}
use Rattle.flux_engine.specs.SecondSinks.{SecondNow}
use Rattle.flux_engine.specs.declared.gathered_track.PassedStream.{PassedStream}
use Rattle.flux_engine.specs.declared.plan.Plan.{Plan}
use Rattle.dump_reading.specs.DumpStreams.{AreOfDumps, DumpTracks}
use Rattle.dump_reading.specs.Reports.{other_lines, passed_lines}
use Rattle.dump_reading.specs.declared.looks.Looks.{Looks}
use Rattle.dump_reading.specs.declared.looks.Looks.TheVariants.{Always, WhereGood}

-- how many cylinders the names of a dump's files reach, by the steps of the drive
abbrev pub most_cylinders : Stepping → ℕ
most_cylinders Single = 100
most_cylinders Double = 50

-- whether a track is one of the format's
abbrev pub is_track : Format → TrackId → Bool
is_track format track =
    nat_lt track.cylinder (row format).cylinders && nat_lt track.head (row format).heads

-- both heads of a cylinder
abbrev pub both_heads : (cylinder : ℕ) → List TrackId
both_heads cylinder =
    record { cylinder = cylinder; head = 0 } ∷ record { cylinder = cylinder; head = 1 } ∷ []

-- all tracks that files can be named by: by their cylinders, and then by their heads
abbrev pub named_tracks : Stepping → List TrackId
named_tracks stepping = flat_map both_heads (range_with_len 0 (most_cylinders stepping))

-- those of them that are none of the format's
unfoldable pub beside_tracks : Stepping → Format → List TrackId
beside_tracks stepping format =
    filter (λ track. not (is_track format track)) (named_tracks stepping)

abbrev pub beside_at : Stepping → Format → ℕ → TrackId
beside_at stepping format number =
    get_or (beside_tracks stepping format) number (record { cylinder = 0; head = 0 })

-- whether they are looked at, by the sectors that the format's tracks came to
abbrev pub looks_beside : Looks → (sectors : Totals) → Bool
looks_beside Always sectors = true
looks_beside WhereGood sectors = nat_lt 0 sectors.good

-- The format's track of nearest number, with whose ring and cell such a track is read: of the same
-- cylinder or of the last one, on the same head or on the last one.
abbrev pub near_track : Format → TrackId → TrackId
near_track format track =
    record {
      cylinder = min track.cylinder ((row format).cylinders - 1);
      head = min track.head ((row format).heads - 1);
    }

-- some tracks by their numbers, each with a stream of each dump
abbrev pub of_tracks : Stepping → (dumps : List (List ℕ)) → (track_of : ℕ → TrackId) → DumpTracks
of_tracks stepping dumps track_of =
    record { stepping = stepping; dumps = dumps; count = length dumps; track_of = track_of }

-- those beside the format's
abbrev pub of_beside : Stepping → (dumps : List (List ℕ)) → Format → DumpTracks
of_beside stepping dumps format = of_tracks stepping dumps (beside_at stepping format)

-- what came of the captures of one of them
abbrev pub captures_at : (count : ℕ) → List Seen → (number : ℕ) → ℕ → Seen
captures_at count came number capture = seen_at came (number * count + capture)

-- which of its first captures are told as passed over: one that is not there is not
abbrev pub beside_to : (captures : ℕ → Seen) → ℕ → List PassedStream
beside_to captures zero = []
beside_to captures (suc q) = beside_to captures q ++ passed_beside q (captures q).passed

-- what becomes of such a track: lines, by the captures that are passed over and by all others
abbrev pub LinesOf : Type 0
LinesOf = TrackId → List PassedStream → List NotedOther → List ℕ

-- in a report those of the captures that are passed over, and those of others; in a picture none
abbrev pub beside_lines : LinesOf
beside_lines track passed others =
    passed_lines track passed ++ other_lines track (others_over others) (has_untold others)

abbrev pub no_lines : LinesOf
no_lines track passed others = []

-- such lines were taken by the second of two sinks, as long as both take all
abbrev pub TookLines : List ℕ → (start now : SecondNow) → Type 0
TookLines text start now =
    now.sound ≡ true
    → (start.sound ≡ true) × (now.image ≡ start.image) × Appends start.notes now.notes text

-- The first of these tracks were looked at: what came of their files, and all headers in each.
pub record AreBeside (stepping : Stepping) (dumps : List (List ℕ)) (plan : Plan) (format : Format)
    (told : Option (List File)) (came : List Seen) (others : List (List NotedOther)) : Type 0 where
  pub all : length came ≡ length others * length dumps
  pub few : length others ≤ length (beside_tracks stepping format)
  pub are : AreOfDumps (of_beside stepping dumps format) told came
  pub each : (number : ℕ) → number < length others
      → AreNamesTo plan format (near_track format (beside_at stepping format number))
      (captures_at (length dumps) came number) (length dumps) (get_or others number [])

-- the lines of one of them, and of the first ones
abbrev pub lines_at : LinesOf → (stepping : Stepping) (dumps : List (List ℕ)) → Format
    → (came : List Seen) → (others : List (List NotedOther)) → ℕ → List ℕ
lines_at of stepping dumps format came others number =
    of (beside_at stepping format number)
    (beside_to (captures_at (length dumps) came number) (length dumps))
    (get_or others number [])

abbrev pub lines_to : LinesOf → (stepping : Stepping) (dumps : List (List ℕ)) → Format
    → (came : List Seen) → (others : List (List NotedOther)) → ℕ → List ℕ
lines_to of stepping dumps format came others count =
    flat_map (lines_at of stepping dumps format came others) (range_with_len 0 count)

-- how many of their files are told as passed over: those that are there
abbrev pub told_beside : List Seen → ℕ
told_beside came = sum_by (λ here. length (passed_beside 0 here.passed)) came

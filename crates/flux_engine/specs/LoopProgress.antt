-- How far the loop over a disk's tracks has come, wherever the streams come from.
use Rattle.std.specs.Prelude.{◌≡◌, ◌≤◌, ◌<◌, ◌⊎◌, ℕ, ◌+◌, ◌*◌, Bool, false, List, [], ◌∷◌, ◌++◌}
use Rattle.std.specs.Prelude.{count_by, get_or, is_some, length, Option, None, Some, Result, Ok}
use Rattle.std.specs.Prelude.{Err}
use Rattle.std.specs.Io.KnownBytes.{Appends}
use Rattle.flux_base.specs.declared.track.TrackId.{TrackId}
use Rattle.index_turns.specs.Track.{TrackState}
use Rattle.sector_images.specs.Places.{tracks}
use Rattle.sector_images.specs.declared.format.Format.{Format}
use Rattle.sector_report.specs.declared.totals.Totals.{Totals}
use Rattle.turn_merge.specs.Book.{Knowledge, SameShape, StandsFor}
use Rattle.turn_merge.specs.Others.{NotedOther, OthersKnown, OthersStandFor}
use Rattle.turn_merge.specs.Readings.{NotedReading}
use Rattle.flux_engine.specs.Captured.{AppendsOthers, AppendsReadings, AreOthersOf, AreReadingsOf}
use Rattle.flux_engine.specs.Captured.{count_of_clocks}
use Rattle.flux_engine.specs.Counts.{AreOthersOver, lost_in, told_count, whole_count}
use Rattle.flux_engine.specs.Cut.{WritesFront}
use Rattle.flux_engine.specs.Disks.{images, lines, totals_over}
use Rattle.flux_engine.specs.PlanAnswers.{of_part, of_stream}
use Rattle.flux_engine.specs.Plans.{AreCaptures, AreOthersTo, ArePlannedParts, PartOf, Seen}
use Rattle.flux_engine.specs.Plans.{Streams, is_failed, joined, passed_one, passed_to}
use Rattle.flux_engine.specs.Reading.{IsBounded}
use Rattle.flux_engine.specs.Room.{MOST_READINGS, RoomState}
use Rattle.flux_engine.specs.Tracks.{TrackPart}
use Rattle.kryo_stream.specs.declared.fault.CaptureFault.{CaptureFault}
use Rattle.flux_engine.specs.declared.fault.RefusedCapture.{RefusedCapture}
use Rattle.flux_engine.specs.declared.fault.Stopped.{Stopped}
use Rattle.flux_engine.specs.declared.gathered_track.PassedStream.{PassedStream}
use Rattle.flux_engine.specs.declared.plan.Clocks.{Clocks}
use Rattle.flux_engine.specs.declared.plan.Rule.{Rule}
use Rattle.flux_engine.specs.declared.plan.Plan.{Plan}
use Rattle.flux_engine.specs.declared.track_part.PartFault.{PartFault}
use Rattle.flux_engine.specs.declared.track_streams.NextStream.{NextStream}
use Rattle.flux_engine.specs.declared.track_streams.NextStream.TheVariants.{Read, PassedOver}

-- what the streams say that came, by their number from 0
abbrev pub seen_at : List Seen → ℕ → Seen
seen_at came i = get_or came i (record { fault = None; passed = None; times = []; indexes = [] })

-- as the streams of a disk: the captures of a track follow one another, and then those of the next
abbrev pub streams_over : Plan → List Seen → Streams
streams_over plan came n q = seen_at came (n * plan.captures + q)

-- how many of them are passed over
abbrev pub passed_count : List Seen → ℕ
passed_count came = count_by (λ s. is_some s.passed) came

-- and how many of these since their files failed
abbrev pub lost_count : List Seen → ℕ
lost_count came = count_by (λ s. is_failed s.passed) came

-- none of them ends the disk
abbrev pub AreWhole : List Seen → Type 0
AreWhole came = (i : ℕ) → i < length came → (seen_at came i).fault ≡ None

-- what a stream says that was read, and one that was passed over
abbrev pub seen_next : NextStream → TrackState → Seen
seen_next Read flux =
    record { fault = None; passed = None; times = flux.times; indexes = flux.indexes }
seen_next (PassedOver why) flux =
    record { fault = None; passed = Some why; times = []; indexes = [] }

-- One stream more came after those before, or ended the disk: by what it is that these streams
-- came, and that the next one ended the disk.
abbrev pub GivesNext : (Came : List Seen → Type 0) → (Ended : List Seen → CaptureFault → Type 0)
    → (before : List Seen) → TrackState
    → Result NextStream CaptureFault → Type 0
GivesNext Came Ended before flux (Ok next) = Came (before ++ seen_next next flux ∷ [])
GivesNext Came Ended before flux (Err fault) = Ended before fault

-- the transitions and index times of one that was read are bounded
abbrev pub IsBoundedNext : NextStream → TrackState → Type 0
IsBoundedNext Read flux = IsBounded flux
IsBoundedNext (PassedOver why) flux = Unit {0}

-- All readings by a rule and these clocks of the stream that came next were noted, after those
-- before; or that it was passed over.
pub record HasNotedNext (next : NextStream) (rule : Rule) (clocks : Clocks) (format : Format)
    (track : TrackId) (flux : TrackState) (capture : ℕ) (old new : Knowledge)
    (passed passed' : List PassedStream) (before after : OthersKnown) : Type 0 where
  pub readings : List NotedReading
  pub are : AreReadingsOf rule clocks format track (seen_next next flux).times
      (seen_next next flux).indexes capture readings
  pub noted : AppendsReadings old new readings
  pub passed_are : passed' ≡ passed ++ passed_one capture (seen_next next flux).passed
  pub shape : SameShape old new
  pub few : new.notes ≤ old.notes + MOST_READINGS * count_of_clocks clocks
  pub others : List NotedOther
  pub others_are : AreOthersOf rule clocks format track (seen_next next flux).times
      (seen_next next flux).indexes capture others
  pub others_noted : AppendsOthers before after others
  pub few_others : after.notes ≤ before.notes + MOST_READINGS * count_of_clocks clocks

-- One stream more came after those before, and the same was noted in the room.
pub record HasTakenNext (Came : List ℕ → Bool → List Seen → Type 0) (rule : Rule) (clocks : Clocks)
    (format : Format) (track : TrackId) (capture : ℕ) (before : List Seen)
    (old new : RoomState) : Type 0 where
  pub here : Seen
  pub whole : here.fault ≡ None
  pub came : Came new.held new.used (before ++ here ∷ [])
  pub readings : List NotedReading
  pub are : AreReadingsOf rule clocks format track here.times here.indexes capture readings
  pub noted : AppendsReadings old.book new.book readings
  pub passed_are : new.passed ≡ old.passed ++ passed_one capture here.passed
  pub others : List NotedOther
  pub others_are : AreOthersOf rule clocks format track here.times here.indexes capture others
  pub others_noted : AppendsOthers old.others new.others others

abbrev pub TakesNext : (Came : List ℕ → Bool → List Seen → Type 0)
    → (Ended : List Seen → CaptureFault → Type 0) → Rule → Clocks → Format → TrackId → (capture : ℕ)
    → (before : List Seen)
    → (old new : RoomState) → Result (Unit {0}) CaptureFault → Type 0
TakesNext Came Ended rule clocks format track capture before old new (Ok u) =
    HasTakenNext Came rule clocks format track capture before old new
TakesNext Came Ended rule clocks format track capture before old new (Err fault) =
    Ended before fault

-- After the streams before, the first q captures of track number n came: the room's book stands for
-- all readings of them, and it has those that were passed over, and all others.
pub record HasGathered (plan : Plan) (format : Format) (n : ℕ)
    (Came : List ℕ → Bool → List Seen → Type 0) (before : List Seen) (room : RoomState)
    (q : ℕ) : Type 0 where
  pub more : List Seen
  pub many_more : length more ≡ q
  pub came : Came room.held room.used (before ++ more)
  pub whole : AreWhole (before ++ more)
  pub captures : List (List NotedReading)
  pub many : length captures ≡ q
  pub each : AreCaptures plan format (streams_over plan (before ++ more)) n captures
  pub stands : StandsFor room.book (joined captures)
  pub passed_are : room.passed ≡ passed_to (streams_over plan (before ++ more)) n q
  pub passed_many : length room.passed ≡ passed_count more
  pub lost_many : lost_in room.passed ≡ lost_count more
  pub others : List NotedOther
  pub others_are : AreOthersTo plan format (streams_over plan (before ++ more)) n q others
  pub others_stand : OthersStandFor room.others others

-- after the streams before, a capture of track number n ended the disk
pub record EndedInTrack (plan : Plan) (n : ℕ) (Ended : List Seen → CaptureFault → Type 0)
    (before : List Seen) (fault : Stopped RefusedCapture) : Type 0 where
  pub capture : ℕ
  pub few : capture < plan.captures
  pub more : List Seen
  pub many_more : length more ≡ capture
  pub whole : AreWhole (before ++ more)
  pub cause : CaptureFault
  pub ended : Ended (before ++ more) cause
  pub is : fault ≡ of_stream n capture cause

abbrev pub GathersTrack : Plan → Format → (n : ℕ) → (Came : List ℕ → Bool → List Seen → Type 0)
    → (Ended : List Seen → CaptureFault → Type 0) → (before : List Seen)
    → RoomState → Result (Unit {0}) (Stopped RefusedCapture) → Type 0
GathersTrack plan format n Came Ended before room (Ok u) =
    HasGathered plan format n Came before room plan.captures
GathersTrack plan format n Came Ended before room (Err fault) =
    EndedInTrack plan n Ended before fault

-- The streams of the first n tracks came, and what these tracks come to was written. Those that
-- were passed over are counted, and the names that are told of other headers.
pub record HasWritten (plan : Plan) (of : PartOf) (format : Format)
    (Came : List ℕ → Bool → List Seen → Type 0) (image image' notes notes' : Option (List ℕ))
    (room : RoomState) (n : ℕ)
    (totals : Totals) : Type 0 where
  pub streams : List Seen
  pub all : length streams ≡ n * plan.captures
  pub came : Came room.held room.used streams
  pub whole : AreWhole streams
  pub parts : List TrackPart
  pub many : length parts ≡ n
  pub each : ArePlannedParts plan of format (streams_over plan streams) parts
  pub image_grew : Appends image image' (images parts)
  pub notes_grew : Appends notes notes' (lines parts)
  pub totals_are : totals ≡ totals_over parts
  pub format_is : room.format ≡ format
  pub unread_is : room.unread ≡ passed_count streams
  pub lost_is : room.lost ≡ lost_count streams
  pub others : List (List NotedOther)
  pub many_others : length others ≡ n
  pub others_are : AreOthersOver plan format (streams_over plan streams) others
  pub told_is : room.told_others ≡ told_count others
  pub whole_is : room.whole_others ≡ whole_count others
  pub sound : room.failed ≡ false

-- A stream ended the disk, after so many tracks that were written whole,
-- of which these are the totals.
pub record EndedByStream (plan : Plan) (of : PartOf) (format : Format)
    (Ended : List Seen → CaptureFault → Type 0) (image image' notes notes' : Option (List ℕ))
    (totals : Totals)
    (fault : Stopped RefusedCapture) : Type 0 where
  pub number : ℕ
  pub low : number < length (tracks format)
  pub streams : List Seen
  pub all : length streams ≡ number * plan.captures
  pub parts : List TrackPart
  pub many : length parts ≡ number
  pub each : ArePlannedParts plan of format (streams_over plan streams) parts
  pub image_grew : Appends image image' (images parts)
  pub notes_grew : Appends notes notes' (lines parts)
  pub totals_are : totals ≡ totals_over parts
  pub ended : EndedInTrack plan number Ended streams fault

-- A sink failed in the track after those that were written whole. All captures of it came.
pub record EndedBySink (plan : Plan) (of : PartOf) (format : Format)
    (Came : List ℕ → Bool → List Seen → Type 0) (image image' notes notes' : Option (List ℕ))
    (room : RoomState)
    (fault : Stopped RefusedCapture) : Type 0 where
  pub streams : List Seen
  pub parts : List TrackPart
  pub next : TrackPart
  pub low : length parts < length (tracks format)
  pub all : length streams ≡ length parts * plan.captures + plan.captures
  pub came : Came room.held room.used streams
  pub whole : AreWhole streams
  pub each : ArePlannedParts plan of format (streams_over plan streams) (parts ++ next ∷ [])
  pub cause : PartFault
  pub wrote : WritesFront cause parts next image image' notes notes'
  pub is : fault ≡ of_part cause

-- the loop ended with a fault
abbrev pub EndsLoop : Plan → PartOf → Format → (Came : List ℕ → Bool → List Seen → Type 0)
    → (Ended : List Seen → CaptureFault → Type 0) → (image image' notes notes' : Option (List ℕ))
    → RoomState
    → Totals → Stopped RefusedCapture → Type 0
EndsLoop plan of format Came Ended image image' notes notes' room totals fault =
    EndedByStream plan of format Ended image image' notes notes' totals fault
    ⊎ EndedBySink plan of format Came image image' notes notes' room fault

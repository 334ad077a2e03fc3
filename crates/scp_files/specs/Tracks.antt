-- A track of an SCP file, as a function of the bytes from its place on
-- (SuperCard Pro image file format, "track data header").
use Rattle.std.specs.Prelude.{ℕ, ◌+◌, ◌*◌, ◌==◌, ◌||◌, not, Bool, false, true, List, [], ◌∷◌}
use Rattle.std.specs.Prelude.{drop, find, flat_map, length, map, nat_le, nat_lt, slice_index}
use Rattle.std.specs.Prelude.{sum_by, take, unwrap_or, if◌then◌else◌, Option, Some, None}
use Rattle.std.specs.List.{range_with_len}
use Rattle.std.specs.Str.{bytes_eq}
use Rattle.byteorder.specs.Endian.{little_number}
use Rattle.scp_files.specs.declared.fault.ScpTrackFault.{ScpTrackFault}
use Rattle.scp_files.specs.declared.fault.ScpTrackFault.TheVariants.{ShortTrack, BadSignature}
use Rattle.scp_files.specs.declared.fault.ScpTrackFault.TheVariants.{BadNumber, TooLong, ShortData}
use Rattle.scp_files.specs.declared.head.Revolution.{Revolution}

-- `TRK`
abbrev pub TRACK_SIGNATURE : List ℕ
TRACK_SIGNATURE = 84 ∷ 82 ∷ 75 ∷ []

-- the bytes of a track's header, before the entries, where it has so many revolutions at most
abbrev pub head_size : (revolutions : ℕ) → ℕ
head_size revolutions = 4 + 12 * revolutions

-- the most entries of a track, in all its revolutions (our own choice: as many transitions
-- as a stream may have)
abbrev pub MOST_ENTRIES : ℕ
MOST_ENTRIES = 4194304

-- why a track's header is none
unfoldable pub head_fault : (revolutions number : ℕ) → List ℕ → Option ScpTrackFault
head_fault revolutions number track =
    if nat_lt (length track) (head_size revolutions) then Some ShortTrack
    else if not (bytes_eq (take 3 track) TRACK_SIGNATURE) then Some BadSignature
    else if not (slice_index track 3 == number) then Some (BadNumber (slice_index track 3))
    else None

-- a revolution: how many units it took, how many entries it has, and where they lie
abbrev pub revolution_at : List ℕ → (revolution : ℕ) → Revolution
revolution_at track revolution =
    record {
      duration = little_number 4 (drop (head_size revolution) track);
      entries = little_number 4 (drop (head_size revolution + 4) track);
      offset = little_number 4 (drop (head_size revolution + 8) track);
    }

-- numbers of 16 bits, the higher byte first
abbrev pub words : List ℕ → List ℕ
words [] = []
words (_ ∷ []) = []
words (high ∷ low ∷ bytes) = (high * 256 + low) ∷ words bytes

-- the entries of a revolution
abbrev pub entries_at : List ℕ → Revolution → List ℕ
entries_at track it = words (take (2 * it.entries) (drop it.offset track))

-- how many entries the first revolutions have
abbrev pub entries_before : List ℕ → (revolutions : ℕ) → ℕ
entries_before track revolutions =
    sum_by (λ r. (revolution_at track r).entries) (range_with_len 0 revolutions)

-- why a revolution is not read: there are too many entries, or the file ends before they do
abbrev pub revolution_fault : List ℕ → (revolution : ℕ) → Option ScpTrackFault
revolution_fault track r =
    if nat_lt MOST_ENTRIES (entries_before track (r + 1)) then Some TooLong
    else if nat_lt (length track)
    ((revolution_at track r).offset + 2 * (revolution_at track r).entries)
    then Some (ShortData r)
    else None

-- a track has no revolution of this number: the file has no more, or it has no entries
abbrev pub is_over : (revolutions : ℕ) → List ℕ → (revolution : ℕ) → Bool
is_over revolutions track r = nat_le revolutions r || (revolution_at track r).entries == 0

abbrev pub is_some : {X : Type 0} → Option X → Bool
is_some None = false
is_some (Some _) = true

abbrev pub stops_at : (revolutions : ℕ) → List ℕ → (revolution : ℕ) → Bool
stops_at revolutions track r = is_over revolutions track r || is_some (revolution_fault track r)

-- how many revolutions are whole: those before the first that is not read
abbrev pub whole_count : (revolutions : ℕ) → List ℕ → ℕ
whole_count revolutions track =
    unwrap_or (find (stops_at revolutions track) (range_with_len 0 revolutions)) revolutions

-- why the revolution behind them is not read, if there is one
abbrev pub end_fault : (revolutions : ℕ) → List ℕ → Option ScpTrackFault
end_fault revolutions track =
    if is_over revolutions track (whole_count revolutions track) then None
    else revolution_fault track (whole_count revolutions track)

-- the entries of the first revolutions, and how many units each of these took
abbrev pub values_of : List ℕ → (count : ℕ) → List ℕ
values_of track count =
    flat_map (λ r. entries_at track (revolution_at track r)) (range_with_len 0 count)

abbrev pub durations_of : List ℕ → (count : ℕ) → List ℕ
durations_of track count =
    map (λ r. (revolution_at track r).duration) (range_with_len 0 count)

-- why a track is not whole: for its header, or else for the revolution at which its reading ends
abbrev pub fault_by : (head behind : Option ScpTrackFault) → Option ScpTrackFault
fault_by (Some fault) behind = Some fault
fault_by None behind = behind

abbrev pub track_fault : (revolutions number : ℕ) → (track : List ℕ) → Option ScpTrackFault
track_fault revolutions number track =
    fault_by (head_fault revolutions number track) (end_fault revolutions track)

-- how many revolutions are read: none where there is no header
abbrev pub count_by : (head : Option ScpTrackFault) → (whole : ℕ) → ℕ
count_by (Some fault) whole = 0
count_by None whole = whole

abbrev pub read_count : (revolutions number : ℕ) → (track : List ℕ) → ℕ
read_count revolutions number track =
    count_by (head_fault revolutions number track) (whole_count revolutions track)

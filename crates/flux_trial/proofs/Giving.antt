-- A source gives the streams of a trial's tracks, one after another.
use Rattle.std.proofs.Common.{◌≡◌, ◌≤◌, ◌<◌, ◌+◌, ◌-◌, ◌++◌, ℕ, suc, Bool, List, [], ◌∷◌, length, take, drop, flat_map, min, refl, ap, sym, ◌∙◌, arith, append_assoc, length-append, length-drop}
use Rattle.std.specs.Prelude.{Some, slice_get}
use Rattle.std.specs.List.{range_with_len}
use Rattle.std.proofs.lemmas.List.{drop_all, take-append-drop}
use Rattle.flux_base.specs.declared.track.TrackId.{TrackId}
use Rattle.flux_engine.specs.Rings.{nominal_of, ring_of}
use Rattle.flux_writer.specs.Written.{in_stream_before, stream_of_times, transition_blocks}
use Rattle.kryo_stream.specs.Sequence.{spellings}
use Rattle.kryo_stream.specs.Spelling.{spelling}
use Rattle.kryo_stream.specs.declared.block.Block.{Block}
use Rattle.kryo_stream.specs.declared.block.Block.TheVariants.{StreamEnd, End}
use Rattle.std.proofs.lemmas.List.Concat.{flat_map-append}
use Rattle.sector_images.specs.Formats.{zone}
use Rattle.sector_images.specs.Places.{tracks}
use Rattle.sector_images.specs.declared.format.Format.{Format}
use Rattle.flux_trial.specs.Drive.{Drive}
use Rattle.flux_trial.specs.Image.{trial_image}
use Rattle.flux_trial.specs.Times.{trial_indexes, trial_times}
use Rattle.flux_trial.specs.Tracks.{drive_at, trial_input, trial_ring, trial_stream}
use Rattle.flux_trial.specs.inside.Giving.{streams_from}
use Rattle.flux_engine.specs.lemmas.TrackAt.{is_track_at}

pub start-left : (format format' : Format) (seed : ℕ) (stream : List ℕ) → format ≡ format' → stream ≡ []
    → drop 0 stream ++ streams_from format seed 0 ≡ trial_input format' seed
unfolding trial_input
start-left format format' seed stream same none =
    let all : length (tracks format') - 0 ≡ length (tracks format') = omega arith in
    ap (λ (s : List ℕ). drop 0 s ++ streams_from format seed 0) none ∙ ap (λ (f : Format). streams_from f seed 0) same
    ∙ ap (λ (n : ℕ). flat_map (trial_stream format' seed) (range_with_len 0 n)) all

-- bytes that were not given
pub not-given : (at_hand stream bytes : List ℕ) (given : ℕ) → at_hand ≡ drop given stream → bytes ≡ stream → given < length bytes → at_hand ≡ [] → ⊥
not-given at_hand stream bytes given at is more none =
    absurd (omega (arith, ap length (sym at ∙ none), length-drop given stream, ap length is, more))

streams-next : (format : Format) (seed next : ℕ) → next < length (tracks format)
    → streams_from format seed next ≡ trial_stream format seed next ++ streams_from format seed (next + 1)
streams-next format seed next below =
    let more : length (tracks format) - next ≡ suc (length (tracks format) - (next + 1)) = omega (arith, below) in
    ap (λ (n : ℕ). flat_map (trial_stream format seed) (range_with_len next n)) more

pub refilled : (format : Format) (seed next given : ℕ) (stream bytes stream' : List ℕ) → next < length (tracks format) → bytes ≡ stream → length bytes ≤ given
    → stream' ≡ trial_stream format seed next
    → drop 0 stream' ++ streams_from format seed (next + 1) ≡ drop given stream ++ streams_from format seed next
refilled format seed next given stream bytes stream' below is over made =
    ap (λ (s : List ℕ). s ++ streams_from format seed (next + 1)) made
    ∙ sym (streams-next format seed next below)
    ∙ ap (λ (s : List ℕ). s ++ streams_from format seed next) (sym (drop_all given stream (omega (arith, ap length is, over))))

-- no stream is without bytes
some-bytes : (front : List Block) (position : ℕ) → spellings (front ++ StreamEnd position 0 ∷ End ∷ []) ≡ [] → ⊥
some-bytes front position none =
    let both = ap length (flat_map-append spelling front (StreamEnd position 0 ∷ End ∷ [])) in
    let split = length-append (spellings front) (spellings (StreamEnd position 0 ∷ End ∷ [])) in
    let last = length-append (spelling (StreamEnd position 0)) (spellings (End ∷ [])) in
    let end : length (spellings (End ∷ [])) ≡ 4 = refl in
    absurd (omega (arith, ap length none, both, split, last, end))

pub never-empty : (format : Format) (seed k : ℕ) (stream : List ℕ) → stream ≡ trial_stream format seed k → stream ≡ [] → ⊥
unfolding trial_stream
never-empty format seed k stream is none =
    let times : List ℕ = trial_times (drive_at format seed k) (trial_ring format seed k) in
    let indexes : List ℕ = trial_indexes (drive_at format seed k) (trial_ring format seed k) in
    some-bytes (flat_map (transition_blocks times indexes) (range_with_len 0 (length times))) (in_stream_before times (length times)) (sym is ∙ none)

-- the stream that was written is that of the track
pub stream-is : (format : Format) (seed number nominal : ℕ) (track : TrackId) (image : List ℕ) (ring : List Bool) (times indexes old new : List ℕ)
    → slice_get (tracks format) number ≡ Some track → image ≡ trial_image format seed → ring ≡ ring_of format image number
    → nominal ≡ (zone format track.cylinder).nominal
    → times ≡ trial_times (record { seed = seed; track = number; nominal = nominal }) ring
    → indexes ≡ trial_indexes (record { seed = seed; track = number; nominal = nominal }) ring
    → old ≡ [] → new ≡ old ++ stream_of_times times indexes → new ≡ trial_stream format seed number
unfolding trial_stream
stream-is format seed number nominal track image ring times indexes old new at image_is ring_is nominal_is times_are indexes_are none new_is =
    let cell : nominal ≡ nominal_of format number = nominal_is ∙ ap (λ (t : TrackId). (zone format t.cylinder).nominal) (sym (is_track_at format number track at)) in
    let made : ring ≡ trial_ring format seed number = ring_is ∙ ap (λ (i : List ℕ). ring_of format i number) image_is in
    let drive : ℕ → Drive = λ n. record { seed = seed; track = number; nominal = n } in
    new_is ∙ ap (λ (l : List ℕ). l ++ stream_of_times times indexes) none
    ∙ ap (λ (ts : List ℕ). stream_of_times ts indexes) times_are
    ∙ ap (stream_of_times (trial_times (drive nominal) ring)) indexes_are
    ∙ ap (λ (n : ℕ). stream_of_times (trial_times (drive n) ring) (trial_indexes (drive n) ring)) cell
    ∙ ap (λ (r : List Bool). stream_of_times (trial_times (drive (nominal_of format number)) r) (trial_indexes (drive (nominal_of format number)) r)) made

-- a read gave the first bytes of those left
pub gave : (old_left at_hand later buffer at_hand' later' : List ℕ) (count : ℕ) → at_hand ++ later ≡ old_left → take count buffer ≡ take count at_hand
    → at_hand' ≡ drop count at_hand → later' ≡ later → old_left ≡ take count buffer ++ (at_hand' ++ later')
gave old_left at_hand later buffer at_hand' later' count whole front rest same =
    sym whole ∙ ap (λ (l : List ℕ). l ++ later) (sym (take-append-drop count at_hand))
    ∙ append_assoc (take count at_hand) (drop count at_hand) later
    ∙ ap (λ (l : List ℕ). l ++ (drop count at_hand ++ later)) (sym front)
    ∙ ap (λ (l : List ℕ). take count buffer ++ (l ++ later)) (sym rest)
    ∙ ap (λ (l : List ℕ). take count buffer ++ (at_hand' ++ l)) (sym same)

empty-of : (xs : List ℕ) → length xs ≡ 0 → xs ≡ []
empty-of [] none = refl
empty-of (x ∷ xs) none = absurd (omega (arith, none))

-- a read gave nothing only where nothing is left
pub at-end : (at_hand later at_hand' later' : List ℕ) (count room : ℕ) → count ≡ min room (length at_hand) → (at_hand ≡ [] → later ≡ []) → at_hand' ≡ drop count at_hand → later' ≡ later
    → count ≡ 0 → 0 < room → at_hand' ++ later' ≡ []
at-end at_hand later at_hand' later' count room is some rest same none asked =
    let empty : at_hand ≡ [] = empty-of at_hand (omega (arith, is, none, asked)) in
    ap (λ (l : List ℕ). l ++ later') (rest ∙ ap (drop count) empty ∙ drop_all count [] (omega arith)) ∙ same ∙ some empty

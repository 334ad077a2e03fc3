-- Streams at the bounds of captures, with padding between them and bytes behind.
use Rattle.std.specs.Prelude.{◌≡◌, ◌<◌, ◌≤◌, ℕ, zero, suc, ◌+◌, ◌*◌, pos, ◌-ℤ◌, nat_abs, Bool, true, false, List, [], ◌++◌, flat_map, length, nat_lt, refl, replicate, slice_index, unwrap_or, Option}
use Rattle.std.specs.List.{range_with_len}
use Rattle.std.proofs.Common.{arith, ap, sym, subst}
use Rattle.std.proofs.lemmas.Bool.{lt-ltb, ltb-true}
use Rattle.std.proofs.lemmas.List.{get_or-replicate, length-replicate}
use Rattle.std.proofs.lemmas.List.Elements.{All-nil}
use Rattle.flux_base.specs.declared.track.TrackId.{TrackId}
use Rattle.flux_engine.specs.Recordings.{track_at}
use Rattle.flux_engine.specs.Rings.{IsImage, nominal_of, ring_of}
use Rattle.kryo_stream.specs.Joined.{MayStandBefore}
use Rattle.kryo_stream.specs.Stream.{indexes}
use Rattle.law_captured_disks.specs.Inputs.{AreJoined}
use Rattle.law_stated_captures.specs.Reached.{SteadyBoundsAreSpeeds, TracksReachBounds, slowing}
use Rattle.law_stated_captures.specs.Reaching.{IsAtBounds, IsFurthestSpeed}
use Rattle.law_stated_captures.specs.Streams.{KeepsMean, first_mean}
use Rattle.law_stated_disks.specs.Reached.{DisksReachBounds, IsWideDisk}
use Rattle.law_stated_disks.proofs.Joined.{next_after, rest_is, stand}
use Rattle.sector_images.specs.Places.{IsTrack, NumbersNameTracks, TracksKeepBounds, tracks}
use Rattle.sector_images.specs.declared.format.Format.{Format}

-- the nominal cell of a track is not short
pub cell_is : NumbersNameTracks → TracksKeepBounds → (format : Format) (k : ℕ) → k < length (tracks format) → 16384 ≤ nominal_of format k
cell_is names keep format k below =
    let named = names format k below in
    let is : IsTrack format (track_at format k) = subst (IsTrack format) (sym (ap (λ (t : Option TrackId). unwrap_or t (record { cylinder = 0; head = 0 })) named.1)) named.2 in
    (keep format (track_at format k) is).shortest_cell

-- a drive whose mean is the nominal cell may slow down to the bound
pub slows : SteadyBoundsAreSpeeds → (nominal : ℕ) → 16384 ≤ nominal → IsFurthestSpeed nominal (slowing nominal nominal) nominal
slows law nominal least = (law nominal nominal least (omega (arith, least)) (omega (arith, least))).0

-- local periods of such a speed keep to the mean
pub keeps_mean : (nominal mean : ℕ) (speed : ℕ → ℕ) (periods : List ℕ) → ((i : ℕ) → 45 * nat_abs (pos nominal -ℤ pos (speed i)) ≤ nominal) → mean ≡ nominal
    → ((i : ℕ) → i < length periods → slice_index periods i ≡ speed i) → KeepsMean mean nominal periods
keeps_mean nominal mean speed periods keeps is have i within = rw (is, have i within) (keeps i)

module _ (names : NumbersNameTracks) (keep : TracksKeepBounds) (speeds : SteadyBoundsAreSpeeds) (reach : TracksReachBounds) (format : Format) (image : List ℕ)
    (many : ℕ → ℕ) (later : List ℕ) (place index : ℕ) (late : ℕ → Bool) (is : IsImage format image) (few : (k : ℕ) → many k ≤ 16) (early : index < 2147483648) where
  abbrev pub n : ℕ
  n = length (tracks format)

  abbrev pub Reaches : ℕ → List ℕ → Type 0
  Reaches k x = (start : ℕ) × IsAtBounds x (ring_of format image k) (nominal_of format k) start (slowing (nominal_of format k) (nominal_of format k)) (nominal_of format k) index late

  pub one : (k : ℕ) → k < n → (x : List ℕ) × Reaches k x
  one k known =
      let made = reach format image k place (slowing (nominal_of format k) (nominal_of format k)) (nominal_of format k) index late is known
      (slows speeds (nominal_of format k) (cell_is names keep format k known)).is early in
      (made.3, (made.0, made.4))

  abbrev thirteen : ℕ
  thirteen = 13

  pub chosen : (k : ℕ) (below : Bool) → nat_lt k n ≡ below → List ℕ
  chosen k true known = (one k (ltb-true k n known)).0
  chosen k false known = []

  pub reaches : (k : ℕ) → k < n → (below : Bool) (known : nat_lt k n ≡ below) → Reaches k (chosen k below known)
  unfolding chosen
  reaches k less true known = (one k (ltb-true k n known)).1
  reaches k less false known = absurd (never (nat_lt k n) (lt-ltb k n less) known)
    where
      never : (b : Bool) → b ≡ true → b ≡ false → ⊥
      never b right wrong = cc

  abbrev pub stream : ℕ → List ℕ
  stream k = chosen k (nat_lt k n) refl

  abbrev pub padding : ℕ → List ℕ
  padding zero = []
  padding (suc k) = replicate (many (suc k)) 13

  abbrev pub x : List ℕ
  x = flat_map (λ k. padding k ++ stream k) (range_with_len 0 n) ++ later

  opens : (k : ℕ) → k < n → slice_index (stream k) 0 ≡ 13
  opens k known = (reaches k known (nat_lt k n) refl).1.out_of_band

  pub before : (k : ℕ) → k < n → MayStandBefore (padding k) (stream k)
  before zero known = record { each = All-nil (λ (byte : ℕ). byte ≡ 13); few = omega arith; none_in_stream = λ other. refl }
  before (suc k) known = record {
    each = λ i d below. (let size = length-replicate (many (suc k)) thirteen in get_or-replicate (many (suc k)) i thirteen d (omega (arith, below, size)));
    few = (let size = length-replicate (many (suc k)) thirteen in let most = few (suc k) in omega (arith, size, most));
    none_in_stream = λ other. absurd (other (opens (suc k) known));
  }

  abbrev pub joined : AreJoined n stream x
  joined = record { padding = padding; later = later; joined = refl; first = refl; padded = before }

  padding_size : (k : ℕ) → length (padding (k + 1)) ≡ many (k + 1)
  padding_size k = (let e : suc k ≡ k + 1 = omega arith in subst (λ (m : ℕ). length (padding m) ≡ many m) e (length-replicate (many (suc k)) thirteen))

  pub wide : IsWideDisk format image many later index late x
  wide = record {
    disk = record { stream = stream; stand = stand n stream x joined; each = λ k known. (reaches k known (nat_lt k n) refl).1.stated };
    steady = λ k known.
        let at = (reaches k known (nat_lt k n) refl).1 in
        keeps_mean (nominal_of format k) (first_mean (indexes (stream k)) (length (ring_of format image k))) (slowing (nominal_of format k) (nominal_of format k)) at.stated.periods
        (slows speeds (nominal_of format k) (cell_is names keep format k known)).keeps at.mean_is at.speed_is;
    padded = λ k known. (let next = next_after n stream x joined k in let size = padding_size k in omega (arith, next, size));
    behind = λ k last.
        let e : suc k ≡ n = omega (arith, last) in
        (rest_is n stream x joined (suc k) 0 (omega (arith, last))).0;
    bounds = λ k known. reaches k known (nat_lt k n) refl;
  }

pub disks_reach : NumbersNameTracks → TracksKeepBounds → SteadyBoundsAreSpeeds → TracksReachBounds → DisksReachBounds
disks_reach names keep speeds reach format image many later place index late is few early =
    (x names keep speeds reach format image many later place index late is few early, wide names keep speeds reach format image many later place index late is few early)

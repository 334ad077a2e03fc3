-- The cells of a ring that are written, part by part.
use Rattle.std.proofs.Common.{◌≡◌, ◌≤◌, ◌<◌, ◌+◌, ◌-◌, ◌/◌, ◌++◌, ℕ, zero, suc, Bool, true, false, List, [], ◌∷◌, All, length, map, take, drop, get_or, Option, refl, ap, sym, ◌∙◌, subst, arith, inl, inr, length-drop}
use Rattle.std.specs.List.Sorted.{IsStrictlyIncreasing}
use Rattle.std.proofs.lemmas.List.{take_all, map-append, length-map, get_or_past}
use Rattle.std.proofs.lemmas.Bool.{cases_lt}
use Rattle.flux_writer.specs.Reading.{HasOneAfter}
use Rattle.flux_base.specs.Outside.{AppendsPart}
use Rattle.kryo_stream.specs.Sequence.{spellings}
use Rattle.flux_writer.specs.Written.{cell_time, quarter, track_turns, stream_of_times, stream_of_turns}
use Rattle.std.specs.Io.KnownBytes.{Appends}
use Rattle.flux_writer.specs.inside.Writing.{many_blocks, last_blocks, times_between, IsReadyAt, IsWritten}
use Rattle.flux_writer.proofs.CellTimes.{cell_time-lt}
use Rattle.flux_writer.proofs.Progress.{IsReady-start, IsWritten-more, IsWritten-part, IsWritten-all, IsWritten-end, part_of_more, part_of_stream}
use Rattle.flux_writer.specs.lemmas.FoundOnes.{ones_from, ones_from-append, ones_of-is}
use Rattle.flux_writer.specs.lemmas.TrackParts.{cells_after}

-- the times of the transitions of cells that begin with this number
abbrev pub times_of_cells : ℕ → ℕ → List Bool → List ℕ
times_of_cells nominal number cells = map (cell_time nominal) (ones_from number cells)

module _ (ring : List Bool) (len : ℕ) (is : len ≡ length ring) (number nominal : ℕ) where
  -- a whole ring
  pub times_of_turn : times_between ring 0 len number nominal ≡ times_of_cells nominal number ring
  times_of_turn = ap (times_of_cells nominal number) (take_all (len - 0) ring (omega (arith, is)))

  -- the ring's last cells
  pub times_of_end : times_between ring (len - len / 4) len number nominal ≡ times_of_cells nominal number (cells_after ring 0)
  times_of_end = ap (λ n. times_of_cells nominal number (take (n - (n - n / 4)) (drop (n - n / 4) ring))) is
      ∙ ap (times_of_cells nominal number) (take_all (length ring - (length ring - quarter ring)) (drop (length ring - quarter ring) ring)
      (omega (arith, length-drop (length ring - quarter ring) ring)))

  -- the ring's first cells
  pub times_of_begin : times_between ring 0 (len / 4) number nominal ≡ times_of_cells nominal number (take (quarter ring) ring)
  times_of_begin = ap (λ n. times_of_cells nominal number (take n ring)) (omega (arith, is))

times_of_cells-append : (nominal number : ℕ) (xs ys : List Bool)
    → times_of_cells nominal number (xs ++ ys) ≡ times_of_cells nominal number xs ++ times_of_cells nominal (number + length xs) ys
times_of_cells-append nominal number xs ys =
    ap (map (cell_time nominal)) (ones_from-append number xs ys)
    ∙ map-append (cell_time nominal) (ones_from number xs) (ones_from (number + length xs) ys)

-- some cells of the list that is written, and then more
module _ (nominal : ℕ) (xs ys : List Bool) (number : ℕ) (at : number ≡ length xs)
    (old mid new : Option (List ℕ)) (indexes held : List ℕ) (position time : ℕ) (left : List ℕ)
    (w : IsWritten old mid [] 0 0 indexes held position time left (times_of_cells nominal 0 xs)) where
  joined : times_of_cells nominal 0 xs ++ times_of_cells nominal number ys ≡ times_of_cells nominal 0 (xs ++ ys)
  joined = ap (λ n. times_of_cells nominal 0 xs ++ times_of_cells nominal n ys) (at ∙ omega arith) ∙ sym (times_of_cells-append nominal 0 xs ys)

  pub cells_more : (times held' : List ℕ) (position' time' : ℕ) (left' : List ℕ) → times ≡ times_of_cells nominal number ys
      → IsWritten mid new held position time left held' position' time' left' times
      → IsWritten old new [] 0 0 indexes held' position' time' left' (times_of_cells nominal 0 (xs ++ ys))
  cells_more times held' position' time' left' is m =
      subst (IsWritten old new [] 0 0 indexes held' position' time' left') (ap (λ ts. times_of_cells nominal 0 xs ++ ts) is ∙ joined)
      (IsWritten-more old mid new [] 0 0 indexes held position time left (times_of_cells nominal 0 xs) w times held' position' time' left' m)

  pub cells_part : (times : List ℕ) (zs all : List Bool) → times ≡ times_of_cells nominal number ys → (xs ++ ys) ++ zs ≡ all
      → AppendsPart mid new (held ++ spellings (many_blocks position time times left))
      → AppendsPart old new (spellings (many_blocks 0 0 (times_of_cells nominal 0 all) indexes))
  cells_part times zs all is whole part =
      part_of_more old new [] 0 0 (times_of_cells nominal 0 all) (times_of_cells nominal 0 (xs ++ ys))
      (times_of_cells nominal (0 + length (xs ++ ys)) zs) indexes
      (sym (times_of_cells-append nominal 0 (xs ++ ys) zs) ∙ ap (times_of_cells nominal 0) whole)
      (subst (λ ts. AppendsPart old new (spellings (many_blocks 0 0 ts indexes))) (ap (λ ts. times_of_cells nominal 0 xs ++ ts) is ∙ joined)
      (IsWritten-part old mid new [] 0 0 indexes held position time left (times_of_cells nominal 0 xs) w times part))

-- index cells that rise are index times that rise
pub rising_times : (nominal : ℕ) (turns : List ℕ) → 1024 ≤ nominal → IsStrictlyIncreasing turns → IsStrictlyIncreasing (map (cell_time nominal) turns)
rising_times nominal turns long rising k within =
    let inside : k + 1 < length turns = omega (arith, within, length-map turns (cell_time nominal)) in
    rw (get_or-map-at (cell_time nominal) turns k (omega arith), get_or-map-at (cell_time nominal) turns (k + 1) inside)
    (cell_time-lt nominal (get_or turns k 0) (get_or turns (k + 1) 0) long (rising k inside))
  where
    get_or-map-at : (f : ℕ → ℕ) (xs : List ℕ) (i : ℕ) → i < length xs → get_or (map f xs) i 0 ≡ f (get_or xs i 0)
    get_or-map-at f [] i below = absurd (omega arith)
    get_or-map-at f (x ∷ xs) zero below = refl
    get_or-map-at f (x ∷ xs) (suc i) below = get_or-map-at f xs i (omega arith)

-- index cells with a one after them are few enough to be counted
pub are_counted : (cells : List Bool) (turns : List ℕ) → length cells ≤ 2097152 → All (HasOneAfter cells) turns
    → All (λ place. place < 4294967296) turns
are_counted cells turns few behind = λ k d below.
    let it = behind k d below in
    omega (arith, few, it.1, inside it.0 it.2)
  where
    false_true : false ≡ true → ⊥
    false_true e = cc

    inside : (one : ℕ) → get_or cells one false ≡ true → one < length cells
    inside one is = elim (cases_lt one (length cells)) [
      | inl within ↦ within
      | inr past ↦ absurd (false_true (sym (get_or_past cells one false past) ∙ is))
    ]

pub IsReadyAt-start : (nominal position time : ℕ) (left indexes : List ℕ) → position ≡ 0 → time ≡ 0 → left ≡ indexes
    → IsStrictlyIncreasing indexes → IsReadyAt nominal position time 0 left
IsReadyAt-start nominal position time left indexes position_is time_is left_is rising = record {
  ready = IsReady-start position time left indexes position_is time_is left_is rising;
  reached = omega (arith, time_is);
}

-- the stream of cells, once they are written
module _ (cells : List Bool) (turns : List ℕ) (nominal : ℕ) (long : 1024 ≤ nominal) (rising : IsStrictlyIncreasing turns)
    (old mid new : Option (List ℕ)) where
  same_stream : stream_of_times (times_of_cells nominal 0 cells) (map (cell_time nominal) turns) ≡ stream_of_turns cells turns nominal
  same_stream = ap (λ ones. stream_of_times (map (cell_time nominal) ones) (map (cell_time nominal) turns)) (sym (ones_of-is cells))

  module _ (held : List ℕ) (position time : ℕ) (left : List ℕ)
      (w : IsWritten old mid [] 0 0 (map (cell_time nominal) turns) held position time left (times_of_cells nominal 0 cells)) where
    pub cells_all : Appends mid new (held ++ spellings (last_blocks position)) → Appends old new (stream_of_turns cells turns nominal)
    cells_all all = subst (Appends old new) same_stream
        (IsWritten-all old mid new (map (cell_time nominal) turns) held position time left (times_of_cells nominal 0 cells) w
        (rising_times nominal turns long rising) all)

    pub cells_end : AppendsPart mid new (held ++ spellings (last_blocks position)) → AppendsPart old new (stream_of_turns cells turns nominal)
    cells_end part = subst (AppendsPart old new) same_stream
        (IsWritten-end old mid new (map (cell_time nominal) turns) held position time left (times_of_cells nominal 0 cells) w
        (rising_times nominal turns long rising) part)

  pub cells_fail : AppendsPart old new (spellings (many_blocks 0 0 (times_of_cells nominal 0 cells) (map (cell_time nominal) turns)))
      → AppendsPart old new (stream_of_turns cells turns nominal)
  cells_fail part = subst (AppendsPart old new) same_stream
      (part_of_stream old new (times_of_cells nominal 0 cells) (map (cell_time nominal) turns) (rising_times nominal turns long rising) part)

-- the index cells of a ring rise
pub turns_rise : (ring : List Bool) → 0 < length ring → IsStrictlyIncreasing (track_turns ring)
turns_rise ring some zero within = omega (arith, some)
turns_rise ring some (suc zero) within = omega (arith, some)
turns_rise ring some (suc (suc zero)) within = omega (arith, some)
turns_rise ring some (suc (suc (suc k))) within = absurd (omega arith)

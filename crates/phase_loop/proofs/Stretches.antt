-- One transition more in a stretch.
use Rattle.std.proofs.Common.{◌≡◌, ℕ, zero, suc, ◌+◌, ◌-◌, ◌*◌, ◌/◌, ◌<◌, ◌≤◌, max, All, Bool, List, [], ◌∷◌, ◌++◌, flat_map, length, take, drop, get_or, set, arith, refl, sym, ◌∙◌, ap, subst, Some, nat_lt, false, inl, inr, slice_index, length-append}
use Rattle.std.specs.List.Sorted.{IsNonDecreasing}
use Rattle.std.proofs.lemmas.Bool.{le-ltb, cases_lt, cond-false}
use Rattle.std.proofs.lemmas.List.{length_push, length-map, length-drop, length-take, drop_more, drop-take, drop-set-add, drop-append-le, get_or-take, get_or-drop, length-take-le, take_more_set, take-take, append-nil, append_assoc}
use Rattle.std.proofs.lemmas.List.Elements.{All-set, All-take}
use Rattle.std.proofs.lemmas.List.Concat.{flat_map-append}
use Rattle.std.proofs.lemmas.List.Sums.{sum_by-cons}
use Rattle.std.proofs.Math.Nat.{div-mul-le_self, mul-le-mul_right}
use Rattle.circular_buffer.specs.Buffer.{buffer, keep_last}
use Rattle.cell_bits.specs.State.{CellsState, room}
use Rattle.cell_bits.specs.Run.{run_cells, IsRun}
use Rattle.phase_loop.specs.Start.{IsStart, LONGEST_PERIOD, SHORTEST_PERIOD, in_band}
use Rattle.phase_loop.specs.inside.Window.{WIDEST, IsShort, IsWindow, fine_total, count_total}
use Rattle.phase_loop.specs.State.{LoopState}
use Rattle.phase_loop.specs.inside.Step.{periods_to, joined, period_from, state_after, count_after}
use Rattle.phase_loop.specs.inside.Stretch.{interval_at, intervals_with, counts_of, stand_next, standing, with_runs, AreBetween, AreGuessed, IsStretch}
use Rattle.phase_loop.specs.inside.Appended.{IsAppended}
use Rattle.phase_loop.specs.declared.start.Band.{Band}
use Rattle.phase_loop.specs.declared.start.LoopStart.{LoopStart}
use Rattle.phase_loop.specs.declared.window.Interval.{Interval}
use Rattle.phase_loop.specs.declared.window.Totals.{Totals}
use Rattle.phase_loop.specs.declared.phase.stretch.Stand.{Stand}
use Rattle.phase_loop.proofs.Windows.{bounded, given_up, window_after_full}
use Rattle.phase_loop.proofs.Times.{stepped}
use Rattle.phase_loop.proofs.Appending.{next_appended, length-run_cells}

pub length-intervals_with : (times : List ℕ) (number : ℕ) (counts : List ℕ)
    → length (intervals_with times number counts) ≡ length counts
length-intervals_with times number [] = refl
length-intervals_with times number (count ∷ counts) = omega (arith, length-intervals_with times (number + 1) counts)

pub intervals_with-push : (times : List ℕ) (number : ℕ) (counts : List ℕ) (n : ℕ)
    → intervals_with times number (counts ++ n ∷ []) ≡ intervals_with times number counts ++ interval_at times (number + length counts) n ∷ []
intervals_with-push times number [] n =
    let here : number ≡ number + 0 = omega arith in
    ap (λ (k : ℕ). interval_at times k n ∷ []) here
intervals_with-push times number (count ∷ counts) n =
    let here : number + 1 + length counts ≡ number + length (count ∷ counts) = omega arith in
    let rest : List Interval = intervals_with times (number + 1) counts in
    ap (λ (is : List Interval). interval_at times number count ∷ is) (intervals_with-push times (number + 1) counts n)
    ∙ ap (λ (k : ℕ). interval_at times number count ∷ (rest ++ interval_at times k n ∷ [])) here

-- the counts of a window that takes one more and gives up its oldest
pub record Shifted (counts later : List ℕ) (oldest n : ℕ) : Type 0 where
  pub rest : List ℕ
  pub was : counts ≡ oldest ∷ rest
  pub now : later ≡ rest ++ n ∷ []

pub shifted : (counts : List ℕ) (taken n : ℕ) → 64 + taken < length counts
    → Shifted (drop taken (take (64 + taken) counts)) (drop (taken + 1) (take (64 + (taken + 1)) (set counts (64 + taken) n))) (get_or counts taken 0) n
shifted counts taken n within =
    let so_far : List ℕ = take (64 + taken) counts in
    let many : length so_far ≡ 64 + taken = length-take-le (64 + taken) counts (omega (arith, within)) in
    let next : 64 + (taken + 1) ≡ 64 + taken + 1 = omega arith in
    record {
      rest = drop (taken + 1) so_far;
      was =
          drop_more so_far taken 0 (omega (arith, many))
          ∙ ap (λ (c : ℕ). c ∷ drop (taken + 1) so_far) (get_or-take (64 + taken) counts taken 0 (omega arith));
      now =
          ap (λ (k : ℕ). drop (taken + 1) (take k (set counts (64 + taken) n))) next
          ∙ ap (λ (l : List ℕ). drop (taken + 1) l) (take_more_set counts (64 + taken) n within)
          ∙ drop-append-le (taken + 1) so_far (n ∷ []) (omega (arith, many));
    }

-- a full window that takes the interval to transition number `next` + 1 and gives up its oldest
pub record Exchanged (times : List ℕ) (next : ℕ) (total : ℕ) (number : ℕ) (oldest n : ℕ) (rest : List ℕ) : Type 0 where
  pub window : IsWindow (buffer (intervals_with times (next + 1 - 64) (rest ++ n ∷ [])) 64) total number
  pub full : length (rest ++ n ∷ []) ≡ 64
  pub same : keep_last 64 (intervals_with times (next - 64) (oldest ∷ rest) ++ interval_at times next n ∷ []) ≡ intervals_with times (next + 1 - 64) (rest ++ n ∷ [])
  pub fine : total ≤ 64 * WIDEST
  pub least : 64 ≤ number
  pub most : number ≤ 2048

-- the window's cells, and those of the interval that goes out
pub oldest_within : (times : List ℕ) (number fine count oldest : ℕ) (rest : List ℕ)
    → IsWindow (buffer (intervals_with times number (oldest ∷ rest)) 64) fine count → oldest ≤ count
oldest_within times number fine count oldest rest window =
    omega (arith, window.count_is, sum_by-cons (λ (i : Interval). i.count) (interval_at times number oldest) (intervals_with times (number + 1) rest))

pub exchanged : (times : List ℕ) (next count : ℕ) (oldest n : ℕ) (rest : List ℕ)
    → IsNonDecreasing times → next + 1 < length times → 64 ≤ next → length (oldest ∷ rest) ≡ 64
    → IsWindow (buffer (intervals_with times (next - 64) (oldest ∷ rest)) 64) (1024 * slice_index times next - 1024 * slice_index times (next - 64)) count
    → IsShort (interval_at times next n)
    → Exchanged times next (1024 * slice_index times (next + 1) - 1024 * slice_index times (next + 1 - 64)) (count - oldest + n) oldest n rest
exchanged times next count oldest n rest rising inside enough full window short =
    let first : ℕ = next - 64 in
    let second : next + 1 - 64 ≡ first + 1 = omega (arith, enough) in
    let y : Interval = interval_at times first oldest in
    let x : Interval = interval_at times next n in
    let left : List Interval = intervals_with times (first + 1) rest in
    let now : List Interval = intervals_with times first (oldest ∷ rest) in
    let total : ℕ = 1024 * slice_index times next - 1024 * slice_index times first in
    let many : length now ≡ 64 = length-intervals_with times first (oldest ∷ rest) ∙ full in
    let long : nat_lt (length now) 64 ≡ false = le-ltb _ _ (omega (arith, many)) in
    let gone : given_up (buffer now 64) x ≡ Some y = cond-false _ _ _ long ∙ refl in
    let one : length (now ++ x ∷ []) - 64 ≡ 1 = omega (arith, length_push now x, many) in
    let last : first + 1 + length rest ≡ next = omega (arith, full, enough) in
    let pushed : left ++ x ∷ [] ≡ intervals_with times (next + 1 - 64) (rest ++ n ∷ []) =
    ap (λ (k : ℕ). left ++ interval_at times k n ∷ []) (sym last)
    ∙ sym (intervals_with-push times (first + 1) rest n)
    ∙ ap (λ (k : ℕ). intervals_with times k (rest ++ n ∷ [])) (sym second) in
    let same : keep_last 64 (now ++ x ∷ []) ≡ intervals_with times (next + 1 - 64) (rest ++ n ∷ []) =
    ap (λ (k : ℕ). drop k (now ++ x ∷ [])) one ∙ pushed in
    let a : slice_index times first ≤ slice_index times (first + 1) = rising first (first + 1) 0 (omega arith) (omega (arith, inside, enough)) in
    let b : slice_index times (first + 1) ≤ slice_index times next = rising (first + 1) next 0 (omega (arith, enough)) (omega (arith, inside)) in
    let c : slice_index times next ≤ slice_index times (next + 1) = rising next (next + 1) 0 (omega arith) inside in
    let total_is : total - y.fine + x.fine ≡ 1024 * slice_index times (next + 1) - 1024 * slice_index times (next + 1 - 64) =
    rw second (omega (arith, a, b, c)) in
    let P : List Interval → Type 0 = λ l. IsWindow (buffer l 64) (total - y.fine + x.fine) (count - oldest + n) in
    let Q : ℕ → Type 0 = λ f. IsWindow (buffer (intervals_with times (next + 1 - 64) (rest ++ n ∷ [])) 64) f (count - oldest + n) in
    let after = subst Q total_is (subst P same (window_after_full (buffer now 64) total count x y window short gone)) in
    let bounds = bounded _ _ _ after in
    let whole : length (rest ++ n ∷ []) ≡ 64 = omega (arith, length_push rest n, full) in
    record {
      window = after;
      full = whole;
      same = same;
      fine = bounds.fine;
      least = omega (arith, bounds.some, length-intervals_with times (next + 1 - 64) (rest ++ n ∷ []), whole);
      most = bounds.count;
    }

-- what becomes of the window at the next transition of a stretch
pub record Next (times : List ℕ) (next : ℕ) (stand : Stand) (counts : List ℕ) (taken n : ℕ) : Type 0 where
  pub shift : Shifted (drop taken (take (64 + taken) counts)) (drop (taken + 1) (take (64 + (taken + 1)) (set counts (64 + taken) n))) (get_or counts taken 0) n
  pub out : get_or counts taken 0 ≤ stand.count
  pub exchange : Exchanged times next (1024 * slice_index times (next + 1) - 1024 * slice_index times (next + 1 - 64)) (stand.count - get_or counts taken 0 + n) (get_or counts taken 0) n shift.rest

pub stretch_next : (times : List ℕ) (last next : ℕ) (state : LoopState) (stand : Stand) (counts : List ℕ) (taken n : ℕ) (cells now : CellsState)
    → IsNonDecreasing times → IsStretch times last next state stand (drop taken (take (64 + taken) counts)) cells now
    → next + 1 < length times → 64 + taken < length counts
    → 2 * (1024 * slice_index times (next + 1) - stand.place) < 65 * stand.period → 1 ≤ n → n ≤ 32
    → Next times next stand counts taken n
stretch_next times last next state stand counts taken n cells now rising s inside room_for near some few =
    let shift = shifted counts taken n room_for in
    let oldest : ℕ = get_or counts taken 0 in
    let P : List ℕ → Type 0 = λ l. IsStretch times last next state stand l cells now in
    let here = subst P shift.was s in
    record {
      shift = shift;
      out = oldest_within times (next - 64) _ stand.count oldest shift.rest here.window;
      exchange = exchanged times next stand.count oldest n shift.rest rising inside here.enough here.full here.window
          (record {
            fine = omega (arith, near, here.place, here.longest);
            some = some;
            most = omega (arith, few);
          });
    }

-- the next stand is what one step makes of the loop that the stand speaks for
standing_next : (times : List ℕ) (next : ℕ) (state : LoopState) (stand : Stand) (totals : Totals) (oldest n : ℕ) (rest : List ℕ)
    → Exchanged times next totals.fine totals.count oldest n rest
    → n ≡ periods_to (standing times next state stand (oldest ∷ rest)) (1024 * slice_index times (next + 1)) → n ≤ 32
    → standing times (next + 1) state (stand_next state.band stand (1024 * slice_index times (next + 1)) n totals.count (totals.fine / totals.count)) (rest ++ n ∷ [])
    ≡ state_after (standing times next state stand (oldest ∷ rest)) (1024 * slice_index times (next + 1))
standing_next times next state stand totals oldest n rest exchange count few =
    let fine : ℕ = 1024 * slice_index times (next + 1) in
    let s : LoopState = standing times next state stand (oldest ∷ rest) in
    let recent : List Interval = intervals_with times (next + 1 - 64) (rest ++ n ∷ []) in
    let mk : (period : ℕ) → List Interval → LoopState = λ period l. record {
      first = state.first;
      band = state.band;
      fine = fine;
      place = (stand.place + n * stand.period + fine) / 2;
      period = period;
      recent = l;
    } in
    let near : nat_lt 32 (periods_to s fine) ≡ false = le-ltb _ _ (omega (arith, count, few)) in
    let many : length recent ≡ 64 = length-intervals_with times (next + 1 - 64) (rest ++ n ∷ []) ∙ exchange.full in
    let long : nat_lt (length recent) 64 ≡ false = le-ltb _ _ (omega (arith, many)) in
    let mean : period_from s recent ≡ in_band state.band (totals.fine / totals.count) =
    cond-false _ _ _ long
    ∙ ap (λ (f : ℕ). in_band state.band (f / count_total recent)) (sym exchange.window.fine_is)
    ∙ ap (λ (m : ℕ). in_band state.band (totals.fine / m)) (sym exchange.window.count_is) in
    sym (
    cond-false _ _ _ near
    ∙ ap (λ (p : ℕ). joined s fine p) (sym count)
    ∙ ap (λ (l : List Interval). mk (period_from s l) l) exchange.same
    ∙ ap (λ (p : ℕ). mk p recent) mean
    )

-- n periods lead at most half a period past the time
place_within : (place period fine n : ℕ) → 1 ≤ period → period ≤ 163840 → place ≤ fine + 163840
    → n ≡ max 1 ((2 * (fine - place) + period) / (2 * period))
    → (place + n * period + fine) / 2 ≤ fine + 163840
place_within place period fine n some most ahead is =
    let q : ℕ = (2 * (fine - place) + period) / (2 * period) in
    let low : q * (2 * period) ≤ 2 * (fine - place) + period = div-mul-le_self (2 * (fine - place) + period) (2 * period) in
    elim (cases_lt q 2) [
      | inl one ↦
          let n_is : n ≡ 1 = omega (arith, is) in
          rw n_is (omega (arith, most, ahead))
      | inr more ↦
          let n_is : n ≡ q = omega (arith, is) in
          let way : n * (2 * period) ≤ 2 * (fine - place) + period = rw n_is low in
          let two : 2 * (2 * period) ≤ q * (2 * period) = mul-le-mul_right (2 * period) more in
          omega (arith, way, most, low, two)
    ]

-- the ends of a start's band
pub record IsBand (band : Band) : Type 0 where
  pub low : SHORTEST_PERIOD ≤ band.lowest
  pub rising : band.lowest ≤ band.highest
  pub high : band.highest ≤ LONGEST_PERIOD

pub start_band : (start : LoopStart) → IsStart start → IsBand start.band
start_band start is =
    let least = is.nominal.shortest in
    let most = is.nominal.longest in
    record {
      low = omega (arith, least, is.low);
      rising = omega (arith, is.from, is.to);
      high = omega (arith, most, is.high);
    }

-- one transition more
pub stretch_more : (times : List ℕ) (last next : ℕ) (state : LoopState) (stand : Stand) (totals : Totals) (oldest n : ℕ) (rest : List ℕ) (cells now longer : CellsState)
    → IsNonDecreasing times → IsBand state.band
    → IsStretch times last next state stand (oldest ∷ rest) cells now → next + 1 < length times
    → Exchanged times next totals.fine totals.count oldest n rest
    → totals.fine ≡ 1024 * slice_index times (next + 1) - 1024 * slice_index times (next + 1 - 64)
    → n ≡ max 1 ((2 * (1024 * slice_index times (next + 1) - stand.place) + stand.period) / (2 * stand.period)) → n ≤ 32
    → longer.cells ≡ now.cells ++ run_cells n → room now ≤ room longer
    → IsStretch times last (next + 1) state (stand_next state.band stand (1024 * slice_index times (next + 1)) n totals.count (totals.fine / totals.count)) (rest ++ n ∷ []) cells longer
stretch_more times last next state stand totals oldest n rest cells now longer rising band s inside exchange total_is count few longer_are room_kept =
    let time : ℕ = slice_index times (next + 1) in
    let fine : ℕ = 1024 * time in
    let before : LoopState = standing times next state stand (oldest ∷ rest) in
    let later_stand : Stand = stand_next state.band stand fine n totals.count (totals.fine / totals.count) in
    let up : slice_index times next ≤ time = rising next (next + 1) 0 (omega arith) inside in
    let later : before.fine ≤ fine = omega (arith, up) in
    let after = standing_next times next state stand totals oldest n rest exchange count (omega (arith, few)) in
    let counted : n ≡ count_after before fine = omega (arith, count, few) in
    let some : 1 ≤ n = omega (arith, count) in
    let window : IsWindow (buffer (intervals_with times (next + 1 - 64) (rest ++ n ∷ [])) 64) (1024 * time - 1024 * slice_index times (next + 1 - 64)) totals.count =
    let P : ℕ → Type 0 = λ f. IsWindow (buffer (intervals_with times (next + 1 - 64) (rest ++ n ∷ [])) 64) f totals.count in
    subst P total_is exchange.window in
    record {
      from = omega (arith, s.from);
      inside = inside;
      enough = omega (arith, s.enough);
      full = exchange.full;
      carries = λ start first appended.
          next_appended start times next time n before (standing times (next + 1) state later_stand (rest ++ n ∷ [])) first now longer
          (s.carries start first appended) inside refl
          (λ o ts holds. (stepped before _ o ts time n holds later after counted).counts)
          (λ o ts holds. (stepped before _ o ts time n holds later after counted).holds)
          some (omega (arith, few)) longer_are room_kept;
      window = window;
      place = place_within stand.place stand.period fine n (omega (arith, s.shortest)) s.longest (omega (arith, s.place, up)) count;
      shortest = omega (arith, band.low, band.rising, band.high);
      longest = omega (arith, band.low, band.rising, band.high);
      short = rw longer_are (omega (arith, length-append now.cells (run_cells n), length-run_cells n some, s.short, few));
      keeps = omega (arith, s.keeps, room_kept);
    }

-- the times of the intervals add up to the way from the first transition to the last
pub fine_total-intervals_with : (times : List ℕ) (number : ℕ) (counts : List ℕ) → IsNonDecreasing times
    → number + length counts < length times
    → fine_total (intervals_with times number counts) + 1024 * slice_index times number ≡ 1024 * slice_index times (number + length counts)
fine_total-intervals_with times number [] rising within =
    let here : number ≡ number + 0 = omega arith in
    omega (arith, ap (λ (k : ℕ). slice_index times k) here)
fine_total-intervals_with times number (count ∷ counts) rising within =
    let next : number + 1 + length counts ≡ number + length (count ∷ counts) = omega arith in
    let rest = fine_total-intervals_with times (number + 1) counts rising (omega (arith, within)) in
    let up : slice_index times number ≤ slice_index times (number + 1) = rising number (number + 1) 0 (omega arith) (omega (arith, within)) in
    omega (arith, rest, up, ap (λ (k : ℕ). slice_index times k) next, sum_by-cons (λ (i : Interval). i.fine) (interval_at times number count) (intervals_with times (number + 1) counts))

-- a stretch begins where the loop stands
pub stretch_begins : (times : List ℕ) (last : ℕ) (state : LoopState) (stand : Stand) (counts : List ℕ) (cells : CellsState)
    → IsNonDecreasing times → last < length times → state.fine ≡ 1024 * slice_index times last
    → length state.recent ≡ 64 → AreBetween times last state.recent → counts ≡ counts_of state.recent
    → stand.place ≡ state.place → stand.period ≡ state.period
    → IsWindow (buffer state.recent 64) (fine_total state.recent) stand.count
    → stand.place ≤ state.fine + 163840 → 12288 ≤ stand.period → stand.period ≤ 163840
    → length cells.cells ≤ 32 * last + 1
    → IsStretch times last last state stand counts cells cells
stretch_begins times last state stand counts cells rising inside here full between counts_are place period window ahead shortest longest short =
    let first : ℕ = last - 64 in
    let many : length counts ≡ 64 = ap length counts_are ∙ length-map state.recent (λ (i : Interval). i.count) ∙ full in
    let recent : intervals_with times first counts ≡ state.recent =
    ap (λ (l : List ℕ). intervals_with times first l) counts_are ∙ sym between.are in
    let end : first + length counts ≡ last = omega (arith, many, between.enough) in
    let total : fine_total state.recent ≡ 1024 * slice_index times last - 1024 * slice_index times first =
    omega (arith, fine_total-intervals_with times first counts rising (omega (arith, end, inside)), ap fine_total recent, ap (λ (k : ℕ). slice_index times k) end) in
    let mk : (fine place period : ℕ) → List Interval → LoopState = λ f p q l. record {
      first = state.first;
      band = state.band;
      fine = f;
      place = p;
      period = q;
      recent = l;
    } in
    let same : state ≡ standing times last state stand counts =
    ap (λ (f : ℕ). mk f state.place state.period state.recent) here
    ∙ ap (λ (p : ℕ). mk (1024 * slice_index times last) p state.period state.recent) (sym place)
    ∙ ap (λ (p : ℕ). mk (1024 * slice_index times last) stand.place p state.recent) (sym period)
    ∙ ap (λ (l : List Interval). mk (1024 * slice_index times last) stand.place stand.period l) (sym recent) in
    let P : List Interval → Type 0 = λ l. IsWindow (buffer l 64) (fine_total state.recent) stand.count in
    let Q : ℕ → Type 0 = λ f. IsWindow (buffer (intervals_with times first counts) 64) f stand.count in
    record {
      from = omega arith;
      inside = inside;
      enough = between.enough;
      full = many;
      carries = λ start before appended.
          let R : LoopState → Type 0 = λ s. IsAppended start times last s before cells in
          subst R same appended;
      window = subst Q total (subst P (sym recent) window);
      place = omega (arith, ahead, here);
      shortest = shortest;
      longest = longest;
      short = short;
      keeps = omega arith;
    }

-- an interval from one transition to the next
pub get_or-intervals_with : (times : List ℕ) (number : ℕ) (counts : List ℕ) (k : ℕ) (d : Interval) → k < length counts
    → get_or (intervals_with times number counts) k d ≡ interval_at times (number + k) (get_or counts k 0)
get_or-intervals_with times number [] k d within = absurd (omega (arith, within))
get_or-intervals_with times number (count ∷ counts) zero d within =
    let here : number ≡ number + 0 = omega arith in
    ap (λ (n : ℕ). interval_at times n count) here
get_or-intervals_with times number (count ∷ counts) (suc k) d within =
    let here : number + 1 + k ≡ number + suc k = omega arith in
    get_or-intervals_with times (number + 1) counts k d (omega (arith, within))
    ∙ ap (λ (n : ℕ). interval_at times n (get_or counts k 0)) here

-- the counts of the window are a part of all
pub window_counts : (counts : List ℕ) (taken : ℕ) → take (taken + 64 - taken) (drop taken counts) ≡ drop taken (take (64 + taken) counts)
window_counts counts taken =
    let many : taken + 64 - taken ≡ 64 = omega arith in
    let end : 64 + taken ≡ taken + 64 = omega arith in
    ap (λ (k : ℕ). take k (drop taken counts)) many
    ∙ sym (drop-take taken 64 counts)
    ∙ ap (λ (k : ℕ). drop taken (take k counts)) (sym end)

-- no cells, where it does not matter which they are
abbrev pub no_cells : CellsState
no_cells = record { cells = []; spare = 0 }

-- the same stretch with other cells that are the same list
pub stretch_with : (times : List ℕ) (last next : ℕ) (state : LoopState) (stand : Stand) (counts : List ℕ) (cells now longer : CellsState)
    → IsStretch times last next state stand counts cells now → longer.cells ≡ now.cells → room cells ≤ room longer
    → IsStretch times last next state stand counts cells longer
stretch_with times last next state stand counts cells now longer s same room_kept = record {
  from = s.from;
  inside = s.inside;
  enough = s.enough;
  full = s.full;
  carries = λ start before appended.
      let after = s.carries start before appended in
      record {
        holds = after.holds;
        cells_are = same ∙ after.cells_are;
        keeps = omega (arith, appended.keeps, room_kept);
        short = rw same after.short;
      };
  window = s.window;
  place = s.place;
  shortest = s.shortest;
  longest = s.longest;
  short = rw same s.short;
  keeps = room_kept;
}

-- one run more
pub runs_more : (cells : CellsState) (counts : List ℕ) (taken n : ℕ) → 64 + taken < length counts
    → (with_runs cells (take (taken + 1) (drop 64 (set counts (64 + taken) n)))).cells ≡ (with_runs cells (take taken (drop 64 counts))).cells ++ run_cells n
runs_more cells counts taken n within =
    let rest : List ℕ = drop 64 counts in
    let before : List Bool = flat_map run_cells (take taken rest) in
    let within' : taken < length rest = omega (arith, within, length-drop 64 counts) in
    let later : take (taken + 1) (drop 64 (set counts (64 + taken) n)) ≡ take taken rest ++ n ∷ [] =
    ap (λ (l : List ℕ). take (taken + 1) l) (drop-set-add 64 counts taken n) ∙ take_more_set rest taken n within' in
    ap (λ (l : List ℕ). cells.cells ++ flat_map run_cells l) later
    ∙ ap (λ (l : List Bool). cells.cells ++ l) (flat_map-append run_cells (take taken rest) (n ∷ []) ∙ ap (λ (l : List Bool). before ++ l) (append-nil (run_cells n)))
    ∙ sym (append_assoc cells.cells before (run_cells n))

-- a guess is a run
pub guess_short : (most : ℕ) (counts : List ℕ) (taken : ℕ) → AreGuessed most counts → taken < most → 64 + taken < length counts
    → IsRun (slice_index counts (64 + taken))
guess_short most counts taken guessed early within =
    let is : get_or (take most (drop 64 counts)) taken 0 ≡ get_or counts (64 + taken) 0 =
    get_or-take most (drop 64 counts) taken 0 early ∙ get_or-drop 64 counts taken 0 in
    subst IsRun is (guessed taken 0 (omega (arith, early, within, length-take most (drop 64 counts), length-drop 64 counts)))

take_set : (n i y : ℕ) (xs : List ℕ) → take n (set xs i y) ≡ set (take n xs) i y
take_set zero i y xs = refl
take_set (suc n) i y [] = refl
take_set (suc n) zero y (x ∷ xs) = refl
take_set (suc n) (suc i) y (x ∷ xs) = ap (λ (l : List ℕ). x ∷ l) (take_set n i y xs)

-- a count that is put right is one
pub guess_right : (most : ℕ) (counts : List ℕ) (taken n : ℕ) → AreGuessed most counts → IsRun n
    → AreGuessed most (set counts (64 + taken) n)
guess_right most counts taken n guessed short =
    let is : take most (drop 64 (set counts (64 + taken) n)) ≡ set (take most (drop 64 counts)) taken n =
    ap (λ (l : List ℕ). take most l) (drop-set-add 64 counts taken n) ∙ take_set most taken n (drop 64 counts) in
    subst (λ (l : List ℕ). All IsRun l) (sym is) (All-set IsRun (take most (drop 64 counts)) taken n short guessed)

-- those that were taken are
pub taken_short : (most : ℕ) (counts : List ℕ) (taken : ℕ) → AreGuessed most counts → taken ≤ most
    → All IsRun (take taken (drop 64 counts))
taken_short most counts taken guessed within =
    subst (λ (l : List ℕ). All IsRun l) (take-take taken most (drop 64 counts) within)
    (All-take IsRun taken (take most (drop 64 counts)) guessed)

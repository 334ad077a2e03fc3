-- The revolutions of a track, one after another.
use Rattle.std.proofs.Common.{◌≡◌, ◌<◌, ◌≤◌, ◌+◌, ◌*◌, ◌++◌, ◌==◌, ◌||◌, ◌&&◌, if◌then◌else◌, ℕ, Bool, true, false, List, [], length, take, drop, nat_le, nat_lt, Option, Some, None, refl, sym, ap, subst, ◌∙◌, inl, inr, arith, length-append, length-drop, unwrap_or}
use Rattle.std.proofs.lemmas.Bool.{cases_lt}
use Rattle.std.proofs.lemmas.Bool.Decides.{nat_tests}
use Rattle.std.proofs.lemmas.List.{drop-drop, length-map, length-take}
use Rattle.std.proofs.lemmas.List.FromFn.{length-range_with_len}
use Rattle.std.specs.List.{range_with_len}
use Rattle.flux_base.specs.lemmas.Finding.{find-first, find-none}
use Rattle.scp_files.specs.Captures.{CaptureState, Holds, HoldsStill}
use Rattle.scp_files.specs.Laws.{GoesOn}
use Rattle.scp_files.specs.Tracks.{MOST_ENTRIES, durations_of, entries_at, entries_before, is_over, is_some, revolution_at, revolution_fault, stops_at, values_of, whole_count}
use Rattle.scp_files.specs.declared.fault.ScpTrackFault.{ScpTrackFault}
use Rattle.scp_files.specs.declared.fault.ScpTrackFault.TheVariants.{ShortData, TooLong}
use Rattle.scp_tracks.specs.Tracks.{HoldsFirst}
use Rattle.scp_tracks.specs.inside.Places.{ReadsAt}
use Rattle.scp_tracks.specs.inside.Walk.{HasWalked, ReadsRevolutions}
use Rattle.scp_tracks.proofs.Fronts.{length-words}

or_true : (b : Bool) → (b || true) ≡ true
or_true true = refl
or_true false = refl

not-zero : (n : ℕ) → 0 < n → (n == 0) ≡ false
not-zero n some = grind (arith, nat_tests, some)

-- nothing was read yet
pub walk-start : (revolutions : ℕ) (track : List ℕ) (capture : CaptureState) → Holds [] [] capture → HasWalked revolutions track 0 capture
walk-start revolutions track capture begun = record {
  holds = begun;
  entries = begun.entries;
  goes = λ r below. absurd (omega (arith, below));
}

module _ (R : ℕ) (track : List ℕ) (k : ℕ) (capture : CaptureState) (walked : HasWalked R track k capture) where
  -- the reading ends at the next revolution
  whole-at : k < R → stops_at R track k ≡ true → whole_count R track ≡ k
  whole-at below stops =
      let same : 0 + k ≡ k = omega arith in
      ap (λ o. unwrap_or o R)
      (find-first (stops_at R track) 0 k R below (λ r above under. walked.goes r (omega (arith, under))) (ap (stops_at R track) same ∙ stops)) ∙ same

  ended : (fault : Option ScpTrackFault) → whole_count R track ≡ k
      → (if is_over R track k then None else revolution_fault track k) ≡ fault → ReadsRevolutions R track capture fault
  ended fault whole is = (
    sym (ap (λ n. if is_over R track n then None else revolution_fault track n) whole ∙ is),
    subst (λ n. HoldsFirst track n capture) (sym whole) walked.holds,
  )

  -- it has no entries
  pub ends-over : k < R → (revolution_at track k).entries ≡ 0 → ReadsRevolutions R track capture None
  ends-over below none =
      let over : is_over R track k ≡ true = ap (λ n. nat_le R k || (n == 0)) none ∙ or_true (nat_le R k) in
      ended None (whole-at below (ap (λ b. b || is_some (revolution_fault track k)) over))
      (ap (λ b. if b then None else revolution_fault track k) over)

  not-over : k < R → 0 < (revolution_at track k).entries → is_over R track k ≡ false
  not-over below some =
      let more : nat_le R k ≡ false = grind (arith, nat_tests, below) in
      ap (λ b. b || ((revolution_at track k).entries == 0)) more ∙ not-zero (revolution_at track k).entries some

  -- it has a fault
  ends-fault : (fault : ScpTrackFault) → k < R → 0 < (revolution_at track k).entries → revolution_fault track k ≡ Some fault
      → ReadsRevolutions R track capture (Some fault)
  ends-fault fault below some is =
      let over = not-over below some in
      ended (Some fault)
      (whole-at below (ap (λ b. b || is_some (revolution_fault track k)) over ∙ ap is_some is))
      (ap (λ b. if b then None else revolution_fault track k) over ∙ is)

  abbrev short_or : Bool → Option ScpTrackFault
  short_or short = if short then Some (ShortData k) else None

  -- the entries so far, with those of the next one
  module _ (goes_on : GoesOn track k) where
    pub ends-long : k < R → 0 < (revolution_at track k).entries → MOST_ENTRIES < capture.entries + (revolution_at track k).entries
        → ReadsRevolutions R track capture (Some TooLong)
    ends-long below some many =
        let long : nat_lt MOST_ENTRIES (entries_before track (k + 1)) ≡ true = grind (arith, nat_tests, many, walked.entries, goes_on.entries) in
        ends-fault TooLong below some
        (ap (λ b. if b then Some TooLong else short_or (nat_lt (length track) ((revolution_at track k).offset + 2 * (revolution_at track k).entries))) long)

    fits : capture.entries + (revolution_at track k).entries ≤ MOST_ENTRIES
        → revolution_fault track k ≡ short_or (nat_lt (length track) ((revolution_at track k).offset + 2 * (revolution_at track k).entries))
    fits few =
        let short : nat_lt MOST_ENTRIES (entries_before track (k + 1)) ≡ false = grind (arith, nat_tests, few, walked.entries, goes_on.entries) in
        ap (λ b. if b then Some TooLong else short_or (nat_lt (length track) ((revolution_at track k).offset + 2 * (revolution_at track k).entries))) short

    pub ends-short : k < R → 0 < (revolution_at track k).entries → capture.entries + (revolution_at track k).entries ≤ MOST_ENTRIES
        → length (drop (revolution_at track k).offset track) < 2 * (revolution_at track k).entries → ReadsRevolutions R track capture (Some (ShortData k))
    ends-short below some few less =
        let size = length-drop (revolution_at track k).offset track in
        let cut : nat_lt (length track) ((revolution_at track k).offset + 2 * (revolution_at track k).entries) ≡ true = grind (arith, nat_tests, less, size) in
        ends-fault (ShortData k) below some (fits few ∙ ap short_or cut)

    -- it is whole
    pub walk-on : (new : CaptureState) → k < R → 0 < (revolution_at track k).entries
        → capture.entries + (revolution_at track k).entries ≤ MOST_ENTRIES
        → ReadsAt (drop (revolution_at track k).offset track) (revolution_at track k) capture new true → HasWalked R track (k + 1) new
    walk-on new below some few reads =
        let it = revolution_at track k in
        let size = length-drop it.offset track in
        let whole : nat_lt (length track) (it.offset + 2 * it.entries) ≡ false = grind (arith, nat_tests, reads.0, size, some) in
        let passes : stops_at R track k ≡ false =
        ap (λ b. b || is_some (revolution_fault track k)) (not-over below some) ∙ ap is_some (fits few ∙ ap short_or whole) in
        let held = reads.1 (values_of track k) (durations_of track k) walked.holds in
        let taken : length (take (2 * it.entries) (drop it.offset track)) ≡ 2 * it.entries =
        (let cut = length-take (2 * it.entries) (drop it.offset track) in omega (arith, cut, reads.0)) in
        let entries = length-words it.entries (take (2 * it.entries) (drop it.offset track)) taken in
        let joined = length-append (values_of track k) (entries_at track it) in
        record {
          holds = subst (λ values. Holds values (durations_of track (k + 1)) new) (sym goes_on.values)
              (subst (λ durations. Holds (values_of track k ++ entries_at track it) durations new) (sym goes_on.durations) held);
          entries = omega (arith, held.entries, joined, entries, walked.holds.entries, walked.entries, goes_on.entries);
          goes = λ r under. elim (cases_lt r k) [
            | inl before ↦ walked.goes r before
            | inr here ↦ let same : k ≡ r = omega (arith, here, under) in sym (ap (stops_at R track) same) ∙ passes
          ];
        }

-- no revolution is left
pub ends-all : (R : ℕ) (track : List ℕ) (capture : CaptureState) → HasWalked R track R capture → ReadsRevolutions R track capture None
ends-all R track capture walked =
    let whole : whole_count R track ≡ R =
    ap (λ o. unwrap_or o R) (find-none (stops_at R track) 0 R (λ r above under. walked.goes r (omega (arith, under)))) in
    let over : is_over R track R ≡ true =
    (let last : nat_le R R ≡ true = grind (arith, nat_tests) in ap (λ b. b || ((revolution_at track R).entries == 0)) last) in (
      sym (ap (λ n. if is_over R track n then None else revolution_fault track n) whole ∙ ap (λ b. if b then None else revolution_fault track R) over),
      subst (λ n. HoldsFirst track n capture) (sym whole) walked.holds,
    )

-- a place behind a place
pub behind : (file : List ℕ) (offset place : ℕ) → drop (offset + place) file ≡ drop place (drop offset file)
behind file offset place = sym (drop-drop place offset file)

and_left : (a b : Bool) → (a && b) ≡ false → b ≡ true → a ≡ false
and_left true true is holds = is
and_left true false is holds = absurd (cc)
and_left false b is holds = refl

and_both : (a b : Bool) → (a && b) ≡ true → a ≡ true
and_both true b is = refl
and_both false b is = is

-- there is no room for the entries of a revolution, or there is
pub too-many : (entries number : ℕ) → (nat_le entries MOST_ENTRIES && nat_lt number 255) ≡ false → number < 255 → MOST_ENTRIES < entries
too-many entries number full below =
    let early : nat_lt number 255 ≡ true = grind (arith, nat_tests, below) in
    let long = and_left (nat_le entries MOST_ENTRIES) (nat_lt number 255) full early in grind (arith, nat_tests, long)

pub few-enough : (entries number : ℕ) → (nat_le entries MOST_ENTRIES && nat_lt number 255) ≡ true → entries ≤ MOST_ENTRIES
few-enough entries number room =
    let few = and_both (nat_le entries MOST_ENTRIES) (nat_lt number 255) room in grind (arith, nat_tests, few)

-- as many revolutions were read as were passed
pub read-so-many : (R : ℕ) (track : List ℕ) (k : ℕ) (capture : CaptureState) → HasWalked R track k capture → capture.revolutions ≡ k
read-so-many R track k capture walked =
    walked.holds.revolutions ∙ length-map (range_with_len 0 k) (λ r. (revolution_at track r).duration) ∙ length-range_with_len 0 k

-- a capture that holds what one held has come as far
pub still : (R : ℕ) (track : List ℕ) (k : ℕ) (old new : CaptureState) → HasWalked R track k old → HoldsStill old new → HasWalked R track k new
still R track k old new walked keeps =
    let held = keeps (values_of track k) (durations_of track k) walked.holds in record {
      holds = held;
      entries = held.entries ∙ sym walked.holds.entries ∙ walked.entries;
      goes = walked.goes;
    }

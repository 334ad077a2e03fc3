-- The revolutions of a track, one after another.
use Rattle.std.proofs.Common.{◌≡◌, ◌<◌, ◌≤◌, ◌⊎◌, ◌+◌, ◌-◌, ◌*◌, ◌==◌, ◌||◌, if◌then◌else◌, ℕ, Bool, true, false, List, length, take, drop, nat_le, nat_lt, Option, Some, None, refl, sym, ap, ◌∙◌, inl, inr, arith, length-drop, unwrap_or, not, slice_index}
use Rattle.std.proofs.lemmas.Bool.{cases_lt}
use Rattle.std.proofs.lemmas.Bool.Decides.{nat_tests}
use Rattle.std.specs.Str.{bytes_eq}
use Rattle.flux_base.specs.lemmas.Finding.{find-first, find-none}
use Rattle.scp_files.specs.Laws.{GoesOn}
use Rattle.scp_files.specs.Tracks.{MOST_ENTRIES, TRACK_SIGNATURE, end_fault, entries_before, fault_by, head_fault, head_size, is_over, is_some, revolution_at, revolution_fault, stops_at, track_fault, whole_count}
use Rattle.scp_files.specs.declared.fault.ScpTrackFault.{ScpTrackFault}
use Rattle.scp_files.specs.declared.fault.ScpTrackFault.TheVariants.{BadNumber, BadSignature, ShortData, ShortTrack, TooLong}
use Rattle.scp_notes.specs.Files.{some_whole, whole_before}
use Rattle.scp_notes.specs.inside.Walk.{HasPassed}

or_true : (b : Bool) → (b || true) ≡ true
or_true true = refl
or_true false = refl

not-zero : (n : ℕ) → 0 < n → (n == 0) ≡ false
not-zero n some = grind (arith, nat_tests, some)

pub none_some : {X : Type 0} {x : X} → None ≡ Some x → ⊥
none_some same = cc

pub some_same : {a b : List ℕ} → Some a ≡ Some b → a ≡ b
some_same same = cc

-- none was passed yet
pub pass-none : (R : ℕ) (track : List ℕ) → HasPassed R track 0 0
pass-none R track = record { entries_are = refl; few = omega arith; goes = λ r below. absurd (omega (arith, below)) }

module _ (R : ℕ) (track : List ℕ) (k entries : ℕ) (passed : HasPassed R track k entries) where
  -- the reading ends at the next revolution
  whole-at : k < R → stops_at R track k ≡ true → whole_count R track ≡ k
  whole-at below stops =
      let same : 0 + k ≡ k = omega arith in
      ap (λ o. unwrap_or o R)
      (find-first (stops_at R track) 0 k R below (λ r above under. passed.goes r (omega (arith, under))) (ap (stops_at R track) same ∙ stops)) ∙ same

  ended : (fault : Option ScpTrackFault) → whole_count R track ≡ k
      → (if is_over R track k then None else revolution_fault track k) ≡ fault → end_fault R track ≡ fault
  ended fault whole is = ap (λ n. if is_over R track n then None else revolution_fault track n) whole ∙ is

  -- it has no entries
  ends-over : k < R → (revolution_at track k).entries ≡ 0 → end_fault R track ≡ None
  ends-over below none =
      let over : is_over R track k ≡ true = ap (λ n. nat_le R k || (n == 0)) none ∙ or_true (nat_le R k) in
      ended None (whole-at below (ap (λ b. b || is_some (revolution_fault track k)) over))
      (ap (λ b. if b then None else revolution_fault track k) over)

  not-over : k < R → 0 < (revolution_at track k).entries → is_over R track k ≡ false
  not-over below some =
      let more : nat_le R k ≡ false = grind (arith, nat_tests, below) in
      ap (λ b. b || ((revolution_at track k).entries == 0)) more ∙ not-zero (revolution_at track k).entries some

  -- it has a fault
  ends-fault : (fault : ScpTrackFault) → k < R → 0 < (revolution_at track k).entries → revolution_fault track k ≡ Some fault
      → end_fault R track ≡ Some fault
  ends-fault fault below some is =
      let over = not-over below some in
      ended (Some fault)
      (whole-at below (ap (λ b. b || is_some (revolution_fault track k)) over ∙ ap is_some is))
      (ap (λ b. if b then None else revolution_fault track k) over ∙ is)

  abbrev short_or : Bool → Option ScpTrackFault
  short_or short = if short then Some (ShortData k) else None

  -- the entries so far, with those of the next one
  module _ (goes_on : GoesOn track k) where
    ends-long : k < R → 0 < (revolution_at track k).entries → MOST_ENTRIES < entries + (revolution_at track k).entries
        → end_fault R track ≡ Some TooLong
    ends-long below some many =
        let long : nat_lt MOST_ENTRIES (entries_before track (k + 1)) ≡ true = grind (arith, nat_tests, many, passed.entries_are, goes_on.entries) in
        ends-fault TooLong below some
        (ap (λ b. if b then Some TooLong else short_or (nat_lt (length track) ((revolution_at track k).offset + 2 * (revolution_at track k).entries))) long)

    -- nothing is told of the track where it is over, or is too long
    pub ends-untold : (e : ℕ) → e ≡ (revolution_at track k).entries → k < R → (e ≡ 0) ⊎ (MOST_ENTRIES < entries + e)
        → None ≡ whole_before (end_fault R track)
    ends-untold e is below (inl none) = sym (ap whole_before (ends-over below (sym is ∙ none)))
    ends-untold e is below (inr many) = elim (cases_lt 0 e) [
      | inl some ↦ sym (ap whole_before (ends-long below (omega (arith, some, is)) (omega (arith, many, is))))
      | inr zero ↦ sym (ap whole_before (ends-over below (omega (arith, zero, is))))
    ]

    fits : entries + (revolution_at track k).entries ≤ MOST_ENTRIES
        → revolution_fault track k ≡ short_or (nat_lt (length track) ((revolution_at track k).offset + 2 * (revolution_at track k).entries))
    fits few =
        let short : nat_lt MOST_ENTRIES (entries_before track (k + 1)) ≡ false = grind (arith, nat_tests, few, passed.entries_are, goes_on.entries) in
        ap (λ b. if b then Some TooLong else short_or (nat_lt (length track) ((revolution_at track k).offset + 2 * (revolution_at track k).entries))) short

    -- the file ends inside it
    pub ends-short : k < R → 0 < (revolution_at track k).entries → entries + (revolution_at track k).entries ≤ MOST_ENTRIES
        → length track < (revolution_at track k).offset + 2 * (revolution_at track k).entries → some_whole k ≡ whole_before (end_fault R track)
    ends-short below some few less =
        let cut : nat_lt (length track) ((revolution_at track k).offset + 2 * (revolution_at track k).entries) ≡ true = grind (arith, nat_tests, less) in
        sym (ap whole_before (ends-fault (ShortData k) below some (fits few ∙ ap short_or cut)))

    -- it is whole
    pub pass-on : k < R → 0 < (revolution_at track k).entries → entries + (revolution_at track k).entries ≤ MOST_ENTRIES
        → (revolution_at track k).offset + 2 * (revolution_at track k).entries ≤ length track
        → HasPassed R track (k + 1) (entries + (revolution_at track k).entries)
    pass-on below some few full =
        let whole : nat_lt (length track) ((revolution_at track k).offset + 2 * (revolution_at track k).entries) ≡ false = grind (arith, nat_tests, full) in
        let passes : stops_at R track k ≡ false =
        ap (λ b. b || is_some (revolution_fault track k)) (not-over below some) ∙ ap is_some (fits few ∙ ap short_or whole) in
        record {
          entries_are = omega (arith, passed.entries_are, goes_on.entries);
          few = few;
          goes = λ r under. elim (cases_lt r k) [
            | inl before ↦ passed.goes r before
            | inr here ↦ let same : k ≡ r = omega (arith, here, under) in sym (ap (stops_at R track) same) ∙ passes
          ];
        }

-- no revolution is left
pub ends-all : (R : ℕ) (track : List ℕ) (entries : ℕ) → HasPassed R track R entries → None ≡ whole_before (end_fault R track)
ends-all R track entries passed =
    let whole : whole_count R track ≡ R =
    ap (λ o. unwrap_or o R) (find-none (stops_at R track) 0 R (λ r above under. passed.goes r (omega (arith, under)))) in
    let over : is_over R track R ≡ true =
    (let last : nat_le R R ≡ true = grind (arith, nat_tests) in ap (λ b. b || ((revolution_at track R).entries == 0)) last) in
    sym (ap whole_before (ap (λ n. if is_over R track n then None else revolution_fault track n) whole ∙ ap (λ b. if b then None else revolution_fault track R) over))

-- the bytes behind a place of the file, by those of the track
pub reaches : (file : List ℕ) (offset place entries at : ℕ) → 0 < entries → at + 1 ≡ offset + place + 2 * entries → 0 < length (drop at file)
    → place + 2 * entries ≤ length (drop offset file)
reaches file offset place entries at some is more = omega (arith, some, is, more, length-drop at file, length-drop offset file)

pub falls-short : (file : List ℕ) (offset place entries at : ℕ) → 0 < entries → at + 1 ≡ offset + place + 2 * entries → length (drop at file) ≤ 0
    → length (drop offset file) < place + 2 * entries
falls-short file offset place entries at some is none = omega (arith, some, is, none, length-drop at file, length-drop offset file)

-- a header's fault is never that the file ends inside a revolution
untold-by : (short marked numbered : Bool) (number : ℕ) → None ≡ whole_before
    (if short then Some ShortTrack else if marked then Some BadSignature else if numbered then Some (BadNumber number) else None)
untold-by true marked numbered number = refl
untold-by false true numbered number = refl
untold-by false false true number = refl
untold-by false false false number = refl

untold : (R number : ℕ) (track : List ℕ) → None ≡ whole_before (head_fault R number track)
unfolding head_fault
untold R number track =
    untold-by (nat_lt (length track) (head_size R)) (not (bytes_eq (take 3 track) TRACK_SIGNATURE)) (not (slice_index track 3 == number)) (slice_index track 3)

pub head-untold : (R number : ℕ) (track : List ℕ) (fault : ScpTrackFault) → head_fault R number track ≡ Some fault
    → None ≡ whole_before (track_fault R number track)
head-untold R number track fault is =
    untold R number track ∙ ap whole_before is ∙ sym (ap (λ h. whole_before (fault_by h (end_fault R track))) is)

-- a header without a fault is whole
pub sized : (R number : ℕ) (head : List ℕ) → head_fault R number head ≡ None → head_size R ≤ length head
unfolding head_fault
sized R number head is = elim (cases_lt (length head) (head_size R)) [
  | inl less ↦ let short : nat_lt (length head) (head_size R) ≡ true = grind (arith, nat_tests, less) in
      absurd (none_some (sym is ∙ ap (λ b. if b then Some ShortTrack
      else (if not (bytes_eq (take 3 head) TRACK_SIGNATURE) then Some BadSignature
      else if not (slice_index head 3 == number) then Some (BadNumber (slice_index head 3)) else None)) short))
  | inr full ↦ full
]

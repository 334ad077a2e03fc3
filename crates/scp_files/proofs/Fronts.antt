-- The begin of a file and that of a track.
use Rattle.std.proofs.Common.{◌≡◌, ◌≤◌, ◌<◌, ◌+◌, ◌*◌, ◌++◌, ◌==◌, ◌&&◌, ◌||◌, ℕ, zero, suc, not, Bool, true, false, List, [], ◌∷◌, length, map, sum_by, flat_map, take, drop, get_or, slice_index, nat_le, nat_lt, if◌then◌else◌, Option, Some, None, refl, ap, sym, ◌∙◌, arith, append-nil, inl, inr}
use Rattle.std.specs.List.{list_all, range_with_len}
use Rattle.std.specs.Str.{bytes_eq}
use Rattle.std.proofs.lemmas.Bool.{cases_lt}
use Rattle.std.proofs.lemmas.Bool.Decides.{nat_tests}
use Rattle.std.proofs.lemmas.List.{get_or-drop, get_or-take, length-take-le, map-append, take_all}
use Rattle.std.proofs.lemmas.List.Concat.{flat_map-append}
use Rattle.std.proofs.lemmas.List.Sums.{sum_by-append, sum_by-cons}
use Rattle.byteorder.specs.Endian.{little_number}
use Rattle.scp_files.specs.Files.{FILE_SIGNATURE, entry_at, entry_end, file_fault, has_bit, is_there, track_offset, wanted_sum}
use Rattle.scp_files.specs.Laws.{FileBeginTells, GoesOn, HeadTells}
use Rattle.scp_files.specs.Tracks.{TRACK_SIGNATURE, entries_at, head_fault, head_size, revolution_at}
use Rattle.scp_files.specs.declared.fault.ScpFault.{ScpFault}
use Rattle.scp_files.specs.declared.fault.ScpFault.TheVariants.{ShortHeader, BadSignature, NotFloppy, BadWidth}
use Rattle.scp_files.specs.declared.fault.ScpTrackFault.{ScpTrackFault}
use Rattle.scp_files.specs.declared.fault.ScpTrackFault.TheVariants.{ShortTrack, BadNumber}
use Rattle.scp_files.specs.declared.fault.ScpTrackFault.TheVariants.{BadSignature as TrackSignature}
use Rattle.scp_files.proofs.Lists.{range-more}

-- four bytes that lie at the front
number_at : (n : ℕ) (xs : List ℕ) (i : ℕ) → i + 4 ≤ n → little_number 4 (drop i (take n xs)) ≡ little_number 4 (drop i xs)
number_at n xs i inside =
    let at : (k : ℕ) → k < 4 → get_or (drop i (take n xs)) k 0 ≡ get_or (drop i xs) k 0 = λ k below.
    get_or-drop i (take n xs) k 0 ∙ get_or-take n xs (i + k) 0 (omega (arith, inside, below)) ∙ sym (get_or-drop i xs k 0) in
    omega (arith, at 0 (omega arith), at 1 (omega arith), at 2 (omega arith), at 3 (omega arith))

all-same : (p q : ℕ → Bool) (a n : ℕ) → ((k : ℕ) → k < a + n → p k ≡ q k) → list_all p (range_with_len a n) ≡ list_all q (range_with_len a n)
all-same p q a zero same = refl
all-same p q a (suc n) same =
    ap (λ b. b && list_all p (range_with_len (a + 1) n)) (same a (omega arith))
    ∙ ap (λ b. q a && b) (all-same p q (a + 1) n (λ k below. same k (omega (arith, below))))

-- the front of a longer front
take_front : (m n : ℕ) (xs : List ℕ) → m ≤ n → take m (take n xs) ≡ take m xs
take_front zero n xs few = refl
take_front (suc m) zero xs few = absurd (omega (arith, few))
take_front (suc m) (suc n) [] few = refl
take_front (suc m) (suc n) (x ∷ xs) few = ap (λ l. x ∷ l) (take_front m n xs (omega (arith, few)))

-- a file that is longer than its begin
module _ (xs : List ℕ) (long : 688 ≤ length xs) where
  size : length (take 688 xs) ≡ 688
  size = length-take-le 688 xs long

  byte : (i : ℕ) → i < 688 → slice_index (take 688 xs) i ≡ slice_index xs i
  byte i inside = get_or-take 688 xs i 0 inside

  entry : (k : ℕ) → k < 168 → entry_at (take 688 xs) k ≡ entry_at xs k
  entry k few = number_at 688 xs (16 + 4 * k) (omega (arith, few))

  abbrev fits : List ℕ → ℕ → Bool
  fits file number = nat_le (entry_end number) (length file)

  abbrev lies_before : List ℕ → ℕ → ℕ → Bool
  lies_before file number before = entry_at file before == 0 || nat_le (entry_end number) (entry_at file before)

  there : (number : ℕ) (small : Bool) → nat_lt number 168 ≡ small → is_there (take 688 xs) number ≡ is_there xs number
  there number false test =
      ap (λ b. (b && fits (take 688 xs) number) && list_all (lies_before (take 688 xs) number) (range_with_len 0 number)) test
      ∙ sym (ap (λ b. (b && fits xs number) && list_all (lies_before xs number) (range_with_len 0 number)) test)
  there number true test =
      let few : number < 168 = grind (arith, nat_tests, test) in
      let within : fits (take 688 xs) number ≡ true = (let s = size in grind (arith, nat_tests, few, s)) in
      let inside : fits xs number ≡ true = grind (arith, nat_tests, few, long) in
      ap (λ b. (nat_lt number 168 && b) && list_all (lies_before (take 688 xs) number) (range_with_len 0 number)) within
      ∙ ap (λ b. (nat_lt number 168 && true) && b) (all-same (lies_before (take 688 xs) number) (lies_before xs number) 0 number
      (λ k below. ap (λ e. e == 0 || nat_le (entry_end number) e) (entry k (omega (arith, below, few)))))
      ∙ sym (ap (λ b. (nat_lt number 168 && b) && list_all (lies_before xs number) (range_with_len 0 number)) inside)

  track : (number : ℕ) (small : Bool) → nat_lt number 168 ≡ small → track_offset (take 688 xs) number ≡ track_offset xs number
  unfolding track_offset
  track number true test =
      let few : number < 168 = grind (arith, nat_tests, test) in
      ap (λ b. if b && not (entry_at (take 688 xs) number == 0) then Some (entry_at (take 688 xs) number) else None) (there number true test)
      ∙ ap (λ e. if is_there xs number && not (e == 0) then Some e else None) (entry number few)
  track number false test =
      let none : is_there xs number ≡ false =
      ap (λ b. (b && fits xs number) && list_all (lies_before xs number) (range_with_len 0 number)) test in
      ap (λ b. if b && not (entry_at (take 688 xs) number == 0) then Some (entry_at (take 688 xs) number) else None) (there number false test ∙ none)
      ∙ sym (ap (λ b. if b && not (entry_at xs number == 0) then Some (entry_at xs number) else None) none)

  abbrev faulty : (short : Bool) → (name : List ℕ) → (flags width size : ℕ) → Option ScpFault
  faulty short name flags width size =
      if short then Some (ShortHeader size)
      else if not (bytes_eq name FILE_SIGNATURE) then Some BadSignature
      else if has_bit flags 64 then Some NotFloppy
      else if not (width == 0 || width == 16) then Some (BadWidth width)
      else None

  fault : file_fault (take 688 xs) ≡ file_fault xs
  unfolding file_fault
  fault =
      let short : nat_lt (length (take 688 xs)) 16 ≡ false = (let s = size in grind (arith, nat_tests, s)) in
      let whole : nat_lt (length xs) 16 ≡ false = grind (arith, nat_tests, long) in
      ap (λ b. faulty b (take 3 (take 688 xs)) (slice_index (take 688 xs) 8) (slice_index (take 688 xs) 9) (length (take 688 xs))) short
      ∙ ap (λ n. faulty false n (slice_index (take 688 xs) 8) (slice_index (take 688 xs) 9) 0) (take_front 3 688 xs (omega arith))
      ∙ ap (λ f. faulty false (take 3 xs) f (slice_index (take 688 xs) 9) 0) (byte 8 (omega arith))
      ∙ ap (λ w. faulty false (take 3 xs) (slice_index xs 8) w 0) (byte 9 (omega arith))
      ∙ sym (ap (λ b. faulty b (take 3 xs) (slice_index xs 8) (slice_index xs 9) (length xs)) whole)

  sum_is : wanted_sum (take 688 xs) ≡ wanted_sum xs
  unfolding wanted_sum
  sum_is =
      ap (λ f. if has_bit f 16 || little_number 4 (drop 12 (take 688 xs)) == 0 then None else Some (little_number 4 (drop 12 (take 688 xs)))) (byte 8 (omega arith))
      ∙ ap (λ n. if has_bit (slice_index xs 8) 16 || n == 0 then None else Some n) (number_at 688 xs 12 (omega arith))

  tells : FileBeginTells xs
  tells = record {
    fault = fault;
    revolutions = byte 5 (omega arith);
    resolution = byte 11 (omega arith);
    tracks = λ number. track number (nat_lt number 168) refl;
    sum = sum_is;
  }

pub file_begin_tells : (xs : List ℕ) → FileBeginTells xs
file_begin_tells xs = elim (cases_lt (length xs) 688) [
  | inl short ↦ (let same : take 688 xs ≡ xs = take_all 688 xs (omega (arith, short)) in
      record {
        fault = ap file_fault same;
        revolutions = ap (λ l. slice_index l 5) same;
        resolution = ap (λ l. slice_index l 11) same;
        tracks = λ number. ap (λ l. track_offset l number) same;
        sum = ap wanted_sum same;
      })
  | inr long ↦ tells xs long
]

module _ (revolutions : ℕ) (xs : List ℕ) where
  abbrev head : List ℕ
  head = take (head_size revolutions) xs

  abbrev unfit : (short : Bool) → (name : List ℕ) → (said number : ℕ) → Option ScpTrackFault
  unfit short name said number =
      if short then Some ShortTrack
      else if not (bytes_eq name TRACK_SIGNATURE) then Some TrackSignature
      else if not (said == number) then Some (BadNumber said)
      else None

  head_whole : head_size revolutions ≤ length xs → (number : ℕ) → head_fault revolutions number head ≡ head_fault revolutions number xs
  unfolding head_fault
  head_whole long number =
      let size : length head ≡ head_size revolutions = length-take-le (head_size revolutions) xs long in
      let short : nat_lt (length head) (head_size revolutions) ≡ false = grind (arith, nat_tests, size) in
      let whole : nat_lt (length xs) (head_size revolutions) ≡ false = grind (arith, nat_tests, long) in
      let name : take 3 head ≡ take 3 xs = take_front 3 (head_size revolutions) xs (omega arith) in
      let at : slice_index head 3 ≡ slice_index xs 3 = get_or-take (head_size revolutions) xs 3 0 (omega arith) in
      ap (λ b. unfit b (take 3 head) (slice_index head 3) number) short
      ∙ ap (λ n. unfit false n (slice_index head 3) number) name
      ∙ ap (λ n. unfit false (take 3 xs) n number) at
      ∙ sym (ap (λ b. unfit b (take 3 xs) (slice_index xs 3) number) whole)

  pub head_tells : HeadTells revolutions xs
  head_tells = record {
    fault = λ number. elim (cases_lt (length xs) (head_size revolutions)) [
      | inl short ↦ ap (head_fault revolutions number) (take_all (head_size revolutions) xs (omega (arith, short)))
      | inr long ↦ head_whole long number
    ];
    revolution = λ r few.
        ap (λ d. record { duration = d; entries = little_number 4 (drop (head_size r + 4) head); offset = little_number 4 (drop (head_size r + 8) head) })
        (number_at (head_size revolutions) xs (head_size r) (omega (arith, few)))
        ∙ ap (λ e. record { duration = little_number 4 (drop (head_size r) xs); entries = e; offset = little_number 4 (drop (head_size r + 8) head) })
        (number_at (head_size revolutions) xs (head_size r + 4) (omega (arith, few)))
        ∙ ap (λ o. record { duration = little_number 4 (drop (head_size r) xs); entries = little_number 4 (drop (head_size r + 4) xs); offset = o })
        (number_at (head_size revolutions) xs (head_size r + 8) (omega (arith, few)));
  }

pub goes_on : (xs : List ℕ) (n : ℕ) → GoesOn xs n
goes_on xs n =
    let more = range-more n in
    record {
      values = ap (flat_map (λ r. entries_at xs (revolution_at xs r))) more
          ∙ flat_map-append (λ r. entries_at xs (revolution_at xs r)) (range_with_len 0 n) (n ∷ [])
          ∙ ap (λ l. flat_map (λ r. entries_at xs (revolution_at xs r)) (range_with_len 0 n) ++ l) (append-nil (entries_at xs (revolution_at xs n)));
      durations = ap (map (λ r. (revolution_at xs r).duration)) more
          ∙ map-append (λ r. (revolution_at xs r).duration) (range_with_len 0 n) (n ∷ []);
      entries = ap (sum_by (λ r. (revolution_at xs r).entries)) more
          ∙ omega (
            arith,
            sum_by-append (λ r. (revolution_at xs r).entries) (range_with_len 0 n) (n ∷ []),
            sum_by-cons (λ r. (revolution_at xs r).entries) n [],
          );
    }

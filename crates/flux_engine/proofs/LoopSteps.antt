-- The steps of the loop over a disk's tracks, wherever the streams come from.
use Rattle.std.specs.Prelude.{◌≡◌, ◌≤◌, ◌<◌, ℕ, zero, suc, ◌+◌, ◌*◌, Bool, true, false, List, [], ◌∷◌, ◌++◌, cond, get_or, is_some, length, sum_by, take, Option, None, Some, Ok, Err, refl}
use Rattle.std.specs.Io.KnownBytes.{Appends}
use Rattle.std.proofs.Common.{ap, sym, subst, ◌∙◌, add-one, arith, inl, inr, append_assoc, append-nil, length-append}
use Rattle.std.proofs.KnownBytes.{Appends-nil, Appends-trans}
use Rattle.std.proofs.Math.Nat.{add-mul, mul_comm, one-mul, zero-mul}
use Rattle.std.proofs.Math.Seq.{get_or-append_seam}
use Rattle.std.proofs.lemmas.Bool.{cases_lt}
use Rattle.std.proofs.lemmas.List.{get_or_append_left, length-map, length-take, length_push, take_all}
use Rattle.std.proofs.lemmas.List.Sums.{count_by-le-length, sum_by-append}
use Rattle.std.proofs.lemmas.Nat.{mul-add-lt}
use Rattle.sector_images.specs.Places.{tracks}
use Rattle.sector_images.specs.declared.format.Format.{Format}
use Rattle.sector_report.specs.declared.dump_lines.Passed.{Passed}
use Rattle.sector_report.specs.declared.totals.Totals.{Totals}
use Rattle.turn_merge.specs.Book.{StandsFor}
use Rattle.turn_merge.specs.Others.{MOST_TOLD, NotedOther, OthersKnown, OthersStandFor, first_ones, has_data, has_untold, others_over, told_of}
use Rattle.turn_merge.specs.declared.others.OtherTold.{OtherTold}
use Rattle.turn_merge.specs.Readings.{NotedReading}
use Rattle.flux_engine.specs.Captured.{AreOthersOf, AreReadingsOf}
use Rattle.flux_engine.specs.Counts.{AreCountsBelow, AreOthersOver, CountsTrack, counted, lost_in, names_of, told_count, whole_count, whole_names_of}
use Rattle.flux_engine.specs.Disks.{images, lines, no_totals, totals_over}
use Rattle.flux_engine.specs.LoopProgress.{AreWhole, EndedBySink, EndedInTrack, HasGathered, HasTakenNext, HasWritten, lost_count, passed_count, seen_at, streams_over}
use Rattle.flux_engine.specs.PlanAnswers.{of_part, of_stream}
use Rattle.flux_engine.specs.Plans.{AreCaptures, AreOthersTo, ArePlannedParts, PartOf, Seen, Streams, is_failed, joined, passed_one, passed_to}
use Rattle.flux_engine.specs.Recordings.{track_at}
use Rattle.flux_engine.specs.Room.{RoomState, fresh}
use Rattle.flux_engine.specs.TrackParts.{WritesPart}
use Rattle.flux_engine.specs.Tracks.{TrackPart, track_notes}
use Rattle.flux_engine.specs.Writing.{sum_of}
use Rattle.kryo_stream.specs.declared.fault.CaptureFault.{CaptureFault}
use Rattle.flux_engine.specs.declared.gathered_track.PassedStream.{PassedStream}
use Rattle.flux_engine.specs.declared.plan.Plan.{Plan}
use Rattle.flux_engine.specs.declared.track_part.PartFault.{PartFault}
use Rattle.flux_engine.specs.lemmas.Cuts.{front-cut}
use Rattle.flux_engine.specs.lemmas.PartLaws.{images-more, lines-more, totals-more}
use Rattle.flux_engine.proofs.PlanParts.{IsCapture, captures-more, joined-more, parts-more}

no_seen : Seen
no_seen = record { fault = None; passed = None; times = []; indexes = [] }

-- the streams that came stay where more come
pub seen-left : (xs ys : List Seen) (i : ℕ) → i < length xs → seen_at (xs ++ ys) i ≡ seen_at xs i
unfolding no_seen
seen-left xs ys i below = get_or_append_left xs ys no_seen i below

pub seen-last : (xs : List Seen) (x : Seen) → seen_at (xs ++ x ∷ []) (length xs) ≡ x
unfolding no_seen
seen-last xs x = get_or-append_seam xs x [] no_seen

whole-more : (xs : List Seen) (x : Seen) → AreWhole xs → x.fault ≡ None → AreWhole (xs ++ x ∷ [])
whole-more xs x whole here = λ (i : ℕ) below.
    elim (cases_lt i (length xs)) [
      | inl before ↦ subst (λ (s : Seen). s.fault ≡ None) (sym (seen-left xs (x ∷ []) i before)) (whole i before)
      | inr least ↦
          let last : length xs ≡ i = omega (arith, below, least, length_push xs x) in
          let is : x ≡ seen_at (xs ++ x ∷ []) i = sym (seen-last xs x) ∙ ap (seen_at (xs ++ x ∷ [])) last in
          subst (λ (s : Seen). s.fault ≡ None) is here
    ]

-- how many of more streams are passed over
count-more : (xs ys : List Seen) → passed_count (xs ++ ys) ≡ passed_count xs + passed_count ys
count-more xs ys = sum_by-append (λ (s : Seen). cond (is_some s.passed) 1 0) xs ys

-- so do those whose files failed
lost-more : (xs ys : List Seen) → lost_count (xs ++ ys) ≡ lost_count xs + lost_count ys
lost-more xs ys = sum_by-append (λ (s : Seen). cond (is_failed s.passed) 1 0) xs ys

lost-append : (ps qs : List PassedStream) → lost_in (ps ++ qs) ≡ lost_in ps + lost_in qs
lost-append ps qs = sum_by-append (λ (p : PassedStream). cond (is_failed (Some p.why)) 1 0) ps qs

one-lost : (q : ℕ) (here : Seen) → lost_in (passed_one q here.passed) ≡ lost_count (here ∷ [])
one-lost q here = by here.passed
  where
    by : (passed : Option Passed) → lost_in (passed_one q passed) ≡ 0 + cond (is_failed passed) 1 0
    by None = refl
    by (Some why) = refl

one-passed : (q : ℕ) (here : Seen) → length (passed_one q here.passed) ≡ passed_count (here ∷ [])
one-passed q here = by here.passed
  where
    by : (passed : Option Passed) → length (passed_one q passed) ≡ 0 + cond (is_some passed) 1 0
    by None = refl
    by (Some why) = refl

-- streams that agree on the first captures of a track
module _ (plan : Plan) (format : Format) (one other : Streams) (n most : ℕ) (same : (q : ℕ) → q < most → one n q ≡ other n q) where
  captures-agree : (captures : List (List NotedReading)) → length captures ≤ most → AreCaptures plan format one n captures → AreCaptures plan format other n captures
  captures-agree captures few each = λ (q : ℕ) low.
      subst (λ (s : Seen). AreReadingsOf plan.rule plan.clocks format (track_at format n) s.times s.indexes q (get_or captures q [])) (same q (omega (arith, low, few))) (each q low)

  passed-agree : (q : ℕ) → q ≤ most → passed_to one n q ≡ passed_to other n q
  passed-agree zero few = refl
  passed-agree (suc q) few =
      ap (λ (ps : List PassedStream). ps ++ passed_one q (one n q).passed) (passed-agree q (omega (arith, few)))
      ∙ ap (λ (s : Seen). passed_to other n q ++ passed_one q s.passed) (same q (omega (arith, few)))

  others-agree : (q : ℕ) → q ≤ most → (others : List NotedOther) → AreOthersTo plan format one n q others → AreOthersTo plan format other n q others
  others-agree zero few others none = none
  others-agree (suc q) few others (before, now, earlier, here, is) = (
    before,
    now,
    others-agree q (omega (arith, few)) before earlier,
    subst (λ (s : Seen). AreOthersOf plan.rule plan.clocks format (track_at format n) s.times s.indexes q now) (same q (omega (arith, few))) here,
    is,
  )

-- what the first tracks come to hangs on their own streams alone
pub parts-agree : (plan : Plan) (of : PartOf) (format : Format) (one other : Streams) (parts : List TrackPart)
    → ((n q : ℕ) → n < length parts → q < plan.captures → one n q ≡ other n q) → ArePlannedParts plan of format one parts → ArePlannedParts plan of format other parts
parts-agree plan of format one other parts same are = λ (n : ℕ) low.
    let p = are n low in
    record {
      no_fault = λ q few. subst (λ (s : Seen). s.fault ≡ None) (same n q low few) (p.no_fault q few);
      captures = p.captures;
      many = p.many;
      each = captures-agree plan format one other n plan.captures (λ q few. same n q low few) p.captures (omega (arith, p.many)) p.each;
      others = p.others;
      others_are = others-agree plan format one other n plan.captures (λ q few. same n q low few) plan.captures (omega arith) p.others p.others_are;
      is = p.is ∙ ap (λ (ps : List PassedStream). of format (track_at format n) (track_notes (joined p.captures) ps p.others))
          (passed-agree plan format one other n plan.captures (λ q few. same n q low few) plan.captures (omega arith));
    }

-- the number of a capture of one of the first tracks
pub number-below : (plan : Plan) (n q many : ℕ) → n < many → q < plan.captures → n * plan.captures + q < many * plan.captures
number-below plan n q many low few =
    let all : many * plan.captures ≡ plan.captures * many = mul_comm many plan.captures in
    let below = mul-add-lt n plan.captures q many low few in
    omega (arith, below, all)

pub parts-longer : (plan : Plan) (of : PartOf) (format : Format) (streams more : List Seen) (parts : List TrackPart) → length parts * plan.captures ≤ length streams
    → ArePlannedParts plan of format (streams_over plan streams) parts → ArePlannedParts plan of format (streams_over plan (streams ++ more)) parts
parts-longer plan of format streams more parts all are =
    parts-agree plan of format (streams_over plan streams) (streams_over plan (streams ++ more)) parts
    (λ n q low few. let below = number-below plan n q (length parts) low few in sym (seen-left streams more (n * plan.captures + q) (omega (arith, below, all)))) are

-- a track that was started has no capture yet
pub gathered_none : (plan : Plan) (format : Format) (n : ℕ) (Came : List ℕ → Bool → List Seen → Type 0) (before : List Seen) (room : RoomState)
    → Came room.held room.used before → AreWhole before → StandsFor room.book [] → room.passed ≡ [] → OthersStandFor room.others [] → HasGathered plan format n Came before room 0
gathered_none plan format n Came before room came whole empty none no_others = record {
  more = [];
  many_more = refl;
  came = subst (Came room.held room.used) (sym (append-nil before)) came;
  whole = subst AreWhole (sym (append-nil before)) whole;
  captures = [];
  many = refl;
  each = λ q low. absurd (omega (arith, low));
  stands = empty;
  passed_are = none;
  passed_many = ap (λ (ps : List PassedStream). length ps) none;
  lost_many = ap lost_in none;
  others = [];
  others_are = refl;
  others_stand = no_others;
}

module _ (plan : Plan) (format : Format) (n : ℕ) (Came Came' : List ℕ → Bool → List Seen → Type 0) (before : List Seen) (all : length before ≡ n * plan.captures)
    (room room' : RoomState) (q : ℕ) (h : HasGathered plan format n Came before room q) where
  -- how many came
  pub came-size : length (before ++ h.more) ≡ n * plan.captures + q
  came-size = length-append before h.more ∙ ap (λ (k : ℕ). k + length h.more) all ∙ ap (λ (k : ℕ). n * plan.captures + k) h.many_more

  -- one capture more
  pub gathered_more : HasTakenNext Came' plan.rule plan.clocks format (track_at format n) q (before ++ h.more) room room' → HasGathered plan format n Came' before room' (q + 1)
  gathered_more t =
      let came : List Seen = before ++ h.more in
      let longer : List Seen = came ++ t.here ∷ [] in
      let joint : longer ≡ before ++ (h.more ++ t.here ∷ []) = append_assoc before h.more (t.here ∷ []) in
      let here : streams_over plan longer n q ≡ t.here = ap (seen_at longer) (sym came-size) ∙ seen-last came t.here in
      let same : (k : ℕ) → k < q → streams_over plan came n k ≡ streams_over plan longer n k =
      λ k low. sym (seen-left came (t.here ∷ []) (n * plan.captures + k) (omega (arith, low, came-size))) in
      let earlier = captures-agree plan format (streams_over plan came) (streams_over plan longer) n q same h.captures (omega (arith, h.many)) h.each in
      let now : IsCapture plan format (streams_over plan longer) n q t.readings =
      subst (λ (s : Seen). AreReadingsOf plan.rule plan.clocks format (track_at format n) s.times s.indexes q t.readings) (sym here) t.are in
      let others_now = subst (λ (s : Seen). AreOthersOf plan.rule plan.clocks format (track_at format n) s.times s.indexes q t.others) (sym here) t.others_are in
      let passed : room'.passed ≡ passed_to (streams_over plan longer) n (q + 1) =
      t.passed_are
      ∙ ap (λ (ps : List PassedStream). ps ++ passed_one q t.here.passed)
      (h.passed_are ∙ passed-agree plan format (streams_over plan came) (streams_over plan longer) n q same q (omega arith))
      ∙ ap (λ (s : Seen). passed_to (streams_over plan longer) n q ++ passed_one q s.passed) (sym here)
      ∙ ap (passed_to (streams_over plan longer) n) (sym (add-one q)) in
      record {
        more = h.more ++ t.here ∷ [];
        many_more = length_push h.more t.here ∙ ap (λ (k : ℕ). k + 1) h.many_more;
        came = subst (Came' room'.held room'.used) joint t.came;
        whole = subst AreWhole joint (whole-more came t.here h.whole t.whole);
        captures = h.captures ++ t.readings ∷ [];
        many = length_push h.captures t.readings ∙ ap (λ (k : ℕ). k + 1) h.many;
        each = subst (λ (xs : List Seen). AreCaptures plan format (streams_over plan xs) n (h.captures ++ t.readings ∷ [])) joint
            (captures-more plan format (streams_over plan longer) n h.captures q t.readings h.many earlier now);
        stands = subst (StandsFor room'.book) (sym (joined-more h.captures t.readings)) (t.noted (joined h.captures) h.stands);
        passed_are = subst (λ (xs : List Seen). room'.passed ≡ passed_to (streams_over plan xs) n (q + 1)) joint passed;
        lost_many = ap lost_in t.passed_are ∙ lost-append room.passed (passed_one q t.here.passed)
            ∙ ap (λ (k : ℕ). k + lost_in (passed_one q t.here.passed)) h.lost_many ∙ ap (λ (k : ℕ). lost_count h.more + k) (one-lost q t.here) ∙ sym (lost-more h.more (t.here ∷ []));
        passed_many = ap (λ (ps : List PassedStream). length ps) t.passed_are ∙ length-append room.passed (passed_one q t.here.passed)
            ∙ ap (λ (k : ℕ). k + length (passed_one q t.here.passed)) h.passed_many ∙ ap (λ (k : ℕ). passed_count h.more + k) (one-passed q t.here) ∙ sym (count-more h.more (t.here ∷ []));
        others = h.others ++ t.others;
        others_are = subst (λ (xs : List Seen). AreOthersTo plan format (streams_over plan xs) n (q + 1) (h.others ++ t.others)) joint
            (subst (λ (k : ℕ). AreOthersTo plan format (streams_over plan longer) n k (h.others ++ t.others)) (sym (add-one q))
            (h.others, t.others, others-agree plan format (streams_over plan came) (streams_over plan longer) n q same q (omega arith) h.others h.others_are, others_now, refl));
        others_stand = t.others_noted h.others h.others_stand;
      }

  -- or the disk ends there
  pub ended_here : (Ended : List Seen → CaptureFault → Type 0) (cause : CaptureFault) → q < plan.captures → Ended (before ++ h.more) cause
      → EndedInTrack plan n Ended before (of_stream n q cause)
  ended_here Ended cause few ended = record {
    capture = q;
    few = few;
    more = h.more;
    many_more = h.many_more;
    whole = h.whole;
    cause = cause;
    ended = ended;
    is = refl;
  }

-- what was gathered of the track is counted
pub gathered_counted : (plan : Plan) (format : Format) (n : ℕ) (Came : List ℕ → Bool → List Seen → Type 0) (before : List Seen) (room room' : RoomState) (q : ℕ)
    → room' ≡ counted room → HasGathered plan format n Came before room q → HasGathered plan format n Came before room' q
gathered_counted plan format n Came before room room' q is h =
    subst (λ (r : RoomState). HasGathered plan format n Came before r q) (sym is) (record {
      more = h.more;
      many_more = h.many_more;
      came = h.came;
      whole = h.whole;
      captures = h.captures;
      many = h.many;
      each = h.each;
      stands = h.stands;
      passed_are = h.passed_are;
      passed_many = h.passed_many;
      lost_many = h.lost_many;
      others = h.others;
      others_are = h.others_are;
      others_stand = h.others_stand;
    })

-- by a room that had the counts of another
pub counts_track : (old room room' : RoomState) → room.unread ≡ old.unread → room.lost ≡ old.lost → room.told_others ≡ old.told_others → room.whole_others ≡ old.whole_others
    → room' ≡ counted room → CountsTrack old room'
counts_track old room room' unread lost told whole is =
    subst (λ (r : RoomState). CountsTrack old r) (sym is) (record {
      unread = ap (λ (k : ℕ). k + length room.passed) unread;
      lost = ap (λ (k : ℕ). k + lost_in room.passed) lost;
      told = ap (λ (k : ℕ). k + names_of (take MOST_TOLD room.others.told) room.others.untold) told;
      whole = ap (λ (k : ℕ). k + whole_names_of (take MOST_TOLD room.others.told) room.others.untold) whole;
    })

-- the counts grow by at most so much a track
pub counts_start : (room : RoomState) (format : Format) → room ≡ fresh format → AreCountsBelow room 0
counts_start room format is = subst (λ (r : RoomState). AreCountsBelow r 0) (sym is) (record { unread = omega arith; lost = omega arith; told = omega arith; whole = omega arith })

pub counts_below : (old new : RoomState) (n : ℕ) → CountsTrack old new → length new.passed ≤ 16 → AreCountsBelow old n → AreCountsBelow new (n + 1)
counts_below old new n counts few below =
    let first : List OtherTold = take MOST_TOLD new.others.told in
    let size = length-take MOST_TOLD new.others.told in
    let part = count_by-le-length has_data first in
    let one = one_at_most new.others.untold in
    record {
      unread = omega (arith, counts.unread, few, below.unread);
      lost = (let most = count_by-le-length (λ (p : PassedStream). is_failed (Some p.why)) new.passed in omega (arith, counts.lost, most, few, below.lost));
      told = omega (arith, counts.told, size, one, below.told);
      whole = omega (arith, counts.whole, part, size, one, below.whole);
    }
  where
    one_at_most : (untold : Bool) → cond untold 1 0 ≤ 1
    one_at_most true = omega arith
    one_at_most false = omega arith

-- no more names are told than so many
few_told : (others : List NotedOther) → length (others_over others) ≤ MOST_TOLD
unfolding others_over
few_told others =
    let firsts : List NotedOther = take MOST_TOLD (first_ones others) in
    let size = length-map firsts (told_of others) in
    let least = length-take MOST_TOLD (first_ones others) in
    omega (arith, size, least)

pub told_all : (known : OthersKnown) (others : List NotedOther) → OthersStandFor known others → take MOST_TOLD known.told ≡ others_over others
told_all known others stands = ap (take MOST_TOLD) stands.told ∙ take_all MOST_TOLD (others_over others) (few_told others)

-- the other headers of one track more
others-more : (plan : Plan) (format : Format) (streams : Streams) (tracks : List (List NotedOther)) (n : ℕ) (one : List NotedOther) → length tracks ≡ n
    → AreOthersOver plan format streams tracks → AreOthersTo plan format streams n plan.captures one → AreOthersOver plan format streams (tracks ++ one ∷ [])
others-more plan format streams tracks n one many are last = λ (k : ℕ) below.
    elim (cases_lt k (length tracks)) [
      | inl before ↦ subst (λ (xs : List NotedOther). AreOthersTo plan format streams k plan.captures xs) (sym (get_or_append_left tracks (one ∷ []) [] k before)) (are k before)
      | inr least ↦
          let here : length tracks ≡ k = omega (arith, below, least, length_push tracks one) in
          let is : one ≡ get_or (tracks ++ one ∷ []) k [] = sym (get_or-append_seam tracks one [] []) ∙ ap (λ (i : ℕ). get_or (tracks ++ one ∷ []) i []) here in
          subst (λ (xs : List NotedOther). AreOthersTo plan format streams k plan.captures xs) is
          (subst (λ (i : ℕ). AreOthersTo plan format streams i plan.captures one) (sym many ∙ here) last)
    ]

others-longer : (plan : Plan) (format : Format) (streams more : List Seen) (tracks : List (List NotedOther)) → length tracks * plan.captures ≤ length streams
    → AreOthersOver plan format (streams_over plan streams) tracks → AreOthersOver plan format (streams_over plan (streams ++ more)) tracks
others-longer plan format streams more tracks all are = λ (n : ℕ) low.
    others-agree plan format (streams_over plan streams) (streams_over plan (streams ++ more)) n plan.captures
    (λ q few. let below = number-below plan n q (length tracks) low few in sym (seen-left streams more (n * plan.captures + q) (omega (arith, below, all))))
    plan.captures (omega arith) (get_or tracks n []) (are n low)

sum-more : (f : List NotedOther → ℕ) (tracks : List (List NotedOther)) (one : List NotedOther) → sum_by f (tracks ++ one ∷ []) ≡ sum_by f tracks + f one
sum-more f tracks one =
    let single : 0 + f one ≡ f one = omega arith in
    sum_by-append f tracks (one ∷ []) ∙ ap (λ (k : ℕ). sum_by f tracks + k) single

pub written_start : (plan : Plan) (of : PartOf) (format : Format) (Came : List ℕ → Bool → List Seen → Type 0) (image notes : Option (List ℕ)) (room : RoomState) (totals : Totals)
    → room ≡ fresh format → totals ≡ no_totals → Came [] false [] → HasWritten plan of format Came image image notes notes room 0 totals
written_start plan of format Came image notes room totals is none came = record {
  streams = [];
  all = sym (zero-mul plan.captures);
  came = subst (λ (r : RoomState). Came r.held r.used []) (sym is) came;
  whole = λ i below. absurd (omega (arith, below));
  parts = [];
  many = refl;
  each = λ k low. absurd (omega (arith, low));
  image_grew = Appends-nil image;
  notes_grew = Appends-nil notes;
  totals_are = none;
  format_is = ap (λ (r : RoomState). r.format) is;
  unread_is = ap (λ (r : RoomState). r.unread) is;
  others = [];
  many_others = refl;
  others_are = λ k low. absurd (omega (arith, low));
  lost_is = ap (λ (r : RoomState). r.lost) is;
  told_is = ap (λ (r : RoomState). r.told_others) is;
  whole_is = ap (λ (r : RoomState). r.whole_others) is;
  sound = ap (λ (r : RoomState). r.failed) is;
}

module _ (plan : Plan) (of : PartOf) (format : Format) (Came Came' : List ℕ → Bool → List Seen → Type 0) (image imid image' notes nmid notes' : Option (List ℕ)) (room room' : RoomState) (n : ℕ)
    (totals : Totals) (h : HasWritten plan of format Came image imid notes nmid room n totals) (c : HasGathered plan format n Came' h.streams room' plan.captures) where
  abbrev pub part : TrackPart
  part = of format (track_at format n) (track_notes (joined c.captures) room'.passed c.others)

  all_streams : length (h.streams ++ c.more) ≡ n * plan.captures + plan.captures
  all_streams = came-size plan format n Came' Came' h.streams h.all room' room' plan.captures c

  more : ArePlannedParts plan of format (streams_over plan (h.streams ++ c.more)) (h.parts ++ part ∷ [])
  more =
      parts-more plan of format (streams_over plan (h.streams ++ c.more)) h.parts n part h.many
      (parts-longer plan of format h.streams c.more h.parts (omega (arith, ap (λ (k : ℕ). k * plan.captures) h.many, h.all)) h.each)
      (record {
        no_fault = λ q few. c.whole (n * plan.captures + q) (omega (arith, few, all_streams));
        captures = c.captures;
        many = c.many;
        each = c.each;
        others = c.others;
        others_are = c.others_are;
        is = ap (λ (ps : List PassedStream). of format (track_at format n) (track_notes (joined c.captures) ps c.others)) c.passed_are;
      })

  pub written_more : (more_totals totals' : Totals) → room'.format ≡ room.format → CountsTrack room room' → room'.failed ≡ false → WritesPart part imid image' nmid notes' (Ok more_totals)
      → totals' ≡ sum_of totals more_totals → HasWritten plan of format Came' image image' notes notes' room' (n + 1) totals'
  written_more more_totals totals' same counts sound wrote sum = record {
    streams = h.streams ++ c.more;
    all = all_streams ∙ sym (add-mul n 1 plan.captures ∙ ap (λ (k : ℕ). n * plan.captures + k) (one-mul plan.captures));
    came = c.came;
    whole = c.whole;
    parts = h.parts ++ part ∷ [];
    many = length_push h.parts part ∙ ap (λ (k : ℕ). k + 1) h.many;
    each = more;
    image_grew = subst (Appends image image') (sym (images-more h.parts part)) (Appends-trans image imid image' (images h.parts) part.image h.image_grew wrote.0);
    notes_grew = subst (Appends notes notes') (sym (lines-more h.parts part)) (Appends-trans notes nmid notes' (lines h.parts) part.lines h.notes_grew wrote.1);
    totals_are = sum ∙ ap (λ (t : Totals). sum_of t more_totals) h.totals_are ∙ ap (sum_of (totals_over h.parts)) wrote.2 ∙ sym (totals-more h.parts part);
    format_is = same ∙ h.format_is;
    unread_is = counts.unread ∙ ap (λ (k : ℕ). k + length room'.passed) h.unread_is ∙ ap (λ (k : ℕ). passed_count h.streams + k) c.passed_many ∙ sym (count-more h.streams c.more);
    lost_is = counts.lost ∙ ap (λ (k : ℕ). k + lost_in room'.passed) h.lost_is ∙ ap (λ (k : ℕ). lost_count h.streams + k) c.lost_many ∙ sym (lost-more h.streams c.more);
    others = h.others ++ c.others ∷ [];
    many_others = length_push h.others c.others ∙ ap (λ (k : ℕ). k + 1) h.many_others;
    others_are = others-more plan format (streams_over plan (h.streams ++ c.more)) h.others n c.others h.many_others
        (others-longer plan format h.streams c.more h.others (omega (arith, ap (λ (k : ℕ). k * plan.captures) h.many_others, h.all)) h.others_are) c.others_are;
    told_is = counts.told ∙ ap (λ (k : ℕ). k + names_of (take MOST_TOLD room'.others.told) room'.others.untold) h.told_is
        ∙ ap (λ (ts : List OtherTold). told_count h.others + names_of ts room'.others.untold) (told_all room'.others c.others c.others_stand)
        ∙ ap (λ (b : Bool). told_count h.others + names_of (others_over c.others) b) c.others_stand.untold
        ∙ sym (sum-more (λ (others : List NotedOther). names_of (others_over others) (has_untold others)) h.others c.others);
    whole_is = counts.whole ∙ ap (λ (k : ℕ). k + whole_names_of (take MOST_TOLD room'.others.told) room'.others.untold) h.whole_is
        ∙ ap (λ (ts : List OtherTold). whole_count h.others + whole_names_of ts room'.others.untold) (told_all room'.others c.others c.others_stand)
        ∙ ap (λ (b : Bool). whole_count h.others + whole_names_of (others_over c.others) b) c.others_stand.untold
        ∙ sym (sum-more (λ (others : List NotedOther). whole_names_of (others_over others) (has_untold others)) h.others c.others);
    sound = sound;
  }

  -- a sink failed as the track was written
  pub ended_by_sink : (fault : PartFault) → n < length (tracks format) → WritesPart part imid image' nmid notes' (Err fault)
      → EndedBySink plan of format Came' image image' notes notes' room' (of_part fault)
  ended_by_sink fault low wrote = record {
    streams = h.streams ++ c.more;
    parts = h.parts;
    next = part;
    low = omega (arith, low, h.many);
    all = all_streams ∙ ap (λ (k : ℕ). k * plan.captures + plan.captures) (sym h.many);
    came = c.came;
    whole = c.whole;
    each = more;
    cause = fault;
    wrote = front-cut h.parts part image imid image' notes nmid notes' h.image_grew h.notes_grew fault wrote;
    is = refl;
  }

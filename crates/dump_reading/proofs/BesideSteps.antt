-- Looking at the tracks beside a format's, dump by dump and track by track.
use Rattle.std.specs.Prelude.{◌≡◌, ℕ, zero, suc, ◌+◌, ◌-◌, ◌*◌, ◌<◌, ◌≤◌, ◌⊎◌, Bool, true, false, cond, List, [], ◌∷◌, ◌++◌, length, take, get_or, flat_map, sum_by, Option, Some, None, refl}
use Rattle.std.specs.Io.KnownBytes.{Appends}
use Rattle.std.specs.List.{range_with_len}
use Rattle.std.proofs.Common.{ap, sym, subst, ◌∙◌, arith, inl, inr, length-append, append_assoc, append-nil}
use Rattle.std.proofs.KnownBytes.{Appends-nil, Appends-trans}
use Rattle.std.proofs.Math.Nat.{mul-le-mul_right, suc-mul}
use Rattle.std.proofs.Math.Seq.{get_or-append_seam}
use Rattle.std.proofs.lemmas.Bool.{cases_lt}
use Rattle.std.proofs.lemmas.List.{get_or_append_left, get_or-append-add, length-map, length-take, length_push, take_all}
use Rattle.std.proofs.lemmas.List.Concat.{flat_map-append}
use Rattle.std.proofs.lemmas.List.Sums.{sum_by-append}
use Rattle.flux_base.specs.Moments.{Moment, Puts}
use Rattle.flux_base.specs.Outside.{AppendsPart}
use Rattle.flux_base.specs.declared.track.TrackId.{TrackId}
use Rattle.sector_images.specs.declared.format.Format.{Format}
use Rattle.sector_report.specs.declared.dump_lines.Passed.{Passed}
use Rattle.sector_report.specs.declared.dump_lines.Passed.TheVariants.{Absent, Failed as FailedFile, Refused, RefusedScp}
use Rattle.sector_report.specs.declared.totals.Totals.{Totals}
use Rattle.turn_merge.specs.Others.{MOST_TOLD, NotedOther, OthersKnown, OthersStandFor, first_ones, has_untold, others_over, told_of}
use Rattle.turn_merge.specs.declared.others.OtherTold.{OtherTold}
use Rattle.flux_engine.specs.Answers.{AppendsAndPart}
use Rattle.flux_engine.specs.Captured.{AreNamesOf}
use Rattle.flux_engine.specs.Counts.{AreCountsBelow, KeepsCounts, counted, lost_in, names_of, told_count, whole_count, whole_names_of}
use Rattle.flux_engine.specs.LoopProgress.{lost_count, seen_at}
use Rattle.flux_engine.specs.Names.{HasTakenNames, passed_beside}
use Rattle.flux_engine.specs.Plans.{AreNamesTo, Seen, is_failed}
use Rattle.flux_engine.specs.Room.{RoomState}
use Rattle.flux_engine.specs.declared.gathered_track.PassedStream.{PassedStream}
use Rattle.flux_engine.specs.declared.plan.Plan.{Plan}
use Rattle.flux_engine.specs.lemmas.Pieces.{range-more}
use Rattle.dump_reading.specs.Beside.{LinesOf, beside_at, beside_to, beside_tracks, captures_at, lines_at, lines_to, is_track, looks_beside, most_cylinders, near_track, of_beside, told_beside}
use Rattle.dump_reading.specs.DumpStreams.{DumpTracks, GaveOf, HaveComeOf}
use Rattle.dump_reading.specs.Files.{ShelfNow}
use Rattle.dump_reading.specs.inside.Looks.{CountsMore, HasLooked, HasTakenTo, LooksAsAsked, LooksAtOne, LooksInto}
use Rattle.dump_reading.specs.Outcomes.{DumpDisk, LookedBeside, lines_of, plan_of}
use Rattle.dump_reading.specs.lemmas.Coming.{came-gave, flat-same, none_came}
use Rattle.dump_reading.proofs.TrackNumbers.{beside-all, beside_before}

abbrev no_seen : Seen
no_seen = record { fault = None; passed = None; times = []; indexes = [] }

seen-last : (xs : List Seen) (x : Seen) → seen_at (xs ++ x ∷ []) (length xs) ≡ x
seen-last [] x = refl
seen-last (y ∷ ys) x = seen-last ys x

-- the same streams have the same names, and the same of them are passed over
names-agree : (plan : Plan) (format : Format) (near : TrackId) (a b : ℕ → Seen) (q : ℕ) → ((i : ℕ) → i < q → a i ≡ b i) → (others : List NotedOther)
    → AreNamesTo plan format near a q others → AreNamesTo plan format near b q others
names-agree plan format near a b zero same others are = are
names-agree plan format near a b (suc q) same others (before, now, first, here, is) = (
  before,
  now,
  names-agree plan format near a b q (λ i low. same i (omega (arith, low))) before first,
  subst (λ (s : Seen). AreNamesOf plan.clocks format near s.times s.indexes q now) (same q (omega arith)) here,
  is,
)

passed-agree : (a b : ℕ → Seen) (q : ℕ) → ((i : ℕ) → i < q → a i ≡ b i) → beside_to a q ≡ beside_to b q
passed-agree a b zero same = refl
passed-agree a b (suc q) same =
    ap (λ (ps : List PassedStream). ps ++ passed_beside q (a q).passed) (passed-agree a b q (λ i low. same i (omega (arith, low))))
    ∙ ap (λ (s : Seen). beside_to b q ++ passed_beside q s.passed) (same q (omega arith))

-- how many lines one of them has, and whether its file failed
one-told : (q : ℕ) (p : Option Passed) → length (passed_beside q p) ≡ length (passed_beside 0 p)
one-told q None = refl
one-told q (Some Absent) = refl
one-told q (Some FailedFile) = refl
one-told q (Some (Refused block fault)) = refl
one-told q (Some (RefusedScp fault)) = refl

one-lost : (q : ℕ) (p : Option Passed) → lost_in (passed_beside q p) ≡ cond (is_failed p) 1 0
one-lost q None = refl
one-lost q (Some Absent) = refl
one-lost q (Some FailedFile) = refl
one-lost q (Some (Refused block fault)) = refl
one-lost q (Some (RefusedScp fault)) = refl

single : {X : Type 0} (weight : X → ℕ) (x : X) → sum_by weight (x ∷ []) ≡ weight x
single weight x = let e : 0 + weight x ≡ weight x = omega arith in e

sum-push : {X : Type 0} (weight : X → ℕ) (xs : List X) (x : X) → sum_by weight (xs ++ x ∷ []) ≡ sum_by weight xs + weight x
sum-push weight xs x = sum_by-append weight xs (x ∷ []) ∙ ap (λ (n : ℕ). sum_by weight xs + n) (single weight x)

lost-append : (xs ys : List PassedStream) → lost_in (xs ++ ys) ≡ lost_in xs + lost_in ys
lost-append xs ys = sum_by-append (λ (p : PassedStream). cond (is_failed (Some p.why)) 1 0) xs ys

add-one : (q : ℕ) → q + 1 ≡ suc q
add-one q = omega arith

-- of a track that was started no dump's file was taken yet
pub taken-none : (plan : Plan) (near : TrackId) (tracks : DumpTracks) (start now : ShelfNow) (before : List Seen) (room : RoomState)
    → HaveComeOf tracks start now before → room.passed ≡ [] → OthersStandFor room.others [] → HasTakenTo plan near tracks start now before room 0
taken-none plan near tracks start now before room came none no_others = record {
  more = [];
  many = refl;
  came = subst (HaveComeOf tracks start now) (sym (append-nil before)) came;
  others = [];
  names = refl;
  stand = no_others;
  passed_are = none;
  passed_many = ap (λ (ps : List PassedStream). length ps) none;
  lost_many = ap lost_in none;
}

-- one dump's file more
module _ (plan : Plan) (near : TrackId) (tracks : DumpTracks) (start now next : ShelfNow) (before : List Seen) (room room' : RoomState) (q : ℕ) (h : HasTakenTo plan near tracks start now before room q) where
  pub taken-more : (number : ℕ) (track : TrackId) → q < tracks.count → length before ≡ number * tracks.count → tracks.track_of number ≡ track
      → HasTakenNames (λ here. GaveOf tracks.stepping tracks.dumps track q now next here) plan.clocks near q room room' → room'.format ≡ room.format
      → HasTakenTo plan near tracks start next before room' (q + 1)
  taken-more number track low size same t format =
      let longer : List Seen = h.more ++ t.here ∷ [] in
      let here : seen_at longer q ≡ t.here = ap (seen_at longer) (sym h.many) ∙ seen-last h.more t.here in
      let earlier : (i : ℕ) → i < q → seen_at h.more i ≡ seen_at longer i = λ i below. sym (get_or_append_left h.more (t.here ∷ []) no_seen i (omega (arith, below, h.many))) in
      let all : length (before ++ h.more) ≡ number * tracks.count + q = length-append before h.more ∙ ap (λ (n : ℕ). n + length h.more) size ∙ ap (λ (n : ℕ). number * tracks.count + n) h.many in
      record {
        more = longer;
        many = length_push h.more t.here ∙ ap (λ (n : ℕ). n + 1) h.many;
        came = subst (HaveComeOf tracks start next) (append_assoc before h.more (t.here ∷ []))
            (came-gave tracks start now (before ++ h.more) number q low all h.came track same next t.here t.gave);
        others = h.others ++ t.noted.names.others;
        names = subst (λ (f : Format). AreNamesTo plan f near (seen_at longer) (q + 1) (h.others ++ t.noted.names.others)) (sym format)
            (subst (λ (n : ℕ). AreNamesTo plan room.format near (seen_at longer) n (h.others ++ t.noted.names.others)) (sym (add-one q)) (
              h.others,
              t.noted.names.others,
              names-agree plan room.format near (seen_at h.more) (seen_at longer) q earlier h.others h.names,
              subst (λ (s : Seen). AreNamesOf plan.clocks room.format near s.times s.indexes q t.noted.names.others) (sym here) t.noted.names.others_are,
              refl,
            ));
        stand = t.noted.names.others_noted h.others h.stand;
        passed_are = t.noted.passed_are ∙ ap (λ (ps : List PassedStream). ps ++ passed_beside q t.here.passed) (h.passed_are ∙ passed-agree (seen_at h.more) (seen_at longer) q earlier)
            ∙ ap (λ (s : Seen). beside_to (seen_at longer) q ++ passed_beside q s.passed) (sym here) ∙ ap (beside_to (seen_at longer)) (sym (add-one q));
        passed_many = ap (λ (ps : List PassedStream). length ps) t.noted.passed_are ∙ length-append room.passed (passed_beside q t.here.passed)
            ∙ ap (λ (n : ℕ). n + length (passed_beside q t.here.passed)) h.passed_many ∙ ap (λ (n : ℕ). told_beside h.more + n) (one-told q t.here.passed)
            ∙ sym (sum-push (λ (s : Seen). length (passed_beside 0 s.passed)) h.more t.here);
        lost_many = ap lost_in t.noted.passed_are ∙ lost-append room.passed (passed_beside q t.here.passed)
            ∙ ap (λ (n : ℕ). n + lost_in (passed_beside q t.here.passed)) h.lost_many ∙ ap (λ (n : ℕ). lost_count h.more + n) (one-lost q t.here.passed)
            ∙ sym (sum-push (λ (s : Seen). cond (is_failed s.passed) 1 0) h.more t.here);
      }

-- of the room nothing else changed over several dumps' files than over one
pub kept-both : (old mid new : RoomState) (more : ℕ)
    → mid ≡ record old { held = mid.held; used = mid.used; captures = mid.captures; passed = mid.passed; others = mid.others }
    → new ≡ record mid { held = new.held; used = new.used; captures = mid.captures + more; passed = new.passed; others = new.others }
    → new ≡ record old { held = new.held; used = new.used; captures = new.captures; passed = new.passed; others = new.others }
kept-both old mid new more first next =
    next ∙ ap (λ (n : ℕ). record mid { held = new.held; used = new.used; captures = n; passed = new.passed; others = new.others }) (sym (ap (λ (r : RoomState). r.captures) next))
    ∙ ap (λ (r : RoomState). record r { held = new.held; used = new.used; captures = new.captures; passed = new.passed; others = new.others }) first

-- a track was started, and its files were taken: what was counted stays
pub counts-kept : (old mid new : RoomState) (number : ℕ) → mid ≡ record old { started = number; captures = 0; book = mid.book; passed = []; others = mid.others }
    → new ≡ record mid { held = new.held; used = new.used; captures = new.captures; passed = new.passed; others = new.others } → KeepsCounts old new
counts-kept old mid new number first next = record {
  unread = ap (λ (r : RoomState). r.unread) next ∙ ap (λ (r : RoomState). r.unread) first;
  lost = ap (λ (r : RoomState). r.lost) next ∙ ap (λ (r : RoomState). r.lost) first;
  told = ap (λ (r : RoomState). r.told_others) next ∙ ap (λ (r : RoomState). r.told_others) first;
  whole = ap (λ (r : RoomState). r.whole_others) next ∙ ap (λ (r : RoomState). r.whole_others) first;
}

-- each dump's file counts once for each clock
times-next : (n m : ℕ) → (n + 1) * m ≡ n * m + m
times-next n m = grind (arith)

pub captures-more : (old new : RoomState) (dump clocks : ℕ) → old.captures ≡ dump * clocks
    → new ≡ record old { held = new.held; used = new.used; captures = old.captures + clocks; passed = new.passed; others = new.others } → new.captures ≡ (dump + 1) * clocks
captures-more old new dump clocks before next = ap (λ (r : RoomState). r.captures) next ∙ ap (λ (n : ℕ). n + clocks) before ∙ sym (times-next dump clocks)

-- no more names are told than so many
few-told : (others : List NotedOther) → length (others_over others) ≤ MOST_TOLD
unfolding others_over
few-told others =
    let firsts : List NotedOther = take MOST_TOLD (first_ones others) in
    let size = length-map firsts (told_of others) in
    let least = length-take MOST_TOLD (first_ones others) in
    omega (arith, size, least)

told-all : (known : OthersKnown) (others : List NotedOther) → OthersStandFor known others → take MOST_TOLD known.told ≡ others_over others
told-all known others stands = ap (take MOST_TOLD) stands.told ∙ take_all MOST_TOLD (others_over others) (few-told others)

-- what was taken of a track was counted, and its lines were put
module _ {A : Type 0} (of : LinesOf) (plan : Plan) (track near : TrackId) (tracks : DumpTracks) (start now : ShelfNow) (before : List Seen) (old room new : RoomState) (notes notes' : Moment A)
    (h : HasTakenTo plan near tracks start now before room tracks.count) where
  pub one-looked : (answer : _) → near ≡ near_track old.format track → room.format ≡ old.format → KeepsCounts old room → new ≡ counted room
      → ((others : List NotedOther) → OthersStandFor room.others others → Puts notes notes' (of track room.passed others) answer)
      → LooksAtOne of plan track tracks start now before old new notes notes' answer
  one-looked answer near_is format kept is puts = record {
    more = h.more;
    many = h.many;
    came = h.came;
    others = h.others;
    names = subst (λ (t : TrackId). AreNamesTo plan old.format t (seen_at h.more) tracks.count h.others) near_is
        (subst (λ (f : Format). AreNamesTo plan f near (seen_at h.more) tracks.count h.others) format h.names);
    counted = record {
      unread = ap (λ (r : RoomState). r.unread) is ∙ ap (λ (n : ℕ). n + length room.passed) kept.unread ∙ ap (λ (n : ℕ). old.unread + n) h.passed_many;
      lost = ap (λ (r : RoomState). r.lost) is ∙ ap (λ (n : ℕ). n + lost_in room.passed) kept.lost ∙ ap (λ (n : ℕ). old.lost + n) h.lost_many;
      told = ap (λ (r : RoomState). r.told_others) is ∙ ap (λ (n : ℕ). n + names_of (take MOST_TOLD room.others.told) room.others.untold) kept.told
          ∙ ap (λ (ts : List OtherTold). old.told_others + names_of ts room.others.untold) (told-all room.others h.others h.stand)
          ∙ ap (λ (b : Bool). old.told_others + names_of (others_over h.others) b) h.stand.untold
          ∙ ap (λ (n : ℕ). old.told_others + n) (sym (single (λ (others : List NotedOther). names_of (others_over others) (has_untold others)) h.others));
      whole = ap (λ (r : RoomState). r.whole_others) is ∙ ap (λ (n : ℕ). n + whole_names_of (take MOST_TOLD room.others.told) room.others.untold) kept.whole
          ∙ ap (λ (ts : List OtherTold). old.whole_others + whole_names_of ts room.others.untold) (told-all room.others h.others h.stand)
          ∙ ap (λ (b : Bool). old.whole_others + whole_names_of (others_over h.others) b) h.stand.untold
          ∙ ap (λ (n : ℕ). old.whole_others + n) (sym (single (λ (others : List NotedOther). whole_names_of (others_over others) (has_untold others)) h.others));
    };
    puts = subst (λ (ps : List PassedStream). Puts notes notes' (of track ps h.others) answer) h.passed_are (puts h.others h.stand);
  }

-- what was counted stayed so, or of more tracks
pub below-kept : (old new : RoomState) (n : ℕ) → KeepsCounts old new → AreCountsBelow old n → AreCountsBelow new n
below-kept old new n kept below = record {
  unread = omega (arith, kept.unread, below.unread);
  lost = omega (arith, kept.lost, below.lost);
  told = omega (arith, kept.told, below.told);
  whole = omega (arith, kept.whole, below.whole);
}

pub below-more : (room : RoomState) (n m : ℕ) → n ≤ m → AreCountsBelow room n → AreCountsBelow room m
below-more room n m more below = record {
  unread = omega (arith, more, below.unread);
  lost = omega (arith, more, below.lost);
  told = omega (arith, more, below.told);
  whole = omega (arith, more, below.whole);
}

-- at first none was looked at
pub looked-none : (of : LinesOf) (disk : DumpDisk) (now : ShelfNow) (room : RoomState) (notes : Option (List ℕ)) → HasLooked of disk now now room room notes notes
looked-none of disk now room notes = record {
  beside = record {
    came = [];
    others = [];
    are = record {
      all = omega arith;
      few = omega arith;
      are = (none_came (of_beside disk.stepping disk.dumps disk.format) now).are;
      each = λ number low. absurd (omega (arith, low));
    };
  };
  came = none_came (of_beside disk.stepping disk.dumps disk.format) now;
  counted = record { unread = omega arith; lost = omega arith; told = omega arith; whole = omega arith };
  notes_grew = Appends-nil notes;
}

pub looked-first : (of : LinesOf) (disk : DumpDisk) (now : ShelfNow) (room : RoomState) (notes : Option (List ℕ))
    → (h : HasLooked of disk now now room room notes notes) × (length h.beside.others ≡ beside_before disk.stepping disk.format 0)
unfolding looked-none
looked-first of disk now room notes = (looked-none of disk now room notes, refl)

-- a track by another name
pub at-place : {A : Type 0} {of : LinesOf} {plan : Plan} {track track' : TrackId} {tracks : DumpTracks} {start now : ShelfNow} {before : List Seen} {old new : RoomState} {notes notes' : Moment A}
    {answer : _} → track' ≡ track → LooksAtOne of plan track tracks start now before old new notes notes' answer → LooksAtOne of plan track' tracks start now before old new notes notes' answer
at-place {of = of} {plan = plan} {tracks = tracks} {start = start} {now = now} {before = before} {old = old} {new = new} {notes = notes} {notes' = notes'} {answer = answer} same one =
    subst (λ (t : TrackId). LooksAtOne of plan t tracks start now before old new notes notes' answer) (sym same) one

-- a track that was not found among the format's
pub none-here : (format f : Format) (track : TrackId) (found : Bool) → found ≡ is_track f track → f ≡ format → found ≡ false → is_track format track ≡ false
none-here format f track found is same none = sym (ap (λ (x : Format). is_track x track) same) ∙ sym is ∙ none

pub one-here : (format f : Format) (track : TrackId) (found : Bool) → found ≡ is_track f track → f ≡ format → found ≡ true → is_track format track ≡ true
one-here format f track found is same one = sym (ap (λ (x : Format). is_track x track) same) ∙ sym is ∙ one

-- one track more
module _ {A : Type 0} (of : LinesOf) (disk : DumpDisk) (start mid now : ShelfNow) (old room room' : RoomState) (notes : Option (List ℕ)) (notes_mid notes_new : Moment A)
    (h : HasLooked of disk start mid old room notes notes_mid.bytes) where
  abbrev k : ℕ
  k = length h.beside.others

  abbrev d : ℕ
  d = length disk.dumps

  abbrev track : TrackId
  track = beside_at disk.stepping disk.format k

  module _ (answer : _) (low : k < length (beside_tracks disk.stepping disk.format)) (format : room.format ≡ disk.format)
      (l : LooksAtOne of (plan_of disk) track (of_beside disk.stepping disk.dumps disk.format) start now h.beside.came room room' notes_mid notes_new answer) where
    abbrev came' : List Seen
    came' = h.beside.came ++ l.more

    abbrev others' : List (List NotedOther)
    others' = h.beside.others ++ l.others ∷ []

    place-low : (i q : ℕ) → i < k → q < d → i * d + q < length h.beside.came
    place-low i q below few =
        let next : suc i * d ≤ k * d = mul-le-mul_right d (omega (arith, below)) in
        omega (arith, next, suc-mul i d, few, h.beside.are.all)

    earlier : (i : ℕ) → i < k → (q : ℕ) → q < d → captures_at d h.beside.came i q ≡ captures_at d came' i q
    earlier i below q few = sym (get_or_append_left h.beside.came l.more no_seen (i * d + q) (place-low i q below few))

    here : (q : ℕ) → q < d → seen_at l.more q ≡ captures_at d came' k q
    here q few =
        sym (get_or-append-add h.beside.came l.more q no_seen) ∙ ap (λ (n : ℕ). seen_at came' (n + q)) h.beside.are.all

    old-others : (i : ℕ) → i < k → get_or h.beside.others i [] ≡ get_or others' i []
    old-others i below = sym (get_or_append_left h.beside.others (l.others ∷ []) [] i below)

    new-others : l.others ≡ get_or others' k []
    new-others = sym (get_or-append_seam h.beside.others l.others [] [])

    many : length others' ≡ k + 1
    many = length_push h.beside.others l.others

    abbrev Each : ℕ → Type 0
    Each number = AreNamesTo (plan_of disk) disk.format (near_track disk.format (beside_at disk.stepping disk.format number)) (captures_at d came' number) d (get_or others' number [])

    each : (number : ℕ) → (number < k) ⊎ (k ≤ number) → number < length others' → Each number
    each number (inl below) under =
        subst (AreNamesTo (plan_of disk) disk.format (near_track disk.format (beside_at disk.stepping disk.format number)) (captures_at d came' number) d) (old-others number below)
        (names-agree (plan_of disk) disk.format (near_track disk.format (beside_at disk.stepping disk.format number)) (captures_at d h.beside.came number) (captures_at d came' number) d
        (earlier number below) (get_or h.beside.others number []) (h.beside.are.each number below))
    each number (inr past) under =
        let same : k ≡ number = omega (arith, past, under, many) in
        subst Each same
        (subst (AreNamesTo (plan_of disk) disk.format (near_track disk.format track) (captures_at d came' k) d) new-others
        (names-agree (plan_of disk) disk.format (near_track disk.format track) (seen_at l.more) (captures_at d came' k) d here l.others
        (subst (λ (f : Format). AreNamesTo (plan_of disk) f (near_track f track) (seen_at l.more) d l.others) format l.names)))

    abbrev looked : LookedBeside disk start.told.files
    looked = record {
      came = came';
      others = others';
      are = record {
        all =
            length-append h.beside.came l.more ∙ ap (λ (n : ℕ). n + length l.more) h.beside.are.all ∙ ap (λ (n : ℕ). k * d + n) l.many
            ∙ sym (ap (λ (n : ℕ). n * d) many ∙ times-next k d);
        few = omega (arith, many, low);
        are = l.came.are;
        each = λ number under. each number (cases_lt number k) under;
      };
    }

    -- the lines before are the same, and those of this one
    abbrev line_at : List Seen → List (List NotedOther) → ℕ → List ℕ
    line_at came others number = lines_at of disk.stepping disk.dumps disk.format came others number

    lines-before : lines_to of disk.stepping disk.dumps disk.format came' others' k ≡ lines_of of h.beside
    lines-before =
        flat-same (line_at came' others') (line_at h.beside.came h.beside.others) 0 k
        (λ i below. let under : i < k = omega (arith, below) in
        sym (ap (λ (ps : List PassedStream). of (beside_at disk.stepping disk.format i) ps (get_or h.beside.others i []))
        (passed-agree (captures_at d h.beside.came i) (captures_at d came' i) d (earlier i under))
        ∙ ap (of (beside_at disk.stepping disk.format i) (beside_to (captures_at d came' i) d)) (old-others i under)))

    line-here : line_at came' others' k ≡ of track (beside_to (seen_at l.more) d) l.others
    line-here =
        sym (ap (λ (ps : List PassedStream). of track ps l.others) (passed-agree (seen_at l.more) (captures_at d came' k) d here)
        ∙ ap (of track (beside_to (captures_at d came' k) d)) new-others)

    lines-more : lines_to of disk.stepping disk.dumps disk.format came' others' (length others') ≡ lines_of of h.beside ++ of track (beside_to (seen_at l.more) d) l.others
    lines-more =
        let zero_k : 0 + k ≡ k = omega arith in
        ap (λ (n : ℕ). flat_map (line_at came' others') (range_with_len 0 n)) many
        ∙ ap (flat_map (line_at came' others')) (range-more 0 k)
        ∙ flat_map-append (line_at came' others') (range_with_len 0 k) ((0 + k) ∷ [])
        ∙ ap (λ (xs : List ℕ). xs ++ flat_map (line_at came' others') ((0 + k) ∷ [])) lines-before
        ∙ ap (λ (xs : List ℕ). lines_of of h.beside ++ xs)
        (append-nil (line_at came' others' (0 + k)) ∙ ap (line_at came' others') zero_k ∙ line-here)

    count-more : CountsMore old room' came' others'
    count-more = record {
      unread = l.counted.unread ∙ ap (λ (n : ℕ). n + told_beside l.more) h.counted.unread ∙ assoc old.unread (told_beside h.beside.came) (told_beside l.more)
          ∙ ap (λ (n : ℕ). old.unread + n) (sym (sum_by-append (λ (s : Seen). length (passed_beside 0 s.passed)) h.beside.came l.more));
      lost = l.counted.lost ∙ ap (λ (n : ℕ). n + lost_count l.more) h.counted.lost ∙ assoc old.lost (lost_count h.beside.came) (lost_count l.more)
          ∙ ap (λ (n : ℕ). old.lost + n) (sym (sum_by-append (λ (s : Seen). cond (is_failed s.passed) 1 0) h.beside.came l.more));
      told = l.counted.told ∙ ap (λ (n : ℕ). n + told_count (l.others ∷ [])) h.counted.told ∙ assoc old.told_others (told_count h.beside.others) (told_count (l.others ∷ []))
          ∙ ap (λ (n : ℕ). old.told_others + n) (sym (sum_by-append (λ (others : List NotedOther). names_of (others_over others) (has_untold others)) h.beside.others (l.others ∷ [])));
      whole = l.counted.whole ∙ ap (λ (n : ℕ). n + whole_count (l.others ∷ [])) h.counted.whole ∙ assoc old.whole_others (whole_count h.beside.others) (whole_count (l.others ∷ []))
          ∙ ap (λ (n : ℕ). old.whole_others + n) (sym (sum_by-append (λ (others : List NotedOther). whole_names_of (others_over others) (has_untold others)) h.beside.others (l.others ∷ [])));
    }
      where
        assoc : (a b c : ℕ) → a + b + c ≡ a + (b + c)
        assoc a b c = omega arith

    -- its lines were written
    looked-more : Appends notes_mid.bytes notes_new.bytes (of track (beside_to (seen_at l.more) d) l.others) → HasLooked of disk start now old room' notes notes_new.bytes
    looked-more wrote = record {
      beside = looked;
      came = l.came;
      counted = count-more;
      notes_grew = subst (Appends notes notes_new.bytes) (sym lines-more)
          (Appends-trans notes notes_mid.bytes notes_new.bytes (lines_of of h.beside) (of track (beside_to (seen_at l.more) d) l.others) h.notes_grew wrote);
    }

    pub looked-next : Appends notes_mid.bytes notes_new.bytes (of track (beside_to (seen_at l.more) d) l.others) → (n m : ℕ) → k ≡ n → m ≡ n + 1
        → (next : HasLooked of disk start now old room' notes notes_new.bytes) × (length next.beside.others ≡ m)
    unfolding looked-more
    looked-next wrote n m same next = (looked-more wrote, many ∙ ap (λ (i : ℕ). i + 1) same ∙ sym next)

    -- or a part of them
    pub looked-into : (sectors : Totals) → looks_beside disk.looks sectors ≡ true → AppendsPart notes_mid.bytes notes_new.bytes (of track (beside_to (seen_at l.more) d) l.others)
        → LooksInto of disk sectors start now notes notes_new.bytes
    looked-into sectors asked (n, short, wrote) =
        let last : length others' - 1 ≡ k = omega (arith, many) in
        record {
          asked = asked;
          beside = looked;
          some = omega (arith, many);
          came = l.came;
          notes_grew = subst (λ (i : ℕ). AppendsAndPart notes notes_new.bytes (lines_to of disk.stepping disk.dumps disk.format came' others' i) (line_at came' others' i)) (sym last) (
            n,
            subst (λ (xs : List ℕ). n < length xs) (sym line-here) short,
            subst (Appends notes notes_new.bytes) (ap (λ (xs : List ℕ). xs ++ take n (of track (beside_to (seen_at l.more) d) l.others)) (sym lines-before)
                ∙ ap (λ (xs : List ℕ). lines_to of disk.stepping disk.dumps disk.format came' others' k ++ take n xs) (sym line-here))
                (Appends-trans notes notes_mid.bytes notes_new.bytes (lines_of of h.beside) (take n (of track (beside_to (seen_at l.more) d) l.others)) h.notes_grew wrote),
          );
        }

-- where that is not asked for, none is looked at
pub none-asked : (of : LinesOf) (disk : DumpDisk) (sectors : Totals) (now : ShelfNow) (room : RoomState) (notes : Option (List ℕ)) → looks_beside disk.looks sectors ≡ false
    → LooksAsAsked of disk sectors now now room room notes notes
unfolding looked-none
none-asked of disk sectors now room notes unasked = record {
  has = looked-none of disk now room notes;
  looked = sym (ap (λ (b : Bool). cond b (length (beside_tracks disk.stepping disk.format)) 0) unasked);
}

-- where it is, all are in the end
pub all-asked : (of : LinesOf) (disk : DumpDisk) (sectors : Totals) (start now : ShelfNow) (old new : RoomState) (notes notes' : Option (List ℕ)) → looks_beside disk.looks sectors ≡ true
    → (h : HasLooked of disk start now old new notes notes') → (n : ℕ) → 2 * most_cylinders disk.stepping ≤ n → length h.beside.others ≡ beside_before disk.stepping disk.format n
    → LooksAsAsked of disk sectors start now old new notes notes'
all-asked of disk sectors start now old new notes notes' asked h n all many = record {
  has = h;
  looked = many ∙ beside-all disk.stepping disk.format n all ∙ sym (ap (λ (b : Bool). cond b (length (beside_tracks disk.stepping disk.format)) 0) asked);
}

-- One file more is noted, and its sets kept.
use Rattle.std.proofs.Common.{◌≡◌, ◌<◌, ◌≤◌, ◌⊎◌, ◌↔◌, ◌+◌, ◌/◌, ◌%◌, ℕ, Bool, true, false, List, [], ◌∷◌, ◌++◌, length, Some, None, refl, sym, ap, subst, ◌∙◌, inl, inr, arith, length-append}
use Rattle.std.specs.Prelude.{min}
use Rattle.std.specs.Vec.{vec_capacity}
use Rattle.std.proofs.lemmas.Bool.{cases_eq, cases_lt}
use Rattle.std.proofs.lemmas.List.{get_or_append_left, get_or_push}
use Rattle.flux_base.specs.declared.track.TrackId.{TrackId}
use Rattle.flux_engine.specs.LoopProgress.{seen_at}
use Rattle.flux_engine.specs.Plans.{Seen}
use Rattle.ibm_disks.specs.declared.rate.Rate.{Rate}
use Rattle.ibm_disks.specs.declared.sector_size.SectorSize.{SectorSize}
use Rattle.sector_report.specs.declared.dump_lines.Passed.{Passed}
use Rattle.told_disks.specs.Names.{has, set_at}
use Rattle.told_disks.specs.declared.heads.NamedHeads.{NamedHeads}
use Rattle.told_disks.specs.declared.heads.NamedHeads.TheVariants.{Changed, First, Own}
use Rattle.ibm_disks.specs.declared.rate.Rate.TheVariants.{Double, High, HighAt360, Single, SingleAt360}
use Rattle.dump_numbers.specs.OwnNames.{HasNameAt}
use Rattle.dump_numbers.specs.Rates.{cells_at}
use Rattle.dump_numbers.specs.Sets.{AreNotedTo, AreSetsTo, FileSets, HeadedSets, IsSetOf, NotedSets, double_file, doubles_to, headed_by, noted_by, track_number}
use Rattle.dump_numbers.specs.declared.sets.DumpSets.{DumpSets}
use Rattle.dump_numbers.specs.declared.sets.HeadSets.{HeadSets}
use Rattle.dump_numbers.specs.declared.sets.RateSets.{RateSets}
use Rattle.dump_numbers.specs.inside.Noted.{AreEven, HasNotedOne, HasRoom, HoldAll, HoldNoted, HoldsFiles, IsDouble, double_track, file_count, kept_by, kept_in, kept_of, rate_sets, sets_at, sets_by}

-- the set of a file that was read
pub set_read : (heads : NamedHeads) (rate : Rate) (here : Seen) (own : TrackId) (set cells : List Bool) → here.passed ≡ None → cells ≡ cells_at rate here.times here.indexes → length set ≡ 1024
    → ((size : SectorSize) (number : ℕ) → (has set size number ≡ true) ↔ HasNameAt heads rate own here.times here.indexes cells size number) → IsSetOf heads rate here own set
set_read heads rate here own set cells read same full each = record {
  full = full;
  has_named = λ size number. (
    λ is. record { read = read; name = subst (λ (cs : List Bool). HasNameAt heads rate own here.times here.indexes cs size number) same ((each size number).0 is) },
    λ own_one. (each size number).1 (subst (λ (cs : List Bool). HasNameAt heads rate own here.times here.indexes cs size number) (sym same) own_one.name),
  );
}

-- and of one that was not
pub set_none : (heads : NamedHeads) (rate : Rate) (here : Seen) (own : TrackId) (set : List Bool) (why : Passed) → here.passed ≡ Some why → length set ≡ 1024 → ((size : SectorSize) (number : ℕ) → has set size number ≡ false)
    → IsSetOf heads rate here own set
set_none heads rate here own set why passed full none = record {
  full = full;
  has_named = λ size number. (λ is. absurd (no (sym (none size number) ∙ is)), λ own_one. absurd (some (sym own_one.read ∙ passed)));
}
  where
    no : false ≡ true → ⊥
    no e = cc

    some : None ≡ Some why → ⊥
    some e = cc

abbrev no_seen : Seen
no_seen = record { fault = None; passed = None; times = []; indexes = [] }

-- the place among those by two steps
double_low : (files number : ℕ) → number < doubles_to files → double_file number < files
double_low files number below = omega (arith, below)

more_yes : (files : ℕ) → files < 198 → files / 2 % 2 ≡ 0 → files / 2 < 84 → doubles_to (files + 1) ≡ doubles_to files + 1
more_yes files low even short = omega (arith, low, even, short)

more_no : (files : ℕ) → files < 198 → (files / 2 % 2 ≡ 0 → ⊥) ⊎ (84 ≤ files / 2) → doubles_to (files + 1) ≡ doubles_to files
more_no files low (inl odd) = let one : files / 2 % 2 ≡ 1 = by (cases_eq (files / 2 % 2) 0) in omega (arith, low, one)
  where
    by : (files / 2 % 2 ≡ 0) ⊎ (files / 2 % 2 ≡ 0 → ⊥) → files / 2 % 2 ≡ 1
    by (inl even) = absurd (odd even)
    by (inr apart) = omega (arith, apart)
more_no files low (inr long) = omega (arith, low, long)

double_is : (files : ℕ) → files / 2 % 2 ≡ 0 → files / 2 < 84 → double_file (doubles_to files) ≡ files
double_is files even short = omega (arith, even, short)

double_row : (files : ℕ) → files / 2 % 2 ≡ 0 → files / 2 < 84 → doubles_to files / 2 ≡ files / 2 / 2
double_row files even short = omega (arith, even, short)

double_side : (files : ℕ) → files / 2 % 2 ≡ 0 → files / 2 < 84 → doubles_to files % 2 ≡ files % 2
double_side files even short = omega (arith, even, short)

double_few : (files : ℕ) → files / 2 % 2 ≡ 0 → files / 2 < 84 → doubles_to files < 84
double_few files even short = omega (arith, even, short)

-- the sets of a file were appended: by one step alone, or by both
pub noted_single : (heads : NamedHeads) (rate : Rate) (here : Seen) (file : TrackId) (old new : RateSets) (one : List Bool) → (IsDouble file → ⊥) → IsSetOf heads rate here file one
    → new.one.items ≡ old.one.items ++ one ∷ [] → vec_capacity new.one ≡ vec_capacity old.one → new.two ≡ old.two → HasNotedOne heads rate here file old new
noted_single heads rate here file old new one not is noted room same = record {
  one = one;
  one_is = is;
  one_noted = noted;
  two = λ both. absurd (not both);
  no_two = λ none. ap (λ v. v.items) same;
  room_one = room;
  room_two = ap (λ v. vec_capacity v) same;
}

pub noted_double : (heads : NamedHeads) (rate : Rate) (here : Seen) (file : TrackId) (old new : RateSets) (one two : List Bool) → IsDouble file → IsSetOf heads rate here file one
    → IsSetOf heads rate here (double_track file) two → new.one.items ≡ old.one.items ++ one ∷ [] → vec_capacity new.one ≡ vec_capacity old.one
    → new.two.items ≡ old.two.items ++ two ∷ [] → vec_capacity new.two ≡ vec_capacity old.two → HasNotedOne heads rate here file old new
noted_double heads rate here file old new one two both one_is two_is noted room noted_two room_two = record {
  one = one;
  one_is = one_is;
  one_noted = noted;
  two = λ is. (two, two_is, noted_two);
  no_two = λ none. absurd (none both);
  room_one = room;
  room_two = room_two;
}

-- there is room for the sets of one more
has_room : (files : ℕ) (sets : RateSets) → files < 198 → HoldsFiles files sets → HasRoom (track_number files) sets
has_room files sets low are = record {
  one = (let many = are.one in let room = are.room_one in omega (arith, low, many, room));
  two = λ both.
      (let many = are.two in let room = are.room_two in let few = double_few files both.0 both.1 in omega (arith, many, room, few));
}

has_rooms : (files : ℕ) (sets : DumpSets) → files < 198 → HoldAll files sets → (rate : Rate) (heads : NamedHeads) → HasRoom (track_number files) (sets_by sets rate heads)
has_rooms files sets low are rate heads = has_room files (sets_by sets rate heads) low (are rate heads)

-- which are there then
module _ (files : ℕ) (low : files < 198) where
  module _ (heads : NamedHeads) (rate : Rate) (here : Seen) (old new : RateSets) (are : HoldsFiles files old) (noted : HasNotedOne heads rate here (track_number files) old new) where
    one_more : length new.one.items ≡ files + 1
    one_more = ap length noted.one_noted ∙ length-append old.one.items (noted.one ∷ []) ∙ ap (λ (n : ℕ). n + 1) are.one

    holds_double : IsDouble (track_number files) → HoldsFiles (files + 1) new
    holds_double both =
        let pushed = noted.two both in
        let more = more_yes files low both.0 both.1 in
        record {
          one = one_more;
          two = ap length pushed.2 ∙ length-append old.two.items (pushed.0 ∷ []) ∙ (let many = are.two in omega (arith, many, more));
          room_one = (let r = are.room_one in let c = noted.room_one in omega (arith, r, c));
          room_two = (let r = are.room_two in let c = noted.room_two in omega (arith, r, c));
        }

    holds_single : (files / 2 % 2 ≡ 0 → ⊥) ⊎ (84 ≤ files / 2) → HoldsFiles (files + 1) new
    holds_single not = record {
      one = one_more;
      two = ap length (noted.no_two (λ both. none both not)) ∙ are.two ∙ sym (more_no files low not);
      room_one = (let r = are.room_one in let c = noted.room_one in omega (arith, r, c));
      room_two = (let r = are.room_two in let c = noted.room_two in omega (arith, r, c));
    }
      where
        none : (both : IsDouble (track_number files)) → (files / 2 % 2 ≡ 0 → ⊥) ⊎ (84 ≤ files / 2) → ⊥
        none both (inl odd) = odd both.0
        none both (inr long) = let short = both.1 in omega (arith, long, short)

    holds-next : HoldsFiles (files + 1) new
    holds-next = by (cases_eq (files / 2 % 2) 0) (cases_lt (files / 2) 84)
      where
        by : (files / 2 % 2 ≡ 0) ⊎ (files / 2 % 2 ≡ 0 → ⊥) → (files / 2 < 84) ⊎ (84 ≤ files / 2) → HoldsFiles (files + 1) new
        by (inl even) (inl short) = holds_double (even, short)
        by (inr odd) _ = holds_single (inl odd)
        by (inl even) (inr long) = holds_single (inr long)

  -- and they stay even
  even-next : (here : Seen) (old new : DumpSets) → HoldAll files old
      → ((rate : Rate) (heads : NamedHeads) → HasNotedOne heads rate here (track_number files) (sets_by old rate heads) (sets_by new rate heads)) → AreEven new
  even-next here old new are noted = by (file_count new) ((all Double Own).one)
    where
      all : HoldAll (files + 1) new
      all rate heads = holds-next heads rate here (sets_by old rate heads) (sets_by new rate heads) (are rate heads) (noted rate heads)

      by : (count : ℕ) → count ≡ files + 1 → (count ≤ 198) × HoldAll count new
      by count same = (omega (arith, same, low), subst (λ (n : ℕ). HoldAll n new) (sym same) all)

module _ (heads : NamedHeads) (rate : Rate) (came : List Seen) (here : Seen) (files : ℕ) (old new : RateSets) (all : length came ≡ files) (low : files < 198) (are : AreSetsTo heads rate came files old.one.items old.two.items)
    (noted : HasNotedOne heads rate here (track_number files) old new) where
  abbrev more : List Seen
  more = came ++ here ∷ []

  one-next : (number : ℕ) → number < files + 1 → (number < files) ⊎ (files ≤ number) → IsSetOf heads rate (seen_at more number) (track_number number) (set_at new.one.items number)
  one-next number below (inl early) =
      subst (λ (s : Seen). IsSetOf heads rate s (track_number number) (set_at new.one.items number)) (sym (get_or_append_left came (here ∷ []) no_seen number (omega (arith, early, all))))
      (subst (IsSetOf heads rate (seen_at came number) (track_number number))
      (sym (ap (λ (ss : List (List Bool)). set_at ss number) noted.one_noted ∙ get_or_append_left old.one.items (noted.one ∷ []) [] number (let many = are.all_one in omega (arith, early, many))))
      (are.one_step number early))
  one-next number below (inr past) =
      let at : number ≡ files = omega (arith, below, past) in
      subst (λ (k : ℕ). IsSetOf heads rate (seen_at more k) (track_number k) (set_at new.one.items k)) (sym at)
      (subst (λ (s : Seen). IsSetOf heads rate s (track_number files) (set_at new.one.items files)) (sym (get_or_push came here no_seen files all))
      (subst (IsSetOf heads rate here (track_number files)) (sym (ap (λ (ss : List (List Bool)). set_at ss files) noted.one_noted ∙ get_or_push old.one.items noted.one [] files are.all_one)) noted.one_is))

  -- a set by two steps that stood before
  two-before : (number : ℕ) → number < doubles_to files → (set : List Bool) → set ≡ set_at old.two.items number → IsSetOf heads rate (seen_at more (double_file number)) (track_number number) set
  two-before number below set same =
      subst (λ (s : Seen). IsSetOf heads rate s (track_number number) set)
      (sym (get_or_append_left came (here ∷ []) no_seen (double_file number) (let at = double_low files number below in omega (arith, at, all))))
      (subst (IsSetOf heads rate (seen_at came (double_file number)) (track_number number)) (sym same) (are.two_steps number below))

  -- of a file of an even cylinder there is one more
  module _ (even : files / 2 % 2 ≡ 0) (short : files / 2 < 84) where
    abbrev k : ℕ
    k = doubles_to files

    two-next : (number : ℕ) → number < k + 1 → (number < k) ⊎ (k ≤ number) → IsSetOf heads rate (seen_at more (double_file number)) (track_number number) (set_at new.two.items number)
    two-next number below (inl early) =
        let pushed = noted.two (even, short) in
        two-before number early (set_at new.two.items number)
        (ap (λ (ss : List (List Bool)). set_at ss number) pushed.2 ∙ get_or_append_left old.two.items (pushed.0 ∷ []) [] number (let many = are.all_two in omega (arith, early, many)))
    two-next number below (inr past) =
        let pushed = noted.two (even, short) in
        let at : number ≡ k = omega (arith, below, past) in
        let set : set_at new.two.items k ≡ pushed.0 = ap (λ (ss : List (List Bool)). set_at ss k) pushed.2 ∙ get_or_push old.two.items pushed.0 [] k are.all_two in
        let seen : seen_at more (double_file k) ≡ here = ap (seen_at more) (double_is files even short) ∙ get_or_push came here no_seen files all in
        let track : track_number k ≡ record { cylinder = files / 2 / 2; head = files % 2 } =
        ap (λ (c : ℕ). let t : TrackId = record { cylinder = c; head = k % 2 } in t) (double_row files even short)
        ∙ ap (λ (h : ℕ). let t : TrackId = record { cylinder = files / 2 / 2; head = h } in t) (double_side files even short) in
        subst (λ (n : ℕ). IsSetOf heads rate (seen_at more (double_file n)) (track_number n) (set_at new.two.items n)) (sym at)
        (subst (λ (s : Seen). IsSetOf heads rate s (track_number k) (set_at new.two.items k)) (sym seen)
        (subst (λ (t : TrackId). IsSetOf heads rate here t (set_at new.two.items k)) (sym track) (subst (IsSetOf heads rate here (record { cylinder = files / 2 / 2; head = files % 2 })) (sym set) pushed.1)))

    sets-double : AreSetsTo heads rate more (files + 1) new.one.items new.two.items
    sets-double =
        let pushed = noted.two (even, short) in
        let more_two = more_yes files low even short in
        let old_two = are.all_two in
        let old_one = are.all_one in
        let one_long : length new.one.items ≡ length old.one.items + 1 = ap length noted.one_noted ∙ length-append old.one.items (noted.one ∷ []) in
        let two_long : length new.two.items ≡ length old.two.items + 1 = ap length pushed.2 ∙ length-append old.two.items (pushed.0 ∷ []) in
        record {
          all_one = omega (arith, one_long, old_one);
          all_two = two_long ∙ ap (λ (n : ℕ). n + 1) old_two ∙ sym more_two;
          one_step = λ number below. one-next number below (cases_lt number files);
          two_steps = λ number below. two-next number (subst (λ (n : ℕ). number < n) more_two below) (cases_lt number k);
        }

  sets-single : (files / 2 % 2 ≡ 0 → ⊥) ⊎ (84 ≤ files / 2) → AreSetsTo heads rate more (files + 1) new.one.items new.two.items
  sets-single not =
      let same = noted.no_two (λ both. none both not) in
      let more_two = more_no files low not in
      let old_one = are.all_one in
      let one_long : length new.one.items ≡ length old.one.items + 1 = ap length noted.one_noted ∙ length-append old.one.items (noted.one ∷ []) in
      record {
        all_one = omega (arith, one_long, old_one);
        all_two = ap length same ∙ are.all_two ∙ sym more_two;
        one_step = λ number below. one-next number below (cases_lt number files);
        two_steps = λ number below. two-before number (subst (λ (n : ℕ). number < n) more_two below) (set_at new.two.items number) (ap (λ (ss : List (List Bool)). set_at ss number) same);
      }
    where
      none : IsDouble (track_number files) → (files / 2 % 2 ≡ 0 → ⊥) ⊎ (84 ≤ files / 2) → ⊥
      none both (inl odd) = odd both.0
      none both (inr long) = let short = both.1 in omega (arith, long, short)

  sets-next : AreSetsTo heads rate more (files + 1) new.one.items new.two.items
  sets-next = by (cases_eq (files / 2 % 2) 0) (cases_lt (files / 2) 84)
    where
      by : (files / 2 % 2 ≡ 0) ⊎ (files / 2 % 2 ≡ 0 → ⊥) → (files / 2 < 84) ⊎ (84 ≤ files / 2) → AreSetsTo heads rate more (files + 1) new.one.items new.two.items
      by (inl even) (inl short) = sets-double even short
      by (inr odd) _ = sets-single (inl odd)
      by (inl even) (inr long) = sets-single (inr long)

-- a file more came, and its sets are kept
noted-next : (came : List Seen) (here : Seen) (old new : DumpSets) → file_count old < 198 → HoldNoted came old
    → ((rate : Rate) (heads : NamedHeads) → HasNotedOne heads rate here (track_number (file_count old)) (sets_by old rate heads) (sets_by new rate heads))
    → HoldNoted (came ++ here ∷ []) new
noted-next came here old new low are noted rate heads =
    let files : file_count old ≡ min (length came) 198 = (are Double Own).all_one in
    let all : length came ≡ file_count old = omega (arith, files, low) in
    let long = length-append came (here ∷ []) in
    let next : file_count old + 1 ≡ min (length (came ++ here ∷ [])) 198 = omega (arith, all, low, long) in
    subst (λ (n : ℕ). AreSetsTo heads rate (came ++ here ∷ []) n (sets_by new rate heads).one.items (sets_by new rate heads).two.items) next
    (sets-next heads rate came here (file_count old) (sets_by old rate heads) (sets_by new rate heads) all low
    (subst (λ (n : ℕ). AreSetsTo heads rate came n (sets_by old rate heads).one.items (sets_by old rate heads).two.items) (sym files) (are rate heads)) (noted rate heads))

-- one behind all of them tells nothing
noted-past : (came : List Seen) (here : Seen) (sets : DumpSets) → 198 ≤ file_count sets → HoldNoted came sets → HoldNoted (came ++ here ∷ []) sets
noted-past came here sets past are rate heads =
    let files : file_count sets ≡ min (length came) 198 = (are Double Own).all_one in
    let all : 198 ≤ length came = omega (arith, files, past) in
    let long = length-append came (here ∷ []) in
    let full : min (length came) 198 ≡ 198 = omega (arith, all) in
    let next : 198 ≡ min (length (came ++ here ∷ [])) 198 = omega (arith, all, long) in
    let one : List (List Bool) = (sets_by sets rate heads).one.items in
    let two : List (List Bool) = (sets_by sets rate heads).two.items in
    let old : AreSetsTo heads rate came 198 one two = subst (λ (n : ℕ). AreSetsTo heads rate came n one two) full (are rate heads) in
    subst (λ (n : ℕ). AreSetsTo heads rate (came ++ here ∷ []) n one two) next
    (record {
      all_one = old.all_one;
      all_two = old.all_two;
      one_step = λ number below.
          subst (λ (s : Seen). IsSetOf heads rate s (track_number number) (set_at one number)) (sym (get_or_append_left came (here ∷ []) no_seen number (omega (arith, below, all))))
          (old.one_step number below);
      two_steps = λ number below.
          subst (λ (s : Seen). IsSetOf heads rate s (track_number number) (set_at two number))
          (sym (get_or_append_left came (here ∷ []) no_seen (double_file number) (let at = double_low 198 number below in omega (arith, at, all)))) (old.two_steps number below);
    })

-- at first there are none
noted-none : (sets : DumpSets) → HoldAll 0 sets → HoldNoted [] sets
noted-none sets none rate heads = record {
  all_one = (none rate heads).one;
  all_two = (none rate heads).two;
  one_step = λ number below. absurd (omega (arith, below));
  two_steps = λ number below. absurd (omega (arith, below));
}

pub even-none : (sets : DumpSets) → HoldAll 0 sets → AreEven sets
even-none sets none = by (file_count sets) ((none Double Own).one)
  where
    by : (count : ℕ) → count ≡ 0 → (count ≤ 198) × HoldAll count sets
    by count same = (omega (arith, same), subst (λ (n : ℕ). HoldAll n sets) (sym same) none)

-- what is kept are these sets
by_heads : (sets : HeadSets) (heads : NamedHeads) → headed_by (kept_by sets) heads ≡ kept_of (sets_at sets heads)
by_heads sets Own = refl
by_heads sets First = refl
by_heads sets Changed = refl

by_rates : (sets : DumpSets) (rate : Rate) → noted_by (kept_in sets) rate ≡ kept_by (rate_sets sets rate)
by_rates sets Double = refl
by_rates sets High = refl
by_rates sets HighAt360 = refl
by_rates sets Single = refl
by_rates sets SingleAt360 = refl

is_kept : (sets : DumpSets) (rate : Rate) (heads : NamedHeads) → headed_by (noted_by (kept_in sets) rate) heads ≡ kept_of (sets_by sets rate heads)
is_kept sets rate heads = ap (λ (h : HeadedSets). headed_by h heads) (by_rates sets rate) ∙ by_heads (rate_sets sets rate) heads

held-noted : (came : List Seen) (sets : DumpSets) → AreNotedTo came (kept_in sets) → HoldNoted came sets
held-noted came sets noted rate heads = subst (λ (f : FileSets). AreSetsTo heads rate came (min (length came) 198) f.one f.two) (is_kept sets rate heads) (noted rate heads)

noted-held : (came : List Seen) (sets : DumpSets) → HoldNoted came sets → AreNotedTo came (kept_in sets)
noted-held came sets held rate heads = subst (λ (f : FileSets). AreSetsTo heads rate came (min (length came) 198) f.one f.two) (sym (is_kept sets rate heads)) (held rate heads)

pub held : (came : List Seen) (sets : DumpSets) (kept : NotedSets) → kept_in sets ≡ kept → AreNotedTo came kept → HoldNoted came sets
held came sets kept same noted = held-noted came sets (subst (AreNotedTo came) (sym same) noted)

pub file-none : (sets : DumpSets) → HoldAll 0 sets → AreNotedTo [] (kept_in sets)
file-none sets none = noted-held [] sets (noted-none sets none)

pub file-past : (came : List Seen) (here : Seen) (sets : DumpSets) (kept : NotedSets) → kept_in sets ≡ kept → 198 ≤ file_count sets → AreNotedTo came kept → AreNotedTo (came ++ here ∷ []) kept
file-past came here sets kept same past noted =
    subst (AreNotedTo (came ++ here ∷ [])) same (noted-held (came ++ here ∷ []) sets (noted-past came here sets past (held came sets kept same noted)))

module _ (files : ℕ) (old : DumpSets) (count : files ≡ file_count old) (low : files < 198) (even : AreEven old) where
  all_old : HoldAll files old
  all_old = subst (λ (n : ℕ). HoldAll n old) (sym count) even.1

  pub file-room : (rate : Rate) (heads : NamedHeads) → HasRoom (track_number files) (sets_by old rate heads)
  file-room = has_rooms files old low all_old

  module _ (here : Seen) (new : DumpSets) (noted : (rate : Rate) (heads : NamedHeads) → HasNotedOne heads rate here (track_number files) (sets_by old rate heads) (sets_by new rate heads)) where
    pub file-even : AreEven new
    file-even = even-next files low here old new all_old noted

    pub file-next : (came : List Seen) (kept : NotedSets) → kept_in old ≡ kept → AreNotedTo came kept → AreNotedTo (came ++ here ∷ []) (kept_in new)
    file-next came kept same are =
        noted-held (came ++ here ∷ []) new
        (noted-next came here old new (subst (λ (n : ℕ). n < 198) count low) (held came old kept same are)
        (subst (λ (n : ℕ). (rate : Rate) (heads : NamedHeads) → HasNotedOne heads rate here (track_number n) (sets_by old rate heads) (sets_by new rate heads)) count noted))

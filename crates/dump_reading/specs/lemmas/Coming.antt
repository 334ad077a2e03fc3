-- At first no stream came of dumps, and then one more: the paths of files that
-- failed, and how many calls did.
use Rattle.std.specs.Prelude.{◌≡◌, ◌≤◌, ◌<◌, ◌⊎◌, ℕ, zero, suc, ◌+◌, ◌*◌, ◌/◌, ◌%◌, Bool, true}
use Rattle.std.specs.Prelude.{false, cond, flat_map, get_or, length, option_map, List, [], ◌∷◌}
use Rattle.std.specs.Prelude.{◌++◌, Option, Some, None, refl}
use Rattle.std.specs.List.{range_with_len}
use Rattle.std.proofs.Common.{ap, sym, subst, ◌∙◌, arith, append-nil, append_assoc, inl, inr}
use Rattle.std.proofs.Common.{length-append}
use Rattle.std.proofs.lemmas.Bool.{cases_lt}
use Rattle.std.proofs.lemmas.List.{get_or_append_left}
use Rattle.std.proofs.lemmas.List.Concat.{flat_map-append}
use Rattle.std.proofs.lemmas.List.Sums.{sum_by_push}
use Rattle.std.proofs.lemmas.Nat.{div-mul-add, mod-mul-add}
use Rattle.flux_base.specs.Counts.{Counts, FaultCounts, RoseIf}
use Rattle.flux_base.specs.Outside.{IsCounted, Rose, one_more, risen}
use Rattle.flux_base.specs.declared.track.TrackId.{TrackId}
use Rattle.flux_engine.specs.LoopProgress.{lost_count, seen_at}
use Rattle.flux_engine.specs.Plans.{Seen, is_failed}
use Rattle.flux_engine.specs.lemmas.Pieces.{range-more}
use Rattle.track_shelf.specs.Files.{File, risen_by}
use Rattle.track_shelf.specs.Handled.{Handled, more_blamed}
use Rattle.track_shelf.specs.Told.{ShelfTold, with_failed}
use Rattle.dump_reading.specs.DumpStreams.{DumpTracks, GaveOf, HaveComeOf, IsOrFailed, failed_path}
use Rattle.dump_reading.specs.DumpStreams.{failed_paths, path_at, path_in, seen_of, track_in}
use Rattle.dump_reading.specs.Files.{CountsMany, ShelfNow, failed_more}

abbrev no_seen : Seen
no_seen = record { fault = None; passed = None; times = []; indexes = [] }

-- that no file failed changes nothing
none-blamed : (h : Option Handled) → h ≡ option_map (more_blamed []) h
none-blamed None = refl
none-blamed (Some h) =
    ap (λ (paths : List (List ℕ)). Some (record h { blamed = paths })) (sym (append-nil h.blamed))

pub none-failed : (told : ShelfTold) → told ≡ with_failed [] told
none-failed told =
    ap (λ (h : Option Handled). record told { handled = h }) (none-blamed told.handled)

no-more : (failed : Option ℕ) → failed ≡ failed_more 0 failed
no-more None = refl
no-more (Some count) = refl

pub none_came : (of : DumpTracks) (now : ShelfNow) → HaveComeOf of now now []
none_came of now = record {
  told = none-failed now.told;
  counts = record {
    later = omega arith;
    cause = λ some. absurd (omega (arith, some));
    counted = no-more now.counts.failed;
  };
  are = λ files is n dump few within below. absurd (omega (arith, below));
}

-- files that failed, and then others
blamed-both : (xs ys : List (List ℕ)) (h : Option Handled)
    → option_map (more_blamed ys) (option_map (more_blamed xs) h)
    ≡ option_map (more_blamed (xs ++ ys)) h
blamed-both xs ys None = refl
blamed-both xs ys (Some h) =
    ap (λ (paths : List (List ℕ)). Some (record h { blamed = paths })) (append_assoc h.blamed xs ys)

pub failed-both : (xs ys : List (List ℕ)) (told : ShelfTold)
    → with_failed ys (with_failed xs told) ≡ with_failed (xs ++ ys) told
failed-both xs ys told =
    ap (λ (h : Option Handled). record told { handled = h }) (blamed-both xs ys told.handled)

-- so many calls failed, and one more or none
more-counted : (often : ℕ) (fails : Bool) (before now after : Option ℕ)
    → now ≡ failed_more often before → IsCounted fails now after
    → after ≡ failed_more (often + cond fails 1 0) before
more-counted often false before now after is one =
    (let same : often + 0 ≡ often = omega arith in
    one ∙ is ∙ ap (λ (n : ℕ). failed_more n before) (sym same))
more-counted often true None now after is one = one ∙ ap (λ (f : Option ℕ). one_more f) is
more-counted often true (Some count) now after is one =
    let same : often + 1 ≡ suc often = omega arith in
    one ∙ ap (λ (f : Option ℕ). one_more f) is
    ∙ ap (λ (n : ℕ). failed_more n (Some count)) (sym same)

-- a list from a range, by what it has at each number
pub flat-same : {X : Type 0} (f g : ℕ → List X) (first count : ℕ)
    → ((i : ℕ) → i < first + count → f i ≡ g i)
    → flat_map f (range_with_len first count) ≡ flat_map g (range_with_len first count)
flat-same f g first zero same = refl
flat-same f g first (suc count) same =
    ap (λ (xs : List _). xs ++ flat_map f (range_with_len (first + 1) count))
    (same first (omega arith))
    ∙ ap (λ (ys : List _). g first ++ ys)
    (flat-same f g (first + 1) count (λ i low. same i (omega (arith, low))))

module _ (of : DumpTracks) (before : List Seen) (here : Seen) where
  abbrev more : List Seen
  more = before ++ here ∷ []

  abbrev k : ℕ
  k = length before

  last-is : seen_at more k ≡ here
  last-is = by before
    where
      by : (xs : List Seen) → get_or (xs ++ here ∷ []) (length xs) no_seen ≡ here
      by [] = refl
      by (x ∷ xs) = by xs

  -- the paths of those that failed
  pub paths-more : failed_paths of more
      ≡ failed_paths of before ++ cond (is_failed here.passed) (path_at of k ∷ []) []
  paths-more =
      let size : length more ≡ k + 1 = length-append before (here ∷ []) in
      let zero_k : 0 + k ≡ k = omega arith in
      ap (λ (n : ℕ). flat_map (failed_path of more) (range_with_len 0 n)) size
      ∙ ap (flat_map (failed_path of more)) (range-more 0 k)
      ∙ flat_map-append (failed_path of more) (range_with_len 0 k) ((0 + k) ∷ [])
      ∙ ap (λ (xs : List (List ℕ)). xs ++ flat_map (failed_path of more) ((0 + k) ∷ []))
      (flat-same (failed_path of more) (failed_path of before) 0 k
      (λ i low.
      ap (λ (s : Seen). cond (is_failed s.passed) (path_at of i ∷ []) [])
      (get_or_append_left before (here ∷ []) no_seen i (omega (arith, low)))))
      ∙ ap (λ (xs : List (List ℕ)). failed_paths of before ++ xs)
      (append-nil (failed_path of more (0 + k)) ∙ ap (failed_path of more) zero_k
      ∙ ap (λ (s : Seen). cond (is_failed s.passed) (path_at of k ∷ []) []) last-is)

  pub lost-more : lost_count more ≡ lost_count before + cond (is_failed here.passed) 1 0
  lost-more = sum_by_push (λ (s : Seen). cond (is_failed s.passed) 1 0) before here

-- what the counts did, and one call more
more-faults : (often : ℕ) (fails : Bool) (old now new : ℕ) → (0 < often → Rose old now) → old ≤ now
    → now ≤ new → RoseIf fails now new → 0 < often + cond fails 1 0 → Rose old new
more-faults often true old now new before first later rose some = omega (arith, first, rose)
more-faults often false old now new before first later rose some =
    let was : 0 < often = omega (arith, some) in
    let risen_then = before was in
    omega (arith, risen_then, later)

pub counts-more : (often : ℕ) (fails : Bool) (old now new : FaultCounts) → CountsMany often old now
    → Counts fails now new → CountsMany (often + cond fails 1 0) old new
counts-more often fails old now new many one = record {
  later = omega (arith, many.later, one.later);
  cause = λ some.
      more-faults often fails old.faults now.faults new.faults many.cause many.later one.later
      one.cause some;
  counted = more-counted often fails old.failed now.failed new.failed many.counted one.counted;
}

-- so many calls failed, and then so many again
risen-both : (often again count : ℕ)
    → risen_by again (risen_by often count) ≡ risen_by (often + again) count
risen-both often zero count = ap (λ (n : ℕ). risen_by n count) (omega arith)
risen-both often (suc again) count =
    let next : suc (often + again) ≡ often + suc again = omega arith in
    ap (λ (n : ℕ). risen n) (risen-both often again count) ∙ ap (λ (n : ℕ). risen_by n count) next

failed-more-both : (often again : ℕ) (failed : Option ℕ)
    → failed_more again (failed_more often failed) ≡ failed_more (often + again) failed
failed-more-both often again None = refl
failed-more-both often again (Some count) = ap (λ (n : ℕ). Some n) (risen-both often again count)

pub counts-both : (often again : ℕ) {old mid new : FaultCounts} → CountsMany often old mid
    → CountsMany again mid new → CountsMany (often + again) old new
counts-both often again {old} {mid} {new} first after = record {
  later = omega (arith, first.later, after.later);
  cause = λ some. rose some (cases_lt 0 often);
  counted = after.counted ∙ ap (failed_more again) first.counted
      ∙ failed-more-both often again old.failed;
}
  where
    rose : 0 < often + again → (0 < often) ⊎ (often ≤ 0) → Rose old.faults new.faults
    rose some (inl any) =
        (let risen_then = first.cause any in omega (arith, risen_then, after.later))
    rose some (inr none) =
        let any : 0 < again = omega (arith, some, none) in
        let risen_now = after.cause any in
        omega (arith, first.later, risen_now)

-- one stream more came
module _ (of : DumpTracks) (start now : ShelfNow) (before : List Seen) where
  pub came-next : (number capture : ℕ) → capture < of.count
      → length before ≡ number * of.count + capture → HaveComeOf of start now before
      → (next : ShelfNow) (here : Seen)
      → next.told
      ≡ with_failed
      (cond (is_failed here.passed)
      (path_in of.stepping of.dumps (of.track_of number) capture ∷ []) []) now.told
      → Counts (is_failed here.passed) now.counts next.counts
      → ((files : List File) → start.told.files ≡ Some files → capture < length of.dumps
      → IsOrFailed here
      (seen_of (track_in of.stepping of.dumps files (of.track_of number) capture)))
      → HaveComeOf of start next (before ++ here ∷ [])
  came-next number capture low size came next here told counted is = record {
    told =
        told ∙ ap (with_failed one) came.told ∙ failed-both (failed_paths of before) one start.told
        ∙ ap (λ (paths : List (List ℕ)). with_failed paths start.told)
        (ap
        (λ (path : List ℕ).
        failed_paths of before ++ cond (is_failed here.passed) (path ∷ []) []) path_same
        ∙ sym (paths-more of before here));
    counts =
        subst (λ (n : ℕ). CountsMany n start.counts next.counts) (sym (lost-more of before here))
        (counts-more (lost_count before) (is_failed here.passed) start.counts now.counts next.counts
        came.counts counted);
    are = λ files known n dump few within below.
        by files known n dump few within below (cases_lt (n * of.count + dump) (length before));
  }
    where
      one : List (List ℕ)
      one = cond (is_failed here.passed)
          (path_in of.stepping of.dumps (of.track_of number) capture ∷ []) []

      path_same : path_in of.stepping of.dumps (of.track_of number) capture
          ≡ path_at of (length before)
      path_same =
          let quotient : length before / of.count ≡ number =
          ap (λ (i : ℕ). i / of.count) size ∙ div-mul-add number of.count capture low in
          let remainder : length before % of.count ≡ capture =
          ap (λ (i : ℕ). i % of.count) size ∙ mod-mul-add number of.count capture low in
          sym
          (ap
          (λ (n : ℕ). path_in of.stepping of.dumps (of.track_of n) (length before % of.count))
          quotient
          ∙ ap (path_in of.stepping of.dumps (of.track_of number)) remainder)

      Told : List File → ℕ → ℕ → Type 0
      Told files n dump = IsOrFailed (seen_at (before ++ here ∷ []) (n * of.count + dump))
          (seen_of (track_in of.stepping of.dumps files (of.track_of n) dump))

      by : (files : List File) → start.told.files ≡ Some files → (n dump : ℕ)
          → dump < length of.dumps → dump < of.count
          → n * of.count + dump < length (before ++ here ∷ [])
          → (n * of.count + dump < length before) ⊎ (length before ≤ n * of.count + dump)
          → Told files n dump
      by files known n dump few within below (inl less) =
          subst
          (λ (s : Seen).
          IsOrFailed s
          (seen_of (track_in of.stepping of.dumps files (of.track_of n) dump)))
          (sym (get_or_append_left before (here ∷ []) no_seen (n * of.count + dump) less))
          (came.are files known n dump few within less)
      by files known n dump few within below (inr past) =
          let long : length (before ++ here ∷ []) ≡ length before + 1 =
          length-append before (here ∷ []) in
          let place : n * of.count + dump ≡ length before = omega (arith, below, past, long) in
          let same : n * of.count + dump ≡ number * of.count + capture = place ∙ size in
          let track : n ≡ number =
          sym (div-mul-add n of.count dump within) ∙ ap (λ (i : ℕ). i / of.count) same
          ∙ div-mul-add number of.count capture low in
          let there : dump ≡ capture =
          sym (mod-mul-add n of.count dump within) ∙ ap (λ (i : ℕ). i % of.count) same
          ∙ mod-mul-add number of.count capture low in
          subst
          (λ (s : Seen).
          IsOrFailed s
          (seen_of (track_in of.stepping of.dumps files (of.track_of n) dump)))
          (sym (ap (seen_at (before ++ here ∷ [])) place ∙ last-is of before here))
          (subst
          (λ (m : ℕ).
          IsOrFailed here
          (seen_of (track_in of.stepping of.dumps files (of.track_of m) dump)))
          (sym track)
          (subst
          (λ (q : ℕ).
          IsOrFailed here
          (seen_of (track_in of.stepping of.dumps files (of.track_of number) q)))
          (sym there)
          (is files known (subst (λ (q : ℕ). q < length of.dumps) there few))))

-- one file more was read
pub came-gave : (of : DumpTracks) (start now : ShelfNow) (before : List Seen) (number capture : ℕ)
    → capture < of.count → length before ≡ number * of.count + capture
    → HaveComeOf of start now before → (track : TrackId) → of.track_of number ≡ track
    → (next : ShelfNow) (here : Seen) → GaveOf of.stepping of.dumps track capture now next here
    → HaveComeOf of start next (before ++ here ∷ [])
came-gave of start now before number capture low size came track same next here gave =
    came-next of start now before number capture low size came next here
    (subst
    (λ (t : TrackId).
    next.told
    ≡ with_failed
    (cond (is_failed here.passed) (path_in of.stepping of.dumps t capture ∷ []) []) now.told)
    (sym same) gave.told) gave.counts
    (λ files known few.
    subst
    (λ (t : TrackId).
    IsOrFailed here (seen_of (track_in of.stepping of.dumps files t capture)))
    (sym same)
    (gave.is files (ap (λ (t : ShelfTold). t.files) came.told ∙ known) few))

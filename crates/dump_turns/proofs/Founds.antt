-- One file more was found, and its lines.
use Rattle.std.proofs.Common.{◌≡◌, ◌≤◌, ◌<◌, ◌⊎◌, ◌+◌, ◌++◌, ℕ, List, [], ◌∷◌, length, take, Option, Some, None, get_or, refl, sym, ap, subst, ◌∙◌, inl, inr, arith, length-append}
use Rattle.std.specs.Prelude.{flat_map}
use Rattle.std.specs.List.{range_with_len}
use Rattle.std.proofs.lemmas.Bool.{cases_lt}
use Rattle.std.proofs.lemmas.List.{get_or_append_left, get_or_default}
use Rattle.std.proofs.KnownBytes.{Appends-trans}
use Rattle.std.specs.Io.KnownBytes.{Appends}
use Rattle.flux_base.specs.Outside.{AppendsPart}
use Rattle.flux_base.specs.declared.track.TrackId.{TrackId}
use Rattle.track_shelf.specs.Files.{File, dump_track}
use Rattle.track_shelf.specs.Told.{ShelfTold}
use Rattle.sector_report.specs.declared.dump_lines.Passed.TheVariants.{Absent}
use Rattle.flux_engine.specs.Answers.{AppendsAndPart}
use Rattle.flux_engine.specs.LoopProgress.{seen_at}
use Rattle.flux_engine.specs.Plans.{Seen}
use Rattle.flux_engine.specs.lemmas.Pieces.{pieces-more}
use Rattle.dump_reading.specs.Files.{ShelfNow}
use Rattle.dump_reading.specs.lemmas.Coming.{came-gave, flat-same, none_came}
use Rattle.dump_turns.specs.Files.{AreFound, HasSize, IsToldOf, found_at}
use Rattle.dump_turns.specs.Lines.{far_mean, file_lines, found_text, line_at, uneven_at, uneven_text}
use Rattle.dump_turns.specs.Reaches.{of_dump, track_number}
use Rattle.dump_turns.specs.declared.found.Found.{Found}
use Rattle.dump_turns.specs.declared.found.Found.TheVariants.{PassedOver}
use Rattle.dump_turns.specs.declared.reach.Reach.{Reach}
use Rattle.dump_turns.specs.inside.Opened.{FindsOne}

-- some bytes were written, and a part of some more
pub and-part : (old mid new : Option (List ℕ)) (whole more : List ℕ) → Appends old mid whole → AppendsPart mid new more → AppendsAndPart old new whole more
and-part old mid new whole more before (n, low, here) = (n, low, Appends-trans old mid new whole (take n more) before here)

-- the last one
last-of : {X : Type 0} (xs : List X) (x d : X) (n : ℕ) → n ≡ length xs → get_or (xs ++ x ∷ []) n d ≡ x
last-of xs x d n at = ap (λ (k : ℕ). get_or (xs ++ x ∷ []) k d) at ∙ by xs
  where
    by : (ys : List _) → get_or (ys ++ x ∷ []) (length ys) d ≡ x
    by [] = refl
    by (y ∷ ys) = by ys

module _ (dump : List ℕ) (reach : Reach) (start : ShelfNow) where
  -- none was read
  pub none-found : AreFound dump reach start start []
  none-found = record {
    came = [];
    many = refl;
    have = none_came (of_dump dump reach) start;
    told = λ n below. absurd (omega (arith, below));
    sized = λ files known n below. absurd (omega (arith, below));
  }

  module _ (mid now : ShelfNow) (founds : List Found) (found : Found) (are : AreFound dump reach start mid founds)
      (one : FindsOne dump (track_number reach (length founds)) mid now found) where
    abbrev more : List Found
    more = founds ++ found ∷ []

    abbrev streams : List Seen
    streams = are.came ++ one.here ∷ []

    abbrev no_seen : Seen
    no_seen = record { fault = None; passed = None; times = []; indexes = [] }

    told-next : (n : ℕ) → n < length more → (n < length founds) ⊎ (length founds ≤ n) → IsToldOf (seen_at streams n) (found_at more n)
    told-next n below (inl less) =
        let less_came : n < length are.came = omega (arith, less, are.many) in
        subst (λ (s : Seen). IsToldOf s (found_at more n)) (sym (get_or_append_left are.came (one.here ∷ []) no_seen n less_came))
        (subst (λ (f : Found). IsToldOf (seen_at are.came n) f) (sym (get_or_append_left founds (found ∷ []) (PassedOver Absent) n less)) (are.told n less))
    told-next n below (inr past) =
        let long : length more ≡ length founds + 1 = length-append founds (found ∷ []) in
        let at : n ≡ length founds = omega (arith, below, past, long) in
        subst (λ (s : Seen). IsToldOf s (found_at more n)) (sym (last-of are.came one.here no_seen n (at ∙ sym are.many)))
        (subst (λ (f : Found). IsToldOf one.here f) (sym (last-of founds found (PassedOver Absent) n at)) one.told)

    same-files : mid.told.files ≡ start.told.files
    same-files = ap (λ (t : ShelfTold). t.files) are.have.told

    sized-next : (files : List File) → start.told.files ≡ Some files → (n : ℕ) → n < length more → (n < length founds) ⊎ (length founds ≤ n)
        → HasSize (dump_track files dump (track_number reach n)) (found_at more n)
    sized-next files known n below (inl less) =
        subst (HasSize (dump_track files dump (track_number reach n))) (sym (get_or_append_left founds (found ∷ []) (PassedOver Absent) n less))
        (are.sized files known n less)
    sized-next files known n below (inr past) =
        let long : length more ≡ length founds + 1 = length-append founds (found ∷ []) in
        let at : n ≡ length founds = omega (arith, below, past, long) in
        subst (HasSize (dump_track files dump (track_number reach n))) (sym (last-of founds found (PassedOver Absent) n at))
        (subst (λ (k : ℕ). HasSize (dump_track files dump (track_number reach k)) found) (sym at) (one.sized files (same-files ∙ known)))

    -- one more was
    pub found-next : AreFound dump reach start now more
    found-next = record {
      came = streams;
      many = length-append are.came (one.here ∷ []) ∙ ap (λ (k : ℕ). k + 1) are.many ∙ sym (length-append founds (found ∷ []));
      have = came-gave (of_dump dump reach) start mid are.came (length founds) 0 (omega arith) (omega (arith, are.many)) are.have
          (track_number reach (length founds)) refl now one.here one.gave;
      told = λ n below. told-next n below (cases_lt n (length founds));
      sized = λ files known n below. sized-next files known n below (cases_lt n (length founds));
    }

  -- the one of a number
  pub found-more : (mid now : ShelfNow) (founds : List Found) (found : Found) (number : ℕ) (name : List ℕ) (track : TrackId) → length founds ≡ number → name ≡ dump
      → track ≡ track_number reach number → AreFound dump reach start mid founds → FindsOne name track mid now found → AreFound dump reach start now (founds ++ found ∷ [])
  found-more mid now founds found number name track many named is are one =
      found-next mid now founds found are
      (subst (λ (t : TrackId). FindsOne dump t mid now found) (is ∙ ap (track_number reach) (sym many)) (subst (λ (d : List ℕ). FindsOne d track mid now found) named one))

module _ (reach : Reach) (founds : List Found) (found : Found) where
  -- its line stands behind those before
  lines-next : file_lines reach (founds ++ found ∷ []) ≡ file_lines reach founds ++ found_text (track_number reach (length founds)) found
  lines-next =
      let long : length (founds ++ found ∷ []) ≡ length founds + 1 = length-append founds (found ∷ []) in
      let zero_at : 0 + length founds ≡ length founds = omega arith in
      ap (λ (n : ℕ). flat_map (line_at reach (founds ++ found ∷ [])) (range_with_len 0 n)) long
      ∙ pieces-more (line_at reach (founds ++ found ∷ [])) 0 (length founds)
      ∙ ap (λ (xs : List ℕ). xs ++ line_at reach (founds ++ found ∷ []) (0 + length founds))
      (flat-same (line_at reach (founds ++ found ∷ [])) (line_at reach founds) 0 (length founds)
      (λ i low. ap (found_text (track_number reach i)) (get_or_append_left founds (found ∷ []) (PassedOver Absent) i (omega (arith, low)))))
      ∙ ap (λ (xs : List ℕ). file_lines reach founds ++ xs)
      (ap (line_at reach (founds ++ found ∷ [])) zero_at
      ∙ ap (found_text (track_number reach (length founds))) (last-of founds found (PassedOver Absent) (length founds) refl))

  module _ (number : ℕ) (track : TrackId) (many : length founds ≡ number) (is : track ≡ track_number reach number) (old mid new : Option (List ℕ)) where
    same-line : found_text track found ≡ found_text (track_number reach (length founds)) found
    same-line = ap (λ (t : TrackId). found_text t found) (is ∙ ap (track_number reach) (sym many))

    -- it was written
    pub lines-more : Appends old mid (file_lines reach founds) → Appends mid new (found_text track found) → Appends old new (file_lines reach (founds ++ found ∷ []))
    lines-more before here =
        subst (Appends old new) (ap (λ (xs : List ℕ). file_lines reach founds ++ xs) same-line ∙ sym lines-next)
        (Appends-trans old mid new (file_lines reach founds) (found_text track found) before here)

    -- a part of it was
    pub line-cut : Appends old mid (file_lines reach founds) → AppendsPart mid new (found_text track found)
        → AppendsAndPart old new (file_lines reach founds) (found_text (track_number reach (length founds)) found)
    line-cut before here = subst (AppendsAndPart old new (file_lines reach founds)) same-line (and-part old mid new (file_lines reach founds) (found_text track found) before here)

-- and so does the line that its mean is far from the median
pub uneven-piece : (reach : Reach) (founds : List Found) (median n : ℕ) (track : TrackId) → track ≡ track_number reach n → (d : Found) → n < length founds
    → uneven_text track (far_mean median (get_or founds n d)) ≡ uneven_at reach founds median (0 + n)
uneven-piece reach founds median n track is d below =
    let zero_at : n ≡ 0 + n = omega arith in
    ap (λ (t : TrackId). uneven_text t (far_mean median (get_or founds n d))) is
    ∙ ap (λ (f : Found). uneven_text (track_number reach n) (far_mean median f)) (get_or_default founds n d (PassedOver Absent) below)
    ∙ ap (uneven_at reach founds median) zero_at

-- What is noted of a file, by its begin and what was read of it.
use Rattle.std.proofs.Common.{◌≡◌, ◌≤◌, ◌+◌, ◌%◌, ◌++◌, if◌then◌else◌, ℕ, Bool, true, false, List, [], ◌∷◌, length, take, drop, nat_lt, Option, Some, None, refl, sym, ap, subst, ◌∙◌, inl, inr, arith, append-nil, length-drop}
use Rattle.std.proofs.lemmas.Bool.{cases_lt}
use Rattle.std.proofs.lemmas.Bool.Decides.{nat_tests}
use Rattle.std.proofs.lemmas.List.{length-take, map-id}
use Rattle.std.proofs.lemmas.List.Elements.{filter_map-append}
use Rattle.std.proofs.lemmas.List.FromFn.{map-range_with_len_more}
use Rattle.std.specs.List.{cons_option, filter_map, range_with_len, sum}
use Rattle.std.specs.Option.{option_and_then, option_map}
use Rattle.track_shelf.specs.Files.{File}
use Rattle.scp_files.specs.Files.{FRONT_SIZE, file_fault, revolutions_of, track_offset, wanted_sum}
use Rattle.scp_files.specs.Laws.{FileBeginTells}
use Rattle.scp_files.specs.Tracks.{track_fault}
use Rattle.scp_files.specs.declared.fault.ScpFault.{ScpFault}
use Rattle.scp_tracks.specs.Tracks.{IsBeginOf}
use Rattle.scp_notes.specs.Files.{all_notes, differing, early_end, early_end_at, no_notes, notes_in, notes_unless, short_sum, sums_of, told_sum, whole_before}
use Rattle.scp_notes.specs.declared.early.EarlyEnd.{EarlyEnd}
use Rattle.scp_notes.specs.inside.Walk.{ends_by}

-- what stands behind the header is short where the file is
same-test : (file : List ℕ) → 16 ≤ length file → nat_lt (length (drop 16 file)) 4294967280 ≡ nat_lt (length file) 4294967296
same-test file sized =
    let size = length-drop 16 file in
    elim (cases_lt (length file) 4294967296) [
      | inl less ↦
          let short : nat_lt (length (drop 16 file)) 4294967280 ≡ true = grind (arith, nat_tests, less, size, sized) in
          let few : nat_lt (length file) 4294967296 ≡ true = grind (arith, nat_tests, less) in
          short ∙ sym few
      | inr more ↦
          let long : nat_lt (length (drop 16 file)) 4294967280 ≡ false = grind (arith, nat_tests, more, size, sized) in
          let many : nat_lt (length file) 4294967296 ≡ false = grind (arith, nat_tests, more) in
          long ∙ sym many
    ]

same-sum : (file : List ℕ) → 16 ≤ length file → short_sum (drop 16 file) ≡ told_sum file
same-sum file sized = ap (λ (b : Bool). if b then Some (sum (drop 16 file) % 4294967296) else None) (same-test file sized)

module _ (tells : (file : List ℕ) → FileBeginTells file) (file header : List ℕ) (front : header ≡ take FRONT_SIZE file) where
  wanted-is : (wanted : Option ℕ) → wanted ≡ wanted_sum header → wanted_sum file ≡ wanted
  wanted-is wanted is = sym (tells file).sum ∙ ap wanted_sum (sym front) ∙ sym is

  -- no sum is wanted
  pub unwanted : None ≡ wanted_sum header → None ≡ sums_of file
  unwanted none = sym (ap (option_and_then (λ w. differing w (told_sum file))) (wanted-is None none))

  -- one is, and this is the file's
  pub compared : (wanted : ℕ) (it : Option ℕ) → 16 ≤ length header → Some wanted ≡ wanted_sum header → it ≡ short_sum (drop 16 file)
      → differing wanted it ≡ sums_of file
  compared wanted it sized some is =
      let long : 16 ≤ length file = omega (arith, sized, ap length front, length-take FRONT_SIZE file) in
      ap (differing wanted) (is ∙ same-sum file long)
      ∙ sym (ap (option_and_then (λ w. differing w (told_sum file))) (wanted-is (Some wanted) some))

  offset-is : (n : ℕ) (offset : Option ℕ) → offset ≡ track_offset header n → track_offset file n ≡ offset
  offset-is n offset is = sym ((tells file).tracks n) ∙ ap (λ h. track_offset h n) (sym front) ∙ sym is

  -- the tracks up to a number, and the next
  range-more : (n : ℕ) → range_with_len 0 (n + 1) ≡ range_with_len 0 n ++ n ∷ []
  range-more n =
      sym (map-id (range_with_len 0 (n + 1))) ∙ map-range_with_len_more (λ (k : ℕ). k) 0 n n (omega arith)
      ∙ ap (λ (ks : List ℕ). ks ++ n ∷ []) (map-id (range_with_len 0 n))

  ends-more : (n : ℕ) (end : Option EarlyEnd) → early_end file n ≡ end
      → filter_map (early_end file) (range_with_len 0 (n + 1)) ≡ filter_map (early_end file) (range_with_len 0 n) ++ cons_option end []
  ends-more n end is =
      ap (filter_map (early_end file)) (range-more n) ∙ filter_map-append (early_end file) (range_with_len 0 n) (n ∷ [])
      ∙ ap (λ (e : Option EarlyEnd). filter_map (early_end file) (range_with_len 0 n) ++ cons_option e []) is

  module _ (ends : List EarlyEnd) (n : ℕ) (so_far : ends ≡ filter_map (early_end file) (range_with_len 0 n)) where
    none-behind : early_end file n ≡ None → ends ≡ filter_map (early_end file) (range_with_len 0 (n + 1))
    none-behind is = so_far ∙ sym (append-nil (filter_map (early_end file) (range_with_len 0 n))) ∙ sym (ends-more n None is)

    -- the file has no such track
    pub no-track : None ≡ track_offset header n → ends ≡ filter_map (early_end file) (range_with_len 0 (n + 1))
    no-track none = none-behind (ap (option_and_then (early_end_at file n)) (offset-is n None none))

    module _ (offset revolutions : ℕ) (there : Some offset ≡ track_offset header n) (by_header : revolutions ≡ revolutions_of header) where
      end-is : (whole : Option ℕ) → whole ≡ whole_before (track_fault revolutions n (drop offset file))
          → early_end file n ≡ option_map (λ w. record { number = n; whole = w }) whole
      end-is whole is =
          let same : revolutions ≡ revolutions_of file = by_header ∙ ap revolutions_of front ∙ (tells file).revolutions in
          ap (option_and_then (early_end_at file n)) (offset-is n (Some offset) there)
          ∙ sym (ap (option_map (λ w. record { number = n; whole = w }))
          (is ∙ ap (λ r. whole_before (track_fault r n (drop offset file))) same))

      by-cases : (whole : Option ℕ) → cons_option (option_map (λ w. record { number = n; whole = w }) whole) [] ≡ ends_by n whole
      by-cases None = refl
      by-cases (Some whole) = refl

      -- it ends early, or does not
      pub track-more : (whole : Option ℕ) → whole ≡ whole_before (track_fault revolutions n (drop offset file))
          → ends ++ ends_by n whole ≡ filter_map (early_end file) (range_with_len 0 (n + 1))
      track-more whole is =
          ap (λ (es : List EarlyEnd). es ++ ends_by n whole) so_far
          ∙ sym (ends-more n (option_map (λ w. record { number = n; whole = w }) whole) (end-is whole is)
          ∙ ap (λ (es : List EarlyEnd). filter_map (early_end file) (range_with_len 0 n) ++ es) (by-cases whole))

-- a file by its begin: there is none
pub none-there : (at : Option File) (begin : Option (List ℕ)) → begin ≡ None → IsBeginOf at begin → no_notes ≡ notes_in at
none-there at begin is begins = by at (subst (IsBeginOf at) is begins)
  where
    by : (it : Option File) → IsBeginOf it None → no_notes ≡ notes_in it
    by None b = refl
    by (Some file) b = absurd b

-- or this one
pub of-begin : (at : Option File) (begin : Option (List ℕ)) (header : List ℕ) → begin ≡ Some header → IsBeginOf at begin
    → (file : File) × (at ≡ Some file) × (header ≡ take FRONT_SIZE file.bytes)
of-begin at begin header is begins = by at (subst (IsBeginOf at) is begins)
  where
    by : (it : Option File) → IsBeginOf it (Some header) → (file : File) × (it ≡ Some file) × (header ≡ take FRONT_SIZE file.bytes)
    by None b = absurd b
    by (Some file) b = (file, refl, b)

module _ (tells : (file : List ℕ) → FileBeginTells file) (at : Option File) (begin : Option (List ℕ)) (header : List ℕ) (is : begin ≡ Some header)
    (begins : IsBeginOf at begin) where
  notes-are : (fault : Option ScpFault) → fault ≡ file_fault header
      → notes_in at ≡ notes_unless fault (all_notes (of-begin at begin header is begins).0.bytes)
  notes-are fault why =
      let p = of-begin at begin header is begins in
      ap notes_in p.1
      ∙ ap (λ (f : Option ScpFault). notes_unless f (all_notes p.0.bytes)) (sym (tells p.0.bytes).fault ∙ ap file_fault (sym p.2) ∙ sym why)

  -- it has a fault, or none
  pub refused-is : (fault : ScpFault) → Some fault ≡ file_fault header → no_notes ≡ notes_in at
  refused-is fault why = sym (notes-are (Some fault) why)

  pub fine-is : None ≡ file_fault header → notes_in at ≡ all_notes (of-begin at begin header is begins).0.bytes
  fine-is none = notes-are None none

-- Where a sync can stand: it is sought in what is known of the cells.
use Rattle.std.specs.Prelude.{◌≡◌, ℕ, zero, suc, ◌+◌, ◌-◌, ◌*◌, ◌<◌, ◌≤◌, Bool, true, false, ◌&&◌}
use Rattle.std.specs.Prelude.{List, [], ◌∷◌, ◌++◌, length, take, drop, map, Option, Some, None}
use Rattle.std.specs.Prelude.{refl}
use Rattle.std.specs.List.{flat_map, range_with_len}
use Rattle.std.proofs.Common.{ap, sym, subst, ◌∙◌, arith, inl, inr, append_assoc, length-append}
use Rattle.std.proofs.lemmas.Bool.{cases_lt}
use Rattle.std.proofs.lemmas.List.{drop-drop}
use Rattle.track_rings.specs.lemmas.Fronts.{AgreeTo}
use Rattle.track_rings.specs.lemmas.Parts.{drop-past}

-- such cells stand at the front
unfoldable pub fits : List (Option Bool) → List Bool → Bool
fits [] cells = true
fits (known ∷ pattern) [] = false
fits (None ∷ pattern) (cell ∷ cells) = fits pattern cells
fits (Some true ∷ pattern) (true ∷ cells) = fits pattern cells
fits (Some true ∷ pattern) (false ∷ cells) = false
fits (Some false ∷ pattern) (true ∷ cells) = false
fits (Some false ∷ pattern) (false ∷ cells) = fits pattern cells

-- a cell that is a one in the first pattern and a zero in the second, or the other way
unfoldable pub clashes : List (Option Bool) → List (Option Bool) → Bool
clashes [] others = false
clashes (known ∷ pattern) [] = false
clashes (None ∷ pattern) (other ∷ others) = clashes pattern others
clashes (Some true ∷ pattern) (None ∷ others) = clashes pattern others
clashes (Some true ∷ pattern) (Some true ∷ others) = clashes pattern others
clashes (Some true ∷ pattern) (Some false ∷ others) = true
clashes (Some false ∷ pattern) (None ∷ others) = clashes pattern others
clashes (Some false ∷ pattern) (Some true ∷ others) = true
clashes (Some false ∷ pattern) (Some false ∷ others) = clashes pattern others

-- the first pattern, from each of so many first places of the second on
unfoldable pub clashes_at_all : List (Option Bool) → ℕ → List (Option Bool) → Bool
clashes_at_all sync zero known = true
clashes_at_all sync (suc count) [] = false
clashes_at_all sync (suc count) (cell ∷ known) =
    clashes sync (cell ∷ known) && clashes_at_all sync count known

-- both parts of a test
pub both_true : (a b : Bool) → (a && b) ≡ true → (a ≡ true) × (b ≡ true)
both_true true b holds = (refl, holds)
both_true false b holds = absurd (cc)

pub clashes-not : (pattern others : List (Option Bool)) (cells : List Bool)
    → clashes pattern others ≡ true → fits pattern cells ≡ true
    → ¬ (fits others cells ≡ true)
unfolding fits clashes
clashes-not [] others cells clash first second = cc
clashes-not (known ∷ pattern) [] cells clash first second = cc
clashes-not (known ∷ pattern) (other ∷ others) [] clash first second = cc
clashes-not (None ∷ pattern) (None ∷ others) (cell ∷ cells) clash first second =
    clashes-not pattern others cells clash first second
clashes-not (None ∷ pattern) (Some true ∷ others) (true ∷ cells) clash first second =
    clashes-not pattern others cells clash first second
clashes-not (None ∷ pattern) (Some true ∷ others) (false ∷ cells) clash first second = cc
clashes-not (None ∷ pattern) (Some false ∷ others) (true ∷ cells) clash first second = cc
clashes-not (None ∷ pattern) (Some false ∷ others) (false ∷ cells) clash first second =
    clashes-not pattern others cells clash first second
clashes-not (Some true ∷ pattern) (other ∷ others) (false ∷ cells) clash first second = cc
clashes-not (Some true ∷ pattern) (None ∷ others) (true ∷ cells) clash first second =
    clashes-not pattern others cells clash first second
clashes-not (Some true ∷ pattern) (Some true ∷ others) (true ∷ cells) clash first second =
    clashes-not pattern others cells clash first second
clashes-not (Some true ∷ pattern) (Some false ∷ others) (true ∷ cells) clash first second = cc
clashes-not (Some false ∷ pattern) (other ∷ others) (true ∷ cells) clash first second = cc
clashes-not (Some false ∷ pattern) (None ∷ others) (false ∷ cells) clash first second =
    clashes-not pattern others cells clash first second
clashes-not (Some false ∷ pattern) (Some true ∷ others) (false ∷ cells) clash first second = cc
clashes-not (Some false ∷ pattern) (Some false ∷ others) (false ∷ cells) clash first second =
    clashes-not pattern others cells clash first second

fits-rest : (known : Option Bool) (pattern : List (Option Bool)) (cell : Bool) (cells : List Bool)
    → fits (known ∷ pattern) (cell ∷ cells) ≡ true
    → fits pattern cells ≡ true
unfolding fits
fits-rest None pattern cell cells fit = fit
fits-rest (Some true) pattern true cells fit = fit
fits-rest (Some true) pattern false cells fit = absurd (cc)
fits-rest (Some false) pattern true cells fit = absurd (cc)
fits-rest (Some false) pattern false cells fit = fit

fits-none : (known : Option Bool) (pattern : List (Option Bool))
    → ¬ (fits (known ∷ pattern) [] ≡ true)
unfolding fits
fits-none known pattern fit = cc

-- the sync stands at none of the places where it clashes with what is known
pub clashes-nowhere : (sync : List (Option Bool)) (count : ℕ) (known : List (Option Bool))
    (cells : List Bool) (place : ℕ)
    → clashes_at_all sync count known ≡ true → fits known cells ≡ true → place < count
    → ¬ (fits sync (drop place cells) ≡ true)
unfolding clashes_at_all
clashes-nowhere sync zero known cells place clash fit within stands = absurd (omega arith)
clashes-nowhere sync (suc count) [] cells place clash fit within stands = cc
clashes-nowhere sync (suc count) (cell ∷ known) [] place clash fit within stands =
    fits-none cell known fit
clashes-nowhere sync (suc count) (cell ∷ known) (first ∷ cells) zero clash fit within stands =
    clashes-not sync (cell ∷ known) (first ∷ cells)
    (both_true (clashes sync (cell ∷ known)) (clashes_at_all sync count known) clash).0 stands
    fit
clashes-nowhere sync (suc count) (cell ∷ known) (first ∷ cells) (suc place) clash fit within
    stands =
    clashes-nowhere sync count known cells place
    (both_true (clashes sync (cell ∷ known)) (clashes_at_all sync count known) clash).1
    (fits-rest cell known first cells fit) (omega arith) stands

-- what is known of a list, from a place on
pub fits-drop : (place : ℕ) (pattern : List (Option Bool)) (cells : List Bool)
    → fits pattern cells ≡ true → fits (drop place pattern) (drop place cells) ≡ true
unfolding fits
fits-drop zero pattern cells fit = fit
fits-drop (suc place) [] cells fit = refl
fits-drop (suc place) (known ∷ pattern) [] fit = absurd (fits-none known pattern fit)
fits-drop (suc place) (known ∷ pattern) (cell ∷ cells) fit =
    fits-drop place pattern cells (fits-rest known pattern cell cells fit)

-- known cells, as a pattern
abbrev pub all_known : List Bool → List (Option Bool)
all_known cells = map (λ cell. Some cell) cells

pub fits-known : (word rest : List Bool) → fits (all_known word) (word ++ rest) ≡ true
unfolding fits
fits-known [] rest = refl
fits-known (true ∷ word) rest = fits-known word rest
fits-known (false ∷ word) rest = fits-known word rest

-- cells that begin with a word
pub fits-word : (word cells : List Bool) (size : ℕ) → length word ≡ size → take size cells ≡ word
    → fits (all_known word) cells ≡ true
unfolding fits
fits-word [] cells size is same = refl
fits-word (bit ∷ word) cells zero is same = absurd (omega (arith, is))
fits-word (bit ∷ word) [] (suc size) is same = absurd (cc)
fits-word (true ∷ word) (true ∷ cells) (suc size) is same =
    fits-word word cells size (omega (arith, is)) (cc)
fits-word (true ∷ word) (false ∷ cells) (suc size) is same = absurd (cc)
fits-word (false ∷ word) (true ∷ cells) (suc size) is same = absurd (cc)
fits-word (false ∷ word) (false ∷ cells) (suc size) is same =
    fits-word word cells size (omega (arith, is)) (cc)

-- what is known of cells and then of more
pub fits-append : (first others : List (Option Bool)) (xs ys : List Bool) → length first ≡ length xs
    → fits first xs ≡ true → fits others ys ≡ true
    → fits (first ++ others) (xs ++ ys) ≡ true
unfolding fits
fits-append [] others [] ys size fit more = more
fits-append [] others (cell ∷ xs) ys size fit more = absurd (omega (arith, size))
fits-append (known ∷ first) others [] ys size fit more = absurd (omega (arith, size))
fits-append (None ∷ first) others (cell ∷ xs) ys size fit more =
    fits-append first others xs ys (omega (arith, size)) fit more
fits-append (Some true ∷ first) others (true ∷ xs) ys size fit more =
    fits-append first others xs ys (omega (arith, size)) fit more
fits-append (Some true ∷ first) others (false ∷ xs) ys size fit more = absurd (cc)
fits-append (Some false ∷ first) others (true ∷ xs) ys size fit more = absurd (cc)
fits-append (Some false ∷ first) others (false ∷ xs) ys size fit more =
    fits-append first others xs ys (omega (arith, size)) fit more

-- a part of what is known
pub fits-front : (first others : List (Option Bool)) (cells : List Bool)
    → fits (first ++ others) cells ≡ true → fits first cells ≡ true
unfolding fits
fits-front [] others cells fit = refl
fits-front (known ∷ first) others [] fit = absurd (fits-none known (first ++ others) fit)
fits-front (None ∷ first) others (cell ∷ cells) fit = fits-front first others cells fit
fits-front (Some true ∷ first) others (true ∷ cells) fit = fits-front first others cells fit
fits-front (Some true ∷ first) others (false ∷ cells) fit = absurd (cc)
fits-front (Some false ∷ first) others (true ∷ cells) fit = absurd (cc)
fits-front (Some false ∷ first) others (false ∷ cells) fit = fits-front first others cells fit

-- as far as it is known, it stands in all cells that agree
pub fits-agree : (pattern : List (Option Bool)) (xs ys : List Bool) → AgreeTo (length pattern) xs ys
    → fits pattern xs ≡ true → fits pattern ys ≡ true
unfolding fits
fits-agree [] xs ys same fit = refl
fits-agree (known ∷ pattern) [] ys same fit = absurd (fits-none known pattern fit)
fits-agree (known ∷ pattern) (cell ∷ xs) [] same fit = absurd (cc)
fits-agree (None ∷ pattern) (cell ∷ xs) (other ∷ ys) same fit = fits-agree pattern xs ys (cc) fit
fits-agree (Some true ∷ pattern) (false ∷ xs) (other ∷ ys) same fit = absurd (cc)
fits-agree (Some true ∷ pattern) (true ∷ xs) (false ∷ ys) same fit = absurd (cc)
fits-agree (Some true ∷ pattern) (true ∷ xs) (true ∷ ys) same fit =
    fits-agree pattern xs ys (cc) fit
fits-agree (Some false ∷ pattern) (true ∷ xs) (other ∷ ys) same fit = absurd (cc)
fits-agree (Some false ∷ pattern) (false ∷ xs) (true ∷ ys) same fit = absurd (cc)
fits-agree (Some false ∷ pattern) (false ∷ xs) (false ∷ ys) same fit =
    fits-agree pattern xs ys (cc) fit

-- What is tested begins in the first cells at such places only, whatever it
-- takes in of the cells after them.
abbrev pub Only : (List Bool → Type 0) → (ℕ → Type 0) → List Bool → List Bool → Type 0
Only Test Here xs ys = (place : ℕ) → place < length xs → Test (drop place (xs ++ ys)) → Here place

-- it begins nowhere in them
abbrev pub Nowhere : (List Bool → Type 0) → List Bool → List Bool → Type 0
Nowhere Test xs ys = Only Test (λ place. ⊥) xs ys

-- a sync stands at the front
abbrev pub Syncs : List (Option Bool) → List Bool → Type 0
Syncs sync cells = fits sync cells ≡ true

module _ (Test : List Bool → Type 0) where
  pub only-none : (Here : ℕ → Type 0) (ys : List Bool) → Only Test Here [] ys
  only-none Here ys place within test = absurd (omega (arith, within))

  -- some cells, and then more
  pub only-append : (Here : ℕ → Type 0) (xs ys zs : List Bool) → Only Test Here xs (ys ++ zs)
      → Only Test (λ place. Here (length xs + place)) ys zs → Only Test Here (xs ++ ys) zs
  only-append Here xs ys zs first second place within test =
      let apart = append_assoc xs ys zs in
      elim (cases_lt place (length xs)) [
        | inl low ↦
            first place low (subst (λ (cells : List Bool). Test (drop place cells)) apart test)
        | inr past ↦
            let e : length xs + (place - length xs) ≡ place = omega arith in
            let inside : place - length xs < length ys =
            omega (arith, within, length-append xs ys) in
            let there = ap (λ (cells : List Bool). drop place cells) apart
            ∙ ap (λ (n : ℕ). drop n (xs ++ (ys ++ zs))) (sym e)
            ∙ drop-past xs (ys ++ zs) (length xs) (place - length xs) refl in
            subst Here e (second (place - length xs) inside (subst Test there test))
      ]

  -- at the first cell alone
  pub only-first : (cell : Bool) (xs ys : List Bool) → Nowhere Test xs ys
      → Only Test (λ place. place ≡ 0) (cell ∷ xs) ys
  only-first cell xs ys none zero within test = refl
  only-first cell xs ys none (suc place) within test =
      absurd (none place (omega (arith, within)) test)

  -- Cells in which what is tested begins at such places only, where the cells after them are as
  -- they have to be; and they give what the cells before them ask for.
  abbrev pub SyncPart : (ℕ → Type 0) → (List Bool → Type 0) → (List Bool → Type 0) → List Bool
      → Type 0
  SyncPart Here Needs Gives xs =
      (rest : List Bool) → Needs rest → Only Test Here xs rest × Gives (xs ++ rest)

  -- nowhere
  abbrev pub QuietPart : (List Bool → Type 0) → (List Bool → Type 0) → List Bool → Type 0
  QuietPart Needs Gives xs = SyncPart (λ place. ⊥) Needs Gives xs

  pub part-append : (Here : ℕ → Type 0) (Needs Middle Gives : List Bool → Type 0)
      (xs ys : List Bool)
      → SyncPart Here Middle Gives xs
      → SyncPart (λ place. Here (length xs + place)) Needs Middle ys
      → SyncPart Here Needs Gives (xs ++ ys)
  part-append Here Needs Middle Gives xs ys first second rest needs =
      let more = second rest needs in
      let one = first (ys ++ rest) more.1 in
      (only-append Here xs ys rest one.0 more.0, subst Gives (sym (append_assoc xs ys rest)) one.1)

  -- quiet cells, and then more
  pub part-skip : (Here : ℕ → Type 0) (Needs Middle Gives : List Bool → Type 0) (xs ys : List Bool)
      → QuietPart Middle Gives xs
      → SyncPart (λ place. Here (length xs + place)) Needs Middle ys
      → SyncPart Here Needs Gives (xs ++ ys)
  part-skip Here Needs Middle Gives xs ys first second =
      part-append Here Needs Middle Gives xs ys
      (λ rest middle.
      (let one = first rest middle in
      ((λ place within test. absurd (one.0 place within test)), one.1))) second

  -- cells, and then quiet ones
  pub part-then : (Here : ℕ → Type 0) (Needs Middle Gives : List Bool → Type 0) (xs ys : List Bool)
      → SyncPart Here Middle Gives xs
      → QuietPart Needs Middle ys → SyncPart Here Needs Gives (xs ++ ys)
  part-then Here Needs Middle Gives xs ys first second =
      part-append Here Needs Middle Gives xs ys first
      (λ rest needs.
      (let one = second rest needs in
      ((λ place within test. absurd (one.0 place within test)), one.1)))

  pub quiet-append : (Needs Middle Gives : List Bool → Type 0) (xs ys : List Bool)
      → QuietPart Middle Gives xs → QuietPart Needs Middle ys
      → QuietPart Needs Gives (xs ++ ys)
  quiet-append Needs Middle Gives xs ys first second =
      part-append (λ place. ⊥) Needs Middle Gives xs ys first second

  pub quiet-none : (Needs : List Bool → Type 0) → QuietPart Needs Needs []
  quiet-none Needs rest needs = (only-none (λ place. ⊥) rest, needs)

  -- quiet pieces in a row, any of which may follow any
  pub quiet-all : {X : Type 0} (Needs : List Bool → Type 0) (f : X → List Bool)
      → ((x : X) → QuietPart Needs Needs (f x))
      → (pieces : List X) → QuietPart Needs Needs (flat_map f pieces)
  quiet-all Needs f each [] = quiet-none Needs
  quiet-all Needs f each (piece ∷ pieces) =
      quiet-append Needs Needs Needs (f piece) (flat_map f pieces) (each piece)
      (quiet-all Needs f each pieces)

  -- the sectors of a track, in each of which it begins at one place
  pub part-sectors : (Needs : List Bool → Type 0) (f : ℕ → List Bool) (size offset first count : ℕ)
      → ((s : ℕ) → first ≤ s → s < first + count → length (f s) ≡ size)
      → ((s : ℕ) → first ≤ s → s < first + count
      → SyncPart (λ place. place ≡ offset) Needs Needs (f s))
      → SyncPart (λ place. (k : ℕ) × (k < count) × (place ≡ k * size + offset)) Needs Needs
      (flat_map f (range_with_len first count))
  part-sectors Needs f size offset first zero long each =
      λ rest needs. (λ place within test. absurd (omega arith), needs)
  part-sectors Needs f size offset first (suc count) long each =
      let others = flat_map f (range_with_len (first + 1) count) in
      let more = part-sectors Needs f size offset (first + 1) count
      (λ s least most. long s (omega arith) (omega arith))
      (λ s least most. each s (omega arith) (omega arith)) in
      let one = each first (omega arith) (omega arith) in
      let here = long first (omega arith) (omega arith) in
      part-append (λ place. (k : ℕ) × (k < suc count) × (place ≡ k * size + offset)) Needs Needs
      Needs (f first) others
      (λ rest needs.
      let at = one rest needs in (
        λ place within test. (0, omega arith, (let e = at.0 place within test in omega (arith, e))),
        at.1,
      ))
      (λ rest needs.
      let at = more rest needs in (
        λ place within test.
            let place_at = at.0 place within test in
            let e : (place_at.0 + 1) * size ≡ place_at.0 * size + size = omega arith in
            (place_at.0 + 1, omega (arith, place_at.1), omega (arith, place_at.2, here, e)),
        at.1,
      ))

-- a sync begins in known cells nowhere where it clashes with them
pub nowhere-known : (sync known : List (Option Bool)) (xs ys : List Bool) (count : ℕ)
    → length xs ≡ count
    → clashes_at_all sync count known ≡ true → fits known (xs ++ ys) ≡ true
    → Nowhere (Syncs sync) xs ys
nowhere-known sync known xs ys count size clash fit place within stands =
    clashes-nowhere sync count known (xs ++ ys) place clash fit (omega (arith, size, within)) stands

-- the same of some places of known cells
pub nowhere-from : (sync known : List (Option Bool)) (cells : List Bool) (start count place : ℕ)
    → clashes_at_all sync count (drop start known) ≡ true
    → fits known cells ≡ true → start ≤ place → place < start + count
    → ¬ (fits sync (drop place cells) ≡ true)
nowhere-from sync known cells start count place clash fit above below stands =
    let e : start + (place - start) ≡ place = omega arith in
    clashes-nowhere sync count (drop start known) (drop start cells) (place - start) clash
    (fits-drop start known cells fit) (omega arith)
    (subst (λ (rest : List Bool). fits sync rest ≡ true)
    (sym (drop-drop (place - start) start cells ∙ ap (λ (n : ℕ). drop n cells) e)) stands)

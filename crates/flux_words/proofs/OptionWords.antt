-- Options are found one after another.
use Rattle.std.proofs.Common.{◌≡◌, ◌<◌, ℕ, List, [], ◌∷◌, codes, length, get_or, Option, Some, None, refl, sym, ap, ◌∙◌, subst, arith}
use Rattle.std.proofs.lemmas.Fmt.{decimal_injective}
use Rattle.sector_images.specs.Formats.{IsWordOfFormat, WordsBeginWithLetters}
use Rattle.sector_images.specs.declared.format.Format.{Format}
use Rattle.flux_words.specs.Names.{Names}
use Rattle.flux_words.specs.OptionWords.{Adds, AreChosen, HaveOptions, IsChoice, StandBefore, plain}
use Rattle.flux_words.specs.inside.OptionWords.{AreAllOf, Behind, FollowOptions, HasNumber, IsNext, IsPast}
use Rattle.flux_words.specs.declared.options.Choice.{Choice}
use Rattle.flux_words.specs.declared.options.Choice.TheVariants.{DoubleStep, Picture, Copy}
use Rattle.flux_words.specs.declared.options.Options.{Options}

pub head-same : {X : Type 0} (x y : X) (xs ys : List X) → x ∷ xs ≡ y ∷ ys → x ≡ y
head-same x y xs ys same = cc

pub tail-same : {X : Type 0} (x y : X) (xs ys : List X) → x ∷ xs ≡ y ∷ ys → xs ≡ ys
tail-same x y xs ys same = cc

-- words of other lengths do not stand at one place
other : (words : List (List ℕ)) (a b : List ℕ) (rest more : List (List ℕ)) (n m : ℕ) → length a ≡ n → length b ≡ m → ¬ (n ≡ m) → words ≡ a ∷ rest → words ≡ b ∷ more → ⊥
other words a b rest more n m is is_other differ at at_other =
    differ (sym is ∙ ap length (head-same a b rest more (sym at ∙ at_other)) ∙ is_other)

-- one option stands first
one_choice : (words : List (List ℕ)) (c d : Choice) (rest more : List (List ℕ)) → IsChoice c words rest → IsChoice d words more → (c ≡ d) × (rest ≡ more)
one_choice words DoubleStep DoubleStep rest more is at = (refl, tail-same _ _ _ _ (sym is ∙ at))
one_choice words Picture Picture rest more is at = (refl, tail-same _ _ _ _ (sym is ∙ at))
one_choice words (Copy n) (Copy m) rest more is at =
    let behind = tail-same _ _ _ _ (sym is.1 ∙ at.1) in
    let low = is.0 in
    let least = at.0 in
    (ap Copy (decimal_injective n m (omega (arith, low)) (omega (arith, least)) (head-same _ _ _ _ behind)), tail-same _ _ _ _ behind)
one_choice words DoubleStep Picture rest more is at = absurd (other words _ _ _ _ 13 9 refl refl (λ same. omega (arith, same)) is at)
one_choice words DoubleStep (Copy m) rest more is at = absurd (other words _ _ _ _ 13 6 refl refl (λ same. omega (arith, same)) is at.1)
one_choice words Picture DoubleStep rest more is at = absurd (other words _ _ _ _ 9 13 refl refl (λ same. omega (arith, same)) is at)
one_choice words Picture (Copy m) rest more is at = absurd (other words _ _ _ _ 9 6 refl refl (λ same. omega (arith, same)) is at.1)
one_choice words (Copy n) DoubleStep rest more is at = absurd (other words _ _ _ _ 6 13 refl refl (λ same. omega (arith, same)) is.1 at)
one_choice words (Copy n) Picture rest more is at = absurd (other words _ _ _ _ 6 9 refl refl (λ same. omega (arith, same)) is.1 at)

-- it makes the options that they come to
one_added : (c : Choice) (before after other : Options) → Adds c before after → Adds c before other → after ≡ other
one_added DoubleStep before after other is at = is.1 ∙ sym at.1
one_added Picture before after other is at = is.1 ∙ sym at.1
one_added (Copy n) before after other is at = is.1 ∙ sym at.1

pub one_next : (before after other : Options) (words rest more : List (List ℕ)) → IsNext before after words rest → IsNext before other words more → (after ≡ other) × (rest ≡ more)
one_next before after other words rest more is at =
    let one = one_choice words is.choice at.choice rest more is.is at.is in
    (one_added at.choice before after other (subst (λ (c : Choice). Adds c before after) one.0 is.added) at.added, one.1)

-- a content by its number
pub copy-named : (words : List (List ℕ)) (first : List ℕ) (rest : List (List ℕ)) → words ≡ first ∷ rest → first ≡ codes "--copy" → (r : Option (Choice × List (List ℕ)))
    → Names (Behind HasNumber rest) r → Names (Behind IsChoice words) r
copy-named words first rest at copy (Some (DoubleStep, more)) names = absurd names
copy-named words first rest at copy (Some (Picture, more)) names = absurd names
copy-named words first rest at copy (Some (Copy n, more)) names =
    (names.0, at ∙ ap (λ (w : List ℕ). w ∷ rest) copy ∙ ap (λ (ws : List (List ℕ)). codes "--copy" ∷ ws) names.1)
copy-named words first rest at copy None names = λ found is. by found.0 found.1 is
  where
    here : words ≡ codes "--copy" ∷ rest
    here = at ∙ ap (λ (w : List ℕ). w ∷ rest) copy

    by : (choice : Choice) (more : List (List ℕ)) → ¬ IsChoice choice words more
    by DoubleStep more is = other words _ _ _ _ 6 13 refl refl (λ same. omega (arith, same)) here is
    by Picture more is = other words _ _ _ _ 6 9 refl refl (λ same. omega (arith, same)) here is
    by (Copy n) more is = names (Copy n, more) (is.0, tail-same _ _ _ _ (sym here ∙ is.1))

-- what is chosen before is not added once more
pub not-added : (before : Options) (words rest : List (List ℕ)) (choice : Choice) → IsChoice choice words rest → ((after : Options) → ¬ Adds choice before after)
    → (found : Options × List (List ℕ)) → ¬ IsNext before found.0 words found.1
not-added before words rest choice is none found next =
    none found.0 (subst (λ (c : Choice). Adds c before found.0) (one_choice words next.choice choice found.1 rest next.is is).0 next.added)

-- there are fewer words behind it
pub fewer : (choice : Choice) (words rest : List (List ℕ)) → IsChoice choice words rest → length rest < length words
fewer DoubleStep words rest is = (let many = ap length is in omega (arith, many))
fewer Picture words rest is = (let many = ap length is in omega (arith, many))
fewer (Copy n) words rest is = (let many = ap length is.1 in omega (arith, many))

-- the options before with one more
pub one-more : (choices : List Choice) (before mid after : Options) (words rest behind : List (List ℕ)) → AreChosen choices before mid words rest → IsNext mid after rest behind
    → StandBefore before after words behind
one-more [] before mid after words rest behind are next = (
  next.choice ∷ [],
  (
    after,
    behind,
    subst (λ (o : Options). Adds next.choice o after) are.0 next.added,
    subst (λ (ws : List (List ℕ)). IsChoice next.choice ws behind) (sym are.1) next.is,
    (refl, refl),
  ),
)
one-more (choice ∷ choices) before mid after words rest behind are next =
    let more = one-more choices are.0 mid after are.1 rest behind are.4 next in
    (choice ∷ more.0, (are.0, are.1, are.2, are.3, more.1))

-- those that are left when it is taken
pub one-less : (before mid after : Options) (words rest later : List (List ℕ)) → IsPast later → IsNext before mid words rest → StandBefore before after words later
    → StandBefore mid after rest later
one-less before mid after words rest later past next ([], are) =
    absurd (past next.choice rest (subst (λ (ws : List (List ℕ)). IsChoice next.choice ws rest) are.1 next.is))
one-less before mid after words rest later past next (choice ∷ choices, are) =
    let one = one_next before are.0 mid words are.1 rest (record { choice = choice; added = are.2; is = are.3 }) next in
    (choices, subst (λ (o : Options). AreChosen choices o after rest later) one.0 (subst (λ (ws : List (List ℕ)). AreChosen choices are.0 after ws later) one.1 are.4))

-- where there is no other one
pub none-more : (options others : Options) (words later : List (List ℕ)) → ((next : Options) (rest : List (List ℕ)) → ¬ IsNext options next words rest)
    → StandBefore options others words later → (others ≡ options) × (later ≡ words)
none-more options others words later none ([], are) = (are.0, sym are.1)
none-more options others words later none (choice ∷ choices, are) = absurd (none are.0 are.1 (record { choice = choice; added = are.2; is = are.3 }))

-- the options before words that begin with none are these alone
pub stand_once : (choices : List Choice) (before after other : Options) (words rest later : List (List ℕ)) → IsPast rest → IsPast later → AreChosen choices before after words rest
    → StandBefore before other words later → (after ≡ other) × (rest ≡ later)
stand_once [] before after other words rest later past passed are stand =
    let more = none-more before other words later (λ next behind is. past is.choice behind (subst (λ (ws : List (List ℕ)). IsChoice is.choice ws behind) are.1 is.is)) stand in
    (are.0 ∙ sym more.0, sym are.1 ∙ sym more.1)
stand_once (choice ∷ choices) before after other words rest later past passed are stand =
    stand_once choices are.0 after other are.1 rest later past passed are.4
    (one-less before are.0 other words are.1 later passed (record { choice = choice; added = are.2; is = are.3 }) stand)

-- no format has an option's word, which begins with a dash
pub word-past : WordsBeginWithLetters → (f : Format) (word : List ℕ) (words rest : List (List ℕ)) → IsWordOfFormat word f → words ≡ word ∷ rest → IsPast words
word-past letters f word words rest named are = by
  where
    dash : (option : List ℕ) (more : List (List ℕ)) → get_or option 0 0 ≡ 45 → words ≡ option ∷ more → ⊥
    dash option more begins at =
        let letter = letters word f named in
        let same : get_or word 0 0 ≡ 45 = ap (λ (w : List ℕ). get_or w 0 0) (head-same _ _ _ _ (sym are ∙ at)) ∙ begins in
        omega (arith, letter, same)

    by : (choice : Choice) (more : List (List ℕ)) → ¬ IsChoice choice words more
    by DoubleStep more is = dash _ more refl is
    by Picture more is = dash _ more refl is
    by (Copy n) more is = dash _ _ refl is.1

-- what is asked behind the options that were found is asked by all words
pub all-named : {A : Type 0} (options_of : A → Options) (AreLast : A → List (List ℕ) → Type 0) (past : (a : A) (ws : List (List ℕ)) → AreLast a ws → IsPast ws)
    (words rest : List (List ℕ)) (options : Options) → StandBefore plain options words rest → AreAllOf options words rest
    → (r : Option A) → Names (FollowOptions options_of AreLast options rest) r → Names (HaveOptions options_of AreLast words) r
all-named options_of AreLast past words rest options stand all (Some a) names =
    record { rest = rest; stand = subst (λ (o : Options). StandBefore plain o words rest) (sym names.options_are) stand; are = names.are }
all-named options_of AreLast past words rest options stand all None names = λ a have.
    let same = all (options_of a) have.rest (past a have.rest have.are) have.stand in
    names a (record { options_are = same.0; are = subst (λ (ws : List (List ℕ)). AreLast a ws) same.1 have.are })

-- words have one such part
pub one-named : {A : Type 0} (options_of : A → Options) (AreLast : A → List (List ℕ) → Type 0) (past : (a : A) (ws : List (List ℕ)) → AreLast a ws → IsPast ws)
    (one : (a b : A) (ws : List (List ℕ)) → options_of a ≡ options_of b → AreLast a ws → AreLast b ws → a ≡ b)
    (words : List (List ℕ)) (a b : A) → HaveOptions options_of AreLast words a → HaveOptions options_of AreLast words b → a ≡ b
one-named options_of AreLast past one words a b mine theirs =
    let same = stand_once mine.stand.0 plain (options_of a) (options_of b) words mine.rest theirs.rest (past a mine.rest mine.are) (past b theirs.rest theirs.are) mine.stand.1 theirs.stand in
    one a b theirs.rest same.0 (subst (λ (ws : List (List ℕ)). AreLast a ws) same.1 mine.are) theirs.are

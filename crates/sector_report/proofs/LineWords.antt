-- The words of a line: what stands between its blanks, its point and its end. They determine the line's numbers.
use Rattle.std.specs.Prelude.{◌≡◌, ◌≢◌, ◌==◌, ◌||◌, ◌<◌, ◌^◌, ℕ, ◌+◌, ◌/◌, ◌%◌, All, Bool, true, false, cond, List, [], ◌∷◌, ◌++◌, codes, count_by, decimal, get_or, length, nat_eq, take, refl}
use Rattle.std.specs.List.{slice_split}
use Rattle.std.proofs.Common.{ap, sym, ◌∙◌, arith, append_assoc, drop, eq-eqb, length-append, lit<}
use Rattle.std.proofs.Math.Nat.{div-add-mod, div-lt_iff_lt-mul, mod-lt}
use Rattle.std.proofs.lemmas.Bool.{ne_eqb}
use Rattle.std.proofs.lemmas.Fmt.{decimal_digit, decimal_injective}
use Rattle.std.proofs.lemmas.List.Elements.{All-append, All-cons, All-nil}
use Rattle.std.proofs.lemmas.List.Splits.{slice_split_at}
use Rattle.std.proofs.lemmas.List.Sums.{sum_by-cons}
use Rattle.flux_base.specs.declared.track.TrackId.{TrackId}
use Rattle.flux_base.specs.lemmas.Digits.{of_digits}
use Rattle.turn_merge.specs.declared.clock.Clock.{Clock}
use Rattle.turn_merge.specs.declared.clock.Clock.TheVariants.{Following, Held}
use Rattle.turn_merge.specs.declared.verdict.Place.{Place}
use Rattle.turn_merge.specs.declared.verdict.Verdict.{Verdict}
use Rattle.turn_merge.specs.declared.verdict.Verdict.TheVariants.{Good, Contradictory, Bad, Missing}
use Rattle.sector_report.specs.LineLaws.{PlaceFits, SectorLinesTell, TotalsAreNoSectors, VerdictFits}
use Rattle.sector_report.specs.Lines.{named_text, number_of_clock, place_text, sector_name, total_text, two_digits, verdict_text}
use Rattle.sector_report.specs.declared.naming.Naming.{Naming}
use Rattle.sector_report.specs.declared.naming.Naming.TheVariants.{ByCapture, ByCaptureAndClock, ByClock, Unnamed}
use Rattle.sector_report.specs.declared.totals.Totals.{Totals}

-- a blank, a point or a line end
abbrev pub is_gap : ℕ → Bool
is_gap byte = (byte == 32) || ((byte == 46) || (byte == 10))

abbrev pub words : List ℕ → List (List ℕ)
words text = slice_split is_gap text

-- the text has no gap
abbrev pub IsWord : List ℕ → Type 0
IsWord text = All (λ (byte : ℕ). is_gap byte ≡ false) text

-- the bytes above the point are no gaps
no_gap : (byte : ℕ) → 46 < byte → is_gap byte ≡ false
no_gap byte high =
    rw (ne_eqb byte 32 (λ same. omega (arith, same, high)), ne_eqb byte 46 (λ same. omega (arith, same, high)), ne_eqb byte 10 (λ same. omega (arith, same, high))) refl

pub word-decimal : (n : ℕ) → IsWord (decimal n)
word-decimal n =
    of_digits IsWord
    (λ digit text low high is. All-cons (λ (byte : ℕ). is_gap byte ≡ false) digit text (no_gap digit (omega (arith, low))) is)
    (All-nil (λ (byte : ℕ). is_gap byte ≡ false)) n

none_step : (byte : ℕ) (rest : List ℕ) (b : Bool) → is_gap byte ≡ b → cond b 1 0 + count_by is_gap rest ≡ 0 → (b ≡ false) × (count_by is_gap rest ≡ 0)
none_step byte rest true is none = absurd (omega (arith, none))
none_step byte rest false is none = (refl, omega (arith, none))

-- a text that is written out
pub word-codes : (text : List ℕ) → count_by is_gap text ≡ 0 → IsWord text
word-codes [] none = All-nil (λ (byte : ℕ). is_gap byte ≡ false)
word-codes (byte ∷ rest) none =
    let step = none_step byte rest (is_gap byte) refl (sym (sum_by-cons (λ (b : ℕ). cond (is_gap b) 1 0) byte rest) ∙ none) in
    All-cons (λ (b : ℕ). is_gap b ≡ false) byte rest step.0 (word-codes rest step.1)

pub word-two : (n : ℕ) → IsWord (two_digits n)
unfolding two_digits
word-two n = All-append (λ (byte : ℕ). is_gap byte ≡ false) (decimal (n / 10)) (decimal (n % 10)) (word-decimal (n / 10)) (word-decimal (n % 10))

-- a word stands in front of a gap
pub next : (word rest : List ℕ) (gap : ℕ) → IsWord word → is_gap gap ≡ true → words (word ++ gap ∷ rest) ≡ word ∷ words rest
next word rest gap is ends = slice_split_at is_gap word gap rest is ends

-- the words of the parts of a line
name_shape : (c h s rest : List ℕ) → (c ++ codes "." ++ h ++ codes " " ++ s ++ codes " ") ++ rest ≡ c ++ 46 ∷ (h ++ 32 ∷ (s ++ 32 ∷ rest))
name_shape c h s rest = simp append_assoc

name_words : (track : TrackId) (sector : ℕ) (rest : List ℕ)
    → words (sector_name track sector ++ rest) ≡ two_digits track.cylinder ∷ decimal track.head ∷ two_digits sector ∷ words rest
unfolding sector_name
name_words track sector rest =
    let c : List ℕ = two_digits track.cylinder in
    let h : List ℕ = decimal track.head in
    let s : List ℕ = two_digits sector in
    ap words (name_shape c h s rest)
    ∙ next c (h ++ 32 ∷ (s ++ 32 ∷ rest)) 46 (word-two track.cylinder) refl
    ∙ ap (λ ws. c ∷ ws) (next h (s ++ 32 ∷ rest) 32 (word-decimal track.head) refl)
    ∙ ap (λ ws. c ∷ h ∷ ws) (next s rest 32 (word-two sector) refl)

-- what is named of a place's source, its turn and its cell
abbrev source_words : Naming → Place → List (List ℕ)
source_words Unnamed place = []
source_words ByCapture place = decimal place.capture ∷ []
source_words ByClock place = decimal (number_of_clock place.clock) ∷ []
source_words ByCaptureAndClock place = decimal place.capture ∷ decimal (number_of_clock place.clock) ∷ []

abbrev place_words : Naming → Place → List (List ℕ)
place_words naming place = source_words naming place ++ decimal place.turn ∷ decimal place.cell ∷ []

-- the turn and the cell, and what follows them
abbrev behind_source : Place → List ℕ → List ℕ
behind_source place rest = decimal place.turn ++ 32 ∷ (decimal place.cell ++ rest)

-- a place without the blank before it, and what follows it
abbrev place_rest : Naming → Place → List ℕ → List ℕ
place_rest Unnamed place rest = behind_source place rest
place_rest ByCapture place rest = decimal place.capture ++ 32 ∷ behind_source place rest
place_rest ByClock place rest = decimal (number_of_clock place.clock) ++ 32 ∷ behind_source place rest
place_rest ByCaptureAndClock place rest = decimal place.capture ++ 32 ∷ (decimal (number_of_clock place.clock) ++ 32 ∷ behind_source place rest)

shape_none : (t p rest : List ℕ) → ([] ++ codes " " ++ t ++ codes " " ++ p) ++ rest ≡ 32 ∷ (t ++ 32 ∷ (p ++ rest))
shape_none t p rest = simp append_assoc

shape_one : (q t p rest : List ℕ) → ((codes " " ++ q) ++ codes " " ++ t ++ codes " " ++ p) ++ rest ≡ 32 ∷ (q ++ 32 ∷ (t ++ 32 ∷ (p ++ rest)))
shape_one q t p rest = simp append_assoc

shape_two : (q k t p rest : List ℕ) → ((codes " " ++ q ++ codes " " ++ k) ++ codes " " ++ t ++ codes " " ++ p) ++ rest
    ≡ 32 ∷ (q ++ 32 ∷ (k ++ 32 ∷ (t ++ 32 ∷ (p ++ rest))))
shape_two q k t p rest = simp append_assoc

place_shape : (naming : Naming) (place : Place) (rest : List ℕ) → place_text naming place ++ rest ≡ 32 ∷ place_rest naming place rest
unfolding place_text
place_shape Unnamed place rest = shape_none (decimal place.turn) (decimal place.cell) rest
place_shape ByCapture place rest = shape_one (decimal place.capture) (decimal place.turn) (decimal place.cell) rest
place_shape ByClock place rest = shape_one (decimal (number_of_clock place.clock)) (decimal place.turn) (decimal place.cell) rest
place_shape ByCaptureAndClock place rest =
    shape_two (decimal place.capture) (decimal (number_of_clock place.clock)) (decimal place.turn) (decimal place.cell) rest

behind_words : (place : Place) (gap : ℕ) (rest : List ℕ) → is_gap gap ≡ true
    → words (behind_source place (gap ∷ rest)) ≡ decimal place.turn ∷ decimal place.cell ∷ words rest
behind_words place gap rest ends =
    next (decimal place.turn) (decimal place.cell ++ gap ∷ rest) 32 (word-decimal place.turn) refl
    ∙ ap (λ ws. decimal place.turn ∷ ws) (next (decimal place.cell) rest gap (word-decimal place.cell) ends)

rest_words : (naming : Naming) (place : Place) (gap : ℕ) (rest : List ℕ) → is_gap gap ≡ true
    → words (place_rest naming place (gap ∷ rest)) ≡ place_words naming place ++ words rest
rest_words Unnamed place gap rest ends = behind_words place gap rest ends
rest_words ByCapture place gap rest ends =
    next (decimal place.capture) (behind_source place (gap ∷ rest)) 32 (word-decimal place.capture) refl
    ∙ ap (λ ws. decimal place.capture ∷ ws) (behind_words place gap rest ends)
rest_words ByClock place gap rest ends =
    let k : ℕ = number_of_clock place.clock in
    next (decimal k) (behind_source place (gap ∷ rest)) 32 (word-decimal k) refl
    ∙ ap (λ ws. decimal k ∷ ws) (behind_words place gap rest ends)
rest_words ByCaptureAndClock place gap rest ends =
    let k : ℕ = number_of_clock place.clock in
    next (decimal place.capture) (decimal k ++ 32 ∷ behind_source place (gap ∷ rest)) 32 (word-decimal place.capture) refl
    ∙ ap (λ ws. decimal place.capture ∷ ws)
    (next (decimal k) (behind_source place (gap ∷ rest)) 32 (word-decimal k) refl ∙ ap (λ ws. decimal k ∷ ws) (behind_words place gap rest ends))

-- a number, and the place that follows it
number_place_words : (n : ℕ) (naming : Naming) (place : Place) (gap : ℕ) (rest : List ℕ) → is_gap gap ≡ true
    → words (decimal n ++ (place_text naming place ++ gap ∷ rest)) ≡ decimal n ∷ (place_words naming place ++ words rest)
number_place_words n naming place gap rest ends =
    ap (λ more. words (decimal n ++ more)) (place_shape naming place (gap ∷ rest))
    ∙ next (decimal n) (place_rest naming place (gap ∷ rest)) 32 (word-decimal n) refl
    ∙ ap (λ ws. decimal n ∷ ws) (rest_words naming place gap rest ends)

-- two places that follow a number
two_places_words : (n : ℕ) (naming : Naming) (first other : Place) (rest : List ℕ)
    → words (decimal n ++ (place_text naming first ++ (place_text naming other ++ 10 ∷ rest)))
    ≡ decimal n ∷ (place_words naming first ++ (place_words naming other ++ words rest))
two_places_words n naming first other rest =
    ap (λ more. words (decimal n ++ (place_text naming first ++ more))) (place_shape naming other (10 ∷ rest))
    ∙ number_place_words n naming first 32 (place_rest naming other (10 ∷ rest)) refl
    ∙ ap (λ ws. decimal n ∷ (place_words naming first ++ ws)) (rest_words naming other 10 rest refl)

abbrev verdict_words : Naming → Verdict → List (List ℕ)
verdict_words naming (Good good bad first) = codes "good" ∷ decimal good ∷ decimal bad ∷ (place_words naming first ++ [] ∷ [])
verdict_words naming (Contradictory good bad first other) =
    codes "contradictory" ∷ decimal good ∷ decimal bad ∷ (place_words naming first ++ (place_words naming other ++ [] ∷ []))
verdict_words naming (Bad bad first) = codes "bad" ∷ codes "0" ∷ decimal bad ∷ (place_words naming first ++ [] ∷ [])
verdict_words naming Missing = codes "missing" ∷ codes "0" ∷ codes "0" ∷ [] ∷ []

good_shape : (g b place : List ℕ) → (codes "good " ++ g ++ codes " " ++ b ++ place) ++ codes "\n" ≡ codes "good" ++ 32 ∷ (g ++ 32 ∷ (b ++ (place ++ 10 ∷ [])))
good_shape g b place = simp append_assoc

contradictory_shape : (g b first other : List ℕ) → (codes "contradictory " ++ g ++ codes " " ++ b ++ first ++ other) ++ codes "\n"
    ≡ codes "contradictory" ++ 32 ∷ (g ++ 32 ∷ (b ++ (first ++ (other ++ 10 ∷ []))))
contradictory_shape g b first other = simp append_assoc

bad_shape : (b place : List ℕ) → (codes "bad 0 " ++ b ++ place) ++ codes "\n" ≡ codes "bad" ++ 32 ∷ (codes "0" ++ 32 ∷ (b ++ (place ++ 10 ∷ [])))
bad_shape b place = simp append_assoc

verdict_words-are : (naming : Naming) (verdict : Verdict) → words (verdict_text naming verdict ++ codes "\n") ≡ verdict_words naming verdict
unfolding verdict_text
verdict_words-are naming (Good good bad first) =
    let g : List ℕ = decimal good in
    let more : List ℕ = decimal bad ++ (place_text naming first ++ 10 ∷ []) in
    ap words (good_shape g (decimal bad) (place_text naming first))
    ∙ next (codes "good") (g ++ 32 ∷ more) 32 (word-codes (codes "good") refl) refl
    ∙ ap (λ ws. codes "good" ∷ ws) (next g more 32 (word-decimal good) refl)
    ∙ ap (λ ws. codes "good" ∷ g ∷ ws) (number_place_words bad naming first 10 [] refl)
verdict_words-are naming (Contradictory good bad first other) =
    let g : List ℕ = decimal good in
    let more : List ℕ = decimal bad ++ (place_text naming first ++ (place_text naming other ++ 10 ∷ [])) in
    ap words (contradictory_shape g (decimal bad) (place_text naming first) (place_text naming other))
    ∙ next (codes "contradictory") (g ++ 32 ∷ more) 32 (word-codes (codes "contradictory") refl) refl
    ∙ ap (λ ws. codes "contradictory" ∷ ws) (next g more 32 (word-decimal good) refl)
    ∙ ap (λ ws. codes "contradictory" ∷ g ∷ ws) (two_places_words bad naming first other [])
verdict_words-are naming (Bad bad first) =
    let more : List ℕ = decimal bad ++ (place_text naming first ++ 10 ∷ []) in
    ap words (bad_shape (decimal bad) (place_text naming first))
    ∙ next (codes "bad") (codes "0" ++ 32 ∷ more) 32 (word-codes (codes "bad") refl) refl
    ∙ ap (λ ws. codes "bad" ∷ ws) (next (codes "0") more 32 (word-codes (codes "0") refl) refl)
    ∙ ap (λ ws. codes "bad" ∷ codes "0" ∷ ws) (number_place_words bad naming first 10 [] refl)
verdict_words-are naming Missing = refl

sector_words : (naming : Naming) (track : TrackId) (sector : ℕ) (verdict : Verdict)
    → words (named_text naming track sector verdict) ≡ two_digits track.cylinder ∷ decimal track.head ∷ two_digits sector ∷ verdict_words naming verdict
unfolding named_text
sector_words naming track sector verdict =
    ap words (append_assoc (sector_name track sector) (verdict_text naming verdict) (codes "\n"))
    ∙ name_words track sector (verdict_text naming verdict ++ codes "\n")
    ∙ ap (λ ws. two_digits track.cylinder ∷ decimal track.head ∷ two_digits sector ∷ ws) (verdict_words-are naming verdict)

-- the words of two lines that are the same, one by one
abbrev pub word_at : List (List ℕ) → ℕ → List ℕ
word_at ws n = get_or ws n []

-- two digits determine their number
two-is : (n : ℕ) → n < 100 → two_digits n ≡ (48 + n / 10) ∷ (48 + n % 10) ∷ []
unfolding two_digits
two-is n low =
    let tens : n / 10 < 10 = (div-lt_iff_lt-mul (lit< tt)).1 low in
    ap (λ d. d ++ decimal (n % 10)) (decimal_digit (n / 10) tens) ∙ ap (λ d. (48 + n / 10) ∷ d) (decimal_digit (n % 10) (mod-lt n (lit< tt)))

-- lists that are the same have the same last element, and the same ones before it
last-same : (xs ys : List ℕ) (a b : ℕ) → xs ++ a ∷ [] ≡ ys ++ b ∷ [] → (a ≡ b) × (xs ≡ ys)
last-same [] [] a b same = (ap (λ zs. get_or zs 0 0) same, refl)
last-same [] (y ∷ []) a b same = absurd (let sizes = ap length same in omega (arith, sizes))
last-same [] (y ∷ z ∷ ys) a b same = absurd (let sizes = ap length same in omega (arith, sizes, length-append ys (b ∷ [])))
last-same (x ∷ []) [] a b same = absurd (let sizes = ap length same in omega (arith, sizes))
last-same (x ∷ z ∷ xs) [] a b same = absurd (let sizes = ap length same in omega (arith, sizes, length-append xs (a ∷ [])))
last-same (x ∷ xs) (y ∷ ys) a b same =
    let later = last-same xs ys a b (ap (λ zs. drop 1 zs) same) in
    let first : x ≡ y = ap (λ zs. get_or zs 0 0) same in
    (later.0, ap (λ z. z ∷ xs) first ∙ ap (λ zs. y ∷ zs) later.1)

-- as many as a number has determine it too
last-is : (n : ℕ) → two_digits n ≡ decimal (n / 10) ++ (48 + n % 10) ∷ []
unfolding two_digits
last-is n = ap (λ d. decimal (n / 10) ++ d) (decimal_digit (n % 10) (mod-lt n (lit< tt)))

pub two-same : (m n : ℕ) → m < 2 ^ 64 → n < 2 ^ 64 → two_digits m ≡ two_digits n → m ≡ n
two-same m n low low' same =
    let both = sym (last-is m) ∙ same ∙ last-is n in
    let ends : (48 + m % 10 ≡ 48 + n % 10) × (decimal (m / 10) ≡ decimal (n / 10)) =
    last-same (decimal (m / 10)) (decimal (n / 10)) (48 + m % 10) (48 + n % 10) both in
    let tens = decimal_injective (m / 10) (n / 10) (omega (arith, low)) (omega (arith, low')) ends.1 in
    let is-m = div-add-mod m 10 in
    let is-n = div-add-mod n 10 in
    omega (arith, tens, ends.0, is-m, is-n)

-- the numbers of the clocks differ
clock-same : (a b : Clock) → number_of_clock a ≡ number_of_clock b → a ≡ b
clock-same Following Following same = refl
clock-same Following Held same = absurd (omega (arith, same))
clock-same Held Following same = absurd (omega (arith, same))
clock-same Held Held same = refl

clock_low : (clock : Clock) → number_of_clock clock < 2 ^ 64
clock_low Following = lit< tt
clock_low Held = lit< tt

clock_decimal : (a b : Clock) → decimal (number_of_clock a) ≡ decimal (number_of_clock b) → a ≡ b
clock_decimal a b same = clock-same a b (decimal_injective (number_of_clock a) (number_of_clock b) (clock_low a) (clock_low b) same)

-- the same source, turn and cell are the same place
place-of : (a b : Place) → a.capture ≡ b.capture → a.clock ≡ b.clock → a.turn ≡ b.turn → a.cell ≡ b.cell → a ≡ b
place-of a b capture clock turn cell =
    let of_numbers : ℕ → Clock → ℕ → ℕ → Place = λ q k t c. record { capture = q; clock = k; turn = t; cell = c } in
    ap (λ q. of_numbers q a.clock a.turn a.cell) capture
    ∙ ap (λ k. of_numbers b.capture k a.turn a.cell) clock
    ∙ ap (λ t. of_numbers b.capture b.clock t a.cell) turn
    ∙ ap (of_numbers b.capture b.clock b.turn) cell

-- a place is told by what is named of it
place-same : (naming : Naming) (a b : Place) → PlaceFits naming a → PlaceFits naming b → place_words naming a ≡ place_words naming b → a ≡ b
place-same Unnamed a b fits fits' same =
    place-of a b (fits.2.0 ∙ sym fits'.2.0) (fits.2.1 ∙ sym fits'.2.1)
    (decimal_injective a.turn b.turn fits.0 fits'.0 (ap (λ ws. word_at ws 0) same))
    (decimal_injective a.cell b.cell fits.1 fits'.1 (ap (λ ws. word_at ws 1) same))
place-same ByCapture a b fits fits' same =
    place-of a b (decimal_injective a.capture b.capture fits.2.0 fits'.2.0 (ap (λ ws. word_at ws 0) same)) (fits.2.1 ∙ sym fits'.2.1)
    (decimal_injective a.turn b.turn fits.0 fits'.0 (ap (λ ws. word_at ws 1) same))
    (decimal_injective a.cell b.cell fits.1 fits'.1 (ap (λ ws. word_at ws 2) same))
place-same ByClock a b fits fits' same =
    place-of a b (fits.2 ∙ sym fits'.2) (clock_decimal a.clock b.clock (ap (λ ws. word_at ws 0) same))
    (decimal_injective a.turn b.turn fits.0 fits'.0 (ap (λ ws. word_at ws 1) same))
    (decimal_injective a.cell b.cell fits.1 fits'.1 (ap (λ ws. word_at ws 2) same))
place-same ByCaptureAndClock a b fits fits' same =
    place-of a b (decimal_injective a.capture b.capture fits.2 fits'.2 (ap (λ ws. word_at ws 0) same))
    (clock_decimal a.clock b.clock (ap (λ ws. word_at ws 1) same))
    (decimal_injective a.turn b.turn fits.0 fits'.0 (ap (λ ws. word_at ws 2) same))
    (decimal_injective a.cell b.cell fits.1 fits'.1 (ap (λ ws. word_at ws 3) same))

-- how many words a place has
abbrev place_size : Naming → ℕ
place_size Unnamed = 2
place_size ByCapture = 3
place_size ByClock = 3
place_size ByCaptureAndClock = 4

place-first : (naming : Naming) (place : Place) (rest : List (List ℕ)) → take (place_size naming) (place_words naming place ++ rest) ≡ place_words naming place
place-first Unnamed place rest = refl
place-first ByCapture place rest = refl
place-first ByClock place rest = refl
place-first ByCaptureAndClock place rest = refl

place-behind : (naming : Naming) (place : Place) (rest : List (List ℕ)) → drop (place_size naming) (place_words naming place ++ rest) ≡ rest
place-behind Unnamed place rest = refl
place-behind ByCapture place rest = refl
place-behind ByClock place rest = refl
place-behind ByCaptureAndClock place rest = refl

-- the place at which words begin, and the one behind it
one-place : (naming : Naming) (a b : Place) (more more' : List (List ℕ)) → PlaceFits naming a → PlaceFits naming b
    → place_words naming a ++ more ≡ place_words naming b ++ more' → a ≡ b
one-place naming a b more more' fits fits' same =
    place-same naming a b fits fits'
    (sym (place-first naming a more) ∙ ap (λ (ws : List (List ℕ)). take (place_size naming) ws) same ∙ place-first naming b more')

rest-same : (naming : Naming) (a b : Place) (more more' : List (List ℕ)) → place_words naming a ++ more ≡ place_words naming b ++ more' → more ≡ more'
rest-same naming a b more more' same =
    sym (place-behind naming a more) ∙ ap (λ (ws : List (List ℕ)). drop (place_size naming) ws) same ∙ place-behind naming b more'

-- the names of the verdicts have different lengths
names : (a b : List (List ℕ)) (m n : ℕ) → length (word_at a 0) ≡ m → length (word_at b 0) ≡ n → m ≢ n → a ≢ b
names a b m n long long' other same = other (sym long ∙ ap (λ ws. length (word_at ws 0)) same ∙ long')

other-lengths : (m n : ℕ) → nat_eq m n ≡ false → m ≢ n
other-lengths m n test same = not_both (nat_eq m n) (eq-eqb m n same) test
  where
    not_both : (b : Bool) → b ≡ true → b ≡ false → ⊥
    not_both b is is_not = cc

-- what stands behind three words: a sector's verdict behind its name, and the places behind what a verdict counts
abbrev behind_three : List (List ℕ) → List (List ℕ)
behind_three ws = drop 3 ws

verdict-same : (naming : Naming) (a b : Verdict) → VerdictFits naming a → VerdictFits naming b → verdict_words naming a ≡ verdict_words naming b → a ≡ b
verdict-same naming (Good g b f) (Good g' b' f') fits fits' same =
    ap (λ n. Good n b f) (decimal_injective g g' fits.0 fits'.0 (ap (λ ws. word_at ws 1) same))
    ∙ ap (λ n. Good g' n f) (decimal_injective b b' fits.1 fits'.1 (ap (λ ws. word_at ws 2) same))
    ∙ ap (Good g' b') (one-place naming f f' ([] ∷ []) ([] ∷ []) fits.2 fits'.2 (ap behind_three same))
verdict-same naming (Contradictory g b f o) (Contradictory g' b' f' o') fits fits' same =
    let places = ap behind_three same in
    let others : place_words naming o ++ [] ∷ [] ≡ place_words naming o' ++ [] ∷ [] =
    rest-same naming f f' (place_words naming o ++ [] ∷ []) (place_words naming o' ++ [] ∷ []) places in
    ap (λ n. Contradictory n b f o) (decimal_injective g g' fits.0 fits'.0 (ap (λ ws. word_at ws 1) same))
    ∙ ap (λ n. Contradictory g' n f o) (decimal_injective b b' fits.1 fits'.1 (ap (λ ws. word_at ws 2) same))
    ∙ ap (λ p. Contradictory g' b' p o)
    (one-place naming f f' (place_words naming o ++ [] ∷ []) (place_words naming o' ++ [] ∷ []) fits.2 fits'.2 places)
    ∙ ap (Contradictory g' b' f') (one-place naming o o' ([] ∷ []) ([] ∷ []) fits.3 fits'.3 others)
verdict-same naming (Bad b f) (Bad b' f') fits fits' same =
    ap (λ n. Bad n f) (decimal_injective b b' fits.0 fits'.0 (ap (λ ws. word_at ws 2) same))
    ∙ ap (Bad b') (one-place naming f f' ([] ∷ []) ([] ∷ []) fits.1 fits'.1 (ap behind_three same))
verdict-same naming Missing Missing fits fits' same = refl
verdict-same naming (Good g b f) (Contradictory g' b' f' o') fits fits' same = absurd (names _ _ 4 13 refl refl (other-lengths 4 13 refl) same)
verdict-same naming (Good g b f) (Bad b' f') fits fits' same = absurd (names _ _ 4 3 refl refl (other-lengths 4 3 refl) same)
verdict-same naming (Good g b f) Missing fits fits' same = absurd (names _ _ 4 7 refl refl (other-lengths 4 7 refl) same)
verdict-same naming (Contradictory g b f o) (Good g' b' f') fits fits' same = absurd (names _ _ 13 4 refl refl (other-lengths 13 4 refl) same)
verdict-same naming (Contradictory g b f o) (Bad b' f') fits fits' same = absurd (names _ _ 13 3 refl refl (other-lengths 13 3 refl) same)
verdict-same naming (Contradictory g b f o) Missing fits fits' same = absurd (names _ _ 13 7 refl refl (other-lengths 13 7 refl) same)
verdict-same naming (Bad b f) (Good g' b' f') fits fits' same = absurd (names _ _ 3 4 refl refl (other-lengths 3 4 refl) same)
verdict-same naming (Bad b f) (Contradictory g' b' f' o') fits fits' same = absurd (names _ _ 3 13 refl refl (other-lengths 3 13 refl) same)
verdict-same naming (Bad b f) Missing fits fits' same = absurd (names _ _ 3 7 refl refl (other-lengths 3 7 refl) same)
verdict-same naming Missing (Good g' b' f') fits fits' same = absurd (names _ _ 7 4 refl refl (other-lengths 7 4 refl) same)
verdict-same naming Missing (Contradictory g' b' f' o') fits fits' same = absurd (names _ _ 7 13 refl refl (other-lengths 7 13 refl) same)
verdict-same naming Missing (Bad b' f') fits fits' same = absurd (names _ _ 7 3 refl refl (other-lengths 7 3 refl) same)

pub sector_lines_tell : SectorLinesTell
sector_lines_tell naming track track' sector sector' verdict verdict' fits fits' same =
    let all = sym (sector_words naming track sector verdict) ∙ ap words same ∙ sector_words naming track' sector' verdict' in
    let of_numbers : ℕ → ℕ → TrackId = λ c h. record { cylinder = c; head = h } in (
      ap (λ c. of_numbers c track.head) (two-same track.cylinder track'.cylinder (omega (arith, fits.cylinder_fits)) (omega (arith, fits'.cylinder_fits)) (ap (λ ws. word_at ws 0) all))
          ∙ ap (of_numbers track'.cylinder) (decimal_injective track.head track'.head fits.head_fits fits'.head_fits (ap (λ ws. word_at ws 1) all)),
      two-same sector sector' fits.sector_fits fits'.sector_fits (ap (λ ws. word_at ws 2) all),
      verdict-same naming verdict verdict' fits.verdict_fits fits'.verdict_fits (ap behind_three all),
    )

-- a total line begins with a letter
total_first : (totals : Totals) → get_or (total_text totals) 0 0 ≡ 116
unfolding total_text
total_first totals = total_shape (decimal totals.sectors) (decimal totals.good) (decimal totals.bad) (decimal totals.missing) (decimal totals.contradictory)
  where
    total_shape : (s g b m c : List ℕ) → get_or (codes "total " ++ s ++ codes " good " ++ g ++ codes " bad " ++ b ++ codes " missing " ++ m ++ codes " contradictory " ++ c ++ codes "\n") 0 0 ≡ 116
    total_shape s g b m c = refl

-- a sector's line begins with a digit
sector_first : (naming : Naming) (track : TrackId) (sector : ℕ) (verdict : Verdict) → track.cylinder < 100 → get_or (named_text naming track sector verdict) 0 0 ≡ 48 + track.cylinder / 10
unfolding named_text sector_name
sector_first naming track sector verdict low =
    sector_shape (two_digits track.cylinder) (48 + track.cylinder / 10) (48 + track.cylinder % 10) (decimal track.head) (two_digits sector) (verdict_text naming verdict) (two-is track.cylinder low)
  where
    sector_shape : (two : List ℕ) (a b : ℕ) (h s v : List ℕ) → two ≡ a ∷ b ∷ []
        → get_or ((two ++ codes "." ++ h ++ codes " " ++ s ++ codes " ") ++ v ++ codes "\n") 0 0 ≡ a
    sector_shape two a b h s v is = ap (λ d. get_or ((d ++ codes "." ++ h ++ codes " " ++ s ++ codes " ") ++ v ++ codes "\n") 0 0) is

pub totals_are_no_sectors : TotalsAreNoSectors
totals_are_no_sectors naming totals track sector verdict fits same =
    let tens : track.cylinder / 10 < 10 = (div-lt_iff_lt-mul (lit< tt)).1 fits.cylinder_fits in
    let both = sym (sector_first naming track sector verdict fits.cylinder_fits) ∙ ap (λ text. get_or text 0 0) same ∙ total_first totals in
    omega (arith, both, tens)

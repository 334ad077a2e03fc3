-- Tracks and sectors as people write them, and as reports do.
use Rattle.std.specs.Bool.{Decides}
use Rattle.std.specs.Char.{digit_value}
use Rattle.std.specs.Str.Parse.{AllDigits, IsNumeral, digits_value}
use Rattle.std.proofs.Common.{◌≡◌, ◌≢◌, ◌<◌, ◌≤◌, ◌+◌, ◌/◌, ◌%◌, ◌^◌, ◌&&◌, ℕ, suc, Bool, false, List, [], ◌∷◌, ◌++◌, codes, decimal, length, nat_eq, nat_le, arith, sym, ◌∙◌, subst, append_assoc, length-append}
use Rattle.std.proofs.lemmas.Bool.{and_from, and_parts, eq-eqb, eqb-true, le-leb, leb-true}
use Rattle.std.proofs.lemmas.Fmt.{decimal_digit, decimal_is_IsNumeral, length-decimal-le}
use Rattle.std.proofs.lemmas.Int.Digits.{digits_value_push}
use Rattle.std.proofs.lemmas.List.{append_cancel_right}
use Rattle.std.proofs.lemmas.Str.{digit_value_digit}
use Rattle.flux_base.specs.declared.track.TrackId.{TrackId}
use Rattle.sector_report.specs.Lines.{two_digits}
use Rattle.flux_words.specs.SectorWords.{AreDigitsOf, IsTrackWord, ReportsNameThem}

-- what stands before the head
pub track-here : (track : TrackId) (word cylinder : List ℕ) (b : Bool) → word ≡ cylinder ++ (codes "." ++ decimal track.head) → Decides b (AreDigitsOf track.cylinder 2 cylinder)
    → Decides b (IsTrackWord track word)
track-here track word cylinder b at are = (
  λ is. record { cylinder = cylinder; is = at; writes = are.0 is },
  λ t. are.1 (subst (AreDigitsOf track.cylinder 2) (append_cancel_right t.cylinder cylinder (codes "." ++ decimal track.head) (sym t.is ∙ at)) t.writes),
)

pub no-track-here : (track : TrackId) (word : List ℕ) → ((front : List ℕ) → word ≢ front ++ (codes "." ++ decimal track.head)) → Decides false (IsTrackWord track word)
no-track-here track word none = (λ wrong. absurd (cc), λ t. absurd (none t.cylinder t.is))

-- digits that write a number
pub digits-here : (number most written : ℕ) (word : List ℕ) → IsNumeral 10 word → digits_value 10 word ≡ written
    → Decides (nat_eq written number && nat_le (length word) most) (AreDigitsOf number most word)
digits-here number most written word numeral value = (
  λ is. (
      let parts = and_parts (nat_eq written number) (nat_le (length word) most) is in
      record { digits = numeral; few = leb-true _ _ parts.1; value = value ∙ eqb-true _ _ parts.0 }),
  λ are. and_from _ _ (eq-eqb _ _ (sym value ∙ are.value)) (le-leb _ _ are.few),
)

pub no-digits-here : (number most : ℕ) (word : List ℕ) → number < 2 ^ 32 → ¬ (IsNumeral 10 word × (digits_value 10 word < 2 ^ 32)) → Decides false (AreDigitsOf number most word)
no-digits-here number most word low none = (λ wrong. absurd (cc), λ are. absurd (none (are.digits, (let value = are.value in omega (arith, low, value)))))

-- one digit more
digits-more : (ds : List ℕ) (c : ℕ) → AllDigits 10 ds → digit_value c < 10 → AllDigits 10 (ds ++ c ∷ [])
digits-more [] c all one = (one, tt)
digits-more (d ∷ ds) c all one = (all.0, digits-more ds c all.1 one)

two-write : (number most : ℕ) → 0 < most → number / 10 < 10 ^ most → number < 2 ^ 64 → AreDigitsOf number (suc most) (two_digits number)
unfolding two_digits
two-write number most some tens small =
    let few : number / 10 < 2 ^ 64 = omega (arith, small) in
    let ones : number % 10 < 10 = omega arith in
    let last : decimal (number % 10) ≡ (48 + number % 10) ∷ [] = decimal_digit (number % 10) ones in
    let value : digit_value (48 + number % 10) ≡ number % 10 = (let is = digit_value_digit (48 + number % 10) (omega arith, omega (arith, ones)) in omega (arith, is)) in
    let front = decimal_is_IsNumeral (number / 10) few in
    let many : length (decimal (number / 10)) ≤ most = length-decimal-le most (number / 10) some tens few in
    let longer = length-append (decimal (number / 10)) ((48 + number % 10) ∷ []) in
    subst (λ (ds : List ℕ). AreDigitsOf number (suc most) (decimal (number / 10) ++ ds)) (sym last)
    (record {
      digits = (omega (arith, longer), digits-more (decimal (number / 10)) (48 + number % 10) front.0.1 (omega (arith, value, ones)));
      few = omega (arith, longer, many);
      value = (let pushed = digits_value_push 10 (decimal (number / 10)) (48 + number % 10) in omega (arith, pushed, front.1, value));
    })

pub reports_named : ReportsNameThem
reports_named = record {
  tracks_named = λ track low. record { cylinder = two_digits track.cylinder; is = append_assoc (two_digits track.cylinder) (codes ".") (decimal track.head); writes = two-write track.cylinder 1 (omega arith) (omega (arith, low)) (omega (arith, low)) };
  sectors_named = λ sector low. two-write sector 2 (omega arith) (omega (arith, low)) (omega (arith, low));
}

use Rattle.std.proofs.Common.{◌<◌, ◌∙◌, ap, arith, subst, sym, List, ℕ}
use Rattle.std.specs.Str.Parse.{AllDigits, IsNumeral, digits_value, without_leading_plus}
use Rattle.std.proofs.lemmas.Fmt.{IsAscii-from_digits}
use Rattle.std.proofs.lemmas.Str.{IsUtf8-from_ascii}
use Rattle.std.proofs.lemmas.Str.Parse.{digits_value_short, numerals_by_value, tells_digits, without_leading_plus_none}
use Rattle.ibm_disks.proofs.word.value_of.Goals as goal

pub returns-in_default-clause-none : goal.returns-in_default-clause-none
returns-in_default-clause-none c = λ digits. c.in_default.ensures.cases.0 (IsUtf8-from_ascii c.args.text.now (IsAscii-from_digits c.args.text.now digits))

pub returns-in-Err-clause-none : goal.returns-in-Err-clause-none
returns-in-Err-clause-none c = λ digits. (
    let text = c.args.text.now in
    let short : digits_value 10 text < 10000 = digits_value_short (numerals_by_value (AllDigits 10) tells_digits) text 4 digits c.requires.few in
    let plain = ap without_leading_plus c.in-Ok.ensures.cases.0 ∙ without_leading_plus_none text c.if-text-eq43.false in
    c.in-Err.ensures.value (subst (λ (ds : List ℕ). IsNumeral 10 ds × (digits_value 10 ds < 65536)) (sym plain) ((c.requires.some, digits), omega (arith, short))))

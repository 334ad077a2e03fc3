-- The lines of a report that are not those of sectors, and those that are not of streams that were passed over: none has the text of such a
-- line.
use Rattle.std.specs.Prelude.{◌≡◌, ◌≢◌, ◌==◌, ◌<◌, ◌⊎◌, ℕ, ◌+◌, ◌-◌, ◌/◌, ◌%◌, All, Bool, false, List, [], ◌∷◌, ◌++◌, codes, decimal, get_or, length, refl}
use Rattle.std.specs.List.{slice_split}
use Rattle.std.proofs.Common.{ap, sym, ◌∙◌, arith, append_assoc, inl, inr, length-append, lit<}
use Rattle.std.proofs.Math.Nat.{div-lt_iff_lt-mul, mod-lt}
use Rattle.std.proofs.Math.Seq.{get_or-append_seam}
use Rattle.std.proofs.lemmas.Bool.{ne_eqb}
use Rattle.std.proofs.lemmas.Fmt.{decimal_digit}
use Rattle.std.proofs.lemmas.List.Elements.{All-append, All-cons, All-get_or, All-nil}
use Rattle.std.proofs.lemmas.List.Splits.{slice_split_at}
use Rattle.flux_base.specs.declared.header_name.HeaderName.{HeaderName}
use Rattle.flux_base.specs.declared.header_name.HeaderName.TheVariants.{Address, TrackSector, TrackSectorSide}
use Rattle.flux_base.specs.declared.track.TrackId.{TrackId}
use Rattle.flux_base.specs.lemmas.Digits.{of_digits}
use Rattle.sector_report.specs.DumpLines.{dump_name, name_text, other_text, passed_text, traces_text, unread_text, untold_text}
use Rattle.sector_report.specs.LineLaws.{LineFits}
use Rattle.sector_report.specs.ScpLines.{scp_fault_text}
use Rattle.sector_report.specs.Lines.{fault_text, named_text, place_text, sector_name, total_text, two_digits, verdict_text}
use Rattle.sector_report.specs.declared.dump_lines.Passed.{Passed}
use Rattle.sector_report.specs.declared.dump_lines.Passed.TheVariants.{Absent, Failed, Refused, RefusedScp}
use Rattle.sector_report.specs.declared.naming.Naming.{Naming}
use Rattle.sector_report.specs.declared.totals.Totals.{Totals}
use Rattle.turn_merge.specs.declared.others.OtherTold.{OtherTold}
use Rattle.turn_merge.specs.declared.verdict.Verdict.{Verdict}

-- the text is that of no stream's line that was passed over
abbrev pub IsNoPassed : List ℕ → Type 0
IsNoPassed text = (track : TrackId) (dump : ℕ) (why : Passed) → passed_text track dump why ≢ text

-- the text is that of no sector's line whose numbers fit
abbrev pub IsNoSector : List ℕ → Type 0
IsNoSector text = (naming : Naming) (track : TrackId) (sector : ℕ) (verdict : Verdict) → LineFits naming track sector verdict → named_text naming track sector verdict ≢ text

abbrev is_blank : ℕ → Bool
is_blank byte = byte == 32

-- the text has no blank
abbrev IsWord : List ℕ → Type 0
IsWord text = All (λ (byte : ℕ). is_blank byte ≡ false) text

-- what stands between the blanks, and between the first one and the second one
abbrev words : List ℕ → List (List ℕ)
words text = slice_split is_blank text

abbrev second_word : List ℕ → List ℕ
second_word text = get_or (words text) 1 []

word-decimal : (n : ℕ) → IsWord (decimal n)
word-decimal n =
    of_digits IsWord
    (λ digit text low high is. All-cons (λ (byte : ℕ). is_blank byte ≡ false) digit text (ne_eqb digit 32 (λ same. omega (arith, low, same))) is)
    (All-nil (λ (byte : ℕ). is_blank byte ≡ false)) n

word-append : (xs ys : List ℕ) → IsWord xs → IsWord ys → IsWord (xs ++ ys)
word-append xs ys first second = All-append (λ (byte : ℕ). is_blank byte ≡ false) xs ys first second

word-cons : (byte : ℕ) (rest : List ℕ) → is_blank byte ≡ false → IsWord rest → IsWord (byte ∷ rest)
word-cons byte rest is more = All-cons (λ (b : ℕ). is_blank b ≡ false) byte rest is more

word-end : IsWord []
word-end = All-nil (λ (byte : ℕ). is_blank byte ≡ false)

word-point : IsWord (codes ".")
word-point = word-cons 46 [] refl word-end

word-dump : IsWord (codes "dump")
word-dump = word-cons 100 (codes "ump") refl (word-cons 117 (codes "mp") refl (word-cons 109 (codes "p") refl (word-cons 112 [] refl word-end)))

word-refused : IsWord (codes "refused")
word-refused =
    word-cons 114 (codes "efused") refl (word-cons 101 (codes "fused") refl (word-cons 102 (codes "used") refl
    (word-cons 117 (codes "sed") refl (word-cons 115 (codes "ed") refl (word-cons 101 (codes "d") refl (word-cons 100 [] refl word-end))))))

word-unread : IsWord (codes "unread")
word-unread =
    word-cons 117 (codes "nread") refl (word-cons 110 (codes "read") refl (word-cons 114 (codes "ead") refl
    (word-cons 101 (codes "ad") refl (word-cons 97 (codes "d") refl (word-cons 100 [] refl word-end)))))

word-total : IsWord (codes "total")
word-total =
    word-cons 116 (codes "otal") refl (word-cons 111 (codes "tal") refl (word-cons 116 (codes "al") refl (word-cons 97 (codes "l") refl (word-cons 108 [] refl word-end))))

word-others : IsWord (codes "others")
word-others =
    word-cons 111 (codes "thers") refl (word-cons 116 (codes "hers") refl (word-cons 104 (codes "ers") refl (word-cons 101 (codes "rs") refl
    (word-cons 114 (codes "s") refl (word-cons 115 [] refl word-end)))))

word-traces : IsWord (codes "traces")
word-traces =
    word-cons 116 (codes "races") refl (word-cons 114 (codes "aces") refl (word-cons 97 (codes "ces") refl (word-cons 99 (codes "es") refl
    (word-cons 101 (codes "s") refl (word-cons 115 [] refl word-end)))))

word-other : IsWord (codes "other")
word-other =
    word-cons 111 (codes "ther") refl (word-cons 116 (codes "her") refl (word-cons 104 (codes "er") refl (word-cons 101 (codes "r") refl (word-cons 114 [] refl word-end))))

word-two : (n : ℕ) → IsWord (two_digits n)
unfolding two_digits
word-two n = word-append (decimal (n / 10)) (decimal (n % 10)) (word-decimal (n / 10)) (word-decimal (n % 10))

-- a track's name, which each line of a track begins with
abbrev name_of : TrackId → List ℕ
name_of track = two_digits track.cylinder ++ codes "." ++ decimal track.head

word-name : (track : TrackId) → IsWord (name_of track)
word-name track =
    word-append (two_digits track.cylinder ++ codes ".") (decimal track.head)
    (word-append (two_digits track.cylinder) (codes ".") (word-two track.cylinder) word-point) (word-decimal track.head)

-- a word, and those behind its blank
next : (word rest : List ℕ) → IsWord word → words (word ++ 32 ∷ rest) ≡ word ∷ words rest
next word rest is = slice_split_at is_blank word 32 rest is refl

-- the word behind the name
behind_name : (track : TrackId) (word rest : List ℕ) → IsWord word → second_word (name_of track ++ 32 ∷ (word ++ 32 ∷ rest)) ≡ word
behind_name track word rest is =
    ap (λ (ws : List (List ℕ)). get_or ws 1 []) (next (name_of track) (word ++ 32 ∷ rest) (word-name track) ∙ ap (λ (ws : List (List ℕ)). name_of track ∷ ws) (next word rest is))

-- of a sector's line it is the sector's number
sector_shape : (c h s v : List ℕ) → ((c ++ codes "." ++ h ++ codes " " ++ s ++ codes " ") ++ v) ++ codes "\n" ≡ (c ++ codes "." ++ h) ++ 32 ∷ (s ++ 32 ∷ (v ++ codes "\n"))
sector_shape c h s v = simp append_assoc

sector_second : (naming : Naming) (track : TrackId) (sector : ℕ) (verdict : Verdict) → second_word (named_text naming track sector verdict) ≡ two_digits sector
unfolding named_text sector_name
sector_second naming track sector verdict =
    ap second_word (sector_shape (two_digits track.cylinder) (decimal track.head) (two_digits sector) (verdict_text naming verdict))
    ∙ behind_name track (two_digits sector) (verdict_text naming verdict ++ codes "\n") (word-two sector)

-- whose last byte is a digit
abbrev last_of : List ℕ → ℕ
last_of text = get_or text (length text - 1) 0

last-is : (xs : List ℕ) (a : ℕ) → last_of (xs ++ a ∷ []) ≡ a
last-is xs a =
    let size : length (xs ++ a ∷ []) ≡ length xs + 1 = length-append xs (a ∷ []) in
    let place : length (xs ++ a ∷ []) - 1 ≡ length xs = omega (arith, size) in
    ap (λ (k : ℕ). get_or (xs ++ a ∷ []) k 0) place ∙ get_or-append_seam xs a [] 0

last_digit : (n : ℕ) → last_of (two_digits n) ≡ 48 + n % 10
unfolding two_digits
last_digit n =
    ap (λ (d : List ℕ). last_of (decimal (n / 10) ++ d)) (decimal_digit (n % 10) (mod-lt n (lit< tt)))
    ∙ last-is (decimal (n / 10)) (48 + n % 10)

-- so a line with another word there is no sector's
pub other_word : (word text : List ℕ) → second_word text ≡ word → 57 < last_of word → IsNoSector text
other_word word text is high naming track sector verdict fits same =
    let number : two_digits sector ≡ word = sym (sector_second naming track sector verdict) ∙ ap second_word same ∙ is in
    let digit : last_of word ≡ 48 + sector % 10 = sym (ap last_of number) ∙ last_digit sector in
    let low : sector % 10 < 10 = mod-lt sector (lit< tt) in
    omega (arith, high, digit, low)

-- a stream that was passed over: its track, its dump and the reason
dump_shape : (c h d rest : List ℕ) → (c ++ codes "." ++ h ++ codes " dump " ++ d ++ codes " ") ++ rest ≡ (c ++ codes "." ++ h) ++ 32 ∷ (codes "dump" ++ 32 ∷ (d ++ 32 ∷ rest))
dump_shape c h d rest = simp append_assoc

dump_words : (track : TrackId) (dump : ℕ) (rest : List ℕ) → words (dump_name track dump ++ rest) ≡ name_of track ∷ codes "dump" ∷ decimal dump ∷ words rest
unfolding dump_name
dump_words track dump rest =
    ap words (dump_shape (two_digits track.cylinder) (decimal track.head) (decimal dump) rest)
    ∙ next (name_of track) (codes "dump" ++ 32 ∷ (decimal dump ++ 32 ∷ rest)) (word-name track)
    ∙ ap (λ (ws : List (List ℕ)). name_of track ∷ ws) (next (codes "dump") (decimal dump ++ 32 ∷ rest) word-dump)
    ∙ ap (λ (ws : List (List ℕ)). name_of track ∷ codes "dump" ∷ ws) (next (decimal dump) rest (word-decimal dump))

absent_shape : (name : List ℕ) → (name ++ codes "missing") ++ codes "\n" ≡ name ++ codes "missing\n"
absent_shape name = simp append_assoc

failed_shape : (name : List ℕ) → (name ++ codes "failed") ++ codes "\n" ≡ name ++ codes "failed\n"
failed_shape name = simp append_assoc

refused_shape : (name block fault : List ℕ)
    → (((name ++ (codes "refused block " ++ block)) ++ codes " ") ++ fault) ++ codes "\n" ≡ name ++ (codes "refused" ++ 32 ∷ (codes "block " ++ block ++ codes " " ++ fault ++ codes "\n"))
refused_shape name block fault = simp append_assoc

refused_scp_shape : (name fault : List ℕ) → ((name ++ codes "refused scp ") ++ fault) ++ codes "\n" ≡ name ++ (codes "refused" ++ 32 ∷ (codes "scp " ++ fault ++ codes "\n"))
refused_scp_shape name fault = simp append_assoc

-- the first word of the reason
abbrev reason_word : Passed → List ℕ
reason_word Absent = codes "missing\n"
reason_word Failed = codes "failed\n"
reason_word (Refused block fault) = codes "refused"
reason_word (RefusedScp fault) = codes "refused"

pub passed_words : (track : TrackId) (dump : ℕ) (why : Passed)
    → (rest : List (List ℕ)) × (words (passed_text track dump why) ≡ name_of track ∷ codes "dump" ∷ decimal dump ∷ reason_word why ∷ rest)
unfolding passed_text
passed_words track dump Absent = ([], ap words (absent_shape (dump_name track dump)) ∙ dump_words track dump (codes "missing\n"))
passed_words track dump Failed = ([], ap words (failed_shape (dump_name track dump)) ∙ dump_words track dump (codes "failed\n"))
passed_words track dump (Refused block fault) =
    let rest : List ℕ = codes "block " ++ decimal block ++ codes " " ++ fault_text fault ++ codes "\n" in (
      words rest,
      ap words (refused_shape (dump_name track dump) (decimal block) (fault_text fault))
          ∙ dump_words track dump (codes "refused" ++ 32 ∷ rest)
          ∙ ap (λ (ws : List (List ℕ)). name_of track ∷ codes "dump" ∷ decimal dump ∷ ws) (next (codes "refused") rest word-refused),
    )
passed_words track dump (RefusedScp fault) =
    let rest : List ℕ = codes "scp " ++ scp_fault_text fault ++ codes "\n" in (
      words rest,
      ap words (refused_scp_shape (dump_name track dump) (scp_fault_text fault))
          ∙ dump_words track dump (codes "refused" ++ 32 ∷ rest)
          ∙ ap (λ (ws : List (List ℕ)). name_of track ∷ codes "dump" ∷ decimal dump ∷ ws) (next (codes "refused") rest word-refused),
    )

-- lines of one text tell one track and one dump
pub absent_same : (track other : TrackId) (dump another : ℕ) (why reason : Passed) → passed_text track dump why ≡ passed_text other another reason
    → passed_text track dump Absent ≡ passed_text other another Absent
unfolding dump_name passed_text
absent_same track other dump another why reason same =
    let all = sym (passed_words track dump why).1 ∙ ap words same ∙ (passed_words other another reason).1 in
    let names : name_of track ≡ name_of other = ap (λ (ws : List (List ℕ)). get_or ws 0 []) all in
    let dumps : decimal dump ≡ decimal another = ap (λ (ws : List (List ℕ)). get_or ws 2 []) all in
    ap (λ (name : List ℕ). name ++ codes " dump " ++ decimal dump ++ codes " " ++ codes "missing" ++ codes "\n") names
    ∙ ap (λ (d : List ℕ). name_of other ++ codes " dump " ++ d ++ codes " " ++ codes "missing" ++ codes "\n") dumps

passed_second : (track : TrackId) (dump : ℕ) (why : Passed) → second_word (passed_text track dump why) ≡ codes "dump"
passed_second track dump why = ap (λ (ws : List (List ℕ)). get_or ws 1 []) (passed_words track dump why).1

pub passed_no_sector : (track : TrackId) (dump : ℕ) (why : Passed) → IsNoSector (passed_text track dump why)
passed_no_sector track dump why = other_word (codes "dump") (passed_text track dump why) (passed_second track dump why) (lit< tt)

-- what has another word there is none
other_than_dump : (text : List ℕ) (byte : ℕ) → last_of (second_word text) ≡ byte → (byte < 112) ⊎ (112 < byte) → IsNoPassed text
other_than_dump text byte is other track dump why same =
    by (sym (ap last_of (passed_second track dump why)) ∙ ap (λ (t : List ℕ). last_of (second_word t)) same ∙ is) other
  where
    by : 112 ≡ byte → (byte < 112) ⊎ (112 < byte) → ⊥
    by here (inl low) = omega (arith, here, low)
    by here (inr high) = omega (arith, here, high)

pub sector_no_passed : (naming : Naming) (track : TrackId) (sector : ℕ) (verdict : Verdict) → IsNoPassed (named_text naming track sector verdict)
sector_no_passed naming track sector verdict =
    let low : sector % 10 < 10 = mod-lt sector (lit< tt) in
    other_than_dump (named_text naming track sector verdict) (48 + sector % 10)
    (ap last_of (sector_second naming track sector verdict) ∙ last_digit sector) (inl (omega (arith, low)))

-- lines of one text have one word for the reason
same_reason : (track : TrackId) (dump : ℕ) (why : Passed) (other : TrackId) (another : ℕ) (reason : Passed)
    → passed_text track dump why ≡ passed_text other another reason → reason_word why ≡ reason_word reason
same_reason track dump why other another reason same =
    sym (ap (λ (ws : List (List ℕ)). get_or ws 3 []) (passed_words track dump why).1)
    ∙ ap (λ (text : List ℕ). get_or (words text) 3 []) same
    ∙ ap (λ (ws : List (List ℕ)). get_or ws 3 []) (passed_words other another reason).1

missing_by : (why : Passed) → reason_word why ≡ codes "missing\n" → why ≡ Absent
missing_by Absent word = refl
missing_by Failed word = (let sizes : 7 ≡ 8 = ap (λ (word : List ℕ). length word) word in absurd (omega (arith, sizes)))
missing_by (Refused block fault) word = (let sizes : 7 ≡ 8 = ap (λ (word : List ℕ). length word) word in absurd (omega (arith, sizes)))
missing_by (RefusedScp fault) word = (let sizes : 7 ≡ 8 = ap (λ (word : List ℕ). length word) word in absurd (omega (arith, sizes)))

failed_by : (why : Passed) → reason_word why ≡ codes "failed\n" → why ≡ Failed
failed_by Absent word = (let sizes : 8 ≡ 7 = ap (λ (word : List ℕ). length word) word in absurd (omega (arith, sizes)))
failed_by Failed word = refl
failed_by (Refused block fault) word = (let first : 114 ≡ 102 = ap (λ (word : List ℕ). get_or word 0 0) word in absurd (omega (arith, first)))
failed_by (RefusedScp fault) word = (let first : 114 ≡ 102 = ap (λ (word : List ℕ). get_or word 0 0) word in absurd (omega (arith, first)))

pub missing_is_missing : (track : TrackId) (dump : ℕ) (why : Passed) (other : TrackId) (another : ℕ)
    → passed_text track dump why ≡ passed_text other another Absent → why ≡ Absent
missing_is_missing track dump why other another same = missing_by why (same_reason track dump why other another Absent same)

pub failed_is_failed : (track : TrackId) (dump : ℕ) (why : Passed) (other : TrackId) (another : ℕ)
    → passed_text track dump why ≡ passed_text other another Failed → why ≡ Failed
failed_is_failed track dump why other another same = failed_by why (same_reason track dump why other another Failed same)

-- a name of others
behind_blank : (name : HeaderName) → (rest : List ℕ) × (name_text name ≡ 32 ∷ rest)
unfolding name_text
behind_blank (Address cylinder head sector code) =
    (decimal cylinder ++ codes " " ++ decimal head ++ codes " " ++ decimal sector ++ codes " " ++ decimal code, refl)
behind_blank (TrackSector track sector) = (decimal track ++ codes " " ++ decimal sector, refl)
behind_blank (TrackSectorSide track sector side format) =
    (decimal track ++ codes " " ++ decimal sector ++ codes " " ++ decimal side ++ codes " " ++ decimal format, refl)

other_shape : (c h name rest : List ℕ) → (c ++ codes "." ++ h ++ codes " other") ++ ((32 ∷ name) ++ rest) ≡ (c ++ codes "." ++ h) ++ 32 ∷ (codes "other" ++ 32 ∷ (name ++ rest))
other_shape c h name rest = simp append_assoc

rest_shape : (front name blank headers more whole place end : List ℕ)
    → front ++ name ++ blank ++ headers ++ more ++ whole ++ place ++ end ≡ front ++ (name ++ (blank ++ headers ++ more ++ whole ++ place ++ end))
rest_shape front name blank headers more whole place end = simp append_assoc

other_second : (naming : Naming) (track : TrackId) (told : OtherTold) → second_word (other_text naming track told) ≡ codes "other"
unfolding other_text
other_second naming track told =
    let name = behind_blank told.name in
    let front : List ℕ = two_digits track.cylinder ++ codes "." ++ decimal track.head ++ codes " other" in
    let rest : List ℕ = codes " " ++ decimal told.headers ++ codes " " ++ decimal told.whole ++ place_text naming told.first ++ codes "\n" in
    ap second_word
    (rest_shape front (name_text told.name) (codes " ") (decimal told.headers) (codes " ") (decimal told.whole) (place_text naming told.first) (codes "\n")
    ∙ ap (λ (text : List ℕ). front ++ (text ++ rest)) name.1
    ∙ other_shape (two_digits track.cylinder) (decimal track.head) name.0 rest)
    ∙ behind_name track (codes "other") (name.0 ++ rest) word-other

pub other_no_sector : (naming : Naming) (track : TrackId) (told : OtherTold) → IsNoSector (other_text naming track told)
other_no_sector naming track told = other_word (codes "other") (other_text naming track told) (other_second naming track told) (lit< tt)

pub other_no_passed : (naming : Naming) (track : TrackId) (told : OtherTold) → IsNoPassed (other_text naming track told)
other_no_passed naming track told = other_than_dump (other_text naming track told) 114 (ap last_of (other_second naming track told)) (inr (lit< tt))

-- that others are not told, and how many names have no data
untold_shape : (c h : List ℕ) → c ++ codes "." ++ h ++ codes " others not told" ++ codes "\n" ≡ (c ++ codes "." ++ h) ++ 32 ∷ (codes "others" ++ 32 ∷ codes "not told\n")
untold_shape c h = simp append_assoc

untold_second : (track : TrackId) → second_word (untold_text track) ≡ codes "others"
unfolding untold_text
untold_second track =
    ap second_word (untold_shape (two_digits track.cylinder) (decimal track.head)) ∙ behind_name track (codes "others") (codes "not told\n") word-others

pub untold_no_sector : (track : TrackId) → IsNoSector (untold_text track)
untold_no_sector track = other_word (codes "others") (untold_text track) (untold_second track) (lit< tt)

pub untold_no_passed : (track : TrackId) → IsNoPassed (untold_text track)
untold_no_passed track = other_than_dump (untold_text track) 115 (ap last_of (untold_second track)) (inr (lit< tt))

traces_shape : (c h count : List ℕ) → c ++ codes "." ++ h ++ codes " traces " ++ count ++ codes "\n" ≡ (c ++ codes "." ++ h) ++ 32 ∷ (codes "traces" ++ 32 ∷ (count ++ codes "\n"))
traces_shape c h count = simp append_assoc

traces_second : (track : TrackId) (count : ℕ) → second_word (traces_text track count) ≡ codes "traces"
unfolding traces_text
traces_second track count =
    ap second_word (traces_shape (two_digits track.cylinder) (decimal track.head) (decimal count)) ∙ behind_name track (codes "traces") (decimal count ++ codes "\n") word-traces

pub traces_no_sector : (track : TrackId) (count : ℕ) → IsNoSector (traces_text track count)
traces_no_sector track count = other_word (codes "traces") (traces_text track count) (traces_second track count) (lit< tt)

pub traces_no_passed : (track : TrackId) (count : ℕ) → IsNoPassed (traces_text track count)
traces_no_passed track count = other_than_dump (traces_text track count) 115 (ap last_of (traces_second track count)) (inr (lit< tt))

-- a sector's line begins with a digit
two-is : (n : ℕ) → n < 100 → two_digits n ≡ (48 + n / 10) ∷ (48 + n % 10) ∷ []
unfolding two_digits
two-is n low =
    let tens : n / 10 < 10 = (div-lt_iff_lt-mul (lit< tt)).1 low in
    ap (λ (d : List ℕ). d ++ decimal (n % 10)) (decimal_digit (n / 10) tens) ∙ ap (λ (d : List ℕ). (48 + n / 10) ∷ d) (decimal_digit (n % 10) (mod-lt n (lit< tt)))

first_shape : (two : List ℕ) (a b : ℕ) (h s v : List ℕ) → two ≡ a ∷ b ∷ []
    → get_or (((two ++ codes "." ++ h ++ codes " " ++ s ++ codes " ") ++ v) ++ codes "\n") 0 0 ≡ a
first_shape two a b h s v is = ap (λ (d : List ℕ). get_or (((d ++ codes "." ++ h ++ codes " " ++ s ++ codes " ") ++ v) ++ codes "\n") 0 0) is

sector_first : (naming : Naming) (track : TrackId) (sector : ℕ) (verdict : Verdict) → track.cylinder < 100 → get_or (named_text naming track sector verdict) 0 0 ≡ 48 + track.cylinder / 10
unfolding named_text sector_name
sector_first naming track sector verdict low =
    first_shape (two_digits track.cylinder) (48 + track.cylinder / 10) (48 + track.cylinder % 10) (decimal track.head) (two_digits sector) (verdict_text naming verdict) (two-is track.cylinder low)

-- so a line that begins with anything else is no sector's
pub other_first : (text : List ℕ) (byte : ℕ) → get_or text 0 0 ≡ byte → (byte < 48) ⊎ (57 < byte) → IsNoSector text
other_first text byte is other naming track sector verdict fits same =
    let tens : track.cylinder / 10 < 10 = (div-lt_iff_lt-mul (lit< tt)).1 fits.cylinder_fits in
    by (sym (sector_first naming track sector verdict fits.cylinder_fits) ∙ ap (λ (t : List ℕ). get_or t 0 0) same ∙ is) tens other
  where
    by : 48 + track.cylinder / 10 ≡ byte → track.cylinder / 10 < 10 → (byte < 48) ⊎ (57 < byte) → ⊥
    by both tens (inl low) = omega (arith, both, low)
    by both tens (inr high) = omega (arith, both, high, tens)

-- the two lines at the end
unread_first : (u o w : List ℕ) → get_or (codes "unread " ++ u ++ codes " other " ++ o ++ codes " whole " ++ w ++ codes "\n") 0 0 ≡ 117
unread_first u o w = refl

pub unread_no_sector : (unread others whole : ℕ) → IsNoSector (unread_text unread others whole)
unfolding unread_text
unread_no_sector unread others whole =
    other_first (unread_text unread others whole) 117 (unread_first (decimal unread) (decimal others) (decimal whole)) (inr (lit< tt))

-- and what is no line at all
pub end_no_sector : IsNoSector (10 ∷ [])
end_no_sector = other_first (10 ∷ []) 10 refl (inl (lit< tt))

-- a number is written in digits
abbrev AreLow : List ℕ → Type 0
AreLow text = All (λ (byte : ℕ). byte < 58) text

low-decimal : (n : ℕ) → AreLow (decimal n)
low-decimal n =
    of_digits AreLow (λ digit text low high is. All-cons (λ (byte : ℕ). byte < 58) digit text high is)
    (All-nil (λ (byte : ℕ). byte < 58)) n

low_last : (text : List ℕ) → AreLow text → last_of text < 58
low_last [] low = lit< tt
low_last (byte ∷ rest) low =
    let last : length (byte ∷ rest) - 1 < length (byte ∷ rest) = omega arith in
    All-get_or (λ (b : ℕ). b < 58) (byte ∷ rest) (length (byte ∷ rest) - 1) 0 last low

-- so a line whose second word is a number is none of a stream
number_no_passed : (word rest : List ℕ) (number : ℕ) (text : List ℕ) → IsWord word → text ≡ word ++ 32 ∷ (decimal number ++ 32 ∷ rest) → IsNoPassed text
number_no_passed word rest number text is same =
    let low = low_last (decimal number) (low-decimal number) in
    let second : second_word text ≡ decimal number =
    ap second_word same
    ∙ ap (λ (ws : List (List ℕ)). get_or ws 1 []) (next word (decimal number ++ 32 ∷ rest) is ∙ ap (λ (ws : List (List ℕ)). word ∷ ws) (next (decimal number) rest (word-decimal number))) in
    other_than_dump text (last_of (decimal number)) (ap last_of second) (inl (omega (arith, low)))

unread_shape : (u o w : List ℕ) → codes "unread " ++ u ++ codes " other " ++ o ++ codes " whole " ++ w ++ codes "\n" ≡ codes "unread" ++ 32 ∷ (u ++ 32 ∷ (codes "other " ++ o ++ codes " whole " ++ w ++ codes "\n"))
unread_shape u o w = simp append_assoc

pub unread_no_passed : (unread others whole : ℕ) → IsNoPassed (unread_text unread others whole)
unfolding unread_text
unread_no_passed unread others whole =
    number_no_passed (codes "unread") (codes "other " ++ decimal others ++ codes " whole " ++ decimal whole ++ codes "\n") unread (unread_text unread others whole) word-unread
    (unread_shape (decimal unread) (decimal others) (decimal whole))

total_shape : (s g b m c : List ℕ)
    → codes "total " ++ s ++ codes " good " ++ g ++ codes " bad " ++ b ++ codes " missing " ++ m ++ codes " contradictory " ++ c ++ codes "\n"
    ≡ codes "total" ++ 32 ∷ (s ++ 32 ∷ (codes "good " ++ g ++ codes " bad " ++ b ++ codes " missing " ++ m ++ codes " contradictory " ++ c ++ codes "\n"))
total_shape s g b m c = simp append_assoc

pub total_no_passed : (totals : Totals) → IsNoPassed (total_text totals)
unfolding total_text
total_no_passed totals =
    number_no_passed (codes "total")
    (codes "good " ++ decimal totals.good ++ codes " bad " ++ decimal totals.bad ++ codes " missing " ++ decimal totals.missing ++ codes " contradictory " ++ decimal totals.contradictory ++ codes "\n")
    totals.sectors (total_text totals) word-total
    (total_shape (decimal totals.sectors) (decimal totals.good) (decimal totals.bad) (decimal totals.missing) (decimal totals.contradictory))

pub end_no_passed : IsNoPassed (10 ∷ [])
end_no_passed = other_than_dump (10 ∷ []) 0 refl (inl (lit< tt))

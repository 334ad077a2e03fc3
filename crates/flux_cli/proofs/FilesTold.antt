-- The lines on files that are not made.
use Rattle.std.proofs.Common.{◌≡◌, ◌<◌, ◌≤◌, ◌+◌, ◌/◌, ◌%◌, ℕ, List, ◌∷◌, ◌++◌, length, codes, decimal, [], arith, ap, ◌∙◌}
use Rattle.std.proofs.lemmas.Fmt.{decimal_digit}
use Rattle.flux_base.specs.declared.track.TrackId.{TrackId}
use Rattle.sector_report.specs.Lines.{two_digits}
use Rattle.track_shelf.specs.Names.{IsNamed, ending_text, file_name_text}
use Rattle.flux_cli.specs.FilesTold.{file_text}

two-is : (n : ℕ) → n < 100 → two_digits n ≡ (48 + n / 10) ∷ (48 + n % 10) ∷ []
unfolding two_digits
two-is n low =
    let tens : n / 10 < 10 = omega (arith, low) in
    let ones : n % 10 < 10 = omega arith in
    ap (λ d. d ++ decimal (n % 10)) (decimal_digit (n / 10) tens) ∙ ap (λ d. (48 + n / 10) ∷ d) (decimal_digit (n % 10) ones)

name-is : (track : TrackId) → track.cylinder < 100 → track.head < 10
    → file_name_text track ≡ codes "track" ++ ((48 + track.cylinder / 10) ∷ (48 + track.cylinder % 10) ∷ 46 ∷ (48 + track.head) ∷ codes ".raw")
unfolding file_name_text ending_text
name-is track cylinder head =
    ap (λ (d : List ℕ). codes "track" ++ (d ++ codes "." ++ decimal track.head ++ codes ".raw")) (two-is track.cylinder cylinder)
    ∙ ap (λ (d : List ℕ). codes "track" ++ ((48 + track.cylinder / 10) ∷ (48 + track.cylinder % 10) ∷ 46 ∷ (d ++ codes ".raw"))) (decimal_digit track.head head)

-- the name of a track's file is short
pub name-size : (track : TrackId) → IsNamed track → length (file_name_text track) ≤ 40
name-size track named =
    let size : length (file_name_text track) ≡ 13 = ap length (name-is track named.cylinder (omega (arith, named.head))) in
    omega (arith, size)

-- a line by the name of the file is that of the track
pub line-is : (front : List ℕ) (number : ℕ) (between name : List ℕ) (track : TrackId) → name ≡ file_name_text track
    → front ++ (decimal number ++ (between ++ (name ++ codes "\n"))) ≡ file_text front number between track
unfolding file_text
line-is front number between name track is = ap (λ (n : List ℕ). front ++ (decimal number ++ (between ++ (n ++ codes "\n")))) is

-- The rows of words that people have.
use Rattle.std.specs.Prelude.{◌≡◌, ℕ, ◌<◌, ◌≤◌, Contains, List, get_or, length, map, nat_le, true, refl}
use Rattle.std.specs.Borrow.{Bor}
use Rattle.std.specs.List.{list_all}
use Rattle.std.proofs.Common.{ap, arith, sym, ◌∙◌}
use Rattle.std.proofs.lemmas.Bool.{leb-true}
use Rattle.std.proofs.lemmas.List.{get_or-map, length-map}
use Rattle.std.proofs.lemmas.List.Elements.{All-contains}
use Rattle.std.proofs.lemmas.List.Sums.{AllPass-from_list_all}
use Rattle.flux_help.specs.Meanings.{meanings}
use Rattle.flux_help.specs.declared.meanings.Meaning.{Meaning}

short_test : list_all (λ (m : List ℕ × List ℕ). nat_le (length m.1) 100) meanings ≡ true
short_test = refl

pub row-short : (row : List ℕ × List ℕ) → Contains meanings row → length row.1 ≤ 100
row-short row listed =
    leb-true _ _ (All-contains (λ (m : List ℕ × List ℕ). nat_le (length m.1) 100 ≡ true) meanings row
    (AllPass-from_list_all (λ (m : List ℕ × List ℕ). nat_le (length m.1) 100) meanings short_test) listed)

-- a row of the program's own table stands among them
abbrev pub as_pair : Meaning (Bor (List ℕ)) → List ℕ × List ℕ
as_pair row = (row.word.now, row.ending.now)

pub row-at : (rows : List (Meaning (Bor (List ℕ)))) (i : ℕ) (d : Meaning (Bor (List ℕ))) → i < length rows → map as_pair rows ≡ meanings → Contains meanings (as_pair (get_or rows i d))
row-at rows i d below is =
    let row : List ℕ × List ℕ = as_pair (get_or rows i d) in
    (i, omega (arith, below, length-map rows as_pair, ap length is), ap (λ (some : List (List ℕ × List ℕ)). get_or some i row) (sym is) ∙ get_or-map as_pair rows i d row below)

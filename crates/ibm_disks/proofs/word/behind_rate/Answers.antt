use Rattle.std.proofs.Common.{◌≡◌, ◌∙◌, ◌<◌, ◌++◌, ◌∷◌, ℕ, List, arith, decimal, subst, sym}
use Rattle.ibm_disks.specs.Words.{EndsWith}
use Rattle.ibm_disks.proofs.Splits.{decimal-no, one-split}
use Rattle.ibm_disks.proofs.word.behind_rate.Goals as goal

-- what stands behind a number and an x
behind : (text : List ℕ) (m n : ℕ) (rest rest' : List ℕ) → m < 10000 → n < 10000 → text ≡ decimal m ++ 120 ∷ rest → text ≡ decimal n ++ 120 ∷ rest' → rest ≡ rest'
behind text m n rest rest' low low' is is' =
    (one-split 120 (decimal m) rest (decimal n) rest' (decimal-no m low 120 (omega arith)) (decimal-no n low' 120 (omega arith)) (sym is ∙ is')).1

pub returns-in_default-number_before_x-clause-none : goal.returns-in_default-number_before_x-clause-none
returns-in_default-number_before_x-clause-none c = λ n short are.
    let one = c.in-Some.ensures.some in
    let first = behind c.args.text.now c.in-Some.cylinders n.cylinders c.in-Some.text.now are.behind_cylinders one.0 short.cylinders one.1 are.cylinders in
    c.in_default-number_before_x.ensures.none n.heads are.behind_heads short.heads (first ∙ are.heads)

pub returns-in_default-number_before_x-2-clause-none : goal.returns-in_default-number_before_x-2-clause-none
returns-in_default-number_before_x-2-clause-none c = λ n short are.
    let one = c.in-Some.ensures.some in
    let two = c.in-Some-number_before_x.ensures.some in
    let first = behind c.args.text.now c.in-Some.cylinders n.cylinders c.in-Some.text.now are.behind_cylinders one.0 short.cylinders one.1 are.cylinders in
    let second = behind c.in-Some.text.now c.in-Some-number_before_x.heads n.heads c.in-Some-number_before_x.text.now are.behind_heads two.0 short.heads two.1 (first ∙ are.heads) in
    c.in_default-number_before_x-2.ensures.none n.sectors are.behind_sectors short.sectors (second ∙ are.sectors)

pub returns-in_default-size_and_first-clause-none : goal.returns-in_default-size_and_first-clause-none
returns-in_default-size_and_first-clause-none c = λ n short are.
    let one = c.in-Some.ensures.some in
    let two = c.in-Some-number_before_x.ensures.some in
    let three = c.in-Some-number_before_x-2.ensures.some in
    let first = behind c.args.text.now c.in-Some.cylinders n.cylinders c.in-Some.text.now are.behind_cylinders one.0 short.cylinders one.1 are.cylinders in
    let second = behind c.in-Some.text.now c.in-Some-number_before_x.heads n.heads c.in-Some-number_before_x.text.now are.behind_heads two.0 short.heads two.1 (first ∙ are.heads) in
    let third = behind c.in-Some-number_before_x.text.now c.in-Some-number_before_x-2.sectors n.sectors c.in-Some-number_before_x-2.text.now are.behind_sectors three.0 short.sectors
    three.1 (second ∙ are.sectors) in
    c.in_default-size_and_first.ensures.none n.sector_bytes n.first_sector short.sector_bytes short.first_sector
    (subst (λ (text : List ℕ). EndsWith text n.sector_bytes n.first_sector) (sym third) are.ends)

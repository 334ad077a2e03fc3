use Rattle.std.proofs.Common.{rules, ltb, ℕ, ◌<◌, ◌≤◌, List, get_or, length, subst, sym, arith}
use Rattle.std.specs.List.Sorted.{IsNonDecreasing}
use Rattle.std.proofs.lemmas.Bool.{ltb-false, ltb-true}
use Rattle.std.proofs.lemmas.List.Sorted.{IsPartitionPoint-from_clause, IsPartitionedBy-ltb}
use Rattle.cell_bits.proofs.cells.places.WordPlaces.count_before.Goals as goal

pub returns-clause-before : goal.returns-clause-before
returns-clause-before c =
    let order = subst (λ (places : List ℕ). IsNonDecreasing places) (sym c.as_slice.ensures.value) c.requires in
    let point = IsPartitionPoint-from_clause (λ y. ltb y c.args.from) _ _ c.partition_point.ensures.partitioned
    (IsPartitionedBy-ltb (λ x. x) _ _ order) (λ a r f' called. search rules) in
    subst (λ (places : List ℕ). (k : ℕ) → k < c.partition_point.result → get_or places k 0 < c.args.from) c.as_slice.ensures.value
    (λ k below. ltb-true _ _ (point.0 k 0 (omega arith) below))

pub returns-clause-behind : goal.returns-clause-behind
returns-clause-behind c =
    let order = subst (λ (places : List ℕ). IsNonDecreasing places) (sym c.as_slice.ensures.value) c.requires in
    let point = IsPartitionPoint-from_clause (λ y. ltb y c.args.from) _ _ c.partition_point.ensures.partitioned
    (IsPartitionedBy-ltb (λ x. x) _ _ order) (λ a r f' called. search rules) in
    subst (λ (places : List ℕ). (k : ℕ) → c.partition_point.result ≤ k → k < length places → c.args.from ≤ get_or places k 0) c.as_slice.ensures.value
    (λ k past below. ltb-false _ _ (point.1 k 0 past below))

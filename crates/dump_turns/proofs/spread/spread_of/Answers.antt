use Rattle.std.proofs.Common.{◌≡◌, ◌<◌, ◌/◌, ◌-◌, ◌∙◌, ℕ, List, length, sym, ap, arith}
use Rattle.std.specs.List.{slice_get}
use Rattle.std.proofs.lemmas.List.Sorted.{IsNonDecreasingBy-from_sort}
use Rattle.std.proofs.lemmas.Option.{slice_get-get_or}
use Rattle.dump_turns.proofs.spread.spread_of.Goals as goal

pub returns : goal.returns
returns c =
    let sorted : List ℕ = c.sort_unstable.new.self in
    let long : length sorted ≡ length c.args.means.now = c.sort_unstable.ensures.len in
    let some : 0 < length c.args.means.now = c.requires in record {
      sorted = sorted;
      same = c.sort_unstable.ensures.permutation;
      order = IsNonDecreasingBy-from_sort (λ x. x) sorted c.sort_unstable.ensures.sorted;
      least = slice_get-get_or sorted 0 0 (omega (arith, long, some));
      median = ap (λ (n : ℕ). slice_get sorted (n / 2)) (sym long) ∙ slice_get-get_or sorted (length sorted / 2) 0 (omega (arith, long, some));
      greatest = ap (λ (n : ℕ). slice_get sorted (n - 1)) (sym long) ∙ slice_get-get_or sorted (length sorted - 1) 0 (omega (arith, long, some));
    }

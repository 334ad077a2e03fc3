use Rattle.std.proofs.Common.{◌≡◌, ◌==◌, ◌||◌, ◌&&◌, ℕ, Bool, true, false, length, nat_le, nat_lt, sym, ap, ◌∙◌, refl, arith}
use Rattle.std.specs.List.{list_all, range_with_len}
use Rattle.std.proofs.lemmas.Bool.Decides.{nat_tests}
use Rattle.scp_files.specs.Files.{entry_at, entry_end}
use Rattle.scp_files.proofs.Lists.{all-pass, one-fails}
use Rattle.scp_files.proofs.header.has_entry.Goals as goal

and_false : (b : Bool) → (b && false) ≡ false
and_false true = refl
and_false false = refl

pub returns-then-offset-end : goal.returns-then-offset-end
returns-then-offset-end c =
    let file = c.args.file.now in
    let number : ℕ = c.args.number in
    let k : ℕ = c.loop-before.before in
    let some = c.if-offset-ne0.true in
    let early = c.if-offset-end.true in
    let is = c.entry-offset.ensures in
    let from = c.from.ensures in
    let fails : (entry_at file k == 0 || nat_le (entry_end number) (entry_at file k)) ≡ false =
    grind (arith, nat_tests, some, early, is, from) in
    let all = one-fails (λ before. entry_at file before == 0 || nat_le (entry_end number) (entry_at file before)) 0 number k
    (omega arith) (omega (arith, c.loop-before-test.true)) fails in
    record {
      value = sym (ap (λ b. (nat_lt number 168 && nat_le (entry_end number) (length file)) && b) all
          ∙ and_false (nat_lt number 168 && nat_le (entry_end number) (length file)));
    }

pub returns : goal.returns
returns c =
    let file = c.args.file.now in
    let number : ℕ = c.args.number in
    let i = c.loop-before.invariant in
    let over = c.loop-before-test.false in
    let few = c.if-number-ge-TABLE_SIZE.false in
    let within = c.if-file-end.false in
    let from = c.from.ensures in
    let all = all-pass (λ before. entry_at file before == 0 || nat_le (entry_end number) (entry_at file before)) 0 number
    (λ k below. i.each k (omega (arith, over, below))) in
    let small : nat_lt number 168 ≡ true = grind (arith, nat_tests, few) in
    let inside : nat_le (entry_end number) (length file) ≡ true = grind (arith, nat_tests, within, from) in
    record {
      value = sym (ap (λ b. (b && nat_le (entry_end number) (length file)) && list_all (λ before. entry_at file before == 0
          || nat_le (entry_end number) (entry_at file before)) (range_with_len 0 number)) small
          ∙ ap (λ b. b && list_all (λ before. entry_at file before == 0
          || nat_le (entry_end number) (entry_at file before)) (range_with_len 0 number)) inside ∙ all);
    }

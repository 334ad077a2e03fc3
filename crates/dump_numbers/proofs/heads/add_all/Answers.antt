use Rattle.std.proofs.Common.{◌∙◌, refl, subst, sym, ◌≡◌, ℕ, arith}
use Rattle.dump_numbers.proofs.Others.{IsAddedTo, added_all, added_none, added_one, added_past}
use Rattle.dump_numbers.proofs.heads.add_all.Goals as goal
use Rattle.dump_numbers.proofs.heads.add_all.Goals.{then-has, else-has}

pub loop-number-init : goal.loop-number-init
loop-number-init c = record { added = added_none c.args.size c.args.from.now c.args.to.now; full = refl }

pub loop-number-preserved : goal.loop-number-preserved
loop-number-preserved c =
    let i = c.loop-number.invariant in
    elim c.if-has.branch [
      | then-has w ↦
          rw w.to-is (record {
            added = added_one c.args.size c.args.from.now c.args.to.now c.loop-number.to c.loop-number.number i.added w.insert.new.self (sym c.has.ensures ∙ w.if-has.true) w.insert.ensures.has;
            full = w.insert.ensures.full ∙ i.full;
          })
      | else-has w ↦
          rw w.to-is (record {
            added = added_past c.args.size c.args.from.now c.args.to.now c.loop-number.to c.loop-number.number i.added (sym c.has.ensures ∙ w.if-has.false);
            full = i.full;
          })
    ]

pub returns-clause-has : goal.returns-clause-has
returns-clause-has c =
    let end : c.loop-number.number ≡ 256 = omega (arith, c.loop-number-test.false, c.loop-number.auto.number-end) in
    added_all c.args.size c.args.from.now c.args.to.now c.loop-number.to
    (subst (λ (n : ℕ). IsAddedTo c.args.size c.args.from.now c.args.to.now c.loop-number.to n) end c.loop-number.invariant.added)

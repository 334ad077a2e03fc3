use Rattle.std.proofs.Common.{◌≡◌, ◌+◌, ℕ, suc, List, [], length, arith, refl, subst, ◌∙◌}
use Rattle.std.proofs.lemmas.List.{get_or_default}
use Rattle.dump_reading.specs.Files.{shelf_at}
use Rattle.disk_archive.specs.Finding.{HaveNoBest, IsAsked, IsUnasked}
use Rattle.disk_archive.proofs.Bests.{all-failed, first-best, one-lost, one-none}
use Rattle.disk_archive.proofs.Shelves.{if-some, none-if}
use Rattle.disk_archive.proofs.finding.find_best.Goals as goal

pub loop-number-init : goal.loop-number-init
loop-number-init g c = (refl, none-if (shelf_at g.H.Source g.H.Shelf c.args.shelf.now))

pub returns-in-Err-clause-err : goal.returns-in-Err-clause-err
returns-in-Err-clause-err g c =
    let n = c.loop-number.number in
    let dumps = c.args.dumps.now in
    let below = c.loop-number-test.true in
    let word = c.index-dumps-number.is ∙ get_or_default dumps n c.index-dumps-number.result [] below in
    let start = shelf_at g.H.Source g.H.Shelf c.args.shelf.now in
    let mid = shelf_at g.H.Source g.H.Shelf c.loop-number.shelf in
    let now = shelf_at g.H.Source g.H.Shelf c.ask.new.shelf in
    one-lost dumps n below start mid now c.loop-number.failed c.loop-number.invariant.0 c.loop-number.invariant.1 c.in-Err.fault
    (subst (λ (w : List ℕ). IsUnasked n w mid now c.in-Err.fault) word c.in-Err.ensures.err)

pub returns-in-Some-clause-ok : goal.returns-in-Some-clause-ok
returns-in-Some-clause-ok g c =
    let n = c.loop-number.number in
    let dumps = c.args.dumps.now in
    let below = c.loop-number-test.true in
    let word = c.index-dumps-number.is ∙ get_or_default dumps n c.index-dumps-number.result [] below in
    let start = shelf_at g.H.Source g.H.Shelf c.args.shelf.now in
    let mid = shelf_at g.H.Source g.H.Shelf c.loop-number.shelf in
    let now = shelf_at g.H.Source g.H.Shelf c.ask.new.shelf in
    first-best dumps n below start mid now c.loop-number.failed c.loop-number.invariant.0 c.loop-number.invariant.1 c.in-Ok.identity
    (subst (λ (w : List ℕ). IsAsked w mid now c.in-Ok.identity) word c.in-Ok.ensures.ok) c.in-Some.best c.in-Some.is

pub loop-number-preserved : goal.loop-number-preserved
loop-number-preserved g c =
    let n = c.loop-number.number in
    let dumps = c.args.dumps.now in
    let below = c.loop-number-test.true in
    let word = c.index-dumps-number.is ∙ get_or_default dumps n c.index-dumps-number.result [] below in
    let start = shelf_at g.H.Source g.H.Shelf c.args.shelf.now in
    let mid = shelf_at g.H.Source g.H.Shelf c.loop-number.shelf in
    let now = shelf_at g.H.Source g.H.Shelf c.ask.new.shelf in
    let asked = subst (λ (w : List ℕ). IsAsked w mid now c.in-Ok.identity) word c.in-Ok.ensures.ok in
    let next : suc n ≡ n + 1 = omega arith in (
      subst (λ (k : ℕ). HaveNoBest dumps k start now) next
          (one-none dumps n below start mid now c.loop-number.failed c.loop-number.invariant.0 c.loop-number.invariant.1 c.in-Ok.identity asked c.in_default.is),
      all-failed dumps n below start mid now c.loop-number.failed c.loop-number.invariant.0 c.loop-number.invariant.1 c.in-Ok.identity asked,
    )

pub returns-clause-err : goal.returns-clause-err
returns-clause-err g c =
    let dumps = c.args.dumps.now in
    let start = shelf_at g.H.Source g.H.Shelf c.args.shelf.now in
    let now = shelf_at g.H.Source g.H.Shelf c.loop-number.shelf in
    let all : c.loop-number.number ≡ length dumps = omega (arith, c.loop-number-test.false, c.loop-number.auto.number-end) in
    (subst (λ (k : ℕ). HaveNoBest dumps k start now) all c.loop-number.invariant.0, if-some c.loop-number.invariant.1)

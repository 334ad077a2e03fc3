use Rattle.std.proofs.Common.{◌≡◌, ◌<◌, ◌∙◌, [], ℕ, List, None, Some, arith, get_or, length, subst}
use Rattle.std.proofs.lemmas.List.{get_or_default}
use Rattle.imd_image.specs.inside.Reached.{IsOwnReach}
use Rattle.imd_image.proofs.Reaching.{to-all, to-more, to-without}
use Rattle.imd_image.proofs.reach.find_reach.Goals as goal

pub returns-in-None-clause-told : goal.returns-in-None-clause-told
returns-in-None-clause-told g c = λ files told.
    let name : c.bytes.result.now ≡ get_or c.args.dumps.now.names.now c.loop-dump.dump [] = c.bytes.ensures ∙ get_or_default c.args.dumps.now.names.now c.loop-dump.dump _ [] c.loop-dump-test.true in
    to-without (g.H.Shelf.files c.args.shelf.now) c.args.dumps.now.stepping c.args.dumps.now.names.now c.loop-dump.dump c.loop-dump.reach c.loop-dump.invariant files told
    c.loop-dump-test.true (subst (λ (d : List ℕ). IsOwnReach files c.args.dumps.now.stepping d None) name (c.in-None.ensures.told files told))

pub loop-dump-preserved : goal.loop-dump-preserved
loop-dump-preserved g c =
    let name : c.bytes.result.now ≡ get_or c.args.dumps.now.names.now c.loop-dump.dump [] = c.bytes.ensures ∙ get_or_default c.args.dumps.now.names.now c.loop-dump.dump _ [] c.loop-dump-test.true in
    rw c.wider-reach.ensures
    (to-more (g.H.Shelf.files c.args.shelf.now) c.args.dumps.now.stepping c.args.dumps.now.names.now c.loop-dump.dump c.loop-dump.reach c.loop-dump.invariant c.in-Some.own
    c.in-Some.ensures.bound
    (λ files told. subst (λ (d : List ℕ). IsOwnReach files c.args.dumps.now.stepping d (Some c.in-Some.own)) name (c.in-Some.ensures.told files told)))

pub returns-clause-told : goal.returns-clause-told
returns-clause-told g c = λ files told.
    let all : c.loop-dump.dump ≡ length c.args.dumps.now.names.now = omega (arith, c.loop-dump-test.false) in
    to-all (g.H.Shelf.files c.args.shelf.now) c.args.dumps.now.stepping c.args.dumps.now.names.now c.loop-dump.dump c.loop-dump.reach c.loop-dump.invariant files told all
    (omega (arith, all, c.requires.some))

use Rattle.track_shelf.proofs.Joins.{agree, by-end, differ, other-front, other-middle, too-short}
use Rattle.track_shelf.proofs.memory.files.goes_on.Goals as goal

pub returns-then-ne : goal.returns-then-ne
returns-then-ne c =
    let a = c.args in
    let e = c.split_at.ensures in
    other-front a.short.now a.after_short.now a.long.now a.after_long.now c.split_at.result.0.now c.split_at.result.1.now c.requires e.front e.back
    (differ c.ne.result a.short.now c.split_at.result.0.now c.ne.ensures c.if-ne.true)

pub returns-then-after_short-rest : goal.returns-then-after_short-rest
returns-then-after_short-rest c =
    let a = c.args in
    let e = c.split_at.ensures in
    too-short a.short.now a.after_short.now a.long.now a.after_long.now c.split_at.result.0.now c.split_at.result.1.now c.requires e.front e.back c.if-after_short-rest.true

pub returns-then-ne-2 : goal.returns-then-ne-2
returns-then-ne-2 c =
    let a = c.args in
    let e = c.split_at.ensures in
    let f = c.split_at-2.ensures in
    other-middle a.short.now a.after_short.now a.long.now a.after_long.now c.split_at.result.0.now c.split_at.result.1.now c.requires e.front e.back
    c.split_at-2.result.0.now c.split_at-2.result.1.now f.front f.back
    (differ c.ne-2.result c.split_at-2.result.0.now c.split_at.result.1.now c.ne-2.ensures c.if-ne-2.true)

pub returns : goal.returns
returns c =
    let a = c.args in
    let e = c.split_at.ensures in
    let f = c.split_at-2.ensures in
    by-end a.short.now a.after_short.now a.long.now a.after_long.now c.split_at.result.0.now c.split_at.result.1.now c.requires e.front e.back
    c.split_at-2.result.0.now c.split_at-2.result.1.now f.front f.back
    (agree c.ne.result a.short.now c.split_at.result.0.now c.ne.ensures c.if-ne.false)
    (agree c.ne-2.result c.split_at-2.result.0.now c.split_at.result.1.now c.ne-2.ensures c.if-ne-2.false)
    c.eq.result c.eq.ensures

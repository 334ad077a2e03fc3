use Rattle.std.proofs.Common.{◌≡◌, arith, length, refl}
use Rattle.std.proofs.lemmas.Grind.{common_steps}
use Rattle.std.specs.Vec.{vec_len}
use Rattle.told_disks.specs.declared.heads.NamedHeads.TheVariants.{Changed, First, Own}
use Rattle.dump_numbers.proofs.Noting.{noted_double, noted_single}
use Rattle.dump_numbers.proofs.sets.note_rate.Goals as goal

pub push_reserved-requires : goal.push_reserved-requires
push_reserved-requires c =
    let room = (c.requires.room Own).one in
    let whole : length c.args.sets.now.own.one.items ≡ vec_len c.args.sets.now.own.one = grind (arith, common_steps) in
    omega (arith, room, whole)

pub push_reserved-requires-2 : goal.push_reserved-requires-2
push_reserved-requires-2 c =
    let room = (c.requires.room First).one in
    let whole : length c.args.sets.now.first.one.items ≡ vec_len c.args.sets.now.first.one = grind (arith, common_steps) in
    omega (arith, room, whole)

pub push_reserved-requires-3 : goal.push_reserved-requires-3
push_reserved-requires-3 c =
    let room = (c.requires.room Changed).one in
    let whole : length c.args.sets.now.changed.one.items ≡ vec_len c.args.sets.now.changed.one = grind (arith, common_steps) in
    omega (arith, room, whole)

pub push_reserved-requires-4 : goal.push_reserved-requires-4
push_reserved-requires-4 c =
    let room = (c.requires.room Own).two (c.is_double.ensures.yes c.if-not-is_double.false) in
    let whole : length c.args.sets.now.own.two.items ≡ vec_len c.args.sets.now.own.two = grind (arith, common_steps) in
    omega (arith, room, whole)

pub push_reserved-requires-5 : goal.push_reserved-requires-5
push_reserved-requires-5 c =
    let room = (c.requires.room First).two (c.is_double.ensures.yes c.if-not-is_double.false) in
    let whole : length c.args.sets.now.first.two.items ≡ vec_len c.args.sets.now.first.two = grind (arith, common_steps) in
    omega (arith, room, whole)

pub push_reserved-requires-6 : goal.push_reserved-requires-6
push_reserved-requires-6 c =
    let room = (c.requires.room Changed).two (c.is_double.ensures.yes c.if-not-is_double.false) in
    let whole : length c.args.sets.now.changed.two.items ≡ vec_len c.args.sets.now.changed.two = grind (arith, common_steps) in
    omega (arith, room, whole)

pub returns-then-not-is_double-clause-noted : goal.returns-then-not-is_double-clause-noted
returns-then-not-is_double-clause-noted c Own =
    noted_single Own c.args.rate c.args.stream.now c.args.file _ _ c.stream_names-names.result.own (c.is_double.ensures.no c.if-not-is_double.true) (c.stream_names-names.ensures.sets Own)
    c.push_reserved.ensures.items c.push_reserved.ensures.capacity refl
returns-then-not-is_double-clause-noted c First =
    noted_single First c.args.rate c.args.stream.now c.args.file _ _ c.stream_names-names.result.first (c.is_double.ensures.no c.if-not-is_double.true) (c.stream_names-names.ensures.sets First)
    c.push_reserved-2.ensures.items c.push_reserved-2.ensures.capacity refl
returns-then-not-is_double-clause-noted c Changed =
    noted_single Changed c.args.rate c.args.stream.now c.args.file _ _ c.stream_names-names.result.changed (c.is_double.ensures.no c.if-not-is_double.true) (c.stream_names-names.ensures.sets Changed)
    c.push_reserved-3.ensures.items c.push_reserved-3.ensures.capacity refl

pub returns-clause-noted : goal.returns-clause-noted
returns-clause-noted c Own =
    noted_double Own c.args.rate c.args.stream.now c.args.file _ _ c.stream_names-names.result.own c.stream_names-names-2.result.own (c.is_double.ensures.yes c.if-not-is_double.false)
    (c.stream_names-names.ensures.sets Own) (rw c.stream_names-names.ensures.stream at c.stream_names-names-2.ensures.sets Own) c.push_reserved.ensures.items
    c.push_reserved.ensures.capacity c.push_reserved-4.ensures.items c.push_reserved-4.ensures.capacity
returns-clause-noted c First =
    noted_double First c.args.rate c.args.stream.now c.args.file _ _ c.stream_names-names.result.first c.stream_names-names-2.result.first (c.is_double.ensures.yes c.if-not-is_double.false)
    (c.stream_names-names.ensures.sets First) (rw c.stream_names-names.ensures.stream at c.stream_names-names-2.ensures.sets First) c.push_reserved-2.ensures.items
    c.push_reserved-2.ensures.capacity c.push_reserved-5.ensures.items c.push_reserved-5.ensures.capacity
returns-clause-noted c Changed =
    noted_double Changed c.args.rate c.args.stream.now c.args.file _ _ c.stream_names-names.result.changed c.stream_names-names-2.result.changed (c.is_double.ensures.yes c.if-not-is_double.false)
    (c.stream_names-names.ensures.sets Changed) (rw c.stream_names-names.ensures.stream at c.stream_names-names-2.ensures.sets Changed) c.push_reserved-3.ensures.items
    c.push_reserved-3.ensures.capacity c.push_reserved-6.ensures.items c.push_reserved-6.ensures.capacity

use Rattle.std.proofs.Common.{◌≡◌, ◌≤◌, arith, length}
use Rattle.std.proofs.lemmas.Grind.{common_steps}
use Rattle.std.specs.Vec.{vec_len}
use Rattle.dump_numbers.specs.inside.Noted.{file_count}
use Rattle.dump_numbers.proofs.Noting.{file-even, file-next, file-past, file-room}
use Rattle.dump_numbers.proofs.room.NumbersRoom.note_file.Goals as goal

pub returns-then-number-ge-MOST_FILES-clause-noted : goal.returns-then-number-ge-MOST_FILES-clause-noted
returns-then-number-ge-MOST_FILES-clause-noted c = λ came noted.
    let whole : length c.self.inside.sets.dd.own.one.items ≡ vec_len c.self.inside.sets.dd.own.one = grind (arith, common_steps) in
    let past : 198 ≤ file_count c.self.inside.sets = (let long = c.if-number-ge-MOST_FILES.true in let is = c.len-number.ensures in omega (arith, whole, long, is)) in
    file-past came c.args.stream.now c.self.inside.sets c.args.self.now c.self.view_is past noted

pub note_sets-requires : goal.note_sets-requires
note_sets-requires c =
    let whole : length c.self.inside.sets.dd.own.one.items ≡ vec_len c.self.inside.sets.dd.own.one = grind (arith, common_steps) in
    let count : c.len-number.result ≡ file_count c.self.inside.sets = (let is = c.len-number.ensures in omega (arith, whole, is)) in
    record { room = file-room c.len-number.result c.self.inside.sets count c.if-number-ge-MOST_FILES.false c.self.invariant.0 }

pub invariant_of-self : goal.invariant_of-self
invariant_of-self c =
    let whole : length c.self.inside.sets.dd.own.one.items ≡ vec_len c.self.inside.sets.dd.own.one = grind (arith, common_steps) in
    let count : c.len-number.result ≡ file_count c.self.inside.sets = (let is = c.len-number.ensures in omega (arith, whole, is)) in (
      file-even c.len-number.result c.self.inside.sets count c.if-number-ge-MOST_FILES.false c.self.invariant.0 c.args.stream.now c.note_sets.new.sets c.note_sets.ensures.noted,
      c.self.invariant.1,
      c.self.invariant.2,
    )

pub returns-clause-noted : goal.returns-clause-noted
returns-clause-noted c = λ came noted.
    let whole : length c.self.inside.sets.dd.own.one.items ≡ vec_len c.self.inside.sets.dd.own.one = grind (arith, common_steps) in
    let count : c.len-number.result ≡ file_count c.self.inside.sets = (let is = c.len-number.ensures in omega (arith, whole, is)) in
    file-next c.len-number.result c.self.inside.sets count c.if-number-ge-MOST_FILES.false c.self.invariant.0 c.args.stream.now c.note_sets.new.sets c.note_sets.ensures.noted came
    c.args.self.now c.self.view_is noted

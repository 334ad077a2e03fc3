use Rattle.std.proofs.Common.{ℕ, ◌+◌, ◌<◌, arith}
use Rattle.std.specs.Int.Count.{count_leading_zeros}
use Rattle.cell_bits.proofs.Candidates.{first-digit}
use Rattle.cell_bits.proofs.Searching.{nowhere-none, nowhere-beyond, nowhere-more, nowhere-block, told-stands}
use Rattle.cell_bits.proofs.cells.Cells.seek_word.Goals as goal

pub returns-then-length-count : goal.returns-then-length-count
returns-then-length-count c =
    nowhere-beyond c.args.self.now.cells c.args.word c.args.count c.requires.some c.args.from c.args.from c.args.to
    (nowhere-none c.args.self.now.cells c.args.word c.args.count c.args.from) (λ before. omega arith)

pub returns-then-first-end : goal.returns-then-first-end
returns-then-first-end c =
    let some : 0 < c.places_of-places.result = omega arith in
    let at = first-digit c.places_of-places.result some (omega arith) in
    let zeros : ℕ = count_leading_zeros 64 c.places_of-places.result in
    let within : zeros < 64 = at.0 in (
      omega arith,
      omega arith,
      told-stands c.args.self.now.cells c.args.word c.args.count c.loop-place.place c.loop-place.here c.window-next.result c.places_of-places.result c.requires.most
          c.loop-place.invariant.shown c.window-next.ensures c.places_of-places.ensures zeros within (omega arith) at.1,
      nowhere-more c.args.self.now.cells c.args.word c.args.count c.loop-place.place c.loop-place.here c.window-next.result c.places_of-places.result c.requires.most
          c.loop-place.invariant.shown c.window-next.ensures c.places_of-places.ensures c.args.from zeros (omega arith) at.2 c.loop-place.invariant.passed,
    )

pub returns-else-first-end : goal.returns-else-first-end
returns-else-first-end c =
    let some : 0 < c.places_of-places.result = omega arith in
    let at = first-digit c.places_of-places.result some (omega arith) in
    let zeros : ℕ = count_leading_zeros 64 c.places_of-places.result in
    let within : zeros < 64 = at.0 in
    nowhere-beyond c.args.self.now.cells c.args.word c.args.count c.requires.some c.args.from (c.loop-place.place + zeros) c.args.to
    (nowhere-more c.args.self.now.cells c.args.word c.args.count c.loop-place.place c.loop-place.here c.window-next.result c.places_of-places.result c.requires.most
    c.loop-place.invariant.shown c.window-next.ensures c.places_of-places.ensures c.args.from zeros (omega arith) at.2 c.loop-place.invariant.passed)
    (λ before. omega arith)

pub loop-place-preserved : goal.loop-place-preserved
loop-place-preserved c = record {
  ahead = omega arith;
  shown = c.window-next.ensures;
  passed = nowhere-block c.args.self.now.cells c.args.word c.args.count c.loop-place.place c.loop-place.here c.window-next.result c.places_of-places.result c.requires.most
      c.loop-place.invariant.shown c.window-next.ensures c.places_of-places.ensures c.args.from c.if-places-ne0.false c.loop-place.invariant.passed;
}

pub returns : goal.returns
returns c =
    nowhere-beyond c.args.self.now.cells c.args.word c.args.count c.requires.some c.args.from c.loop-place.place c.args.to
    c.loop-place.invariant.passed (λ before. omega arith)

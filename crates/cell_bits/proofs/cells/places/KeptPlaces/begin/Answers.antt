use Rattle.std.proofs.Common.{◌<◌, ◌+◌, length, vec_capacity, ap, arith}
use Rattle.std.proofs.lemmas.Grind.{common_steps}
use Rattle.cell_bits.specs.declared.cells.places.WordPlaces.{WordPlaces}
use Rattle.cell_bits.specs.inside.Kept.{IsRoomy}
use Rattle.cell_bits.proofs.Keeping.{below-other, kept-put}
use Rattle.cell_bits.proofs.cells.places.KeptPlaces.begin.Goals as goal

pub returns : goal.returns
returns c = record {
  kept = λ cells kept.
      let words = c.args.self.now.words.items in
      let used = c.args.self.now.used in
      let within : used < length words = grind (arith, common_steps) in
      let roomy : IsRoomy c.restart.new.self =
      omega (arith, c.restart.ensures.room, ap (λ (w : WordPlaces). vec_capacity w.places) c.index_mut.ensures.value, kept.roomy used c.index_mut.result.now within) in
      kept-put cells used (used + 1) used words c.restart.new.self kept within (omega (arith, within)) (λ k low apart. below-other k used low apart) roomy
      (c.restart.ensures.none cells);
}

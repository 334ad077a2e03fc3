use Rattle.std.proofs.Common.{◌≡◌, ◌∙◌, ap, subst, sym}
use Rattle.cell_bits.specs.declared.cells.places.WordPlaces.{WordPlaces}
use Rattle.cell_bits.specs.inside.Kept.{ArePlaces, Tells}
use Rattle.cell_bits.proofs.cells.places.KeptPlaces.first.Goals as goal

pub returns-in-Some : goal.returns-in-Some
returns-in-Some c = record {
  tells = λ cells kept.
      let item = c.index.result.now in
      let used = c.in-Some.ensures.0 in
      let same = c.in-Some.ensures.1 item in
      let word : item.word ≡ c.args.word = ap (λ (w : WordPlaces). w.word) c.index.ensures ∙ same.0 in
      let count : item.count ≡ c.args.count = ap (λ (w : WordPlaces). w.count) c.index.ensures ∙ same.1 in
      let are : ArePlaces cells item = subst (ArePlaces cells) (sym c.index.ensures) (kept.are c.in-Some.index item used) in
      subst (λ n. Tells cells c.args.word n c.args.from c.first.result) count
      (subst (λ n. Tells cells n item.count c.args.from c.first.result) word (c.first.ensures cells are));
}

use Rattle.std.proofs.Common.{◌≡◌, ◌∙◌, List, Bool, length, ap, sym, subst}
use Rattle.cell_bits.specs.State.{CellsState}
use Rattle.cell_bits.specs.Search.{IsFirstWord}
use Rattle.cell_bits.specs.declared.cells.places.WordPlaces.{WordPlaces}
use Rattle.cell_bits.proofs.Packing.{all_cells}
use Rattle.cell_bits.proofs.cells.Cells.keep_next.Goals as goal

pub invariant_of-self : goal.invariant_of-self
invariant_of-self c =
    let cells = all_cells c.self.inside.words.items c.self.inside.filled c.self.inside.last in
    let seen : cells ≡ c.args.self.now.cells = ap (λ (state : CellsState). state.cells) c.self.view_is in
    let item = c.index-known.result.now in
    let end = c.len-end.result in
    let found = c.seek_word-found.result in
    let first : IsFirstWord cells item.word item.count item.sought end found =
    subst (λ (list : List Bool). IsFirstWord list item.word item.count item.sought end found) (sym seen) c.seek_word-found.ensures in (
      c.self.invariant.0,
      c.self.invariant.1,
      c.self.invariant.2,
      c.note.ensures.kept cells item c.self.invariant.3 (c.len-end.ensures.length ∙ ap length (sym seen))
          (subst (λ (known : WordPlaces). IsFirstWord cells known.word known.count known.sought end found) c.index-known.ensures first),
    )

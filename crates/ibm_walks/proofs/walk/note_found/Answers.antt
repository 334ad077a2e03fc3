use Rattle.std.proofs.Common.{◌∙◌, ◌-◌, ℕ, List, ap, drop, get_or, refl}
use Rattle.ibm_walks.specs.Headers.{HoldBy, data_of, size_of_code}
use Rattle.ibm_walks.proofs.Walks.{one_noted}
use Rattle.ibm_walks.proofs.walk.note_found.Goals as goal

pub returns : goal.returns
returns c = record {
  found = (_, data_of c.args.name c.note_data.ensures.held);
  stands = record {
    named = c.requires.named;
    dump_is = refl;
    time = ap (λ (xs : List ℕ). get_or xs (c.args.ones_to - 1) 0) c.times.ensures.value ∙ ap (λ (n : ℕ). get_or c.args.flux.now.times (n - 1) 0) c.requires.ones;
    since = c.since_index.ensures;
    opens = c.has_sync.ensures;
    held = c.note_data.ensures.held;
    all = c.note_data.ensures.all;
    are = refl;
  };
  noted = one_noted (HoldBy c.args.rate (size_of_code c.args.name.code) (drop c.args.place c.args.cells.now.cells)) _ c.args.book.now c.note_header.new.self c.note_data.new.book
      c.note_header.ensures c.note_data.ensures;
}

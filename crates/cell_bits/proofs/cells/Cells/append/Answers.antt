use Rattle.std.proofs.Common.{rules, ◌≡◌, ℕ, ◌-◌, ◌*◌, ◌%◌, ◌^◌, ◌++◌, List, Bool, length, vec_len, ap, sym, subst, ◌∙◌, le_trans, le_of_eq, arith}
use Rattle.std.proofs.lemmas.Grind.{common_steps}
use Rattle.std.proofs.lemmas.Nat.{one_shl}
use Rattle.cell_bits.specs.State.{CellsState, room}
use Rattle.cell_bits.specs.Word.{word_cells}
use Rattle.cell_bits.specs.inside.Kept.{AreKeptOf}
use Rattle.cell_bits.proofs.Appending.{joint-lt, appended-within, appended-over}
use Rattle.cell_bits.proofs.Keeping.{kept-more}
use Rattle.cell_bits.proofs.Packing.{all_cells, room-grows}
use Rattle.cell_bits.proofs.cells.Cells.append.Goals as goal

pub invariant_of-self : goal.invariant_of-self
invariant_of-self c =
    let kept = c.self.inside.kept in
    let grown = appended-within c.self.inside.words.items c.self.inside.filled c.self.inside.last c.args.bits c.args.count c.self.invariant.1 c.requires.fits (omega arith) in (
      omega arith,
      joint-lt _ _ _ _ c.self.invariant.1 c.requires.fits (omega arith),
      c.self.invariant.2,
      subst (λ (cells : List Bool). AreKeptOf cells kept.used kept.words.items) (sym grown)
          (kept-more _ (word_cells c.args.count c.args.bits) kept.used kept.words.items c.self.invariant.3),
    )

pub invariant_of-self-2 : goal.invariant_of-self-2
invariant_of-self-2 c =
    let kept = c.self.inside.kept in
    let over : ℕ = c.args.count - (64 - c.self.inside.filled) in
    let free : ℕ = 64 - c.self.inside.filled in
    let low : (1 * 2 ^ over) % 18446744073709551616 ≡ 2 ^ over = one_shl over 64 (omega arith) in
    let grown =
    ap (λ mask. all_cells c.push.new.self.items over (c.args.bits % mask)) low
    ∙ ap (λ items. all_cells items over (c.args.bits % 2 ^ over)) c.in_ok-push.ensures.items
    ∙ appended-over c.self.inside.words.items c.self.inside.filled c.self.inside.last c.args.bits c.args.count free over (omega arith) (omega arith) c.self.invariant.1 c.requires.fits in (
      omega arith,
      search rules,
      search rules,
      subst (λ (cells : List Bool). AreKeptOf cells kept.used kept.words.items) (sym grown)
          (kept-more _ (word_cells c.args.count c.args.bits) kept.used kept.words.items c.self.invariant.3),
    )

pub returns-then-count-free-clause-cells : goal.returns-then-count-free-clause-cells
returns-then-count-free-clause-cells c =
    appended-within _ _ _ _ _ c.self.invariant.1 c.requires.fits (omega arith)
    ∙ ap (λ (s : CellsState). s.cells ++ word_cells c.args.count c.args.bits) c.self.view_is

pub returns-then-count-free-clause-room : goal.returns-then-count-free-clause-room
returns-then-count-free-clause-room c =
    let whole : length c.self.inside.words.items ≡ vec_len c.self.inside.words = grind (arith, common_steps) in
    le_trans (le_of_eq (sym (ap room c.self.view_is)))
    (room-grows c.self.inside.words.items c.self.inside.words.items c.self.inside.filled _ c.self.inside.last _ _ _ _ _ whole whole (omega arith) (omega arith))

pub returns-clause-cells : goal.returns-clause-cells
returns-clause-cells c =
    let over : ℕ = c.args.count - (64 - c.self.inside.filled) in
    let free : ℕ = 64 - c.self.inside.filled in
    let pushed = c.in_ok-push.ensures.items in
    let low : (1 * 2 ^ over) % 18446744073709551616 ≡ 2 ^ over = one_shl over 64 (omega arith) in
    ap (λ mask. all_cells c.push.new.self.items over (c.args.bits % mask)) low
    ∙ ap (λ items. all_cells items over (c.args.bits % 2 ^ over)) pushed
    ∙ appended-over c.self.inside.words.items c.self.inside.filled c.self.inside.last c.args.bits c.args.count free over (omega arith) (omega arith) c.self.invariant.1 c.requires.fits
    ∙ ap (λ (s : CellsState). s.cells ++ word_cells c.args.count c.args.bits) c.self.view_is

pub returns-clause-room : goal.returns-clause-room
returns-clause-room c =
    let whole : length c.self.inside.words.items ≡ vec_len c.self.inside.words = grind (arith, common_steps) in
    let whole' : length c.push.new.self.items ≡ vec_len c.push.new.self = grind (arith, common_steps) in
    le_trans (le_of_eq (sym (ap room c.self.view_is)))
    (room-grows c.self.inside.words.items c.push.new.self.items c.self.inside.filled _ c.self.inside.last _ _ _ _ _ whole whole' (omega (arith, c.in_ok-push.ensures.len)) c.in_ok-push.ensures.capacity)

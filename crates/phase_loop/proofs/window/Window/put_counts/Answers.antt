use Rattle.std.proofs.Common.{arith, ◌+◌, sym, subst, List, ◌++◌, length, length-append}
use Rattle.std.specs.List.{All}
use Rattle.std.proofs.lemmas.List.{get_or-append-add}
use Rattle.phase_loop.specs.inside.Window.{IsShort}
use Rattle.phase_loop.specs.declared.window.Interval.{Interval}
use Rattle.phase_loop.proofs.window.Window.put_counts.Goals as goal

pub put_counts_of-requires-2-clause-short : goal.put_counts_of-requires-2-clause-short
put_counts_of-requires-2-clause-short c k d within =
    let older : List Interval = c.as_slices.result.0.now in
    let later : List Interval = c.as_slices.result.1.now in
    let P : List Interval → Type 0 = λ l. All IsShort l in
    let all : All IsShort (older ++ later) = subst P (sym c.as_slices.ensures) c.self.invariant.short in
    subst IsShort (get_or-append-add older later k d) (all (length older + k) d (omega (arith, within, length-append older later)))

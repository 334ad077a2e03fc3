use Rattle.std.proofs.Common.{arith, refl, subst}
use Rattle.cell_bits.specs.Broken.{Unbroken}
use Rattle.frame_law.proofs.DataPlaces.{no_start-before, start-broken}
use Rattle.frame_law.proofs.data_search.stands_at_sync.Goals as goal

pub unbroken_between-requires-clause-order : goal.unbroken_between-requires-clause-order
unbroken_between-requires-clause-order g c =
    omega (
      arith,
      c.in-Some.ensures.some.0,
      g.met.L.Layout.data_some c.args.layout.now c.args.size c.args.frame.now c.args.sync,
    )

pub returns-in-Some-find_word-clause-bad : goal.returns-in-Some-find_word-clause-bad
returns-in-Some-find_word-clause-bad g c = λ no bytes data_there.
    let found = c.in-Some-find_word.ensures in
    start-broken c.args.frame.now c.args.sync _ _
    (omega (
      arith,
      g.met.L.Layout.data_some c.args.layout.now c.args.size c.args.frame.now c.args.sync,
    ))
    found.1 found.2 data_there.unbroken data_there.no_start

pub returns-clause-good : goal.returns-clause-good
returns-clause-good g c = λ yes.
    let end = c.in-Some.ensures.some in
    let whole = subst (Unbroken c.args.frame.now c.args.sync) end.0 (c.if-not-unbroken_between.ensures.0 refl) in
    let read = c.read.ensures.good yes in (
      read.0,
      read.1,
      record {
        whole = omega (arith, end.0, end.1);
        held = read.2;
        unbroken = whole;
        no_start = no_start-before c.args.frame.now c.args.sync _ c.in_default-find_word.ensures whole;
      },
    )

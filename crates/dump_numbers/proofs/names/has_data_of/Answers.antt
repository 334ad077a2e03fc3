use Rattle.std.proofs.Common.{◌≡◌, ◌<◌, ◌≤◌, ◌⊎◌, ◌+◌, ◌∙◌, ℕ, List, true, false, drop, refl, sym, ap, inl, inr, arith}
use Rattle.std.proofs.lemmas.Bool.{cases_lt}
use Rattle.std.proofs.lemmas.List.{length-drop}
use Rattle.dump_numbers.specs.OwnNames.{HasDataOf}
use Rattle.dump_numbers.specs.TurnRule.{is_of_rate}
use Rattle.dump_numbers.proofs.names.has_data_of.Goals as goal

no : false ≡ true → ⊥
no e = cc

pub loop-behind-init : goal.loop-behind-init
loop-behind-init g c = λ behind bytes low stands of_rate. omega (arith, low)

pub is_of_rate-requires-clause-within : goal.is_of_rate-requires-clause-within
is_of_rate-requires-clause-within g c =
    let here = g.met.R.Recording.data_inside c.args.recording.now (drop c.args.header.now.place c.args.header.now.cells.now.cells) c.in-Some.behind _ c.in-Some.ensures.1 in
    let size = length-drop c.args.header.now.place c.args.header.now.cells.now.cells in
    omega (arith, here, size)

pub overflow_add-from : goal.overflow_add-from
overflow_add-from g c =
    let here = g.met.R.Recording.data_inside c.args.recording.now (drop c.args.header.now.place c.args.header.now.cells.now.cells) c.in-Some.behind _ c.in-Some.ensures.1 in
    let size = length-drop c.args.header.now.place c.args.header.now.cells.now.cells in
    let few = c.requires.cells.few in
    omega (arith, here, size, few)

pub loop-behind-preserved : goal.loop-behind-preserved
loop-behind-preserved g c = λ behind bytes low stands of_rate. by behind bytes low stands of_rate (cases_lt behind c.loop-behind.from) (cases_lt behind c.in-Some.behind)
  where
    by : (behind : ℕ) (bytes : List ℕ) → behind < c.in-Some.behind + 1 → g.R.Recording.data_at c.args.recording.now (drop c.args.header.now.place c.args.header.now.cells.now.cells) behind bytes
        → is_of_rate c.args.header.now.rate c.args.header.now.flux.now.times c.args.header.now.flux.now.indexes c.args.header.now.cells.now.cells c.args.header.now.place behind ≡ true
        → (behind < c.loop-behind.from) ⊎ (c.loop-behind.from ≤ behind) → (behind < c.in-Some.behind) ⊎ (c.in-Some.behind ≤ behind) → ⊥
    by behind bytes low stands of_rate (inl early) _ = c.loop-behind.invariant behind bytes early stands of_rate
    by behind bytes low stands of_rate (inr late) (inl between) = c.in-Some.ensures.2 behind bytes late between stands
    by behind bytes low stands of_rate (inr late) (inr past) =
        let same : behind ≡ c.in-Some.behind = omega (arith, low, past) in
        no (sym c.if-is_of_rate.false ∙ c.is_of_rate.ensures
        ∙ ap (is_of_rate c.args.header.now.rate c.args.header.now.flux.now.times c.args.header.now.flux.now.indexes c.args.header.now.cells.now.cells c.args.header.now.place) (sym same) ∙ of_rate)

pub returns-then-is_of_rate : goal.returns-then-is_of_rate
returns-then-is_of_rate g c = (
  λ yes. record { behind = c.in-Some.behind; bytes = _; stand = c.in-Some.ensures.1; of_rate = sym c.is_of_rate.ensures ∙ c.if-is_of_rate.true },
  λ has. refl,
)

pub returns : goal.returns
returns g c = (λ yes. absurd (no yes), λ has. absurd (by has (cases_lt has.behind c.loop-behind.from)))
  where
    by : (has : HasDataOf c.args.header.now.rate c.args.header.now.flux.now.times c.args.header.now.flux.now.indexes c.args.header.now.cells.now.cells
        (g.R.Recording.data_at c.args.recording.now (drop c.args.header.now.place c.args.header.now.cells.now.cells)) c.args.header.now.place)
        → (has.behind < c.loop-behind.from) ⊎ (c.loop-behind.from ≤ has.behind) → ⊥
    by has (inl early) = c.loop-behind.invariant has.behind has.bytes early has.stand has.of_rate
    by has (inr late) = c.in_default.ensures.1 has.behind has.bytes late has.stand

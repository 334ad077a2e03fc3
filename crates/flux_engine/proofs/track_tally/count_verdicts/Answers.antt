use Rattle.std.proofs.Common.{◌≡◌, ◌+◌, ℕ, List, arith, sym, ap, ◌∙◌, map, [], ◌∷◌, ◌++◌}
use Rattle.std.proofs.lemmas.List.FromFn.{map-range_with_len_more}
use Rattle.std.specs.List.{range_with_len}
use Rattle.turn_merge.specs.Readings.{verdict}
use Rattle.turn_merge.specs.declared.verdict.Verdict.{Verdict}
use Rattle.flux_engine.specs.Tracks.{totals_of}
use Rattle.flux_engine.proofs.track_tally.count_verdicts.Goals as goal

pub loop-index-preserved : goal.loop-index-preserved
loop-index-preserved c = record {
  counted = λ readings stands.
      let sector : ℕ = c.args.sectors.first + c.loop-index.index in
      let before : List Verdict = map (verdict readings) (range_with_len c.args.sectors.first c.loop-index.index) in
      c.count_verdict.ensures.counted before (c.loop-index.invariant.counted readings stands)
      ∙ ap (λ (v : Verdict). totals_of (before ++ v ∷ [])) (c.verdict.ensures readings stands)
      ∙ ap totals_of (sym (map-range_with_len_more (verdict readings) c.args.sectors.first c.loop-index.index sector (omega arith)));
  sum = c.count_verdict.ensures.sum;
  number = c.count_verdict.ensures.one ∙ ap (λ (n : ℕ). n + 1) c.loop-index.invariant.number;
}

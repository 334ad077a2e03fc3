use Rattle.std.proofs.Common.{◌≡◌, ◌+◌, ℕ, List, arith, subst, ap, sym, ◌∙◌, map, [], ◌∷◌, ◌++◌}
use Rattle.std.proofs.lemmas.List.FromFn.{map-range_with_len_more}
use Rattle.std.specs.List.{flat_map, range_with_len}
use Rattle.std.specs.Io.KnownBytes.{Appends}
use Rattle.flux_base.specs.lemmas.Counting.{Counts-then}
use Rattle.sector_report.specs.Lines.{named_text}
use Rattle.turn_merge.specs.Readings.{verdict}
use Rattle.turn_merge.specs.declared.verdict.Verdict.{Verdict}
use Rattle.flux_engine.specs.Tracks.{line_by, lines_by, totals_of}
use Rattle.flux_engine.specs.lemmas.Pieces.{pieces_next, pieces_stop}
use Rattle.flux_engine.proofs.writing.write_lines.Goals as goal

pub returns-in-Err-clause-err : goal.returns-in-Err-clause-err
unfolding lines_by
returns-in-Err-clause-err g c = λ readings stands.
    let sector : ℕ = c.args.sectors.first + c.loop-index.index in
    let is : c.named_line-line.result.bytes ≡ line_by c.args.naming c.args.track readings sector =
    c.named_line-line.ensures ∙ ap (named_text c.args.naming c.args.track sector) (c.verdict-verdict.ensures readings stands) in
    pieces_stop (line_by c.args.naming c.args.track readings) _ _ _ c.args.sectors.first c.loop-index.index c.args.sectors.count c.named_line-line.result.bytes
    (omega arith) is (c.loop-index.invariant.grew readings stands) c.in-Err.ensures.err

pub loop-index-preserved : goal.loop-index-preserved
loop-index-preserved g c = record {
  grew = λ readings stands.
      let sector : ℕ = c.args.sectors.first + c.loop-index.index in
      let is : c.named_line-line.result.bytes ≡ line_by c.args.naming c.args.track readings sector =
      c.named_line-line.ensures ∙ ap (named_text c.args.naming c.args.track sector) (c.verdict-verdict.ensures readings stands) in
      pieces_next (line_by c.args.naming c.args.track readings) _ _ _ c.args.sectors.first c.loop-index.index c.named_line-line.result.bytes
      is (c.loop-index.invariant.grew readings stands) c.in-Ok.ensures.ok;
  counted = λ readings stands.
      let sector : ℕ = c.args.sectors.first + c.loop-index.index in
      let before : List Verdict = map (verdict readings) (range_with_len c.args.sectors.first c.loop-index.index) in
      c.count_verdict.ensures.counted before (c.loop-index.invariant.counted readings stands)
      ∙ ap (λ (v : Verdict). totals_of (before ++ v ∷ [])) (c.verdict-verdict.ensures readings stands)
      ∙ ap totals_of (sym (map-range_with_len_more (verdict readings) c.args.sectors.first c.loop-index.index sector (omega arith)));
  sum = c.count_verdict.ensures.sum;
  number = c.count_verdict.ensures.one ∙ ap (λ (n : ℕ). n + 1) c.loop-index.invariant.number;
  counts = Counts-then _ c.loop-index.invariant.counts c.in-Ok.ensures.counts;
}

pub returns-clause-ok : goal.returns-clause-ok
unfolding lines_by
returns-clause-ok g c = λ readings stands.
    let all : c.loop-index.index ≡ c.args.sectors.count = omega arith in
    subst (λ (n : ℕ). Appends (g.N.Sink.written c.args.notes.now) (g.N.Sink.written c.loop-index.notes)
    (flat_map (line_by c.args.naming c.args.track readings) (range_with_len c.args.sectors.first n))) all (c.loop-index.invariant.grew readings stands)

pub returns-in-Err-clause-counts : goal.returns-in-Err-clause-counts
returns-in-Err-clause-counts g c = Counts-then _ c.loop-index.invariant.counts c.in-Err.ensures.counts

use Rattle.std.proofs.Common.{◌≡◌, ◌+◌, ℕ, List, arith, subst, ap, sym, ◌∙◌, map, [], ◌∷◌, ◌++◌}
use Rattle.std.proofs.lemmas.List.FromFn.{map-range_with_len_more}
use Rattle.std.specs.List.{flat_map, range_with_len}
use Rattle.std.specs.Io.KnownBytes.{Appends}
use Rattle.flux_base.specs.lemmas.Counting.{Counts-then}
use Rattle.flux_base.specs.Outside.{AppendsPart}
use Rattle.turn_merge.specs.Readings.{verdict}
use Rattle.turn_merge.specs.declared.verdict.Verdict.{Verdict}
use Rattle.flux_engine.specs.Tracks.{totals_of}
use Rattle.disk_recordings.specs.declared.sectors.Sectors.{Sectors}
use Rattle.flux_engine.specs.lemmas.Pieces.{pieces_next, pieces_stop}
use Rattle.disk_map.specs.Maps.{field_of, fields_by}
use Rattle.disk_map.specs.Texts.{field_by}
use Rattle.disk_map.specs.declared.layout.Layout.{Layout}
use Rattle.disk_map.proofs.field_writer.write_fields.Goals as goal

pub loop-index-preserved : goal.loop-index-preserved
loop-index-preserved g c = record {
  grew = λ readings stands.
      let layout = c.of_format-layout.result in
      let track = c.args.track in
      let first = c.sectors_of-sectors.result.first in
      let sector : ℕ = first + c.loop-index.index in
      let is : c.field_by.result.bytes ≡ field_by c.args.naming layout track sector (verdict readings sector) =
      c.field_by.ensures ∙ ap (field_by c.args.naming layout track sector) (c.verdict-outcome.ensures readings stands) in
      pieces_next (λ (s : ℕ). field_by c.args.naming layout track s (verdict readings s)) _ _ _ first c.loop-index.index c.field_by.result.bytes
      is (c.loop-index.invariant.grew readings stands) c.in-Ok.ensures.ok;
  counted = λ readings stands.
      let sector : ℕ = c.sectors_of-sectors.result.first + c.loop-index.index in
      let before : List Verdict = map (verdict readings) (range_with_len c.sectors_of-sectors.result.first c.loop-index.index) in
      c.count_verdict.ensures.counted before (c.loop-index.invariant.counted readings stands)
      ∙ ap (λ (v : Verdict). totals_of (before ++ v ∷ [])) (c.verdict-outcome.ensures readings stands)
      ∙ ap totals_of (sym (map-range_with_len_more (verdict readings) c.sectors_of-sectors.result.first c.loop-index.index sector (omega arith)));
  sum = c.count_verdict.ensures.sum;
  number = c.count_verdict.ensures.one ∙ ap (λ (n : ℕ). n + 1) c.loop-index.invariant.number;
  counts = Counts-then _ c.loop-index.invariant.counts c.in-Ok.ensures.counts;
}

pub returns-in-Err-clause-err : goal.returns-in-Err-clause-err
unfolding fields_by
returns-in-Err-clause-err g c = λ readings stands.
    let l = c.of_format-layout.result in
    let t = c.args.track in
    let s = c.sectors_of-sectors.result in
    let sector : ℕ = s.first + c.loop-index.index in
    let is : c.field_by.result.bytes ≡ field_by c.args.naming l t sector (verdict readings sector) =
    c.field_by.ensures ∙ ap (field_by c.args.naming l t sector) (c.verdict-outcome.ensures readings stands) in
    let old = g.P.Sink.written c.args.picture.now in
    let new = g.P.Sink.written c.write_text.new.sink in
    subst (λ (v : Sectors). AppendsPart old new (flat_map (field_of c.args.naming c.args.format t readings) (range_with_len v.first v.count))) c.sectors_of-sectors.ensures
    (subst (λ (m : Layout). AppendsPart old new (flat_map (λ (k : ℕ). field_by c.args.naming m t k (verdict readings k)) (range_with_len s.first s.count))) c.of_format-layout.ensures
    (pieces_stop (λ (k : ℕ). field_by c.args.naming l t k (verdict readings k)) _ _ _ s.first c.loop-index.index s.count c.field_by.result.bytes
    (omega arith) is (c.loop-index.invariant.grew readings stands) c.in-Err.ensures.err))

pub returns-clause-ok : goal.returns-clause-ok
unfolding fields_by
returns-clause-ok g c = λ readings stands.
    let l = c.of_format-layout.result in
    let t = c.args.track in
    let s = c.sectors_of-sectors.result in
    let all : c.loop-index.index ≡ s.count = omega arith in
    let old = g.P.Sink.written c.args.picture.now in
    let new = g.P.Sink.written c.loop-index.picture in
    subst (λ (v : Sectors). Appends old new (flat_map (field_of c.args.naming c.args.format t readings) (range_with_len v.first v.count))) c.sectors_of-sectors.ensures
    (subst (λ (m : Layout). Appends old new (flat_map (λ (k : ℕ). field_by c.args.naming m t k (verdict readings k)) (range_with_len s.first s.count))) c.of_format-layout.ensures
    (subst (λ (n : ℕ). Appends old new (flat_map (λ (k : ℕ). field_by c.args.naming l t k (verdict readings k)) (range_with_len s.first n))) all (c.loop-index.invariant.grew readings stands)))

pub returns-in-Err-clause-counts : goal.returns-in-Err-clause-counts
returns-in-Err-clause-counts g c = Counts-then _ c.loop-index.invariant.counts c.in-Err.ensures.counts

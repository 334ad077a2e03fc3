use Rattle.std.proofs.Common.{◌≡◌, ◌+◌, ℕ, arith, subst, ap}
use Rattle.std.specs.List.{flat_map, range_with_len}
use Rattle.std.specs.Io.KnownBytes.{Appends}
use Rattle.flux_base.specs.lemmas.Counting.{Counts-then}
use Rattle.flux_base.specs.Outside.{AppendsPart}
use Rattle.turn_merge.specs.declared.verdict.Verdict.{Verdict}
use Rattle.disk_recordings.specs.declared.sectors.Sectors.{Sectors}
use Rattle.flux_engine.specs.lemmas.Pieces.{pieces_next, pieces_stop}
use Rattle.disk_summary.specs.Notes.{notes_of_verdict}
use Rattle.disk_summary.specs.Texts.{notes_text}
use Rattle.disk_summary.proofs.Tracks.{sector_text, sectors-are}
use Rattle.disk_summary.proofs.note_writer.write_sectors.Goals as goal

pub loop-index-preserved : goal.loop-index-preserved
loop-index-preserved g c = record {
  grew = λ readings stands.
      let track = c.args.track in
      let first = c.sectors_of-sectors.result.first in
      let sector : ℕ = first + c.loop-index.index in
      let is : notes_text (notes_of_verdict track sector c.verdict-outcome.result) ≡ sector_text track readings sector =
      ap (λ (v : Verdict). notes_text (notes_of_verdict track sector v)) (c.verdict-outcome.ensures readings stands) in
      pieces_next (sector_text track readings) _ _ _ first c.loop-index.index (notes_text (notes_of_verdict track sector c.verdict-outcome.result))
      is (c.loop-index.invariant.grew readings stands) c.in-Ok.ensures.ok;
  counts = Counts-then _ c.loop-index.invariant.counts c.in-Ok.ensures.counts;
}

pub returns-in-Err-clause-wrote : goal.returns-in-Err-clause-wrote
returns-in-Err-clause-wrote g c = λ readings stands.
    let t = c.args.track in
    let s = c.sectors_of-sectors.result in
    let sector : ℕ = s.first + c.loop-index.index in
    let is : notes_text (notes_of_verdict t sector c.verdict-outcome.result) ≡ sector_text t readings sector =
    ap (λ (v : Verdict). notes_text (notes_of_verdict t sector v)) (c.verdict-outcome.ensures readings stands) in
    let old = g.N.Sink.written c.args.notes.now in
    let new = g.N.Sink.written c.write_sector.new.notes in
    record {
      ok = tt;
      err = subst (AppendsPart old new) (sectors-are c.args.format t readings)
          (subst (λ (v : Sectors). AppendsPart old new (flat_map (sector_text t readings) (range_with_len v.first v.count))) c.sectors_of-sectors.ensures
          (pieces_stop (sector_text t readings) _ _ _ s.first c.loop-index.index s.count (notes_text (notes_of_verdict t sector c.verdict-outcome.result))
          (omega arith) is (c.loop-index.invariant.grew readings stands) c.in-Err.ensures.err));
      counts = Counts-then _ c.loop-index.invariant.counts c.in-Err.ensures.counts;
    }

pub returns-clause-wrote : goal.returns-clause-wrote
returns-clause-wrote g c = λ readings stands.
    let t = c.args.track in
    let s = c.sectors_of-sectors.result in
    let all : c.loop-index.index ≡ s.count = omega arith in
    let old = g.N.Sink.written c.args.notes.now in
    let new = g.N.Sink.written c.loop-index.notes in
    record {
      ok = subst (Appends old new) (sectors-are c.args.format t readings)
          (subst (λ (v : Sectors). Appends old new (flat_map (sector_text t readings) (range_with_len v.first v.count))) c.sectors_of-sectors.ensures
          (subst (λ (n : ℕ). Appends old new (flat_map (sector_text t readings) (range_with_len s.first n))) all (c.loop-index.invariant.grew readings stands)));
      err = tt;
      counts = c.loop-index.invariant.counts;
    }

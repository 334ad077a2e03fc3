use Rattle.std.proofs.Common.{[], ap, subst, ◌∙◌}
use Rattle.std.specs.Prelude.{map}
use Rattle.disk_recordings.specs.declared.sectors.Sectors.{Sectors}
use Rattle.turn_merge.specs.Readings.{verdict}
use Rattle.flux_engine.specs.Plans.{Seen}
use Rattle.flux_engine.specs.Tallies.{IsTallyOf}
use Rattle.flux_engine.specs.Tracks.{numbers, totals_of}
use Rattle.flux_engine.proofs.shared_stream.SharedStream.tally_track.Goals as goal

pub returns-clause-tally : goal.returns-clause-tally
returns-clause-tally c =
    let n = rw c.flux.ensures at c.note_shared.ensures.noted in
    subst (λ (here : Seen). IsTallyOf c.args.format c.args.track here c.tally_of.result) c.self.view_is
    (record {
      readings = n.readings;
      are = n.are;
      sectors = c.tally_of.ensures.sectors ∙ c.count_verdicts.ensures.totals n.readings (n.noted [] c.clear.ensures.empty)
          ∙ ap (λ (s : Sectors). totals_of (map (verdict n.readings) (numbers s))) c.sectors_of-sectors.ensures;
      others = n.others;
      others_are = n.others_are;
      counted = c.tally_of.ensures.counted n.others (n.others_noted [] c.clear-2.ensures);
    })

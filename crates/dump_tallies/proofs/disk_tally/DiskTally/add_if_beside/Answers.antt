use Rattle.std.proofs.Common.{◌≡◌, false, List, sym, ap, ◌∙◌}
use Rattle.flux_base.specs.declared.track.TrackId.{TrackId}
use Rattle.dump_reading.specs.Beside.{is_track}
use Rattle.dump_tallies.specs.Tallies.{TalliedDisk}
use Rattle.dump_tallies.specs.inside.Sums.{beside_among, with_beside}
use Rattle.dump_tallies.proofs.SumSteps.{among-next}
use Rattle.dump_tallies.proofs.disk_tally.DiskTally.add_if_beside.Goals as goal

pub returns-then-not-has_track-clause-beside : goal.returns-then-not-has_track-clause-beside
returns-then-not-has_track-clause-beside c = λ before own same.
    let disk = c.args.self.now in
    let inside : is_track c.self.inside.format c.args.track ≡ false = sym c.if-not-has_track.ensures in
    let none : is_track disk.format c.args.track ≡ false = sym (ap (λ (d : TalliedDisk). is_track d.format c.args.track) c.self.view_is) ∙ inside in
    c.add_one_beside.ensures.beside (beside_among disk.format before) own same
    ∙ ap (λ (us : List TrackId). with_beside disk c.args.passed.now us own) (sym (among-next disk.format before c.args.track none))

use Rattle.std.proofs.Common.{Some, IfOk, drop, sym, subst}
use Rattle.scp_files.specs.Disks.{track_stream}
use Rattle.scp_tracks.specs.Reads.{IsBoundedRead, IsScpRead}
use Rattle.scp_tracks.proofs.stream.TrackMakerFluxMakerResultScpReadFailed.make.Goals as goal

pub returns-clause-made : goal.returns-clause-made
returns-clause-made g c =
    let place = c.args.self.now.place in
    let answer = c.read_captured-answer.result in
    let it = c.read_captured-answer.ensures in
    let same = sym c.into_flux.ensures.value in
    record {
      is = λ files file told at.
          let track = drop place.offset file.bytes in
          subst (λ flux. IfOk answer (λ read. IsScpRead (Some (track_stream c.args.self.now.resolution place.revolutions place.number track)) read flux)) same
          (subst (λ q. IfOk answer (λ read. IsScpRead (Some (track_stream q place.revolutions place.number track)) read c.read_captured-answer.new.capture.flux))
          c.begin-capture.ensures.resolution (it.is files file told at));
      bounded = subst (λ flux. IfOk answer (λ read. IsBoundedRead read flux)) same it.bounded;
      told = it.told;
      counts_are = it.counts;
    }

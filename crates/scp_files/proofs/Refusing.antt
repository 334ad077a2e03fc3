-- The stream of a track that is not refused.
use Rattle.std.proofs.Common.{◌≡◌, ◌≤◌, ℕ, false, List, length, Option, None, Ok, sym, ap, subst, ◌∙◌, arith}
use Rattle.std.proofs.lemmas.Bool.Decides.{nat_tests}
use Rattle.index_turns.specs.Track.{TrackState}
use Rattle.kryo_stream.specs.Sequence.{IsStreamOf}
use Rattle.flux_writer.specs.Trailing.{stream_of_capture}
use Rattle.scp_files.specs.Disks.{kept_stream, refusing, stream_unless}
use Rattle.scp_files.specs.Streams.{IsStream, is_too_long_of, stream_of}
use Rattle.scp_files.specs.Units.{transitions}
use Rattle.scp_files.specs.declared.fault.ScpTrackFault.{ScpTrackFault}

module _ (resolution : ℕ) (values durations : List ℕ) (flux : TrackState) (it : IsStream resolution values durations flux) where
  -- it is that of the capture's times
  same : stream_of_capture flux.times flux.indexes ≡ stream_of resolution values durations
  same =
      ap (λ times. stream_of_capture times flux.indexes) it.times
      ∙ ap (stream_of_capture (transitions resolution values)) it.indexes

  pub same-stream : (fault : Option ScpTrackFault) → refusing fault ≡ None
      → kept_stream fault resolution values durations ≡ Ok (stream_of_capture flux.times flux.indexes)
  same-stream fault is =
      ap (λ r. stream_unless r (is_too_long_of resolution values durations) (stream_of resolution values durations)) is
      ∙ ap (λ b. stream_unless None b (stream_of resolution values durations)) it.short
      ∙ ap Ok (sym same)

  pub reads : IsStreamOf (stream_of_capture flux.times flux.indexes) flux.times flux.indexes
  reads = subst (λ s. IsStreamOf s flux.times flux.indexes) (sym same) it.stream

  -- and it is not too long
  pub short : length (stream_of_capture flux.times flux.indexes) ≤ 4194304
  short =
      let few : length (stream_of resolution values durations) ≤ 4194304 = (let within = it.short in grind (arith, nat_tests, within)) in
      subst (λ s. length s ≤ 4194304) (sym same) few

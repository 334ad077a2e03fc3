use Rattle.std.proofs.Common.{◌-◌, ℕ, length, get_or, ap, sym, ◌∙◌, arith}
use Rattle.kryo_stream.specs.Sequence.{spellings}
use Rattle.flux_writer.specs.Written.{interval_blocks}
use Rattle.scp_files.proofs.Counting.{begin-le, begin-next, bytes-more}
use Rattle.scp_files.proofs.stream.stream_bytes.Goals as goal

pub loop-time-preserved : goal.loop-time-preserved
loop-time-preserved c =
    let k : ℕ = c.loop-time.time-index in
    let times = c.args.times.now in
    let i = c.loop-time.invariant in
    let order = begin-le times k c.requires.order (omega (arith, c.loop-time-test.true)) in
    let now = c.requires.early k 0 (omega (arith, c.loop-time-test.true)) in
    record {
      begun = sym (begin-next times k);
      counted = sym (bytes-more times k ∙ omega (
        arith,
        i.counted,
        c.from-bytes.ensures,
        c.interval_length.ensures.value,
        ap (λ b. length (spellings (interval_blocks (get_or times k 0 - b)))) i.begun,
      ));
      few = omega (arith, i.few, c.from-bytes.ensures, c.interval_length.ensures.most, order, i.begun);
      early = omega (arith, now);
    }

use Rattle.std.proofs.Common.{ℕ, ◌/◌, ◌%◌, length, replicate, ap, arith, length-append}
use Rattle.std.proofs.lemmas.List.{length-replicate}
use Rattle.kryo_stream.specs.Spelling.{flux_spelling}
use Rattle.flux_writer.proofs.Steps.{spellings-interval}
use Rattle.flux_writer.proofs.stream.interval_length.Goals as goal

pub returns-in_default-clause-value : goal.returns-in_default-clause-value
returns-in_default-clause-value c =
    let ticks = c.args.ticks in
    omega (
      arith,
      c.flux_length.ensures.value,
      ap length (spellings-interval ticks),
      length-append (replicate (ticks / 65536) 11) (flux_spelling (ticks % 65536)),
      length-replicate {A = ℕ} (ticks / 65536) 11,
    )

use Rattle.std.proofs.Common.{length, arith, ap}
use Rattle.flux_base.specs.lemmas.Counting.{Counts-then}
use Rattle.sector_images.specs.Formats.{formats}
use Rattle.flux_help.specs.Pages.{format_text}
use Rattle.flux_help.proofs.Listed.{lines-stop}
use Rattle.flux_help.proofs.writing.write_formats.Goals as goal

pub returns-in-Err : goal.returns-in-Err
returns-in-Err g c =
    let many = ap length c.all_formats-format-items.ensures in
    record {
      ok = tt;
      err = lines-stop format_text formats c.loop-format.format-index _ _ _ _ (omega (arith, many, c.loop-format-test.true)) c.loop-format.invariant.grew
          (rw (c.format_line.ensures, c.all_formats-format-items.ensures) at c.in-Err.ensures.err);
      counts = Counts-then _ c.loop-format.invariant.counts c.in-Err.ensures.counts;
    }

use Rattle.std.proofs.Common.{◌∙◌}
use Rattle.flux_base.specs.lemmas.Parts.{Puts-cut, Puts-then}
use Rattle.g64_image.specs.Layout.{g64_file, records}
use Rattle.g64_image.proofs.writing.write_file.Goals as goal

pub returns-in-Ok-clause-puts : goal.returns-in-Ok-clause-puts
unfolding g64_file
returns-in-Ok-clause-puts g c =
    Puts-then c.write_tracks.result (rw (c.as_slice.ensures.value ∙ c.front-front.ensures) at c.in-Ok.ensures) c.write_tracks.ensures.puts

pub returns-in-Err-clause-puts : goal.returns-in-Err-clause-puts
unfolding g64_file
returns-in-Err-clause-puts g c =
    Puts-cut (records c.args.format c.args.image.now) (rw (c.as_slice.ensures.value ∙ c.front-front.ensures) at c.in-Err.ensures)

use Rattle.std.proofs.Common.{inl, ◌∙◌}
use Rattle.std.proofs.lemmas.Iterator.Adapters.{option_map_id}
use Rattle.std.specs.Prelude.{is_err}
use Rattle.file_maker.specs.Made.{path_in}
use Rattle.file_maker.specs.lemmas.Closing.{Counts-closed}
use Rattle.file_maker.specs.lemmas.Making.{makes_file, new_is_empty}
use Rattle.file_maker.proofs.whole.make_whole.Goals as goal

pub returns-in-Err-clause-made : goal.returns-in-Err-clause-made
returns-in-Err-clause-made g c = inl (c.in-Err.ensures.made ∙ option_map_id _)

pub returns-clause-made : goal.returns-clause-made
returns-clause-made g c =
    makes_file (g.M.FileMaker.made c.args.maker.now) _ _ (path_in c.args.folder.now c.args.name.now) c.args.bytes.now _ _
    (new_is_empty _ (g.M.FileMaker.made c.args.maker.now) (path_in c.args.folder.now c.args.name.now) _ c.in-Ok.ensures.new) c.in-Ok.ensures.made c.close_file.ensures.made
    c.write_whole-answer.result c.write_whole-answer.ensures.ok c.write_whole-answer.ensures.err

pub returns-clause-counts : goal.returns-clause-counts
returns-clause-counts g c =
    Counts-closed (is_err c.write_whole-answer.result) c.in-Ok.ensures.counts c.in-Ok.ensures.fresh c.write_whole-answer.ensures.counts c.close_file.ensures.counts

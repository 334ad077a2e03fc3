use Rattle.std.proofs.Common.{inl, subst, ◌∙◌}
use Rattle.std.proofs.lemmas.Iterator.Adapters.{option_map_id}
use Rattle.std.specs.Prelude.{is_err}
use Rattle.file_maker.specs.Made.{path_in}
use Rattle.file_maker.specs.Makes.{MakesFile}
use Rattle.file_maker.specs.lemmas.Closing.{Counts-closed}
use Rattle.file_maker.specs.lemmas.Making.{makes_file, new_is_empty}
use Rattle.flux_writer.specs.Trailing.{stream_of_capture}
use Rattle.scp_unpack.proofs.Writing.{early, file-is, near}
use Rattle.scp_unpack.proofs.track.make_stream.Goals as goal

pub write_times-answer-requires-clause-near : goal.write_times-answer-requires-clause-near
write_times-answer-requires-clause-near g c = near c.args.flux.now c.requires.written

pub write_times-answer-requires-clause-early : goal.write_times-answer-requires-clause-early
write_times-answer-requires-clause-early g c = early c.args.flux.now c.requires.written

pub returns-in-Err-clause-made : goal.returns-in-Err-clause-made
returns-in-Err-clause-made g c = inl (c.in-Err.ensures.made ∙ option_map_id _)

pub returns-clause-made : goal.returns-clause-made
returns-clause-made g c =
    let bytes = stream_of_capture c.args.flux.now.times c.args.flux.now.indexes in
    let path = path_in c.args.folder.now c.as_str.result.now in
    let made = g.M.FileMaker.made c.args.maker.now in
    subst (λ file. MakesFile file made (g.M.FileMaker.made c.close_file.new.self) c.write_times-answer.result)
    (file-is c.args.folder.now c.as_str.result.now bytes c.track_of.result c.args.number (c.as_str.ensures.value ∙ c.file_name-name.ensures) c.track_of.ensures.value)
    (makes_file made _ _ path bytes _ _
    (new_is_empty _ made path _ c.in-Ok.ensures.new) c.in-Ok.ensures.made c.close_file.ensures.made
    c.write_times-answer.result c.write_times-answer.ensures.puts.ok c.write_times-answer.ensures.puts.err)

pub returns-clause-counts : goal.returns-clause-counts
returns-clause-counts g c =
    Counts-closed (is_err c.write_times-answer.result) c.in-Ok.ensures.counts c.in-Ok.ensures.fresh c.write_times-answer.ensures.puts.counts c.close_file.ensures.counts

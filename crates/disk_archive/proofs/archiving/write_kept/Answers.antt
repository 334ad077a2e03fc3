use Rattle.std.proofs.Common.{true, false, refl, ◌∙◌}
use Rattle.std.proofs.lemmas.Iterator.Adapters.{option_map_id}
use Rattle.file_maker.specs.lemmas.Making.{made_in}
use Rattle.flux_base.specs.lemmas.Blaming.{CountsBy-image, CountsBy-source, CountsBy-then}
use Rattle.disk_archive.specs.Kept.{all_of, kept_of}
use Rattle.disk_archive.proofs.MadeFiles.{in-folder}
use Rattle.disk_archive.proofs.archiving.write_kept.Goals as goal

pub returns-in-Err-clause-wrote : goal.returns-in-Err-clause-wrote
returns-in-Err-clause-wrote g c = (c.in-Err.ensures.made ∙ option_map_id _, refl)

pub returns-in-Err-make_files-clause-wrote : goal.returns-in-Err-make_files-clause-wrote
returns-in-Err-make_files-clause-wrote g c = (
  in-folder c.args.folder.now (kept_of c.args.held.now) c.in-Err-make_files.file (g.M.FileMaker.made c.args.maker.now) _ _ _ c.in-Ok.ensures.made c.in-Err-make_files.ensures.made,
  refl,
)

pub returns-in-Ok-write_whole-clause-wrote : goal.returns-in-Ok-write_whole-clause-wrote
returns-in-Ok-write_whole-clause-wrote g c = (
  made_in c.args.folder.now (all_of c.args.folder.now (kept_of c.args.held.now)) (g.M.FileMaker.made c.args.maker.now) _ _ _ c.in-Ok.ensures.made c.in-Ok-make_files.ensures.made,
  rw c.bytes.ensures at c.in-Ok-write_whole.ensures.ok,
)

pub returns-in-Err-write_whole-clause-wrote : goal.returns-in-Err-write_whole-clause-wrote
returns-in-Err-write_whole-clause-wrote g c = (
  made_in c.args.folder.now (all_of c.args.folder.now (kept_of c.args.held.now)) (g.M.FileMaker.made c.args.maker.now) _ _ _ c.in-Ok.ensures.made c.in-Ok-make_files.ensures.made,
  rw c.bytes.ensures at c.in-Err-write_whole.ensures.err,
)

pub returns-in-Err-clause-blames : goal.returns-in-Err-clause-blames
returns-in-Err-clause-blames g c = CountsBy-source _ _ true c.in-Err.ensures.counts

pub returns-in-Err-make_files-clause-blames : goal.returns-in-Err-make_files-clause-blames
returns-in-Err-make_files-clause-blames g c =
    CountsBy-then _ (CountsBy-source _ _ false c.in-Ok.ensures.counts) (CountsBy-source _ _ true c.in-Err-make_files.ensures.counts)

pub returns-in-Ok-write_whole-clause-blames : goal.returns-in-Ok-write_whole-clause-blames
returns-in-Ok-write_whole-clause-blames g c =
    CountsBy-then _ (CountsBy-then _ (CountsBy-source _ _ false c.in-Ok.ensures.counts) (CountsBy-source _ _ false c.in-Ok-make_files.ensures.counts))
    (CountsBy-image _ _ false c.in-Ok-write_whole.ensures.counts)

pub returns-in-Err-write_whole-clause-blames : goal.returns-in-Err-write_whole-clause-blames
returns-in-Err-write_whole-clause-blames g c =
    CountsBy-then _ (CountsBy-then _ (CountsBy-source _ _ false c.in-Ok.ensures.counts) (CountsBy-source _ _ false c.in-Ok-make_files.ensures.counts))
    (CountsBy-image _ _ true c.in-Err-write_whole.ensures.counts)

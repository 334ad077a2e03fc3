use Rattle.stream_files.proofs.One.{before-first, before-later}
use Rattle.stream_files.proofs.splitting.make_before.Goals as goal

pub returns-then-stream-eq0-clause-made : goal.returns-then-stream-eq0-clause-made
returns-then-stream-eq0-clause-made g c = before-first _ _ c.args.stream c.args.folder.now c.if-stream-eq0.true c.make_folder.result c.make_folder.ensures.made

pub returns-else-stream-eq0-clause-made : goal.returns-else-stream-eq0-clause-made
returns-else-stream-eq0-clause-made g c = before-later (g.M.FileMaker.made c.args.maker.now) c.args.stream c.args.folder.now c.if-stream-eq0.false

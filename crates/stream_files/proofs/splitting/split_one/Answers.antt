use Rattle.std.proofs.Common.{refl, ap, take, ◌∙◌}
use Rattle.stream_files.specs.Streams.{SplitFolder}
use Rattle.stream_files.proofs.One.{cut-made, file-is, made-behind, not-made, whole-made}
use Rattle.stream_files.proofs.splitting.split_one.Goals as goal

pub returns-in-Err-clause-one : goal.returns-in-Err-clause-one
returns-in-Err-clause-one g c = (refl, rw c.bytes.ensures at c.in-Err.ensures.refused, refl)

pub returns-in-Err-make_before-clause-one : goal.returns-in-Err-make_before-clause-one
returns-in-Err-make_before-clause-one g c =
    let split : SplitFolder = record { folder = c.args.folder.now; heads = c.args.heads } in
    let not = not-made split (g.M.FileMaker.made c.args.maker.now) (g.M.FileMaker.made c.make_before.new.maker) (g.M.FileMaker.made c.make_before.new.maker) c.args.stream
    c.in-Err-make_before.field-0 c.in-Err-make_before.ensures.made in
    (not.0, c.in-Ok.size, _, rw c.bytes.ensures at c.in-Ok.ensures.read, not.1)

pub returns-in-Err-make_whole-clause-one : goal.returns-in-Err-make_whole-clause-one
returns-in-Err-make_whole-clause-one g c =
    let split : SplitFolder = record { folder = c.args.folder.now; heads = c.args.heads } in
    let old = g.M.FileMaker.made c.args.maker.now in
    let mid = g.M.FileMaker.made c.make_before.new.maker in
    let new = g.M.FileMaker.made c.make_whole.new.maker in
    let size = c.in-Ok.size in
    let is = file-is split c.args.stream c.as_str.result.now _ (take size c.args.ahead.now) c.track.result (c.as_str.ensures.value ∙ c.file_name-name.ensures) c.track.ensures.value
    (ap (take size) c.bytes-2.ensures) in
    let cut = cut-made split old mid new _ _ c.in-Err-make_whole.field-0 is c.in-Err-make_whole.ensures.made in
    (refl, size, _, rw c.bytes.ensures at c.in-Ok.ensures.read, cut.0, cut.1, made-behind split old mid new c.args.stream _ cut.0 c.in-Ok-make_before.ensures.made cut.2)

pub returns-clause-one : goal.returns-clause-one
returns-clause-one g c =
    let split : SplitFolder = record { folder = c.args.folder.now; heads = c.args.heads } in
    let old = g.M.FileMaker.made c.args.maker.now in
    let mid = g.M.FileMaker.made c.make_before.new.maker in
    let new = g.M.FileMaker.made c.make_whole.new.maker in
    let size = c.in-Ok.size in
    let is = file-is split c.args.stream c.as_str.result.now _ (take size c.args.ahead.now) c.track.result (c.as_str.ensures.value ∙ c.file_name-name.ensures) c.track.ensures.value
    (ap (take size) c.bytes-2.ensures) in (
      size,
      _,
      rw c.bytes.ensures at c.in-Ok.ensures.read,
      c.pass.ensures,
      made-behind split old mid new c.args.stream _ _ c.in-Ok-make_before.ensures.made
          (whole-made split old mid new _ _ is c.in-Ok-make_whole.ensures.made),
    )

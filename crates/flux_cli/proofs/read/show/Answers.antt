use Rattle.std.proofs.Common.{refl, subst}
use Rattle.dump_reading.specs.Outcomes.{disk_of}
use Rattle.flux_cli.proofs.Blaming.{CountsBy-noteless}
use Rattle.flux_cli.proofs.EndingLaws.{dumps-blame, shelf-over-shelf}
use Rattle.flux_cli.proofs.NotedRun.{HadRoom, had-room}
use Rattle.flux_cli.proofs.ReadRun.{draw-answers, draw-did, files-failed, read-answers, read-did, read-done}
use Rattle.flux_cli.proofs.ShelfEnded.{ends-over, shelf-ended}
use Rattle.flux_cli.specs.ReadRuns.{read_status, read_work}
use Rattle.flux_words.specs.declared.options.Shown.TheVariants.{Image, Picture}
use Rattle.flux_cli.specs.ShelfWork.{ends_over_shelf}
use Rattle.flux_cli.proofs.read.show.Goals as goal

pub returns-in-Image-clause-did : goal.returns-in-Image-clause-did
returns-in-Image-clause-did g c =
    let disk = disk_of c.args.dumps.now c.args.room.now.format in
    let answer = c.read_dumps-answer in
    let failed = files-failed disk _ _ answer.result (read-did disk _ _ _ _ answer.result answer.ensures.says) in
    rw c.in-Image.is (record {
      answer = shelf-over-shelf _ _ c.end_of_dumps.result _ _ read_status read-done answer.result c.end_of_dumps.ensures;
      says = shelf-ended (read_work Image disk) disk.dumps _ _ _ _ _ c.end_of_dumps.result read_status read-done answer.result
          (read-answers disk _ _ _ _ answer.result answer.ensures.says) failed.often failed.fails failed.many answer.ensures.blames
          (ends-over _ _ disk.dumps read_status answer.result c.end_of_dumps.result _ _ failed.paths failed.told c.end_of_dumps.ensures);
      keeps = (failed.paths, failed.told);
    })

pub returns-in-Picture-clause-did : goal.returns-in-Picture-clause-did
returns-in-Picture-clause-did g c =
    let disk = disk_of c.args.dumps.now c.args.room.now.format in
    let answer = c.map_dumps-answer in
    let failed = files-failed disk _ _ answer.result (draw-did disk _ _ _ answer.result answer.ensures.says) in
    rw c.in-Picture.is (record {
      answer = shelf-over-shelf _ _ c.end_of_dumps-in-Picture.result _ _ read_status read-done answer.result c.end_of_dumps-in-Picture.ensures;
      says = shelf-ended (read_work Picture disk) disk.dumps _ _ _ _ _ c.end_of_dumps-in-Picture.result read_status read-done answer.result
          (draw-answers disk _ _ _ _ answer.result answer.ensures.says refl) failed.often failed.fails failed.many (CountsBy-noteless _ _ answer.ensures.blames)
          (ends-over _ _ disk.dumps read_status answer.result c.end_of_dumps-in-Picture.result _ _ failed.paths failed.told c.end_of_dumps-in-Picture.ensures);
      keeps = (failed.paths, failed.told);
    })

pub returns-in-Image-clause-blames : goal.returns-in-Image-clause-blames
returns-in-Image-clause-blames g c =
    let disk = disk_of c.args.dumps.now c.args.room.now.format in
    let answer = c.read_dumps-answer in
    let failed = files-failed disk _ _ answer.result (read-did disk _ _ _ _ answer.result answer.ensures.says) in
    dumps-blame _ _ read_status read-done failed.often failed.many c.end_of_dumps.result _ _ answer.result failed.fails answer.ensures.blames c.end_of_dumps.ensures

pub returns-in-Picture-clause-blames : goal.returns-in-Picture-clause-blames
returns-in-Picture-clause-blames g c =
    let disk = disk_of c.args.dumps.now c.args.room.now.format in
    let answer = c.map_dumps-answer in
    let failed = files-failed disk _ _ answer.result (draw-did disk _ _ _ answer.result answer.ensures.says) in
    dumps-blame _ _ read_status read-done failed.often failed.many c.end_of_dumps-in-Picture.result _ _ answer.result failed.fails (CountsBy-noteless _ _ answer.ensures.blames)
    c.end_of_dumps-in-Picture.ensures

pub returns-in-Image-clause-no_source : goal.returns-in-Image-clause-no_source
returns-in-Image-clause-no_source g c = λ same. subst ends_over_shelf same (shelf-over-shelf _ _ c.end_of_dumps.result _ _ read_status read-done c.read_dumps-answer.result c.end_of_dumps.ensures)

pub returns-in-Picture-clause-no_source : goal.returns-in-Picture-clause-no_source
returns-in-Picture-clause-no_source g c =
    λ same. subst ends_over_shelf same (shelf-over-shelf _ _ c.end_of_dumps-in-Picture.result _ _ read_status read-done c.map_dumps-answer.result c.end_of_dumps-in-Picture.ensures)

pub returns-in-Image-clause-no_memory : goal.returns-in-Image-clause-no_memory
returns-in-Image-clause-no_memory g c = λ same. subst HadRoom same (had-room _ _ read_status read-done c.read_dumps-answer.result c.end_of_dumps.result _ _ c.end_of_dumps.ensures)

pub returns-in-Picture-clause-no_memory : goal.returns-in-Picture-clause-no_memory
returns-in-Picture-clause-no_memory g c =
    λ same. subst HadRoom same (had-room _ _ read_status read-done c.map_dumps-answer.result c.end_of_dumps-in-Picture.result _ _ c.end_of_dumps-in-Picture.ensures)

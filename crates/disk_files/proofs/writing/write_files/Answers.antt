use Rattle.std.proofs.Common.{◌≡◌, ◌<◌, arith, length, ap, ◌∙◌}
use Rattle.std.specs.Option.{option_map}
use Rattle.file_maker.specs.Makes.{with_files}
use Rattle.flux_base.specs.lemmas.Counting.{Counts-then}
use Rattle.sector_images.specs.Places.{tracks}
use Rattle.disk_files.specs.Files.{DiskFolder, disk_files, first_files}
use Rattle.disk_files.proofs.Making.{file-is, files-cut, files-next, is_early}
use Rattle.disk_files.proofs.writing.write_files.Goals as goal

pub write_file-requires-clause-one : goal.write_file-requires-clause-one
write_file-requires-clause-one g c =
    is_early c.tracks_keep_bounds.ensures.bounds c.args.format c.loop-number.number c.track_id-track.result c.track_id-track.ensures.at c.track_id-track.ensures.track
    c.track_ring.new.cells.cells c.in-Ok.ensures.ring

pub returns-in-Err-write_file-clause-made : goal.returns-in-Err-write_file-clause-made
returns-in-Err-write_file-clause-made g c =
    let disk : DiskFolder = record { folder = c.args.folder.now; format = c.args.format; version = c.args.version.now } in
    let low : c.loop-number.number < length (tracks c.args.format) = omega (arith, c.loop-number-test.true, c.track_count-number-end.ensures) in
    let cut =
    files-cut disk c.args.image.now (g.M.FileMaker.made c.args.maker.now) (g.M.FileMaker.made c.loop-number.maker) (g.M.FileMaker.made c.write_file.new.maker) c.loop-number.number _
    c.in-Err-write_file.field-0 c.loop-number.invariant.made
    (file-is disk c.args.image.now c.loop-number.number c.nominal.result c.track_id-track.result c.as_str.result.now c.deref.result.now c.track_ring.new.cells.cells c.track_id-track.ensures.at
    (c.as_str.ensures.value ∙ c.file_name-name.ensures) (c.deref.ensures.0 ∙ c.info_block-info.ensures) c.in-Ok.ensures.ok c.nominal.ensures)
    c.in-Err-write_file.ensures.made in
    (low, cut.0, cut.1, cut.2)

pub loop-number-preserved : goal.loop-number-preserved
loop-number-preserved g c =
    let disk : DiskFolder = record { folder = c.args.folder.now; format = c.args.format; version = c.args.version.now } in record {
      made = files-next disk c.args.image.now _ _ _ c.loop-number.number _ c.loop-number.invariant.made
          (file-is disk c.args.image.now c.loop-number.number c.nominal.result c.track_id-track.result c.as_str.result.now c.deref.result.now c.track_ring.new.cells.cells c.track_id-track.ensures.at
          (c.as_str.ensures.value ∙ c.file_name-name.ensures) (c.deref.ensures.0 ∙ c.info_block-info.ensures) c.in-Ok.ensures.ok c.nominal.ensures)
          c.in-Ok-write_file.ensures.made;
      counts = Counts-then _ c.loop-number.invariant.counts c.in-Ok-write_file.ensures.counts;
      room = omega (arith, c.loop-number.invariant.room, c.in-Ok.ensures.room);
    }

pub returns-clause-made : goal.returns-clause-made
unfolding disk_files
returns-clause-made g c =
    let disk : DiskFolder = record { folder = c.args.folder.now; format = c.args.format; version = c.args.version.now } in
    let all : c.loop-number.number ≡ length (tracks c.args.format) = omega (arith, c.track_count-number-end.ensures) in
    c.loop-number.invariant.made ∙ ap (λ n. option_map (with_files (first_files disk c.args.image.now n)) (g.M.FileMaker.made c.args.maker.now)) all

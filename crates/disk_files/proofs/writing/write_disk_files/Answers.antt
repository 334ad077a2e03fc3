use Rattle.std.proofs.Common.{◌≡◌, ◌≤◌, ◌∙◌, List, ℕ, drop, length, take, ap, subst, arith, Err, Ok}
use Rattle.flux_engine.specs.Writes.{most_read}
use Rattle.sector_images.specs.Formats.{row}
use Rattle.sector_images.specs.declared.format.Format.{Format}
use Rattle.disk_files.specs.Answers.{MakesFiles, WritesFiles}
use Rattle.disk_files.specs.Files.{DiskFolder}
use Rattle.disk_files.specs.declared.fault.FilesFault.TheVariants.{Exists, FileFault, FolderFault}
use Rattle.disk_files.proofs.Telling.{front-of, says-all, says-exists, says-file, says-folder, whole-image}
use Rattle.disk_files.proofs.writing.write_disk_files.Goals as goal

pub returns-in-Some-clause-wrote : goal.returns-in-Some-clause-wrote
returns-in-Some-clause-wrote g c =
    let format = c.room.inside.format in
    let disk : DiskFolder = record { folder = c.args.folder.now; format = format; version = c.args.version.now } in
    let buffer = c.fill.new.buffer in
    let size : length buffer ≡ most_read format = c.in-Ok.ensures.len ∙ ap length c.deref_mut.ensures.value ∙ c.room.invariant.0 in
    let whole = whole-image format buffer c.in-Ok.read (g.S.Source.left c.fill.new.source) size (c.if-read-wanted.false ∙ c.image_size-wanted.ensures.table) c.in-Ok.ensures.ended in
    subst (λ (f : Format). WritesFiles (record { folder = c.args.folder.now; format = f; version = c.args.version.now })
    (g.S.Source.left c.args.source.now) (g.S.Source.left c.fill.new.source) (g.M.FileMaker.made c.args.maker.now) (g.M.FileMaker.made c.args.maker.now)
    (Err (Exists c.in-Some.track))) c.room.view_is
    (says-exists disk (take c.in-Ok.read buffer) _ _ (g.M.FileMaker.made c.args.maker.now) c.in-Ok.ensures.ok whole c.in-Some.track c.in-Some.ensures.bound
    (c.in-Some.ensures.first c.args.version.now))

pub returns-in-Err-make_folder-clause-wrote : goal.returns-in-Err-make_folder-clause-wrote
returns-in-Err-make_folder-clause-wrote g c =
    let format = c.room.inside.format in
    let disk : DiskFolder = record { folder = c.args.folder.now; format = format; version = c.args.version.now } in
    let buffer = c.fill.new.buffer in
    let size : length buffer ≡ most_read format = c.in-Ok.ensures.len ∙ ap length c.deref_mut.ensures.value ∙ c.room.invariant.0 in
    let whole = whole-image format buffer c.in-Ok.read (g.S.Source.left c.fill.new.source) size (c.if-read-wanted.false ∙ c.image_size-wanted.ensures.table) c.in-Ok.ensures.ended in
    subst (λ (f : Format). WritesFiles (record { folder = c.args.folder.now; format = f; version = c.args.version.now })
    (g.S.Source.left c.args.source.now) (g.S.Source.left c.fill.new.source) (g.M.FileMaker.made c.args.maker.now) (g.M.FileMaker.made c.make_folder.new.self)
    (Err FolderFault)) c.room.view_is
    (says-folder disk (take c.in-Ok.read buffer) _ _ (g.M.FileMaker.made c.args.maker.now) c.in-Ok.ensures.ok whole (c.in-None.ensures.first c.args.version.now)
    (g.M.FileMaker.made c.make_folder.new.self) c.in-Err-make_folder.field-0 c.in-Err-make_folder.ensures.made)

pub returns-in-Err-write_files-clause-wrote : goal.returns-in-Err-write_files-clause-wrote
returns-in-Err-write_files-clause-wrote g c =
    let format = c.room.inside.format in
    let disk : DiskFolder = record { folder = c.args.folder.now; format = format; version = c.args.version.now } in
    let buffer = c.fill.new.buffer in
    let read = c.in-Ok.read in
    let rest = drop (length buffer) c.room.inside.image.items in
    let size : length buffer ≡ most_read format = c.in-Ok.ensures.len ∙ ap length c.deref_mut.ensures.value ∙ c.room.invariant.0 in
    let read_is : read ≡ (row format).image_size = c.if-read-wanted.false ∙ c.image_size-wanted.ensures.table in
    let low : read ≤ c.room.inside.image.len = omega (arith, c.deref_mut.ensures.len, c.in-Ok.ensures.len, size, read_is) in
    let within : read ≤ length buffer = omega (arith, size, read_is) in
    let is : take read c.deref.result.now ≡ take read buffer = ap (take read) c.deref.ensures.value ∙ front-of read c.room.inside.image.len buffer rest low within in
    let whole = whole-image format buffer read (g.S.Source.left c.fill.new.source) size read_is c.in-Ok.ensures.ended in
    let cut = subst (λ (im : List ℕ). MakesFiles disk im (g.M.FileMaker.made c.make_folder.new.self) (g.M.FileMaker.made c.write_files.new.maker)
    (Err c.in-Err-write_files.track)) is c.in-Err-write_files.ensures.made in
    subst (λ (f : Format). WritesFiles (record { folder = c.args.folder.now; format = f; version = c.args.version.now })
    (g.S.Source.left c.args.source.now) (g.S.Source.left c.fill.new.source) (g.M.FileMaker.made c.args.maker.now) (g.M.FileMaker.made c.write_files.new.maker)
    (Err (FileFault c.in-Err-write_files.track))) c.room.view_is
    (says-file disk (take read buffer) _ _ (g.M.FileMaker.made c.args.maker.now) c.in-Ok.ensures.ok whole (c.in-None.ensures.first c.args.version.now)
    (g.M.FileMaker.made c.make_folder.new.self) (g.M.FileMaker.made c.write_files.new.maker) c.in-Ok-make_folder.field-0 c.in-Ok-make_folder.ensures.made
    c.in-Err-write_files.track cut)

pub returns-clause-wrote : goal.returns-clause-wrote
returns-clause-wrote g c =
    let format = c.room.inside.format in
    let disk : DiskFolder = record { folder = c.args.folder.now; format = format; version = c.args.version.now } in
    let buffer = c.fill.new.buffer in
    let read = c.in-Ok.read in
    let rest = drop (length buffer) c.room.inside.image.items in
    let size : length buffer ≡ most_read format = c.in-Ok.ensures.len ∙ ap length c.deref_mut.ensures.value ∙ c.room.invariant.0 in
    let read_is : read ≡ (row format).image_size = c.if-read-wanted.false ∙ c.image_size-wanted.ensures.table in
    let low : read ≤ c.room.inside.image.len = omega (arith, c.deref_mut.ensures.len, c.in-Ok.ensures.len, size, read_is) in
    let within : read ≤ length buffer = omega (arith, size, read_is) in
    let is : take read c.deref.result.now ≡ take read buffer = ap (take read) c.deref.ensures.value ∙ front-of read c.room.inside.image.len buffer rest low within in
    let whole = whole-image format buffer read (g.S.Source.left c.fill.new.source) size read_is c.in-Ok.ensures.ended in
    let cut = subst (λ (im : List ℕ). MakesFiles disk im (g.M.FileMaker.made c.make_folder.new.self) (g.M.FileMaker.made c.write_files.new.maker)
    (Ok c.in-Ok-write_files.field-0)) is c.in-Ok-write_files.ensures.made in
    subst (λ (f : Format). WritesFiles (record { folder = c.args.folder.now; format = f; version = c.args.version.now })
    (g.S.Source.left c.args.source.now) (g.S.Source.left c.fill.new.source) (g.M.FileMaker.made c.args.maker.now) (g.M.FileMaker.made c.write_files.new.maker)
    (Ok c.in-Ok-write_files.field-0)) c.room.view_is
    (says-all disk (take read buffer) _ _ (g.M.FileMaker.made c.args.maker.now) c.in-Ok.ensures.ok whole (c.in-None.ensures.first c.args.version.now)
    (g.M.FileMaker.made c.make_folder.new.self) (g.M.FileMaker.made c.write_files.new.maker) c.in-Ok-make_folder.field-0 c.in-Ok-make_folder.ensures.made cut)

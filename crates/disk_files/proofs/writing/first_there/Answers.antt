use Rattle.std.proofs.Common.{◌≤◌, length, arith, sym, ap, ◌∙◌}
use Rattle.std.specs.Option.{is_some}
use Rattle.sector_images.specs.Places.{tracks}
use Rattle.track_shelf.specs.Files.{file_at}
use Rattle.disk_files.proofs.Making.{is-first, none-first, none-more, path-is}
use Rattle.disk_files.proofs.writing.first_there.Goals as goal

pub file_name-name-requires-clause-cylinder : goal.file_name-name-requires-clause-cylinder
file_name-name-requires-clause-cylinder g c = (c.tracks_keep_bounds.ensures.bounds c.args.format c.track_id.result c.track_id.ensures.track).cylinder

pub file_name-name-requires-clause-head : goal.file_name-name-requires-clause-head
file_name-name-requires-clause-head g c =
    let bounds = c.tracks_keep_bounds.ensures.bounds c.args.format c.track_id.result c.track_id.ensures.track in
    omega (arith, bounds.head)

pub returns-then-has_file-clause-first : goal.returns-then-has_file-clause-first
returns-then-has_file-clause-first g c version told known =
    let there = c.has_file.ensures told known in
    let path = path-is c.args.folder.now c.as_str.result.now c.track_id.result (c.as_str.ensures.value ∙ c.file_name-name.ensures) in
    is-first told.files c.args.folder.now c.args.format c.loop-number.number c.track_id.result c.track_id.ensures.at
    (sym (ap (λ p. is_some (file_at told.files p)) path) ∙ sym there ∙ c.if-has_file.true) (c.loop-number.invariant told known)

pub loop-number-preserved : goal.loop-number-preserved
loop-number-preserved g c told known =
    let there = c.has_file.ensures told known in
    let path = path-is c.args.folder.now c.as_str.result.now c.track_id.result (c.as_str.ensures.value ∙ c.file_name-name.ensures) in
    none-more told.files c.args.folder.now c.args.format c.loop-number.number c.track_id.result c.track_id.ensures.at
    (sym (ap (λ p. is_some (file_at told.files p)) path) ∙ sym there ∙ c.if-has_file.false) (c.loop-number.invariant told known)

pub returns-clause-first : goal.returns-clause-first
returns-clause-first g c version told known =
    let all : length (tracks c.args.format) ≤ c.loop-number.number = omega arith in
    none-first told.files c.args.folder.now c.args.format c.loop-number.number all (c.loop-number.invariant told known)

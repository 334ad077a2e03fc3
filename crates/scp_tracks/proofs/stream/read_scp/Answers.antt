use Rattle.std.proofs.Common.{◌≡◌, Some, IfOk, drop, sym, ap, subst, ◌∙◌}
use Rattle.track_shelf.specs.Files.{file_at}
use Rattle.track_shelf.specs.Told.{ShelfTold}
use Rattle.scp_tracks.specs.Reads.{IsScpRead}
use Rattle.scp_tracks.proofs.Standing.{is-there, not-there, placed}
use Rattle.scp_tracks.proofs.stream.read_scp.Goals as goal

pub returns-in_default-clause-is : goal.returns-in_default-clause-is
returns-in_default-clause-is g c files told =
    let at = file_at files c.args.path.now in
    let it = c.in-Ok-Some in
    not-there at it.header c.args.track c.place_of.result
    (placed c.begins_tell.ensures.files at it.field-0 it.header c.args.track c.place_of.result it.field-0-is (it.ensures.is files told) c.place_of.ensures.is)
    c.in_default.is

pub returns-clause-is : goal.returns-clause-is
returns-clause-is g c files told =
    let at = file_at files c.args.path.now in
    let it = c.in-Ok-Some in
    let tells = c.begins_tell.ensures.files in
    let p = placed tells at it.field-0 it.header c.args.track c.place_of.result it.field-0-is (it.ensures.is files told) c.place_of.ensures.is in
    let same = ap (λ (t : ShelfTold). t.files) it.ensures.told in
    subst (λ read_of. IfOk c.fill.result (λ read. IsScpRead read_of read c.fill.new.self.flux))
    (sym (is-there tells at it.header c.args.track c.place_of.result c.in-Some.offset p c.in-Some.is c.resolution.result c.revolutions.result c.resolution.ensures
    c.revolutions.ensures))
    (c.fill.ensures.made.is files p.file (same ∙ told) p.there)

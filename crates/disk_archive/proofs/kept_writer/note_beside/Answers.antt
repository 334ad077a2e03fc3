use Rattle.std.specs.Prelude.{◌≡◌, not, is_err}
use Rattle.std.proofs.Common.{ap, refl, sym, ◌∙◌}
use Rattle.disk_archive.proofs.Fitting.{fits, lines-fit, not-full}
use Rattle.disk_archive.proofs.kept_writer.note_beside.Goals as goal

pub returns-then-second : goal.returns-then-second
returns-then-second c = λ others stand sound. absurd (not-full c.args.second.now.full c.if-second.true sound)

pub returns : goal.returns
returns c = λ others stand sound.
    let failed : c.is_err-second.result ≡ is_err c.write_beside-noted.result = c.is_err-second.ensures.value in (
      fits c.args.second.now.full c.if-second.false,
      refl,
      lines-fit _ _ _ c.write_beside-noted.result (sym (ap not failed) ∙ sound) (c.write_beside-noted.ensures.wrote others stand),
    )

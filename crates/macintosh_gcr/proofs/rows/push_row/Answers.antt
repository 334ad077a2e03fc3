use Rattle.std.proofs.Common.{subst, sym}
use Rattle.macintosh_gcr.specs.Coding.{AreSixBits}
use Rattle.macintosh_gcr.specs.lemmas.RowLaws.{header-fit}
use Rattle.macintosh_gcr.proofs.rows.push_row.Goals as goal

pub push_values-requires : goal.push_values-requires
push_values-requires c =
    subst AreSixBits (sym c.header_values.ensures) (header-fit c.args.disk c.args.track c.args.sector c.requires.track c.requires.sector)

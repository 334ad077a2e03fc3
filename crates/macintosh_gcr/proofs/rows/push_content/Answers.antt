use Rattle.std.proofs.Common.{◌∙◌, lit<, subst, sym}
use Rattle.std.proofs.Math.Facts.{Fits-lt-pow}
use Rattle.macintosh_gcr.specs.Coding.{AreSixBits, NO_SUMS, with_tags}
use Rattle.macintosh_gcr.specs.lemmas.CodingLaws.{data-fit, with_tags-fit}
use Rattle.macintosh_gcr.specs.lemmas.OwnLaws.{no_sums_fit}
use Rattle.macintosh_gcr.proofs.Groups.{are-each}
use Rattle.macintosh_gcr.proofs.rows.push_content.Goals as goal

pub push_values-requires-2 : goal.push_values-requires-2
push_values-requires-2 c =
    let bytes = c.args.bytes.now in
    subst AreSixBits (sym (c.deref.ensures.0 ∙ c.values_of.ensures))
    (data-fit 0 NO_SUMS (with_tags bytes) (lit< tt) no_sums_fit (with_tags-fit bytes (are-each bytes (λ k. Fits-lt-pow (c.type_inv.bytes k)))))

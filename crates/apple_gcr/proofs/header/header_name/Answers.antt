use Rattle.std.proofs.Common.{◌∙◌, ℕ, List, ap, get_or}
use Rattle.apple_gcr.specs.DiskBytes.{byte_read, zeros_passed}
use Rattle.apple_gcr.specs.lemmas.StandLaws.{same_named}
use Rattle.apple_gcr.proofs.Values.{none-also}
use Rattle.apple_gcr.proofs.header.header_name.Goals as goal

pub returns-clause-none : goal.returns-clause-none
returns-clause-none c =
    none-also c.name_of.result c.name_of.ensures.none
    (λ no name names. no name
    (same_named (byte_read (zeros_passed c.args.rule) c.args.frame.now 24) (λ k. get_or c.deref.result.now k 0) name
    (λ k below. ap (λ (items : List ℕ). get_or items k 0) c.deref.ensures.0 ∙ c.address_bytes-address.ensures.read k below) names))

-- Fields are the same in cells that agree.
use Rattle.std.specs.Prelude.{◌≡◌, ℕ, zero, suc, ◌+◌, ◌*◌, ◌≤◌, Bool, List, ◌∷◌, refl}
use Rattle.std.proofs.Common.{ap, ◌∙◌, arith}
use Rattle.cell_bits.specs.Bytes.{data_byte}
use Rattle.ibm_fields.specs.Fields.{bytes_at, number_at}
use Rattle.track_rings.specs.lemmas.Fronts.{AgreeTo, agree-data_byte}

module _ (total : ℕ) (xs ys : List Bool) (same : AgreeTo total xs ys) where
  pub agree-bytes_at : (place count : ℕ) → place + 16 * count ≤ total
      → bytes_at xs place count ≡ bytes_at ys place count
  unfolding bytes_at
  agree-bytes_at place zero within = refl
  agree-bytes_at place (suc count) within =
      ap (λ (byte : ℕ). byte ∷ bytes_at xs (place + 16) count)
      (agree-data_byte total xs ys same place (omega arith))
      ∙ ap (λ (rest : List ℕ). data_byte ys place ∷ rest)
      (agree-bytes_at (place + 16) count (omega arith))

  pub agree-number_at : (place : ℕ) → place + 32 ≤ total → number_at xs place ≡ number_at ys place
  agree-number_at place within =
      let high = agree-data_byte total xs ys same place (omega arith) in
      let low = agree-data_byte total xs ys same (place + 16) (omega arith) in
      ap (λ (byte : ℕ). 256 * byte + data_byte xs (place + 16)) high
      ∙ ap (λ (byte : ℕ). 256 * data_byte ys place + byte) low

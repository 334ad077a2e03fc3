-- Whether the tracks beside the format's were all looked at, or none.
use Rattle.std.specs.Prelude.{◌≡◌, ℕ, ◌*◌, Bool, true, false, cond, List, [], ◌∷◌, length, Option}
use Rattle.std.specs.Prelude.{refl}
use Rattle.std.proofs.Common.{ap, ◌∙◌, arith}
use Rattle.sector_report.specs.declared.totals.Totals.{Totals}
use Rattle.track_shelf.specs.Files.{File}
use Rattle.dump_reading.specs.Beside.{beside_tracks, looks_beside}
use Rattle.dump_reading.specs.Outcomes.{DumpDisk, LookedAsAsked, LookedBeside}

empty : {X : Type 0} (xs : List X) → length xs ≡ 0 → xs ≡ []
empty [] none = refl
empty (x ∷ xs) none = absurd (omega (arith, none))

module _ (disk : DumpDisk) (told : Option (List File)) (beside : LookedBeside disk told)
    (sectors : Totals) (looked : LookedAsAsked sectors beside) where
  -- all were, where that is asked for
  pub looked-all : looks_beside disk.looks sectors ≡ true
      → length beside.others ≡ length (beside_tracks disk.stepping disk.format)
  looked-all asked =
      looked ∙ ap (λ (b : Bool). cond b (length (beside_tracks disk.stepping disk.format)) 0) asked

  -- or none, so no file was
  pub looked-none : looks_beside disk.looks sectors ≡ false
      → (beside.others ≡ []) × (beside.came ≡ [])
  looked-none asked =
      let none : length beside.others ≡ 0 =
      looked
      ∙ ap (λ (b : Bool). cond b (length (beside_tracks disk.stepping disk.format)) 0) asked in
      let zero_of : 0 * length disk.dumps ≡ 0 = omega arith in (
        empty beside.others none,
        empty beside.came (beside.are.all ∙ ap (λ (n : ℕ). n * length disk.dumps) none ∙ zero_of),
      )

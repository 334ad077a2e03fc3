use Rattle.std.proofs.Common.{◌<◌, inl, inr, length, refl, subst, sym}
use Rattle.std.proofs.lemmas.Bool.{ltb-true}
use Rattle.sector_images.specs.Places.{tracks}
use Rattle.sector_images.specs.declared.format.Format.{Format}
use Rattle.sector_images.specs.declared.format.Format.TheVariants.{C1541, C1541Forty}
use Rattle.g64_image.specs.Layout.{IsCommodore}
use Rattle.g64_image.proofs.check.first_fault.Goals as goal

-- these disks have few tracks
few-tracks : (format : Format) → IsCommodore format → length (tracks format) < 255
few-tracks format (inl is) = subst (λ (f : Format). length (tracks f) < 255) (sym is) (ltb-true (length (tracks C1541)) 255 refl)
few-tracks format (inr is) = subst (λ (f : Format). length (tracks f) < 255) (sym is) (ltb-true (length (tracks C1541Forty)) 255 refl)

pub tracks_fault-requires-clause-few : goal.tracks_fault-requires-clause-few
tracks_fault-requires-clause-few c = few-tracks c.args.format c.requires.format

-- That no file failed changes nothing of what a shelf tells.
use Rattle.std.proofs.Common.{◌≡◌, List, [], ℕ, Option, Some, None, refl, ap, append-nil}
use Rattle.std.specs.Option.{option_map}
use Rattle.track_shelf.specs.Handled.{Handled, more_blamed}
use Rattle.track_shelf.specs.Told.{ShelfTold, with_failed}

none-blamed : (h : Option Handled) → option_map (more_blamed []) h ≡ h
none-blamed None = refl
none-blamed (Some h) =
    ap (λ (paths : List (List ℕ)). Some (record h { blamed = paths })) (append-nil h.blamed)

pub none-failed : (told : ShelfTold) → with_failed [] told ≡ told
none-failed told =
    ap (λ (h : Option Handled). record told { handled = h }) (none-blamed told.handled)

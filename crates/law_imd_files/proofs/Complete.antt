-- What totals say of a file that lacks nothing.
use Rattle.std.proofs.Common.{◌≡◌, ◌<◌, ◌&&◌, ℕ, true, List, length, nat_eq, nat_lt}
use Rattle.std.specs.Prelude.{Contains}
use Rattle.std.proofs.lemmas.Bool.{eqb-true}
use Rattle.std.proofs.lemmas.List.{get_or_default}
use Rattle.imd_image.specs.Found.{TrackFound, found_at}
use Rattle.imd_image.specs.Totals.{is_complete}
use Rattle.imd_image.specs.declared.totals.ImdTotals.{ImdTotals}
use Rattle.law_imd_files.proofs.Lists.{both}

-- of totals that say that all is in the file: none are left, and all are good
pub parts : (t : ImdTotals) → is_complete t ≡ true → (t.left ≡ 0) × (t.good ≡ t.sectors)
parts t is =
    let a = both (nat_lt 0 t.tracks && nat_eq t.good t.sectors && nat_eq t.left 0 && nat_eq t.refused 0 && nat_eq t.missing 0) (nat_eq t.failed 0) is in
    let b = both (nat_lt 0 t.tracks && nat_eq t.good t.sectors && nat_eq t.left 0 && nat_eq t.refused 0) (nat_eq t.missing 0) a.0 in
    let c = both (nat_lt 0 t.tracks && nat_eq t.good t.sectors && nat_eq t.left 0) (nat_eq t.refused 0) b.0 in
    let d = both (nat_lt 0 t.tracks && nat_eq t.good t.sectors) (nat_eq t.left 0) c.0 in
    let e = both (nat_lt 0 t.tracks) (nat_eq t.good t.sectors) d.0 in
    (eqb-true t.left 0 d.1, eqb-true t.good t.sectors e.1)

-- one of the tracks
pub found_is : (founds : List TrackFound) (k : ℕ) → k < length founds → Contains founds (found_at founds k)
found_is founds k low = (k, low, get_or_default founds k (found_at founds k) _ low)

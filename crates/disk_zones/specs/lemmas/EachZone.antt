-- What holds of each zone of a disk holds of that of any cylinder.
use Rattle.std.specs.Prelude.{ℕ, Bool, true, false, nat_lt, if◌then◌else◌, List, [], ◌∷◌}
use Rattle.disk_zones.specs.Zones.{Outer, commodore_8050_inner, commodore_8050_outer}
use Rattle.disk_zones.specs.Zones.{commodore_8050_zone, commodore_inner, commodore_outer}
use Rattle.disk_zones.specs.Zones.{commodore_zone, macintosh_inner, macintosh_outer, macintosh_zone}
use Rattle.disk_zones.specs.Zones.{zone_in}
use Rattle.disk_zones.specs.declared.zones.Zone.{Zone}

module _ (Claim : Zone → Type 0) where
  -- one of two, by a test
  one_of : (test : Bool) (first second : Zone) → Claim first → Claim second
      → Claim (if test then first else second)
  one_of true first second one two = one
  one_of false first second one two = two

  -- all of them
  abbrev pub Each : List Outer → Zone → Type 0
  Each [] last = Claim last
  Each (outer ∷ others) last = Claim outer.zone × Each others last

  by_zone : (outer : List Outer) (last : Zone) (cylinder : ℕ) → Each outer last
      → Claim (zone_in outer last cylinder)
  by_zone [] last cylinder each = each
  by_zone (outer ∷ others) last cylinder each =
      one_of (nat_lt cylinder outer.end) outer.zone (zone_in others last cylinder) each.0
      (by_zone others last cylinder each.1)

  pub by_commodore_zone : (cylinder : ℕ) → Each commodore_outer commodore_inner
      → Claim (commodore_zone cylinder)
  unfolding commodore_zone
  by_commodore_zone cylinder each = by_zone commodore_outer commodore_inner cylinder each

  pub by_commodore_8050_zone : (cylinder : ℕ) → Each commodore_8050_outer commodore_8050_inner
      → Claim (commodore_8050_zone cylinder)
  unfolding commodore_8050_zone
  by_commodore_8050_zone cylinder each =
      by_zone commodore_8050_outer commodore_8050_inner cylinder each

  pub by_macintosh_zone : (cylinder : ℕ) → Each macintosh_outer macintosh_inner
      → Claim (macintosh_zone cylinder)
  unfolding macintosh_zone
  by_macintosh_zone cylinder each = by_zone macintosh_outer macintosh_inner cylinder each

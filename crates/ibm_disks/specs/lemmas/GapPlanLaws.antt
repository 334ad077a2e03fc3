-- What the tracks are that disks' numbers make: the numbers fill them.
use Rattle.std.specs.Prelude.{◌≡◌, ℕ, zero, suc, ◌+◌, ◌-◌, ◌*◌, ◌/◌, ◌<◌, ◌≤◌, Bool, true, false}
use Rattle.std.specs.Prelude.{nat_le, if◌then◌else◌, Option, Some, None, IfSome}
use Rattle.std.proofs.Common.{arith, lit≤, refl}
use Rattle.std.proofs.Math.Nat.{div-mul-le_self, min-le_left, mul-add, mul-le-mul_left, mul_comm}
use Rattle.std.proofs.Math.Nat.{mul_left_comm, zero-div}
use Rattle.std.proofs.lemmas.Bool.{leb-true}
use Rattle.ibm_disks.specs.declared.gap_plan.GapPlan.{GapPlan}
use Rattle.ibm_disks.specs.declared.rate.Density.{Density}
use Rattle.ibm_disks.specs.declared.rate.Density.TheVariants.{Single as SingleDensity}
use Rattle.ibm_disks.specs.declared.rate.Density.TheVariants.{Double as DoubleDensity}
use Rattle.ibm_disks.specs.declared.rate.Rate.{Rate}
use Rattle.ibm_disks.specs.declared.rate.Rate.TheVariants.{Double, High, HighAt360, Single}
use Rattle.ibm_disks.specs.declared.rate.Rate.TheVariants.{SingleAt360}
use Rattle.ibm_disks.specs.declared.track_numbers.LeadIn.{LeadIn}
use Rattle.ibm_disks.specs.declared.track_numbers.LeadIn.TheVariants.{Indexed, Bare}
use Rattle.ibm_disks.specs.declared.track_numbers.TrackNumbers.{TrackNumbers}
use Rattle.ibm_disks.specs.Numbers.{FM_AROUND, FillTrack, fm_before, mfm_around, mfm_before}
use Rattle.ibm_disks.specs.Numbers.{size_of}
use Rattle.ibm_disks.specs.GapPlans.{FillAt, bare_track, if_wide, indexed_track, left, narrow_gap}
use Rattle.ibm_disks.specs.GapPlans.{track_at, track_bytes, track_with, wide_gap}

-- the gaps leave a byte at least
wide-leaves : (before own bytes sectors : ℕ)
    → let gap = wide_gap (bytes - (before + sectors * own)) sectors in
    1 ≤ gap → before + sectors * (own + gap) < bytes
wide-leaves before own bytes sectors some =
    let all : ℕ = sectors * own in
    let rest : ℕ = bytes - (before + all) in
    let part : ℕ = 7 * rest / (8 * sectors) in
    let gap : ℕ = wide_gap rest sectors in
    let less : gap ≤ part = min-le_left part 80 in
    let gaps : sectors * gap ≤ sectors * part = mul-le-mul_left sectors less in
    let same : part * (8 * sectors) ≡ 8 * (part * sectors) = mul_left_comm part 8 sectors in
    leaves before all bytes (sectors * gap) (sectors * part) (part * sectors) (part * (8 * sectors))
    (sectors * (own + gap)) (mul-add sectors own gap) gaps
    (mul_comm sectors part) same (div-mul-le_self (7 * rest) (8 * sectors)) (some-rest rest some)
  where
    leaves : (before all bytes gaps parts product eighths together : ℕ) → together ≡ all + gaps
        → gaps ≤ parts → parts ≡ product → eighths ≡ 8 * product
        → eighths ≤ 7 * (bytes - (before + all)) → 1 ≤ bytes - (before + all)
        → before + together < bytes
    leaves before all bytes gaps parts product eighths together sum less same eight within some =
        omega arith

    some-rest : (rest : ℕ) → 1 ≤ wide_gap rest sectors → 1 ≤ rest
    some-rest zero some =
        let none : 7 * 0 / (8 * sectors) ≡ 0 = zero-div (8 * sectors) in
        let low = min-le_left (7 * 0 / (8 * sectors)) 80 in
        absurd (omega (arith, none, low, some))
    some-rest (suc rest) some = omega arith

narrow-leaves : (before own bytes sectors : ℕ)
    → let gap = narrow_gap (bytes - (before + sectors * own)) sectors in
    1 ≤ gap → before + sectors * (own + gap) < bytes
narrow-leaves before own bytes sectors some =
    let all : ℕ = sectors * own in
    let rest : ℕ = bytes - (before + all) in
    let part : ℕ = rest / (sectors + 1) in
    let gap : ℕ = narrow_gap rest sectors in
    let less : gap ≤ part = min-le_left part 80 in
    let gaps : sectors * gap ≤ sectors * part = mul-le-mul_left sectors less in
    leaves before all bytes gap part (sectors * gap) (sectors * part) (part * sectors) (part * 1)
    (part * (sectors + 1)) (sectors * (own + gap))
    (mul-add sectors own gap) gaps (mul_comm sectors part) (mul-add part sectors 1) (omega arith)
    (div-mul-le_self rest (sectors + 1)) some less
  where
    leaves : (before all bytes gap part gaps parts product one whole together : ℕ)
        → together ≡ all + gaps → gaps ≤ parts → parts ≡ product
        → whole ≡ product + one → one ≡ part → whole ≤ bytes - (before + all) → 1 ≤ gap → gap ≤ part
        → before + together < bytes
    leaves before all bytes gap part gaps parts product one whole together sum less same split is
        within some enough = omega arith

-- no track is too long
short : (rate : Rate) → track_bytes rate ≤ 16384
short Double = lit≤ tt
short High = lit≤ tt
short HighAt360 = lit≤ tt
short Single = lit≤ tt
short SingleAt360 = lit≤ tt

module _ (plan : GapPlan) (some : 1 ≤ plan.sectors)
    (few : plan.first_sector + plan.sectors ≤ 256) where
  -- a track of the plan whose sectors and gaps leave a byte
  fills : (before around gap : ℕ) (lead_in : LeadIn)
      → before + plan.sectors * (around + size_of plan.size + gap) < track_bytes plan.rate
      → FillTrack before around (track_with plan lead_in gap)
  fills before around gap lead_in within =
      record { some = some; few = few; within = within; short = short plan.rate }

  -- a choice between two tracks, and none
  chosen : (Good : TrackNumbers → Type 0) (least : ℕ) (track : TrackNumbers)
      (other : Option TrackNumbers)
      → (least ≤ track.sector_gap → Good track)
      → IfSome other Good → IfSome (if_wide least track other) Good
  chosen Good least track other first second =
      by (nat_le least track.sector_gap) (λ is. first (leb-true least track.sector_gap is))
    where
      by : (wide : Bool) → (wide ≡ true → Good track)
          → IfSome (if wide then Some track else other) Good
      by true good = good refl
      by false good = second

  pub filled : (density : Density)
      → IfSome (track_at density plan)
      (λ track. FillAt density track × (track.bytes ≡ track_bytes plan.rate))
  filled DoubleDensity =
      chosen (λ track. FillAt DoubleDensity track × (track.bytes ≡ track_bytes plan.rate)) 10
      (indexed_track (mfm_before Indexed) (mfm_around Indexed) plan)
      (if_wide 1 (bare_track plan) None)
      (λ wide. (
        fills 146 62 (wide_gap (left 146 62 plan) plan.sectors) Indexed
            (wide-leaves 146 (62 + size_of plan.size) (track_bytes plan.rate) plan.sectors
            (omega (arith, wide))),
        refl,
      ))
      (chosen (λ track. FillAt DoubleDensity track × (track.bytes ≡ track_bytes plan.rate)) 1
      (bare_track plan) None
      (λ wide. (
        fills 10 53 (narrow_gap (left 10 53 plan) plan.sectors) Bare
            (narrow-leaves 10 (53 + size_of plan.size) (track_bytes plan.rate) plan.sectors wide),
        refl,
      )) tt)
  filled SingleDensity =
      chosen (λ track. FillAt SingleDensity track × (track.bytes ≡ track_bytes plan.rate)) 4
      (indexed_track (fm_before Indexed) FM_AROUND plan) None
      (λ wide. (
        fills 73 33 (wide_gap (left 73 33 plan) plan.sectors) Indexed
            (wide-leaves 73 (33 + size_of plan.size) (track_bytes plan.rate) plan.sectors
            (omega (arith, wide))),
        refl,
      )) tt

-- What a disk that was read by a plan says of each of its sectors.
use Rattle.std.specs.Prelude.{◌≡◌, ◌≤◌, ◌<◌, ℕ, ◌+◌, ◌*◌, List, drop, length, replicate, sum_by, take, unwrap_or, Option, None, Some, refl}
use Rattle.std.proofs.Common.{ap, sym, subst, ◌∙◌, arith}
use Rattle.std.proofs.lemmas.List.{length-replicate}
use Rattle.flux_base.specs.declared.track.TrackId.{TrackId}
use Rattle.sector_images.specs.Formats.{row, slot, zone}
use Rattle.sector_images.specs.Places.{IsSector, NumbersNameTracks, SectorsFillTracks, TracksFillImages, TracksJoin, bytes_of, place_of, sector_in, sector_place, tracks}
use Rattle.sector_images.specs.declared.format.Format.{Format}
use Rattle.sector_report.specs.LineLaws.{SectorsHaveOneLine}
use Rattle.sector_report.specs.Lines.{named_text}
use Rattle.turn_merge.specs.Readings.{NotedReading, agreed, verdict}
use Rattle.turn_merge.specs.declared.verdict.Verdict.{Verdict}
use Rattle.turn_merge.specs.declared.verdict.Verdict.TheVariants.{Good, Contradictory, Bad, Missing}
use Rattle.flux_engine.specs.DiskLaws.{HasLine, bytes_at, line_number}
use Rattle.flux_engine.specs.Disks.{images, last_line, part_at, totals_over}
use Rattle.flux_engine.specs.PlanLaws.{GoodIsRightInPlans}
use Rattle.flux_engine.specs.Plans.{IsPlanned, IsPlannedPart, Planned, Streams, StopsAt, joined, planned_count}
use Rattle.flux_engine.specs.declared.fault.RefusedCapture.{RefusedCapture}
use Rattle.flux_engine.specs.Recordings.{sectors_of, track_at}
use Rattle.flux_engine.specs.Tracks.{TrackPart, image_bytes, image_of, image_piece, lines_by, part_by}
use Rattle.flux_engine.specs.declared.plan.Plan.{Plan}
use Rattle.flux_engine.specs.lemmas.LineNumbers.{sector-line}
use Rattle.law_captured_plans.specs.Said.{IsSaid, PlannedPartsFitImages, SectorsAreSaid}
use Rattle.law_captured_plans.proofs.Places.{images_few, one_more, piece_at, pieces_size, stands_in_part}
use Rattle.flux_engine.specs.lemmas.NoneAgreed.{none_agreed}

-- what the crates below promise
pub record Laws : Type 0 where
  pub good : GoodIsRightInPlans
  pub names : NumbersNameTracks
  pub fill : SectorsFillTracks
  pub joined : TracksJoin
  pub one : SectorsHaveOneLine

-- a track's part by the plan has the track's bytes in number, and each sector's at their place
module _ (laws : Laws) (plan : Plan) (format : Format) (streams : Streams) (n : ℕ) (part : TrackPart) (at : IsPlannedPart plan (part_by plan.naming) format streams n part) where
  abbrev track : TrackId
  track = track_at format n

  abbrev size : ℕ
  size = (row format).sector_size

  abbrev sectors : ℕ
  sectors = (zone format track.cylinder).sectors

  abbrev readings : List NotedReading
  readings = joined at.captures

  zeros_size : (sector : ℕ) → agreed readings sector ≡ None → length (image_bytes (sectors_of format track) readings sector) ≡ size
  zeros_size sector none =
      ap (λ (held : Option (List ℕ)). length (unwrap_or held (replicate size 0))) none ∙ length-replicate size 0

  size_by : (sector : ℕ) (v : Verdict) → verdict readings sector ≡ v → length (image_bytes (sectors_of format track) readings sector) ≡ size
  size_by sector (Good g b first) same =
      let right = laws.good plan format streams n at.captures at.many at.each sector g b first same in
      ap length right.in_image ∙ right.size
  size_by sector (Contradictory g b first other) same = zeros_size sector (none_agreed readings sector (Contradictory g b first other) same refl)
  size_by sector (Bad b first) same = zeros_size sector (none_agreed readings sector (Bad b first) same refl)
  size_by sector Missing same = zeros_size sector (none_agreed readings sector Missing same refl)

  piece_size : (j : ℕ) → length (image_piece format track readings j) ≡ size
  piece_size j = size_by (sector_in format track j) (verdict readings (sector_in format track j)) refl

  pub part_size : length part.image ≡ bytes_of format track
  unfolding image_of
  part_size =
      ap (λ (p : TrackPart). length p.image) at.is ∙ pieces_size size (image_piece format track readings) sectors (λ j below. piece_size j)

  module _ (sector : ℕ) (one : IsSector format track sector) where
    in_part : take size (drop (size * slot format sector) part.image) ≡ image_bytes (sectors_of format track) readings sector
    unfolding image_of
    in_part =
        let there = laws.fill format track sector one in
        ap (λ (p : TrackPart). take size (drop (size * slot format sector) p.image)) at.is
        ∙ piece_at size (image_piece format track readings) sectors (λ j below. piece_size j) (slot format sector) there.0
        ∙ ap (image_bytes (sectors_of format track) readings) there.1

module _ (laws : Laws) (plan : Plan) (format : Format) (streams : Streams) (o : Planned) (is : IsPlanned plan (part_by plan.naming) format streams o) where
  -- no more tracks were read than the format has
  pub few : length is.parts ≤ length (tracks format)
  few = (let low = few_of o.stop is.stops in omega (arith, low, is.many))
    where
      few_of : (stop : Option RefusedCapture) → StopsAt plan format streams stop → planned_count format stop ≤ length (tracks format)
      few_of None clean = omega arith
      few_of (Some stop) first = omega (arith, first.low)

  -- the readings of each track that was read, and its lines by them
  abbrev pub plan_readings : (n : ℕ) → n < length is.parts → List NotedReading
  plan_readings n low = joined (is.each n low).captures

  pub plan_lines : (n : ℕ) (low : n < length is.parts)
      → (part_at is.parts n).lines ≡ lines_by plan.naming (track_at format n) (sectors_of format (track_at format n)) (plan_readings n low)
  plan_lines n low = ap (λ (p : TrackPart). p.lines) (is.each n low).is

  place : (n : ℕ) → n < length (tracks format) → place_of format (track_at format n) ≡ sum_by (bytes_of format) (take n (tracks format))
  place n known =
      let named = (laws.names format n known).1 in
      laws.joined format n (track_at format n)
      (named ∙ ap Some (sym (ap (λ (t : Option TrackId). unwrap_or t (record { cylinder = 0; head = 0 })) named)))

  module _ (n : ℕ) (low : n < length is.parts) (sector : ℕ) (one : IsSector format (track_at format n) sector) where
    held : bytes_at format o.image (track_at format n) sector ≡ image_bytes (sectors_of format (track_at format n)) (plan_readings n low) sector
    unfolding sector_place
    held =
        let one_size = (row format).sector_size in
        let behind : ℕ = one_size * slot format sector in
        let within : behind + one_size ≤ bytes_of format (track_at format n) =
        one_more one_size (slot format sector) (zone format (track_at format n).cylinder).sectors (laws.fill format (track_at format n) sector one).0 in
        ap (λ (d : Planned). take one_size (drop (place_of format (track_at format n) + behind) d.image)) is.is
        ∙ ap (λ (k : ℕ). take one_size (drop (k + behind) (images is.parts))) (place n (omega (arith, low, few)))
        ∙ stands_in_part (bytes_of format) (tracks format) is.parts few (λ k below. part_size laws plan format streams k (part_at is.parts k) (is.each k below)) n behind one_size low within
        ∙ in_part laws plan format streams n (part_at is.parts n) (is.each n low) sector one

    says : HasLine o.notes (named_text plan.naming (track_at format n) sector (verdict (plan_readings n low) sector)) (line_number format n sector)
    says =
        let text : List ℕ = named_text plan.naming (track_at format n) sector (verdict (plan_readings n low) sector) in
        subst (λ (d : Planned). HasLine d.notes text (line_number format n sector)) (sym is.is)
        (sector-line laws.one format is.parts few plan.naming plan_readings plan_lines (last_line (totals_over is.parts) o.stop) n low sector one)

    pub said : IsSaid plan format streams o n sector (line_number format n sector)
    said = (let at = is.each n low in record { captures = at.captures; many = at.many; each = at.each; line = says; held = held })

    -- it is said of the readings of the track's part
    pub said-captures : said.captures ≡ (is.each n low).captures
    unfolding said
    said-captures = refl

pub sectors_are_said : Laws → SectorsAreSaid
sectors_are_said laws plan format streams o is n sector low one =
    said laws plan format streams o is n (omega (arith, low, is.many)) sector one

pub parts_fit_images : Laws → TracksFillImages → PlannedPartsFitImages
parts_fit_images laws filled plan format streams parts each few =
    let most = images_few (bytes_of format) (tracks format) parts few (λ n low. part_size laws plan format streams n (part_at parts n) (each n low)) in
    omega (arith, most, filled format)

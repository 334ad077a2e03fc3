-- What a whole disk comes to.
use Rattle.std.specs.Prelude.{ℕ, List, [], ◌++◌, flat_map, sum_by, get_or, Option, Some, None}
use Rattle.sector_images.specs.Places.{tracks}
use Rattle.sector_report.specs.Lines.{total_text}
use Rattle.sector_report.specs.declared.totals.Totals.{Totals}
use Rattle.flux_engine.specs.Tracks.{TrackPart}

abbrev pub no_totals : Totals
no_totals = record { sectors = 0; good = 0; bad = 0; missing = 0; contradictory = 0 }

abbrev pub part_at : List TrackPart → ℕ → TrackPart
part_at parts n = get_or parts n (record { image = []; lines = []; totals = no_totals })

abbrev pub images : List TrackPart → List ℕ
images parts = flat_map (λ part. part.image) parts

abbrev pub lines : List TrackPart → List ℕ
lines parts = flat_map (λ part. part.lines) parts

-- the totals of several tracks
abbrev pub totals_over : List TrackPart → Totals
totals_over parts = record {
  sectors = sum_by (λ part. part.totals.sectors) parts;
  good = sum_by (λ part. part.totals.good) parts;
  bad = sum_by (λ part. part.totals.bad) parts;
  missing = sum_by (λ part. part.totals.missing) parts;
  contradictory = sum_by (λ part. part.totals.contradictory) parts;
}

-- the bytes of the image and of the report, the totals, and what stopped it before all
-- tracks were there, if something did
pub record DiskReport (S : Type 0) : Type 0 where
  pub image : List ℕ
  pub notes : List ℕ
  pub totals : Totals
  pub stop : Option S

-- what the first tracks come to: the line after all sector lines stands where nothing stopped it
abbrev pub last_line : {S : Type 0} → Totals → Option S → List ℕ
last_line totals (Some stop) = []
last_line totals None = total_text totals

abbrev pub report_over : {S : Type 0} → List TrackPart → Option S → DiskReport S
report_over parts stop = record {
  image = images parts;
  notes = lines parts ++ last_line (totals_over parts) stop;
  totals = totals_over parts;
  stop = stop;
}

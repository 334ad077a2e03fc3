-- The picture of a disk is that of its report.
use Rattle.std.specs.Prelude.{◌≡◌, ℕ, ◌+◌, refl}
use Rattle.std.proofs.Common.{ap, sym, subst, ◌∙◌, arith}
use Rattle.flux_engine.specs.Disks.{part_at, report_over}
use Rattle.flux_engine.specs.Plans.{IsPlannedPart, Planned, Streams, streams_in}
use Rattle.flux_engine.specs.Tracks.{part_by}
use Rattle.disk_map.specs.Laws.{MapsAreOfReports}
use Rattle.disk_map.specs.Maps.{ShowsTrack, drawn_by}
use Rattle.disk_map.proofs.Shown.{read_from}

pub maps_of_reports : MapsAreOfReports
maps_of_reports plan format x d is =
    let streams : Streams = streams_in plan x in
    let from = read_from (drawn_by plan.naming) (part_by plan.naming) (λ format track notes. refl) plan format streams 0 is.parts
    (λ n low. let first : n ≡ 0 + n = omega arith in
    subst (λ (k : ℕ). IsPlannedPart plan (drawn_by plan.naming) format streams k (part_at is.parts n)) first (is.each n low)) in
    record {
      report = report_over from.read d.stop;
      read = record {
        parts = from.read;
        each = λ n low. let first : 0 + n ≡ n = omega arith in
            subst (λ (k : ℕ). IsPlannedPart plan (part_by plan.naming) format streams k (part_at from.read n)) first (from.each n low);
        stops = is.stops;
        many = from.many ∙ is.many;
        is = refl;
      };
      totals = from.totals ∙ sym (ap (λ (o : Planned). o.totals) is.is);
      stop = refl;
      tracks = λ n low. let first : 0 + n ≡ n = omega arith in
          subst (λ (k : ℕ). ShowsTrack (drawn_by plan.naming) (part_by plan.naming) format k (part_at is.parts n) (part_at from.read n)) first (from.shows n low);
    }

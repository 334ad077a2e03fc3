-- The picture of dumps is that of their report.
use Rattle.std.specs.Prelude.{refl}
use Rattle.std.proofs.Common.{ap, sym, subst, ◌∙◌}
use Rattle.sector_report.specs.declared.totals.Totals.{Totals}
use Rattle.dump_reading.specs.Beside.{beside_lines}
use Rattle.dump_reading.specs.Outcomes.{DumpsRead, LookedAsAsked, lines_of, numbers_of, report_of}
use Rattle.dump_reading.specs.Reports.{read_part}
use Rattle.disk_map.specs.Dumps.{PicturesOfDumpsShowReports, dumps_part}
use Rattle.disk_map.proofs.Shown.{numbers-as, read_all_as}

pub shows_reports : PicturesOfDumpsShowReports
shows_reports disk told o is =
    let shown = read_all_as dumps_part read_part (λ format track notes. refl) disk told is.streams is.parts is.others is.all in
    record {
      report = report_of shown.read (lines_of beside_lines is.beside) (numbers_of is.streams shown.read is.others is.beside.came is.beside.others);
      read = record {
        streams = is.streams;
        parts = shown.read;
        others = is.others;
        all = shown.all;
        beside = is.beside;
        looked = subst (λ (t : Totals). LookedAsAsked t is.beside) (sym shown.totals) is.looked;
        is = refl;
      };
      streams = refl;
      beside = refl;
      totals = numbers-as shown is.beside.came is.beside.others ∙ sym (ap (λ (d : DumpsRead). d.totals) is.is);
      tracks = shown.shows;
    }

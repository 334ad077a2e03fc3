-- A disk of which a sector is good is read of all of the dump's files.
use Rattle.std.proofs.Common.{◌≡◌, ℕ, true, List, Option, sym, ap, ◌∙◌}
use Rattle.std.specs.Prelude.{nat_lt}
use Rattle.track_shelf.specs.Files.{File}
use Rattle.flux_engine.specs.Disks.{totals_over}
use Rattle.dump_reading.specs.Outcomes.{DumpsRead, IsDumpsRead}
use Rattle.dump_reading.specs.declared.totals.DumpTotals.{DumpTotals}
use Rattle.dump_reading.specs.lemmas.Looked.{looked-all}
use Rattle.dump_identity.specs.Findings.{disk_as}
use Rattle.dump_identity.specs.Laws.{LinesAreOfAllFiles, all_as}
use Rattle.dump_identity.specs.declared.candidate.Candidate.{Candidate}

-- what all of them come to is what was read
pub read-all : (dump : List ℕ) (told : Option (List File)) (candidate : Candidate) (o : DumpsRead) → IsDumpsRead (disk_as dump candidate) told o
    → nat_lt 0 o.totals.sectors.good ≡ true → IsDumpsRead (all_as dump candidate) told o
read-all dump told candidate o is good = record {
  streams = is.streams;
  parts = is.parts;
  others = is.others;
  all = record {
    many = is.all.many;
    read = record { all = is.all.read.all; are = is.all.read.are; each = is.all.read.each };
    many_others = is.all.many_others;
    others_are = is.all.others_are;
  };
  beside = record { came = is.beside.came; others = is.beside.others; are = is.beside.are };
  looked = looked-all (disk_as dump candidate) told is.beside (totals_over is.parts) is.looked (sym (ap (λ (d : DumpsRead). nat_lt 0 d.totals.sectors.good) is.is) ∙ good);
  is = is.is;
}

pub all-files : LinesAreOfAllFiles
all-files dump told came candidate totals came_to good =
    let n = came_to.numbers in
    record {
      outcome = n.outcome;
      is = read-all dump told candidate n.outcome n.is (ap (λ (t : DumpTotals). nat_lt 0 t.sectors.good) (sym n.totals_are) ∙ good);
      totals_are = n.totals_are;
    }

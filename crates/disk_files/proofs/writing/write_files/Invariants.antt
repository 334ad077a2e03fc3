use Rattle.std.proofs.Common.{◌≡◌, ◌≤◌, false}
use Rattle.std.specs.Option.{option_map}
use Rattle.cell_bits.specs.State.{room}
use Rattle.file_maker.specs.Makes.{with_files}
use Rattle.flux_base.specs.Counts.{Counts, counts_of}
use Rattle.disk_files.specs.Files.{first_files}
use Rattle.disk_files.proofs.writing.write_files.Given as goal

abbrev pub invariant-loop-number : goal.invariant-loop-number
invariant-loop-number g l = record {
  made : g.M.FileMaker.made l.maker
      ≡ option_map (with_files (first_files (record { folder = l.folder; format = l.format; version = l.version }) l.image l.number)) (g.M.FileMaker.made l.initial.maker);
  counts : Counts false (counts_of g.M.FileMaker.faults g.M.FileMaker.failed l.initial.maker) (counts_of g.M.FileMaker.faults g.M.FileMaker.failed l.maker);
  room : room l.initial.ring ≤ room l.ring;
}

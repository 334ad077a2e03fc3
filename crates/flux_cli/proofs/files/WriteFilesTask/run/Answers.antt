use Rattle.std.proofs.Common.{false, true, inl, inr, refl}
use Rattle.flux_cli.proofs.Blaming.{CountsBy-noteless, memoryless}
use Rattle.flux_cli.proofs.Making.{files-blame, making-counts, of-tracks}
use Rattle.flux_cli.specs.FilesWork.{files_ending, files_of}
use Rattle.flux_cli.specs.Blamed.{files}
use Rattle.flux_cli.proofs.files.WriteFilesTask.run.Goals as goal

pub end_of_files-requires : goal.end_of_files-requires
end_of_files-requires g c =
    of-tracks (files_of c.args.self.now.format c.args.self.now.folder.now) c.write_disk_files-answer.result
    (rw (c.bytes-folder.ensures, c.in-Ok.ensures, c.version_number.ensures.number) at c.write_disk_files-answer.ensures.wrote)

pub returns-in-Ok-clause-did : goal.returns-in-Ok-clause-did
returns-in-Ok-clause-did g c =
    let e = c.write_disk_files-answer.ensures in (
      inr (record {
        answer = c.write_disk_files-answer.result;
        says = record {
          wrote = rw (c.bytes-folder.ensures, c.in-Ok.ensures, c.version_number.ensures.number) at e.wrote;
          needed = rw c.in-Ok.ensures at e.needed;
        };
        ends = c.end_of_files.ensures;
      }),
      refl,
      refl,
    )

pub returns-in-Err-clause-did : goal.returns-in-Err-clause-did
returns-in-Err-clause-did g c = (inl (refl, refl), refl, refl)

pub returns-in-Ok-clause-counts : goal.returns-in-Ok-clause-counts
returns-in-Ok-clause-counts g c =
    let answer = c.write_disk_files-answer in
    making-counts _ _ _ _ _ _ _ (files_ending c.args.self.now.format answer.result) c.end_of_files.result _ _
    (files-blame c.args.self.now.format answer.result (CountsBy-noteless _ _ answer.ensures.blames)) c.end_of_files.ensures

pub returns-in-Err-clause-counts : goal.returns-in-Err-clause-counts
returns-in-Err-clause-counts g c = memoryless false files _ _ _ _ _

-- From the files that were made of an image to what is promised of them.
use Rattle.std.specs.Prelude.{IfSome}
use Rattle.std.proofs.Common.{◌≡◌, ◌<◌, ℕ, true, List, length, Option, Some, None, Ok, Err, inl, inr, refl, sym, ap, ◌∙◌, subst, arith}
use Rattle.std.specs.Io.KnownBytes.{Consumes}
use Rattle.std.specs.Prelude.{option_map}
use Rattle.std.proofs.KnownBytes.{Consumes-whole}
use Rattle.std.proofs.lemmas.Bool.Decides.{Decides-ltb}
use Rattle.disk_files.specs.Answers.{Answer, IsFirstThere, first_there}
use Rattle.disk_files.specs.Files.{DiskFolder, disk_files}
use Rattle.disk_files.specs.declared.fault.FilesFault.TheVariants.{Exists, FileFault, FolderFault, ReadFault as Unread, WrongSize}
use Rattle.file_maker.specs.Made.{Made}
use Rattle.file_maker.specs.Makes.{MakesIn, with_folder_of}
use Rattle.flux_base.specs.declared.status.Status.{Status}
use Rattle.flux_base.specs.declared.status.Status.TheVariants.{AllGood, Memory, ReadFault, ShelfFault}
use Rattle.flux_engine.specs.Rings.{IsImage}
use Rattle.flux_engine.specs.Writes.{IsWholeImage}
use Rattle.flux_help.specs.Pages.{number_text}
use Rattle.law_written_dumps.specs.Headline.{AreCaptured, AreReadWell, CanBeWritten, WrittenDumpsAreReadWell, WrittenFilesCapture, files_with}
use Rattle.sector_images.specs.declared.format.Format.{Format}
use Rattle.track_shelf.specs.Files.{File}
use Rattle.track_shelf.specs.Names.{is_folder}
use Rattle.flux_cli.specs.FilesHeadline.{AreWritten, OfWritten}
use Rattle.flux_cli.specs.FilesWork.{WritesAsNeeded, files_ending, files_of, files_work}
use Rattle.flux_cli.specs.MakingWork.{EndsMaking, Makes}
use Rattle.flux_cli.specs.World.{World}

module _ (captured : WrittenFilesCapture) (well : WrittenDumpsAreReadWell) (format : Format) (folder : List ℕ) (named : is_folder folder ≡ true) where
  abbrev target : DiskFolder
  target = files_of format folder

  can : (files : List File) → first_there files folder format ≡ None → CanBeWritten target files
  can files none =
      let few : length number_text < 65 = (Decides-ltb (length number_text) 65).0 refl in
      record { short = omega (arith, few); a_folder = named; none_there = none }

  written : (image : List ℕ) (before after : Made) → IsImage format image → first_there before.files folder format ≡ None
      → after ≡ with_folder_of folder (disk_files target image) before → AreWritten target image before after
  written image before after is none same =
      let files : after.files ≡ files_with target before.files image = ap (λ (m : Made). m.files) same in
      record {
        files = files;
        captured = subst (λ (f : List File). AreCaptured target f image) (sym files) (captured target before.files image is (can before.files none));
        read = subst (λ (f : List File). AreReadWell target f image) (sym files) (well target before.files image is (can before.files none));
      }

  -- what was taken is all that the source had to give
  of_taken : (left left' : Option (List ℕ)) (made made' : Option Made) (taken : List ℕ) → Consumes left left' taken → IsWholeImage format taken left' → IsFirstThere made target None
      → MakesIn folder (disk_files target taken) made made' → OfWritten target left made made'
  of_taken left left' made made' taken consumed whole none making image before told lies is =
      let same : image ≡ taken = subst (λ (o : Option (List ℕ)). IfSome o (λ (x : List ℕ). x ≡ taken)) told (Consumes-whole left left' taken (λ (x : List ℕ). x ≡ taken) consumed whole.ended refl) in
      let now : made' ≡ Some (with_folder_of folder (disk_files target image) before) =
      making ∙ ap (option_map (with_folder_of folder (disk_files target taken))) lies
      ∙ ap (λ (x : List ℕ). Some (with_folder_of folder (disk_files target x) before)) (sym same) in
      (with_folder_of folder (disk_files target image) before, now, written image before _ is (none before lies) refl)

  module _ {S W N H M : Type 0} (before after : World S W N H M) where
    abbrev Promised : Type 0
    Promised = OfWritten target before.source.seen.left before.maker.made after.maker.made

    by_answer : (answer : Answer) → WritesAsNeeded target before.source.seen after.source.seen before.maker.made after.maker.made answer
        → EndsMaking (files_ending format answer) AllGood before.notes after.notes → Promised
    by_answer (Ok _) did ends = of_taken _ _ _ _ did.wrote.taken did.wrote.consumed did.wrote.says.0 did.wrote.says.1 did.wrote.says.2
    by_answer (Err Unread) did ends = (let wrong : AllGood ≡ ReadFault = ends.0 in absurd (cc))
    by_answer (Err (WrongSize read wanted)) did ends = absurd ends
    by_answer (Err (Exists number)) did ends = absurd ends
    by_answer (Err FolderFault) did ends = (let wrong : AllGood ≡ ShelfFault = ends.0 in absurd (cc))
    by_answer (Err (FileFault number)) did ends = (let wrong : AllGood ≡ ShelfFault = ends.0 in absurd (cc))

    pub of_files : (status : Status) → Makes (files_work format folder) status before after → status ≡ AllGood → Promised
    of_files status (inl memory) good = (let wrong : AllGood ≡ Memory = sym good ∙ memory.0 in absurd (cc))
    of_files status (inr did) good =
        by_answer did.answer did.says (subst (λ (s : Status). EndsMaking (files_ending format did.answer) s before.notes after.notes) good did.ends)

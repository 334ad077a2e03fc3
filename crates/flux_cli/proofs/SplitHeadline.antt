-- From the files that were made of joined streams to what is promised of them.
use Rattle.std.specs.Prelude.{IfSome, option_map}
use Rattle.std.specs.Io.KnownBytes.{Consumes, IsAtEnd}
use Rattle.std.proofs.Common.{◌≡◌, ◌<◌, ◌++◌, ℕ, zero, suc, List, [], Option, Some, None, Ok, Err, inl, inr, refl, sym, ap, ◌∙◌, subst, append-nil, arith}
use Rattle.std.proofs.KnownBytes.{Consumes-whole}
use Rattle.file_maker.specs.Made.{Made}
use Rattle.file_maker.specs.Makes.{with_folder_of}
use Rattle.flux_base.specs.declared.status.Status.{Status}
use Rattle.flux_base.specs.declared.status.Status.TheVariants.{AllGood, Memory, ReadFault, ShelfFault}
use Rattle.stream_files.specs.Answers.{Answer, MadeTo, SplitsStreams}
use Rattle.stream_files.specs.Joined.{FilesAreJoined}
use Rattle.stream_files.specs.Streams.{SplitFolder, stream_files}
use Rattle.stream_files.specs.declared.fault.SplitFault.TheVariants.{Exists, FileFault, FolderFault, NoName, ReadFault as Unread, Refused}
use Rattle.stream_files.specs.declared.heads.Heads.{Heads}
use Rattle.flux_cli.specs.MakingWork.{EndsMaking, Makes}
use Rattle.flux_cli.specs.SplitHeadline.{AreSplit, OfSplit}
use Rattle.flux_cli.specs.SplitWork.{SplitsAsNeeded, split_ending, split_of, split_work}
use Rattle.flux_cli.specs.World.{World}

module _ (joined : FilesAreJoined) (folder : List ℕ) (heads : Heads) where
  abbrev split : SplitFolder
  split = split_of folder heads

  -- what lies there where some stream was made a file
  made-is : (x : List ℕ) (count : ℕ) (before : Made) (made made' : Option Made) → 0 < count → made ≡ Some before → MadeTo split count (stream_files split x count) made made'
      → made' ≡ Some (with_folder_of folder (stream_files split x count) before)
  made-is x zero before made made' some lies making = absurd (omega (arith, some))
  made-is x (suc n) before made made' some lies making = making ∙ ap (option_map (with_folder_of folder (stream_files split x (suc n)))) lies

  -- what was taken is all that the source had to give
  of_taken : (left left' : Option (List ℕ)) (made made' : Option Made) (count : ℕ) → SplitsStreams split left left' made made' (Ok count) → OfSplit split left made made'
  of_taken left left' made made' count did x before told lies =
      let same : x ≡ did.taken =
      subst (λ (o : Option (List ℕ)). IfSome o (λ (y : List ℕ). y ≡ did.taken)) told (Consumes-whole left left' did.taken (λ (y : List ℕ). y ≡ did.taken) did.consumed (did.ended tt) refl) in
      let says = did.says [] (λ of. refl) in
      let whole : did.taken ++ [] ≡ x = append-nil did.taken ∙ sym same in
      let now = made-is (did.taken ++ []) count before made made' says.1 lies says.4 in
      let ends = joined (did.taken ++ []) count says.3 in (
        with_folder_of folder (stream_files split (did.taken ++ []) count) before,
        now,
        subst (λ (y : List ℕ). AreSplit split y before (with_folder_of folder (stream_files split (did.taken ++ []) count) before)) whole
            (record { count = count; files = refl; joined = ends }),
      )

  module _ {S W N H M : Type 0} (before after : World S W N H M) where
    abbrev Promised : Type 0
    Promised = OfSplit split before.source.seen.left before.maker.made after.maker.made

    by_answer : (answer : Answer) → SplitsAsNeeded split before.source.seen after.source.seen before.maker.made after.maker.made answer
        → EndsMaking (split_ending heads answer) AllGood before.notes after.notes → Promised
    by_answer (Ok count) did ends = of_taken _ _ _ _ count did.splits
    by_answer (Err Unread) did ends = (let wrong : AllGood ≡ ReadFault = ends.0 in absurd (cc))
    by_answer (Err (Refused k block fault)) did ends = absurd ends
    by_answer (Err (NoName k)) did ends = absurd ends
    by_answer (Err (Exists k)) did ends = absurd ends
    by_answer (Err FolderFault) did ends = (let wrong : AllGood ≡ ShelfFault = ends.0 in absurd (cc))
    by_answer (Err (FileFault k)) did ends = (let wrong : AllGood ≡ ShelfFault = ends.0 in absurd (cc))

    pub of_split : (status : Status) → Makes (split_work folder heads) status before after → status ≡ AllGood → Promised
    of_split status (inl memory) good = (let wrong : AllGood ≡ Memory = sym good ∙ memory.0 in absurd (cc))
    of_split status (inr did) good =
        by_answer did.answer did.says (subst (λ (s : Status). EndsMaking (split_ending heads did.answer) s before.notes after.notes) good did.ends)

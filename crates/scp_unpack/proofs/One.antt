-- One track that is unpacked.
use Rattle.std.proofs.Common.{◌≡◌, ◌++◌, ℕ, List, [], ◌∷◌, Option, Some, None, Err, Ok, refl, sym, subst, ◌∙◌, append-nil}
use Rattle.std.specs.Option.{option_map}
use Rattle.std.specs.Io.KnownBytes.{Appends}
use Rattle.file_maker.specs.Made.{Made}
use Rattle.file_maker.specs.Makes.{MakesFile, with_files}
use Rattle.file_maker.specs.lemmas.Making.{no_files}
use Rattle.flux_base.specs.Outside.{AppendsPart}
use Rattle.flux_base.specs.declared.outside.Failed.{Failed}
use Rattle.scp_unpack.specs.Files.{file_with, files_of}
use Rattle.scp_unpack.specs.Tracks.{TrackCame, stream_by}
use Rattle.scp_files.specs.declared.fault.TrackTold.{TrackTold}
use Rattle.scp_unpack.specs.inside.Came.{MakesTrack}

module _ (folder : List ℕ) (number : ℕ) (bytes : List ℕ) where
  abbrev came_by : (refusal told : Option TrackTold) → TrackCame
  came_by refusal told = record { number = number; stream = stream_by refusal bytes; told = told }

  -- the file of a track is made, if it has one
  pub made-one : (refusal told : Option TrackTold) (made made' : Option Made) (u : Unit {0})
      → MakesTrack folder number (stream_by refusal bytes) made made' (Ok u)
      → made' ≡ option_map (with_files (files_of folder (came_by refusal told ∷ []))) made
  made-one None told made made' u makes = makes
  made-one (Some why) told made made' u makes = makes ∙ no_files made

  -- it failed
  pub cut-one : (refusal : Option TrackTold) (made made' : Option Made) (failed : Failed)
      → MakesTrack folder number (stream_by refusal bytes) made made' (Err failed)
      → (stream_by refusal bytes ≡ Some bytes) × MakesFile (file_with folder number bytes) made made' (Err failed)
  cut-one None made made' failed makes = (refl, makes)
  cut-one (Some why) made made' failed makes = absurd makes

-- the line of a track alone
pub told-one : (line : List ℕ) (old new : Option (List ℕ)) → Appends old new line → Appends old new (line ++ [])
told-one line old new grew = subst (Appends old new) (sym (append-nil line)) grew

pub part-one : (line : List ℕ) (old new : Option (List ℕ)) → AppendsPart old new line → AppendsPart old new (line ++ [])
part-one line old new grew = subst (AppendsPart old new) (sym (append-nil line)) grew

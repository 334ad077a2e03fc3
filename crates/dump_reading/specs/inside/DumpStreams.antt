-- Steps of the crate's own functions, over what `DumpStreams` defines.
use Rattle.std.specs.Prelude.{ℕ, Bool, false, cond, List, [], ◌∷◌, Some}
use Rattle.flux_engine.specs.Plans.{is_failed}
use Rattle.flux_engine.specs.declared.track_streams.NextStream.{NextStream}
use Rattle.flux_engine.specs.declared.track_streams.NextStream.TheVariants.{PassedOver, Read}

-- a stream is passed over since its file failed
abbrev pub is_lost : NextStream → Bool
is_lost Read = false
is_lost (PassedOver why) = is_failed (Some why)

-- the path of the file of such a stream
abbrev pub lost_path : (path : List ℕ) → NextStream → List (List ℕ)
lost_path path next = cond (is_lost next) (path ∷ []) []

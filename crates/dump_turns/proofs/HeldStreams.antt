-- What a file's bytes at hand tell of it, whatever follows them.
use Rattle.std.proofs.Common.{◌≡◌, ◌≤◌, ◌<◌, ◌++◌, ℕ, List, [], None, length, sym, ap, subst, ◌∙◌, arith}
use Rattle.index_turns.specs.Track.{TrackState}
use Rattle.kryo_stream.specs.Growth.{StreamsHaveTurns}
use Rattle.kryo_stream.specs.HeldStreams.{HoldsFault, HoldsStream}
use Rattle.kryo_stream.specs.Outcome.{IsSmall}
use Rattle.kryo_stream.specs.Stream.{times}
use Rattle.kryo_stream.specs.declared.fault.StreamFault.{StreamFault}
use Rattle.sector_report.specs.declared.dump_lines.Passed.TheVariants.{Refused}
use Rattle.flux_engine.specs.LoopProgress.{seen_next}
use Rattle.flux_engine.specs.Reading.{IsBounded}
use Rattle.flux_engine.specs.declared.track_streams.NextStream.TheVariants.{PassedOver, Read}
use Rattle.dump_reading.specs.DumpStreams.{seen_file, seen_unless}
use Rattle.dump_turns.specs.Files.{MOST_BYTES}

module _ (bytes : List ℕ) (flux : TrackState) where
  -- they were read
  pub held-read : (size : ℕ) → HoldsStream bytes flux size → (later : List ℕ) → seen_next Read flux ≡ seen_file (bytes ++ later)
  held-read size has later =
      let is = has.is later in
      ap (λ (ts : List ℕ). record { fault = None; passed = None; times = ts; indexes = flux.indexes }) is.times
      ∙ ap (λ (ts : List ℕ). record { fault = None; passed = None; times = times (bytes ++ later); indexes = ts }) is.indexes
      ∙ ap (seen_unless (bytes ++ later)) (sym is.no_fault)

  -- and their times are bounded
  pub held-bounded : StreamsHaveTurns → (size : ℕ) → HoldsStream bytes flux size → IsSmall flux → IsBounded flux
  held-bounded turns size has small =
      let is = has.is [] in
      record {
        turns = subst (λ (times : List ℕ). 2 ≤ length times) (sym is.indexes) (turns (bytes ++ []) is.no_fault);
        few_times = small.few_times;
        few_indexes = small.few_indexes;
        times = small.times_within;
        indexes = small.indexes_within;
      }

  -- they are refused: where they end inside a block they are all that there is
  pub held-refused : (block : ℕ) (fault : StreamFault) → HoldsFault bytes (block, fault) → (later : List ℕ) → (length bytes < MOST_BYTES → later ≡ [])
      → seen_next (PassedOver (Refused block fault)) flux ≡ seen_file (bytes ++ later)
  held-refused block fault has later small =
      ap (seen_unless (bytes ++ later)) (sym (has.is later (λ cut. small (omega (arith, has.few cut)))))

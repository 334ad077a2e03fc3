-- Laws of the counts of several objects over several calls, for proofs about callers.
use Rattle.std.proofs.Common.{Bool, true, false, if◌then◌else◌, arith}
use Rattle.flux_base.specs.Blames.{Blame, no_one, the_source, the_image, the_notes, OutsideCounts}
use Rattle.flux_base.specs.Blames.{CountsBy, three_counts, no_counts}
use Rattle.flux_base.specs.Counts.{FaultCounts, Counts}
use Rattle.flux_base.specs.lemmas.Counting.{Counts-none, Counts-then}

-- no object was called
pub CountsBy-none : (counts : OutsideCounts) → CountsBy no_one counts counts
CountsBy-none counts =
    record {
      source = Counts-none counts.source;
      image = Counts-none counts.image;
      notes = Counts-none counts.notes;
    }

-- a call after one that told no fault
pub CountsBy-then : {old mid new : OutsideCounts} (blame : Blame) → CountsBy no_one old mid
    → CountsBy blame mid new → CountsBy blame old new
CountsBy-then blame p q =
    record {
      source = Counts-then _ p.source q.source;
      image = Counts-then _ p.image q.image;
      notes = Counts-then _ p.notes q.notes;
    }

-- a call that has the source alone
pub CountsBy-source : {source source' : FaultCounts} (image notes : FaultCounts) (fails : Bool)
    → Counts fails source source'
    → CountsBy (if fails then the_source else no_one) (three_counts source image notes)
    (three_counts source' image notes)
CountsBy-source image notes true counts =
    record { source = counts; image = Counts-none image; notes = Counts-none notes }
CountsBy-source image notes false counts =
    record { source = counts; image = Counts-none image; notes = Counts-none notes }

-- one that has the sink of the image alone
pub CountsBy-image : {image image' : FaultCounts} (source notes : FaultCounts) (fails : Bool)
    → Counts fails image image'
    → CountsBy (if fails then the_image else no_one) (three_counts source image notes)
    (three_counts source image' notes)
CountsBy-image source notes true counts =
    record { source = Counts-none source; image = counts; notes = Counts-none notes }
CountsBy-image source notes false counts =
    record { source = Counts-none source; image = counts; notes = Counts-none notes }

-- one that has that of the notes alone
pub CountsBy-notes : {notes notes' : FaultCounts} (source image : FaultCounts) (fails : Bool)
    → Counts fails notes notes'
    → CountsBy (if fails then the_notes else no_one) (three_counts source image notes)
    (three_counts source image notes')
CountsBy-notes source image true counts =
    record { source = Counts-none source; image = Counts-none image; notes = counts }
CountsBy-notes source image false counts =
    record { source = Counts-none source; image = Counts-none image; notes = counts }

-- one that has both sinks and no source
pub CountsBy-sinks : {image image' notes notes' : FaultCounts} (source : FaultCounts)
    (blame : Blame)
    → CountsBy blame (three_counts no_counts image notes) (three_counts no_counts image' notes')
    → CountsBy blame (three_counts source image notes) (three_counts source image' notes')
CountsBy-sinks source no_one counts =
    record { source = Counts-none source; image = counts.image; notes = counts.notes }
CountsBy-sinks source the_image counts =
    record { source = Counts-none source; image = counts.image; notes = counts.notes }
CountsBy-sinks source the_notes counts =
    record { source = Counts-none source; image = counts.image; notes = counts.notes }
CountsBy-sinks source the_source counts = absurd (omega (arith, counts.source.cause))

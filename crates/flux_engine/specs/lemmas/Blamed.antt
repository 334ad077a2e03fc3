-- Laws of the counts of several objects, for calls that have not all of them.
use Rattle.std.proofs.Common.{◌≡◌, arith}
use Rattle.flux_base.specs.Blames.{Blame, no_one, the_source, the_image, the_notes, CountsBy}
use Rattle.flux_base.specs.Blames.{three_counts, no_counts}
use Rattle.flux_base.specs.Counts.{FaultCounts}
use Rattle.flux_base.specs.lemmas.Counting.{Counts-none}

-- a call that has a source and no sink
pub CountsBy-streams : {source source' : FaultCounts} (image notes : FaultCounts) (blame : Blame)
    → CountsBy blame (three_counts source no_counts no_counts)
    (three_counts source' no_counts no_counts)
    → CountsBy blame (three_counts source image notes) (three_counts source' image notes)
CountsBy-streams image notes no_one counts =
    record { source = counts.source; image = Counts-none image; notes = Counts-none notes }
CountsBy-streams image notes the_source counts =
    record { source = counts.source; image = Counts-none image; notes = Counts-none notes }
CountsBy-streams image notes the_image counts = absurd (omega (arith, counts.image.cause))
CountsBy-streams image notes the_notes counts = absurd (omega (arith, counts.notes.cause))

-- one whose notes are an object of its own, which never fails
pub CountsBy-unnoted : {source source' image image' notes : FaultCounts} (blame : Blame)
    → notes.faults ≡ 0
    → CountsBy blame (three_counts source image notes) (three_counts source' image' notes)
    → CountsBy blame (three_counts source image no_counts) (three_counts source' image' no_counts)
CountsBy-unnoted no_one none counts =
    record { source = counts.source; image = counts.image; notes = Counts-none no_counts }
CountsBy-unnoted the_source none counts =
    record { source = counts.source; image = counts.image; notes = Counts-none no_counts }
CountsBy-unnoted the_image none counts =
    record { source = counts.source; image = counts.image; notes = Counts-none no_counts }
CountsBy-unnoted the_notes none counts = absurd (omega (arith, none, counts.notes.cause))

-- Each object of the outside at a moment, as one word: all that contracts see
-- of it, and how often it failed.
use Rattle.flux_base.specs.Blames.{OutsideCounts, no_counts, three_counts}
use Rattle.flux_base.specs.Counts.{FaultCounts, counts_of}
use Rattle.flux_base.specs.Moments.{Moment, moment}
use Rattle.flux_base.specs.declared.outside.Sink.{Ghosts as SinkGhosts}
use Rattle.flux_base.specs.declared.outside.Source.{Ghosts as SourceGhosts}

-- a source: the bytes still to come, where it tells them, and how often it failed
abbrev pub source_at : {S : Type 0} → SourceGhosts S → S → Moment S
source_at members source = moment members.left members.faults members.failed source

-- a sink: the bytes that it took, where it tells them, and how often it failed
abbrev pub sink_at : {W : Type 0} → SinkGhosts W → W → Moment W
sink_at members sink = moment members.written members.faults members.failed sink

abbrev pub source_counts : {S : Type 0} → SourceGhosts S → S → FaultCounts
source_counts members source = counts_of members.faults members.failed source

abbrev pub sink_counts : {W : Type 0} → SinkGhosts W → W → FaultCounts
sink_counts members sink = counts_of members.faults members.failed sink

-- how often a source, the sink of an image and that of the notes failed
abbrev pub counts_at : {S W N : Type 0} → SourceGhosts S → SinkGhosts W → SinkGhosts N → S → W → N
    → OutsideCounts
counts_at ofs ofw ofn source image notes =
    three_counts (source_counts ofs source) (sink_counts ofw image) (sink_counts ofn notes)

-- the same where there is no source
abbrev pub sinks_counts : {W N : Type 0} → SinkGhosts W → SinkGhosts N → W → N → OutsideCounts
sinks_counts ofw ofn image notes =
    three_counts no_counts (sink_counts ofw image) (sink_counts ofn notes)

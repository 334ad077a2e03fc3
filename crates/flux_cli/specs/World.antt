-- The world of a run at a moment: all objects of the outside; and the part of it that a command
-- has: one input, the source or the shelf, and both sinks.
use Rattle.std.specs.Prelude.{Option}
use Rattle.dump_reading.specs.Files.{ShelfNow, shelf_at}
use Rattle.file_maker.specs.Made.{Made}
use Rattle.file_maker.specs.declared.maker.FileMaker.{Ghosts as MakerGhosts}
use Rattle.flux_base.specs.Counts.{FaultCounts, counts_of}
use Rattle.flux_base.specs.Moments.{Moment}
use Rattle.flux_base.specs.World.{sink_at, source_counts}
use Rattle.flux_base.specs.declared.outside.Sink.{Ghosts as SinkGhosts}
use Rattle.flux_base.specs.declared.outside.Source.{Ghosts as SourceGhosts}
use Rattle.kryo_stream.specs.Reads.{SourceMoment, reads_at}
use Rattle.track_shelf.specs.declared.shelf.Shelf.{Ghosts}

-- an input: the object itself, what is seen of it, and how often it failed
pub record InputMoment (A V : Type 0) : Type 0 where
  pub object : A
  pub seen : V
  pub counts : FaultCounts

-- what a command has
pub record Outside (A V W N : Type 0) : Type 0 where
  pub input : InputMoment A V
  pub image : Moment W
  pub notes : Moment N

abbrev pub outside : {A V W N : Type 0} → InputMoment A V → Moment W → Moment N → Outside A V W N
outside input image notes = record { input = input; image = image; notes = notes }

-- what makes files: the object itself, what lies there and what is open, if it tells that, and how
-- often it failed
pub record MakerMoment (M : Type 0) : Type 0 where
  pub object : M
  pub made : Option Made
  pub counts : FaultCounts

-- all of it: of the source its bytes and what each of its reads so far gave are seen, if it tells
-- them; of the shelf that, the files that lie on it, and which of them are open and which failed
pub record World (S W N H M : Type 0) : Type 0 where
  pub source : InputMoment S SourceMoment
  pub shelf : InputMoment H ShelfNow
  pub image : Moment W
  pub notes : Moment N
  pub maker : MakerMoment M

-- with the source as the input, and with the shelf
abbrev pub on_source : {S W N H M : Type 0} → World S W N H M → Outside S SourceMoment W N
on_source now = outside now.source now.image now.notes

abbrev pub on_shelf : {S W N H M : Type 0} → World S W N H M → Outside H ShelfNow W N
on_shelf now = outside now.shelf now.image now.notes

-- what is seen of a shelf that is read as a source
abbrev pub reads_of : ShelfNow → SourceMoment
reads_of now =
    record { left = now.told.left; given = now.told.given; faults = now.counts.faults }

abbrev pub as_source : {H W N : Type 0} → Outside H ShelfNow W N → Outside H SourceMoment W N
as_source now = record {
  input = record {
    object = now.input.object;
    seen = reads_of now.input.seen;
    counts = now.input.counts;
  };
  image = now.image;
  notes = now.notes;
}

-- each of these of the objects themselves
abbrev pub source_input : {S : Type 0} → SourceGhosts S → S → InputMoment S SourceMoment
source_input members source =
    record {
      object = source;
      seen = reads_at members source;
      counts = source_counts members source;
    }

abbrev pub shelf_input : {H F : Type 0} → SourceGhosts H → Ghosts H F → H → InputMoment H ShelfNow
shelf_input source own shelf =
    record { object = shelf; seen = shelf_at source own shelf; counts = source_counts source shelf }

abbrev pub outside_at : {S W N : Type 0} → SourceGhosts S → SinkGhosts W → SinkGhosts N → S → W → N
    → Outside S SourceMoment W N
outside_at ofs ofw ofn source image notes =
    outside (source_input ofs source) (sink_at ofw image) (sink_at ofn notes)

abbrev pub on_shelf_at : {H F W N : Type 0} → SourceGhosts H → Ghosts H F → SinkGhosts W
    → SinkGhosts N → H → W → N → Outside H ShelfNow W N
on_shelf_at source own ofw ofn shelf image notes =
    outside (shelf_input source own shelf) (sink_at ofw image) (sink_at ofn notes)

abbrev pub maker_at : {M F : Type 0} → MakerGhosts M F → M → MakerMoment M
maker_at own maker =
    record { object = maker; made = own.made maker; counts = counts_of own.faults own.failed maker }

abbrev pub world_at : {S W N H F M K : Type 0} → SourceGhosts S → SinkGhosts W → SinkGhosts N
    → SourceGhosts H → Ghosts H F → MakerGhosts M K → S → W → N → H → M → World S W N H M
world_at ofs ofw ofn ofh own ofm source image notes shelf maker = record {
  source = source_input ofs source;
  shelf = shelf_input ofh own shelf;
  image = sink_at ofw image;
  notes = sink_at ofn notes;
  maker = maker_at ofm maker;
}

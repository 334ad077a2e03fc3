use Rattle.std.proofs.Common.{List}
use Rattle.ibm_disks.specs.declared.rate.Rate.{Rate}
use Rattle.ibm_disks.specs.declared.rate.Rate.TheVariants.{High, HighAt360}
use Rattle.ibm_walks.specs.Walks.{AreNamesBy, HaveNoted}
use Rattle.imd_image.specs.Streams.{AreJoined, by_clocks, readings_of}
use Rattle.imd_records.specs.Choices.{names_by}
use Rattle.imd_records.specs.declared.books.TrackBooks.{TrackBooks}
use Rattle.imd_records.specs.declared.mode.Mode.{Mode}
use Rattle.imd_records.specs.declared.mode.Mode.TheVariants.{Fm250, Fm500, Mfm250, Mfm500}
use Rattle.name_book.specs.Names.{NotedData}
use Rattle.name_book.specs.declared.name.NamedHeader.{NamedHeader}
use Rattle.turn_merge.specs.declared.clock.Clock.{Clock}
use Rattle.imd_image.proofs.Joining.{noted-both}
use Rattle.imd_image.proofs.streams.note_stream.Goals as goal

pub returns : goal.returns
returns c = by
  where
    Are : Rate × Clock → List NamedHeader → List NotedData → Type 0
    Are reading = AreNamesBy reading.1 reading.0 c.args.dump c.args.flux.now.times c.args.flux.now.indexes

    later : TrackBooks
    later = record { mfm250 = c.note_rate.new.book; mfm500 = c.note_rate-3.new.book; fm250 = c.note_rate-4.new.book; fm500 = c.note_rate-5.new.book }

    by : (mode : Mode) → HaveNoted (AreJoined Are (readings_of mode)) (names_by c.args.books.now mode) (names_by later mode)
    by Mfm250 = c.note_rate.ensures
    by Mfm500 =
        noted-both Are (by_clocks High) (by_clocks HighAt360) c.args.books.now.mfm500 c.note_rate-2.new.book c.note_rate-3.new.book c.note_rate-2.ensures c.note_rate-3.ensures
    by Fm250 = c.note_rate-4.ensures
    by Fm500 = c.note_rate-5.ensures

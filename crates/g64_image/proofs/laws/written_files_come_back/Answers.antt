use Rattle.g64_image.proofs.WrittenDisks.{written_files_come_back}
use Rattle.g64_image.proofs.laws.written_files_come_back.Goals as goal

pub returns : goal.returns
returns c =
    written_files_come_back
    (record {
      names = c.sectors_lie_in_images.ensures.numbers;
      lie = c.sectors_lie_in_images.ensures.sectors;
      cells = c.tracks_have_rings.ensures.cells;
      stand = c.tracks_have_rings.ensures.stand;
      frames = c.tracks_have_rings.ensures.whole;
      some = c.tracks_have_rings.ensures.some;
      own = c.tracks_have_only_own.ensures.stretches;
    })
    (record {
      names = c.sectors_lie_in_images.ensures.numbers;
      hold = c.sectors_fill_tracks.ensures.numbers;
      joined = c.tracks_fill_images.ensures.joined;
      filled = c.tracks_fill_images.ensures.filled;
    })
    c.tracks_are_read.ensures c.file_lines_tell.ensures.lines c.written_files_have_rings.ensures.none c.written_files_have_rings.ensures.rings

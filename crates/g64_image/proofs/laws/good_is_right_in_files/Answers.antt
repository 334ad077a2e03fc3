use Rattle.g64_image.proofs.GoodFiles.{good_is_right_in_files}
use Rattle.g64_image.proofs.laws.good_is_right_in_files.Goals as goal

pub returns : goal.returns
returns c =
    good_is_right_in_files
    (record {
      names = c.sectors_lie_in_images.ensures.numbers;
      hold = c.sectors_fill_tracks.ensures.numbers;
      joined = c.tracks_fill_images.ensures.joined;
      filled = c.tracks_fill_images.ensures.filled;
    })
    c.sectors_fill_tracks.ensures.sectors c.tracks_are_read.ensures

use Rattle.disk_recordings.specs.Recordings.{ANY_ID, recording_of}
use Rattle.law_captured_disks.proofs.Others.{no_others}
use Rattle.law_captured_disks.proofs.laws.captures_have_no_others.Goals as goal

pub returns : goal.returns
returns c =
    no_others (record {
      names = c.sectors_lie_in_images.ensures.numbers;
      lie = c.sectors_lie_in_images.ensures.sectors;
      rings = c.images_have_rings.ensures;
      no_other = c.tracks_have_no_others.ensures;
      pieces = λ format track ring none first later.
          c.no_others_in_pieces.ensures.pieces (recording_of format ANY_ID) track ring none first later;
      captures = c.captures_are_recovered.ensures.captures;
      erased = c.captures_are_recovered.ensures.erased;
      steady = c.steady_captures_are_recovered.ensures.captures;
      steady_erased = c.steady_captures_are_recovered.ensures.erased;
    })

use Rattle.std.proofs.Common.{◌≡◌, length, map, take}
use Rattle.sector_images.specs.Places.{tracks}
use Rattle.track_shelf.specs.Files.{track_bytes}
use Rattle.track_shelf.specs.Memory.{bytes_at}
use Rattle.track_shelf.proofs.Finding.{AllThere}
use Rattle.track_shelf.proofs.memory.ahead.find_wanted.Given as goal

abbrev pub invariant-loop-number : goal.invariant-loop-number
invariant-loop-number l =
    AllThere l.files l.fn.folder (tracks l.fn.format) l.number
    × (length l.places.items ≡ l.number)
    × (map (bytes_at l.files) l.places.items ≡ map (track_bytes l.files l.fn.folder) (take l.number (tracks l.fn.format)))

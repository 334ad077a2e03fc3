-- A shelf at a moment, as one word: what it tells of itself.
use Rattle.flux_base.specs.declared.outside.Source.{Ghosts as SourceGhosts}
use Rattle.track_shelf.specs.Told.{ShelfTold}
use Rattle.track_shelf.specs.declared.shelf.Shelf.{Ghosts}

abbrev pub told_at : {H F : Type 0} → SourceGhosts H → Ghosts H F → H → ShelfTold
told_at source own shelf =
    record {
      files = own.files shelf;
      left = source.left shelf;
      given = source.given shelf;
      handled = own.handled shelf;
    }

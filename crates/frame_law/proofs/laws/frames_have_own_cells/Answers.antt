use Rattle.std.proofs.Common.{◌+◌, ℕ, List, drop, refl}
use Rattle.frame_law.specs.lemmas.ControllerLaws.{own_cells}
use Rattle.frame_law.specs.lemmas.FrameLaws.{frames-apart}
use Rattle.frame_law.specs.lemmas.FrameSizes.{some_cells}
use Rattle.frame_law.specs.lemmas.OwnFrames.{track-header_agrees}
use Rattle.frame_law.proofs.OwnRows.{are_of_rows, data_stand}
use Rattle.track_rings.specs.OwnSectors.{between_zeros}
use Rattle.track_rings.specs.Rings.{AreSectors, bytes_of}
use Rattle.track_rings.specs.Rows.{place_of, ring_of}
use Rattle.frame_law.proofs.laws.frames_have_own_cells.Goals as goal

pub returns : goal.returns
returns g c = λ r track bytes zeros from count behind place s at xs known given header content.
    let layout = g.L.Layout in
    let laws = g.met.L.Layout in
    let rows = layout.rows r track in
    let size = layout.sector_bytes r in
    let first = layout.lowest_sector r in
    let sectors = layout.sector_count r track in
    let ring = λ (given_bytes : List ℕ). ring_of layout.asks (layout.row_cells r track) first sectors size given_bytes rows in
    let told = laws.track_told r track known in
    let agrees = track-header_agrees told bytes given zeros from count behind place s header in
    let some = some_cells laws.sizes (laws.reach r) in
    let low = told.low bytes given s agrees.number in
    let own = own_cells layout.header_cells (layout.data_cells r) (layout.header_end r) (layout.data_end r size) (layout.is_sync r) (layout.hold r size) layout.CODING.sync
    layout.CODING.sync_cells (layout.names r) (laws.tells_ends r) (laws.tells r) (layout.data_place r) (layout.data_place r + layout.data_cells r) first sectors
    (place_of (layout.row_size r track) first size rows) (AreSectors sectors size) ring bytes given refl
    (frames-apart (layout.row_size r track) first sectors size rows (layout.data_place r + layout.data_cells r) (laws.sums r track known).0)
    (laws.own_data r track known) s at (bytes_of first size bytes s) xs (drop place (between_zeros (ring bytes) zeros from count behind)) agrees content
    (λ many enough.
    data_stand layout.asks (layout.row_cells r track) (layout.row_size r track) (laws.row_length r track) first sectors size rows layout.CODING.shortest layout.CODING.longest
    layout.last_zeros layout.CODING.sync_cells layout.header_cells laws.sizes (λ n held row. laws.row_follows r track n held row known) (layout.data_cells r)
    layout.CODING.sync (layout.data_place r) (layout.header_end r) (layout.data_end r size) (layout.is_sync r) (layout.hold r size) (layout.names_sector r track)
    (layout.names r) (laws.header_syncs r) bytes s (layout.track_cells r track) given agrees.number
    (λ held before rest fit long. (laws.frame_stands r track s held before rest known agrees.number fit long, laws.frame_ends r track s held before rest known agrees.number fit long))
    (laws.sums r track known).0 (laws.sums r track known).1
    (laws.reach r) some low many enough) in
    are_of_rows layout.asks (layout.row_cells r track) (layout.row_size r track) (laws.row_length r track) first sectors size rows layout.CODING.shortest layout.CODING.longest
    layout.last_zeros layout.CODING.sync_cells layout.header_cells laws.sizes (λ n held row. laws.row_follows r track n held row known) (layout.data_cells r)
    layout.CODING.sync (layout.data_place r) (layout.header_end r) (layout.data_end r size) (layout.is_sync r) (layout.hold r size) (layout.names_sector r track)
    (layout.names r) (laws.header_syncs r) bytes s (layout.track_cells r track) given agrees.number
    (λ held before rest fit long. (laws.frame_stands r track s held before rest known agrees.number fit long, laws.frame_ends r track s held before rest known agrees.number fit long))
    (laws.sums r track known).0 (laws.sums r track known).1
    (laws.reach r) some low own.1.0 own.1.1 (drop place (between_zeros (ring bytes) zeros from count behind)) at own.0 own.1.2

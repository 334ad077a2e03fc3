-- What stands by the strict rule stands as controllers read it.
use Rattle.std.specs.Prelude.{ℕ, Bool, List}
use Rattle.flux_base.specs.declared.track.TrackId.{TrackId}
use Rattle.frame_law.specs.Controller.{SectorStandsBy, StrictHasData}
use Rattle.frame_law.specs.Laws.{SectorsAreTold}
use Rattle.sector_images.specs.Formats.{row}
use Rattle.sector_images.specs.declared.format.Format.{Format}
use Rattle.sector_images.specs.declared.format.Format.TheVariants.{AppleDo, ApplePo, AppleDos33, AppleProdos}
use Rattle.disk_recordings.specs.Laws.{AreReadToo}
use Rattle.disk_recordings.specs.Members.{as_controllers_read, data_at, header_at, sector_at}

module _ (own : (format : Format) (track : TrackId) → StrictHasData (sector_at format track) (data_at format))
    (told : (format : Format) (track : TrackId) → SectorsAreTold (header_at format track) (sector_at format track) (row format).sector_size)
    (dos : AreReadToo AppleDo AppleDos33) (prodos : AreReadToo ApplePo AppleProdos) where
  own_rule : (format : Format) (track : TrackId) (cells : List Bool) (s : ℕ) (bytes : List ℕ) → sector_at format track cells s bytes
      → SectorStandsBy (header_at format track) (data_at format) cells s bytes
  own_rule format track cells s bytes sector = ((told format track).has_header cells s bytes sector, own format track cells s bytes sector)

  pub strict_stands : (format : Format) (track : TrackId) (cells : List Bool) (s : ℕ) (bytes : List ℕ) → sector_at format track cells s bytes
      → SectorStandsBy (header_at (as_controllers_read format) track) (data_at (as_controllers_read format)) cells s bytes
  strict_stands AppleDo track cells s bytes sector = own_rule AppleDos33 track cells s bytes (dos.sectors track cells s bytes sector)
  strict_stands ApplePo track cells s bytes sector = own_rule AppleProdos track cells s bytes (prodos.sectors track cells s bytes sector)
  strict_stands format track cells s bytes sector = own_rule format track cells s bytes sector

-- What stands on the tracks of a format of one of IBM's two recordings stands by the format's rate.
use Rattle.std.proofs.Common.{◌≡◌, ◌-◌, ℕ, Bool, List, Some, None, drop, refl, sym, subst}
use Rattle.disk_recordings.specs.Laws.{DataAreRead, NamesAreTold}
use Rattle.disk_recordings.specs.Members.{as_controllers_read, data_at, header_at, is_name_of, named_at}
use Rattle.flux_base.specs.declared.header_name.HeaderName.{HeaderName}
use Rattle.flux_base.specs.declared.track.TrackId.{TrackId}
use Rattle.flux_engine.specs.Recordings.{cells_by}
use Rattle.flux_engine.specs.Rules.{StandsBy}
use Rattle.flux_engine.specs.declared.plan.Rule.TheVariants.{Controller}
use Rattle.frame_law.specs.Controller.{SectorStandsBy}
use Rattle.ibm_disks.specs.Disks.{is_disk, rate_of, sound, track_of_disk}
use Rattle.ibm_disks.specs.Numbers.{code_of}
use Rattle.ibm_disks.specs.declared.disk.IbmDisk.{IbmDisk}
use Rattle.ibm_disks.specs.declared.rate.Rate.{Rate}
use Rattle.ibm_disks.specs.declared.rate.Rate.TheVariants.{Double, High, SingleAt360}
use Rattle.ibm_disks.specs.declared.sector_size.SectorSize.{SectorSize}
use Rattle.ibm_disks.specs.declared.sector_size.SectorSize.TheVariants.{Bytes128, Bytes512}
use Rattle.ibm_walks.specs.Headers.{IsNamed, address_of}
use Rattle.ibm_walks.specs.Rates.{cells_at, format_with_one}
use Rattle.ibm_walks.specs.Walks.{AreNamesBy}
use Rattle.law_numbered_dumps.specs.lemmas.Recorded.{cells_are, data_to, name_is, named_to}
use Rattle.name_book.specs.Names.{NotedData}
use Rattle.name_book.specs.declared.name.NamedHeader.{NamedHeader}
use Rattle.name_book.specs.declared.name.SectorName.{SectorName}
use Rattle.sector_images.specs.declared.format.Format.{Format}
use Rattle.sector_images.specs.declared.format.Format.TheVariants.{Amiga, AmigaHd, AppleDo, AppleDos33, ApplePo, AppleProdos, C1541, C1541Forty, C1571, C1581, C8050, C8250}
use Rattle.sector_images.specs.declared.format.Format.TheVariants.{Ibm3740, Ibm360, Ibm720, Ibm1440, Mac400, Mac800, Numbered}
use Rattle.turn_merge.specs.declared.clock.Clock.{Clock}
use Rattle.law_imd_tracks.proofs.Standing.{header_met, whole_met}
use Rattle.law_imd_tracks.specs.Standing.{HaveSector, StandingSectorsAreNamed, rate_in}

-- how a format is read by a rate
record IsReadBy (format : Format) (rate : Rate) : Type 0 where
  size : SectorSize
  as_read : as_controllers_read format ≡ format
  cells_same : (clock : Clock) (track : TrackId) (times indexes : List ℕ) → cells_at clock rate times indexes ≡ cells_by clock format track times indexes
  names_same : (cells : List Bool) (name : HeaderName) → named_at format cells name → IsNamed rate cells name
  data_same : (cells : List Bool) (place : ℕ) (bytes : List ℕ) → data_at format cells place bytes → data_at (format_with_one rate size) cells place bytes
  addressed : (track : TrackId) (name : HeaderName) (sector : ℕ) → is_name_of format track name sector → (its : SectorName) × (name ≡ address_of its) × (its.code ≡ code_of size)

numbered : (disk : IbmDisk) → IsReadBy (Numbered disk) (rate_of disk)
numbered disk = record {
  size = (track_of_disk disk).size;
  as_read = refl;
  cells_same = cells_are disk;
  names_same = named_to disk Bytes128;
  data_same = data_to disk;
  addressed = λ track name sector is.
      let told = name_is disk track name sector is in
      (record { cylinder = track.cylinder; head = track.head; number = sector; code = code_of (track_of_disk disk).size }, told.0, refl);
}

ibm_3740 : IsReadBy Ibm3740 SingleAt360
unfolding sound is_disk
ibm_3740 = record {
  size = Bytes128;
  as_read = refl;
  cells_same = λ clock track times indexes. refl;
  names_same = λ cells name is. is;
  data_same = λ cells place bytes is. is;
  addressed = λ track name sector is. (record { cylinder = track.cylinder; head = track.head; number = sector; code = 0 }, is.0, refl);
}

ibm_360 : IsReadBy Ibm360 Double
unfolding sound is_disk
ibm_360 = record {
  size = Bytes512;
  as_read = refl;
  cells_same = λ clock track times indexes. refl;
  names_same = λ cells name is. is;
  data_same = λ cells place bytes is. is;
  addressed = λ track name sector is. (record { cylinder = track.cylinder; head = track.head; number = sector; code = 2 }, is.0, refl);
}

ibm_720 : IsReadBy Ibm720 Double
unfolding sound is_disk
ibm_720 = record {
  size = Bytes512;
  as_read = refl;
  cells_same = λ clock track times indexes. refl;
  names_same = λ cells name is. is;
  data_same = λ cells place bytes is. is;
  addressed = λ track name sector is. (record { cylinder = track.cylinder; head = track.head; number = sector; code = 2 }, is.0, refl);
}

ibm_1440 : IsReadBy Ibm1440 High
unfolding sound is_disk
ibm_1440 = record {
  size = Bytes512;
  as_read = refl;
  cells_same = λ clock track times indexes. refl;
  names_same = λ cells name is. is;
  data_same = λ cells place bytes is. is;
  addressed = λ track name sector is. (record { cylinder = track.cylinder; head = track.head; number = sector; code = 2 }, is.0, refl);
}

c1581 : IsReadBy C1581 Double
unfolding sound is_disk
c1581 = record {
  size = Bytes512;
  as_read = refl;
  cells_same = λ clock track times indexes. refl;
  names_same = λ cells name is. is;
  data_same = λ cells place bytes is. is;
  addressed = λ track name sector is. (record { cylinder = track.cylinder; head = 1 - track.head; number = sector; code = 2 }, is.0, refl);
}

-- each of them is read by its rate
is_read_by : (format : Format) (rate : Rate) → rate_in format ≡ Some rate → IsReadBy format rate
is_read_by format rate is = by format rate is
  where
    none : {rate : Rate} → None ≡ Some rate → ⊥
    none e = cc

    same : (a b : Rate) → Some a ≡ Some b → a ≡ b
    same a b e = cc

    by : (format : Format) (rate : Rate) → rate_in format ≡ Some rate → IsReadBy format rate
    by Ibm3740 rate is = subst (IsReadBy Ibm3740) (same SingleAt360 rate is) ibm_3740
    by Ibm360 rate is = subst (IsReadBy Ibm360) (same Double rate is) ibm_360
    by Ibm720 rate is = subst (IsReadBy Ibm720) (same Double rate is) ibm_720
    by Ibm1440 rate is = subst (IsReadBy Ibm1440) (same High rate is) ibm_1440
    by C1581 rate is = subst (IsReadBy C1581) (same Double rate is) c1581
    by (Numbered disk) rate is = subst (IsReadBy (Numbered disk)) (same (rate_of disk) rate is) (numbered disk)
    by Amiga rate is = absurd (none is)
    by AmigaHd rate is = absurd (none is)
    by AppleDo rate is = absurd (none is)
    by AppleDos33 rate is = absurd (none is)
    by ApplePo rate is = absurd (none is)
    by AppleProdos rate is = absurd (none is)
    by C1541 rate is = absurd (none is)
    by C1541Forty rate is = absurd (none is)
    by C1571 rate is = absurd (none is)
    by C8050 rate is = absurd (none is)
    by C8250 rate is = absurd (none is)
    by Mac400 rate is = absurd (none is)
    by Mac800 rate is = absurd (none is)

module _ (names : NamesAreTold) (reads : DataAreRead) where
  by_way : (format : Format) (rate : Rate) → IsReadBy format rate → (clock : Clock) (track : TrackId) (dump : ℕ) (times indexes : List ℕ) (headers : List NamedHeader) (noted : List NotedData)
      → AreNamesBy clock rate dump times indexes headers noted
      → (place sector : ℕ) (bytes : List ℕ) → StandsBy Controller format track (drop place (cells_by clock format track times indexes)) sector bytes
      → HaveSector format track sector bytes headers noted
  by_way format rate way clock track dump times indexes headers noted are place sector bytes stands = record {
    name = its_name;
    is = subst (λ (n : HeaderName). is_name_of format track n sector) its.1 told.2;
    mark = _;
    header = header_met names reads clock rate dump times indexes headers noted are way.size its_name its.2 place header;
    held = whole_met names reads clock rate dump times indexes headers noted are way.size its_name its.2 place header here.1.0 bytes data_here;
  }
    where
      cells : List Bool
      cells = drop place (cells_by clock format track times indexes)

      here : SectorStandsBy (header_at format track) (data_at format) cells sector bytes
      here = subst (λ (f : Format). SectorStandsBy (header_at f track) (data_at f) cells sector bytes) way.as_read stands

      told : (name : HeaderName) × named_at format cells name × is_name_of format track name sector
      told = (names.told format track).of_sectors.has_name cells sector here.0

      its : (name : SectorName) × (told.0 ≡ address_of name) × (name.code ≡ code_of way.size)
      its = way.addressed track told.0 sector told.2

      its_name : SectorName
      its_name = its.0

      read_as : cells_by clock format track times indexes ≡ cells_at clock rate times indexes
      read_as = sym (way.cells_same clock track times indexes)

      header : IsNamed rate (drop place (cells_at clock rate times indexes)) (address_of its_name)
      header =
          subst (λ (cs : List Bool). IsNamed rate (drop place cs) (address_of its_name)) read_as
          (subst (λ (n : HeaderName). IsNamed rate cells n) its.1 (way.names_same cells told.0 told.1))

      data_here : data_at (format_with_one rate way.size) (drop place (cells_at clock rate times indexes)) here.1.0 bytes
      data_here =
          subst (λ (cs : List Bool). data_at (format_with_one rate way.size) (drop place cs) here.1.0 bytes) read_as (way.data_same cells here.1.0 bytes here.1.1)

  pub is_named : StandingSectorsAreNamed
  is_named format rate is clock track dump times indexes headers noted are place sector bytes stands =
      by_way format rate (is_read_by format rate is) clock track dump times indexes headers noted are place sector bytes stands

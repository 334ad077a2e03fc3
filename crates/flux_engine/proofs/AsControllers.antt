-- The format as which controllers read another has its tracks and sectors.
use Rattle.std.specs.Prelude.{◌≡◌, ℕ, refl}
use Rattle.std.proofs.Common.{sym, subst, ◌∙◌}
use Rattle.disk_recordings.specs.Agreement.{Agrees}
use Rattle.disk_recordings.specs.Members.{as_controllers_read}
use Rattle.disk_recordings.specs.Recordings.{DiskRecording}
use Rattle.disk_recordings.specs.contracts.meaning.DiskRecordingMeaning.TheImpl.{ghosts}
use Rattle.flux_base.specs.declared.track.TrackId.{TrackId}
use Rattle.sector_images.specs.Formats.{row, zone}
use Rattle.sector_images.specs.Places.{IsTrack}
use Rattle.sector_images.specs.declared.format.Format.{Format}
use Rattle.sector_images.specs.declared.format.Format.TheVariants.{AppleDo, ApplePo}
use Rattle.turn_merge.specs.Book.{Knowledge}
use Rattle.flux_engine.specs.Gathering.{IsBookFor}
use Rattle.flux_engine.specs.Recordings.{sectors_of}
use Rattle.flux_engine.specs.Room.{IsBookOf}
use Rattle.flux_engine.specs.Writing.{Knows}

pub known_too : (format : Format) (track : TrackId) → IsTrack format track → IsTrack (as_controllers_read format) track
known_too AppleDo track known = known
known_too ApplePo track known = known
known_too format track known = known

pub same_size : (format : Format) → (row (as_controllers_read format)).sector_size ≡ (row format).sector_size
same_size AppleDo = refl
same_size ApplePo = refl
same_size format = refl

same_first : (format : Format) → (row (as_controllers_read format)).first_sector ≡ (row format).first_sector
same_first AppleDo = refl
same_first ApplePo = refl
same_first format = refl

same_sectors : (format : Format) (cylinder : ℕ) → (zone (as_controllers_read format) cylinder).sectors ≡ (zone format cylinder).sectors
same_sectors AppleDo cylinder = refl
same_sectors ApplePo cylinder = refl
same_sectors format cylinder = refl

module _ (format other : Format) (track : TrackId) (is : other ≡ as_controllers_read format) (recording : DiskRecording) (agrees : Agrees other recording) (known : IsTrack format track) where
  there : Agrees (as_controllers_read format) recording
  there = subst (λ (f : Format). Agrees f recording) is agrees

  pub has_track_too : ghosts.has_track recording track
  has_track_too = there.track track (known_too format track known)

  pub book_too : (book : Knowledge) → IsBookOf format book → Knows (sectors_of format track) book
      → IsBookFor (record { first = ghosts.first_sector recording; count = ghosts.sectors recording track; size = ghosts.sector_size recording }) book
  book_too book of knows = record {
    first = of.first ∙ sym (same_first format) ∙ sym there.first;
    count = knows.count ∙ sym (same_sectors format track.cylinder) ∙ sym (there.sectors track (known_too format track known));
    size = of.size ∙ sym (same_size format) ∙ sym there.size;
  }

-- What a track comes to as controllers read it.
use Rattle.std.specs.Prelude.{◌≡◌, ℕ, zero, suc, Bool, List, [], ◌∷◌, ◌++◌, Contains, drop, flat_map, nat_eq, refl}
use Rattle.std.proofs.Common.{ap, arith, subst, sym, ◌∙◌}
use Rattle.std.proofs.lemmas.List.Elements.{filter-append}
use Rattle.disk_recordings.specs.Agreement.{Agrees}
use Rattle.disk_recordings.specs.Laws.{StandAlone}
use Rattle.disk_recordings.specs.Members.{as_controllers_read, data_at, header_at}
use Rattle.disk_recordings.specs.Recordings.{DiskRecording}
use Rattle.disk_recordings.specs.contracts.meaning.DiskRecordingMeaning.TheImpl.{ghosts}
use Rattle.flux_base.specs.declared.track.TrackId.{TrackId}
use Rattle.frame_law.specs.Controller.{HeaderData, readings_of}
use Rattle.phase_loop.specs.Rows.{recovered}
use Rattle.sector_images.specs.Formats.{row}
use Rattle.sector_images.specs.Places.{IsTrack}
use Rattle.sector_images.specs.declared.format.Format.{Format}
use Rattle.sector_images.specs.declared.format.Format.TheVariants.{AppleDo, ApplePo}
use Rattle.turn_merge.specs.Readings.{NotedReading}
use Rattle.turn_merge.specs.declared.clock.Clock.{Clock}
use Rattle.turn_merge.specs.declared.clock.Clock.TheVariants.{Following, Held}
use Rattle.flux_engine.specs.Captured.{AreReadingsBy, AreReadingsOf}
use Rattle.flux_engine.specs.Recordings.{cells_by}
use Rattle.flux_engine.specs.Rules.{AreReadByControllers}
use Rattle.flux_engine.specs.Tracks.{Found, readings_in}
use Rattle.flux_engine.specs.declared.plan.Clocks.TheVariants.{Both}
use Rattle.flux_engine.specs.declared.plan.Rule.TheVariants.{Controller}
use Rattle.sector_copies.specs.Notes.{SectorKnown, of_sector}
use Rattle.sector_copies.specs.inside.Notes.{AppendsNotes, NotesOf}
use Rattle.sector_copies.proofs.Searches.{appends_none, appends_on}

known_too : (format : Format) (track : TrackId) → IsTrack format track → IsTrack (as_controllers_read format) track
known_too AppleDo track known = known
known_too ApplePo track known = known
known_too format track known = known

same_size : (format : Format) → (row (as_controllers_read format)).sector_size ≡ (row format).sector_size
same_size AppleDo = refl
same_size ApplePo = refl
same_size format = refl

module _ (format other : Format) (track : TrackId) (is : other ≡ as_controllers_read format) (recording : DiskRecording) (agrees : Agrees other recording) (known : IsTrack format track) where
  there : Agrees (as_controllers_read format) recording
  there = subst (λ (f : Format). Agrees f recording) is agrees

  pub has_track_too : ghosts.has_track recording track
  has_track_too = there.track track (known_too format track known)

  pub size_too : (size : ℕ) → size ≡ (row format).sector_size → size ≡ ghosts.sector_size recording
  size_too size same = same ∙ sym (same_size format) ∙ sym there.size

-- all that can be read by a clock
pub noted_by : (clock : Clock) (format other : Format) (track : TrackId) (times indexes : List ℕ) (cells : List Bool) (capture sector : ℕ) (old new : SectorKnown)
    → cells ≡ cells_by clock format track times indexes → other ≡ as_controllers_read format
    → ((found : List Found) → AreReadByControllers (header_at other track) (data_at other) cells found
    → AppendsNotes old new (of_sector sector (readings_in capture clock times indexes cells found)))
    → (readings : List NotedReading) → AreReadingsBy Controller clock format track times indexes capture readings → AppendsNotes old new (of_sector sector readings)
noted_by clock format other track times indexes cells capture sector old new is by notes readings are =
    let as_other = subst (λ (f : Format). AreReadByControllers (header_at f track) (data_at f) (cells_by clock format track times indexes) are.found) (sym by) are.all in
    let in_cells = subst (λ (cs : List Bool). AreReadByControllers (header_at other track) (data_at other) cs are.found) (sym is) as_other in
    subst (λ (rs : List NotedReading). AppendsNotes old new (of_sector sector rs))
    (ap (λ (cs : List Bool). readings_in capture clock times indexes cs are.found) is ∙ sym are.are) (notes are.found in_cells)

-- by both, one after the other
pub noted_both : (format : Format) (track : TrackId) (times indexes : List ℕ) (capture : ℕ) (old mid new : SectorKnown) → mid.sector ≡ old.sector
    → NotesOf (AreReadingsBy Controller Following format track times indexes capture) old mid
    → NotesOf (AreReadingsBy Controller Held format track times indexes capture) mid new
    → NotesOf (AreReadingsOf Controller Both format track times indexes capture) old new
noted_both format track times indexes capture old mid new same first second readings are =
    let following = are.by_clock Following in
    let held = are.by_clock Held in
    let later = subst (λ (s : ℕ). AppendsNotes mid new (of_sector s held)) same (second held (are.each Held tt)) in
    subst (AppendsNotes old new)
    (sym (ap (of_sector old.sector) are.are ∙ filter-append (λ (r : NotedReading). nat_eq r.sector old.sector) following held))
    (appends_on old mid new (of_sector old.sector following) (of_sector old.sector held) (first following (are.each Following tt)) later)

-- in no cells nothing stands
module _ (alone : StandAlone) (format : Format) (track : TrackId) (known : IsTrack format track) (capture : ℕ) where
  no_cells : (clock : Clock) → cells_by clock format track [] [] ≡ []
  unfolding recovered
  no_cells clock = refl

  no_headers : (all : List (ℕ × HeaderData)) → ((h : ℕ × HeaderData) → Contains all h → header_at (as_controllers_read format) track (drop h.0 []) h.1.0) → all ≡ []
  no_headers [] each = refl
  no_headers (h ∷ hs) each =
      absurd ((alone (as_controllers_read format) track (known_too format track known)).no_header 0 h.1.0
      (subst (λ (cs : List Bool). header_at (as_controllers_read format) track cs h.1.0) (drop_none h.0) (each h (0, omega arith, refl))))
    where
      drop_none : (n : ℕ) → ◌≡◌ {A = List Bool} (drop n []) []
      drop_none zero = refl
      drop_none (suc n) = refl

  none_by : (clock : Clock) (readings : List NotedReading) → AreReadingsBy Controller clock format track [] [] capture readings → readings ≡ []
  none_by clock readings are =
      let all = subst (λ (cs : List Bool). AreReadByControllers (header_at (as_controllers_read format) track) (data_at (as_controllers_read format)) cs are.found) (no_cells clock) are.all in
      let headers : all.headers ≡ [] = no_headers all.headers (λ h has. ((all.all.each h.0 h.1).0 has).1.stands) in
      let found : are.found ≡ [] = all.are ∙ ap (flat_map readings_of) headers in
      are.are ∙ ap (readings_in capture clock [] [] (cells_by clock format track [] [])) found

  pub none_noted : (known' : SectorKnown) → NotesOf (AreReadingsOf Controller Both format track [] [] capture) known' known'
  none_noted known' readings are =
      let following = none_by Following (are.by_clock Following) (are.each Following tt) in
      let held = none_by Held (are.by_clock Held) (are.each Held tt) in
      let nothing : readings ≡ [] =
      are.are ∙ ap (λ (rs : List NotedReading). rs ++ are.by_clock Held) following ∙ held in
      subst (AppendsNotes known' known') (sym (ap (of_sector known'.sector) nothing)) (appends_none known')

-- The text of a note is what JSON's writer prints for its value.
use Rattle.std.proofs.Common.{◌≡◌, ℕ, List, [], ◌∷◌, ◌++◌, codes, decimal, refl, sym, ap, ◌∙◌}
use Rattle.flux_base.specs.declared.header_name.HeaderName.{HeaderName}
use Rattle.flux_base.specs.declared.header_name.HeaderName.TheVariants.{Address, TrackSector, TrackSectorSide}
use Rattle.flux_base.specs.declared.track.TrackId.{TrackId}
use Rattle.json.proofs.OnLiterals.{json_on_literals}
use Rattle.sector_report.specs.Lines.{fault_text}
use Rattle.sector_report.specs.ScpLines.{scp_fault_text}
use Rattle.sector_report.specs.declared.dump_lines.Passed.TheVariants.{Absent, Failed, Refused}
use Rattle.sector_report.specs.declared.dump_lines.Passed.TheVariants.{RefusedScp}
use Rattle.turn_merge.specs.declared.verdict.Place.{Place}
use Rattle.disk_map.specs.declared.kind.Kind.TheVariants.{Good, Contradictory, Bad, Missing}
use Rattle.disk_summary.specs.Texts.{note_text}
use Rattle.disk_summary.specs.declared.note.Note.{Note}
use Rattle.disk_summary.specs.declared.note.Note.TheVariants.{Other, Sector, Uneven, Unread, Untold}
use Rattle.disk_summary.specs.inside.Pieces.{four_piece, name_piece, reason_piece, refused_piece, refused_scp_piece, track_piece, written_piece}
use Rattle.disk_summary.proofs.Joined.{before, chain-past, quoted-past}
use Rattle.disk_summary.proofs.Plain.{plain-fault, plain-scp-fault}

-- the track, and what stands behind it
abbrev at_track : TrackId → List ℕ → List ℕ
at_track track rest = before (codes ",{\"cylinder\":" ∷ decimal track.cylinder ∷ codes ",\"head\":" ∷ decimal track.head ∷ []) rest

track-past : (track : TrackId) (rest : List ℕ) → track_piece track ++ rest ≡ at_track track rest
track-past track rest = chain-past (codes ",{\"cylinder\":") (decimal track.cylinder ∷ codes ",\"head\":" ∷ decimal track.head ∷ []) rest

-- what stands behind the numbers of a name
abbrev told_piece : (headers whole : ℕ) → List ℕ
told_piece headers whole = codes ",\"headers\":" ++ (decimal headers ++ (codes ",\"whole\":" ++ (decimal whole ++ codes "}")))

four-past : (a b c d : ℕ) (rest : List ℕ)
    → four_piece a b c d ++ rest
    ≡ before (codes ",\"name\":[" ∷ decimal a ∷ codes "," ∷ decimal b ∷ codes "," ∷ decimal c ∷ codes "," ∷ decimal d ∷ codes "]" ∷ []) rest
four-past a b c d rest =
    chain-past (codes ",\"name\":[") (decimal a ∷ codes "," ∷ decimal b ∷ codes "," ∷ decimal c ∷ codes "," ∷ decimal d ∷ codes "]" ∷ []) rest

other_is : (track : TrackId) (name : HeaderName) (headers whole : ℕ) (first : Place)
    → written_piece (Other track (record { name = name; headers = headers; whole = whole; first = first }))
    ≡ note_text (Other track (record { name = name; headers = headers; whole = whole; first = first }))
unfolding written_piece name_piece note_text json_on_literals
other_is track (Address a b c d) headers whole first =
    track-past track (four_piece a b c d ++ told_piece headers whole) ∙ ap (at_track track) (four-past a b c d (told_piece headers whole))
other_is track (TrackSector a b) headers whole first =
    track-past track ((codes ",\"name\":[" ++ (decimal a ++ (codes "," ++ (decimal b ++ codes "]")))) ++ told_piece headers whole)
    ∙ ap (at_track track) (chain-past (codes ",\"name\":[") (decimal a ∷ codes "," ∷ decimal b ∷ codes "]" ∷ []) (told_piece headers whole))
other_is track (TrackSectorSide a b c d) headers whole first =
    track-past track (four_piece a b c d ++ told_piece headers whole) ∙ ap (at_track track) (four-past a b c d (told_piece headers whole))

pub written_is : (note : Note) → written_piece note ≡ note_text note
unfolding written_piece reason_piece name_piece note_text json_on_literals
written_is (Unread track dump Absent) = track-past track (codes ",\"dump\":" ++ (decimal dump ++ codes ",\"unread\":\"missing\"}"))
written_is (Unread track dump Failed) = track-past track (codes ",\"dump\":" ++ (decimal dump ++ codes ",\"unread\":\"failed\"}"))
written_is (Unread track dump (Refused block fault)) =
    track-past track (codes ",\"dump\":" ++ (decimal dump ++ refused_piece block fault))
    ∙ sym
    (ap (λ (l : List ℕ). at_track track (codes ",\"dump\":" ++ (decimal dump
    ++ (codes ",\"unread\":\"refused\",\"block\":" ++ (decimal block ++ (codes ",\"fault\":" ++ l))))))
    (quoted-past (fault_text fault) (codes "}") (codes "}") (plain-fault fault) refl))
written_is (Unread track dump (RefusedScp fault)) =
    track-past track (codes ",\"dump\":" ++ (decimal dump ++ refused_scp_piece fault))
    ∙ sym
    (ap (λ (l : List ℕ). at_track track (codes ",\"dump\":" ++ (decimal dump ++ (codes ",\"unread\":\"refused scp\",\"fault\":" ++ l))))
    (quoted-past (scp_fault_text fault) (codes "}") (codes "}") (plain-scp-fault fault) refl))
written_is (Sector track sector Good) = track-past track (codes ",\"sector\":" ++ (decimal sector ++ codes ",\"verdict\":\"good\"}"))
written_is (Sector track sector Contradictory) = track-past track (codes ",\"sector\":" ++ (decimal sector ++ codes ",\"verdict\":\"contradictory\"}"))
written_is (Sector track sector Bad) = track-past track (codes ",\"sector\":" ++ (decimal sector ++ codes ",\"verdict\":\"bad\"}"))
written_is (Sector track sector Missing) = track-past track (codes ",\"sector\":" ++ (decimal sector ++ codes ",\"verdict\":\"missing\"}"))
written_is (Untold track) = track-past track (codes ",\"untold\":true}")
written_is (Uneven track dump ticks) =
    track-past track (codes ",\"dump\":" ++ (decimal dump ++ (codes ",\"uneven\":" ++ (decimal ticks ++ codes "}"))))
written_is (Other track told) = other_is track told.name told.headers told.whole told.first

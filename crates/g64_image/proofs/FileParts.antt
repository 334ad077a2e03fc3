-- The steps of reading a file.
use Rattle.std.specs.Prelude.{◌≡◌, ◌<◌, ℕ, ◌+◌, Bool, List, [], ◌∷◌, ◌++◌, length, slice_get, take, Option, Some, Result, Ok, Err, refl}
use Rattle.std.specs.Io.KnownBytes.{Appends}
use Rattle.std.proofs.Common.{ap, sym, subst, ◌∙◌, arith, inl, inr}
use Rattle.std.proofs.KnownBytes.{Appends-nil, Appends-trans}
use Rattle.std.proofs.lemmas.Bool.{cases_lt}
use Rattle.std.proofs.lemmas.List.{length_push, get_or_append_left}
use Rattle.std.proofs.Math.Seq.{get_or-append_seam}
use Rattle.flux_base.specs.Outside.{AppendsPart}
use Rattle.flux_base.specs.declared.track.TrackId.{TrackId}
use Rattle.flux_engine.specs.Answers.{AppendsAndPart}
use Rattle.flux_engine.specs.Cut.{CutInTotal}
use Rattle.flux_engine.specs.Disks.{images, lines, no_totals, part_at, report_over, totals_over}
use Rattle.flux_engine.specs.lemmas.Cuts.{front-cut, in-track}
use Rattle.flux_engine.specs.lemmas.TrackAt.{track_is}
use Rattle.flux_engine.specs.lemmas.PartLaws.{images-more, lines-more, totals-more}
use Rattle.flux_engine.specs.Recordings.{track_at}
use Rattle.flux_engine.specs.TrackParts.{WritesPart}
use Rattle.flux_engine.specs.Tracks.{TrackPart, part_of}
use Rattle.flux_engine.specs.Writing.{sum_of}
use Rattle.flux_engine.specs.declared.track_part.PartFault.{PartFault}
use Rattle.sector_images.specs.Places.{tracks}
use Rattle.sector_images.specs.declared.format.Format.{Format}
use Rattle.sector_report.specs.Lines.{total_text}
use Rattle.sector_report.specs.declared.totals.Totals.{Totals}
use Rattle.turn_merge.specs.Book.{Knowledge, StandsFor}
use Rattle.turn_merge.specs.Readings.{NotedReading}
use Rattle.g64_image.specs.Answers.{IsWholeFile, SaysOfFile}
use Rattle.g64_image.specs.Faults.{first_fault}
use Rattle.g64_image.specs.FileDisks.{AreFileParts, IsFilePart, read_count}
use Rattle.g64_image.specs.Gathering.{HasRingReadings}
use Rattle.g64_image.specs.Layout.{track_cells}
use Rattle.g64_image.specs.Progress.{HasRead, WasStopped}
use Rattle.flux_engine.specs.declared.fault.Stopped.TheVariants.{NotesFault as NotesStop}
use Rattle.g64_image.specs.declared.fault.G64Fault.{G64Fault}

no_part : TrackPart
no_part = record { image = []; lines = []; totals = no_totals }

-- one track more
parts-more : (format : Format) (file : List ℕ) (parts : List TrackPart) (n : ℕ) (part : TrackPart) → length parts ≡ n → AreFileParts format file parts
    → IsFilePart format file n part → AreFileParts format file (parts ++ part ∷ [])
unfolding no_part
parts-more format file parts n part many each here = λ (k : ℕ) low.
    elim (cases_lt k (length parts)) [
      | inl before ↦ subst (IsFilePart format file k) (sym (get_or_append_left parts (part ∷ []) no_part k before)) (each k before)
      | inr least ↦
          let last : length parts ≡ k = omega (arith, low, least, length_push parts part) in
          let is : part ≡ part_at (parts ++ part ∷ []) k =
          sym (get_or-append_seam parts part [] no_part) ∙ ap (part_at (parts ++ part ∷ [])) last in
          subst (IsFilePart format file k) is (subst (λ (m : ℕ). IsFilePart format file m part) (sym many ∙ last) here)
    ]

-- the track that was read and written is that of the number
module _ (format : Format) (n : ℕ) (track : TrackId) (at : slice_get (tracks format) n ≡ Some track) (book : Knowledge) where
  pub ring-at : (file : List ℕ) (cells : List Bool) → cells ≡ track_cells file n → HasRingReadings format track cells book
      → HasRingReadings format (track_at format n) (track_cells file n) book
  ring-at file cells same gathered =
      subst (λ (t : TrackId). HasRingReadings format t (track_cells file n) book) (track_is format n track at)
      (subst (λ (cs : List Bool). HasRingReadings format track cs book) same gathered)

  pub part-at : (image image' notes notes' : Option (List ℕ)) (answer : Result Totals PartFault)
      → ((readings : List NotedReading) → StandsFor book readings → WritesPart (part_of format track readings) image image' notes notes' answer)
      → (readings : List NotedReading) → StandsFor book readings → WritesPart (part_of format (track_at format n) readings) image image' notes notes' answer
  part-at image image' notes notes' answer wrote =
      subst (λ (t : TrackId). (readings : List NotedReading) → StandsFor book readings → WritesPart (part_of format t readings) image image' notes notes' answer)
      (track_is format n track at) wrote

pub read_start : (format : Format) (file : List ℕ) (image notes : Option (List ℕ)) (totals : Totals) → totals ≡ no_totals
    → HasRead format file image image notes notes 0 totals
read_start format file image notes totals none = record {
  parts = [];
  many = refl;
  each = λ k low. absurd (omega arith);
  image_grew = Appends-nil image;
  notes_grew = Appends-nil notes;
  totals_are = none;
}

module _ (format : Format) (file : List ℕ) (image imid image' notes nmid notes' : Option (List ℕ)) (n : ℕ) (totals : Totals)
    (h : HasRead format file image imid notes nmid n totals) (book : Knowledge)
    (gathered : HasRingReadings format (track_at format n) (track_cells file n) book) where
  here : TrackPart
  here = part_of format (track_at format n) gathered.readings

  more : AreFileParts format file (h.parts ++ here ∷ [])
  unfolding here
  more = parts-more format file h.parts n here h.many h.each gathered.is

  pub read_more : (part_totals totals' : Totals)
      → ((readings : List NotedReading) → StandsFor book readings → WritesPart (part_of format (track_at format n) readings) imid image' nmid notes' (Ok part_totals))
      → totals' ≡ sum_of totals part_totals → HasRead format file image image' notes notes' (n + 1) totals'
  unfolding here
  read_more part_totals totals' wrote sum =
      let w = wrote gathered.readings gathered.stands in record {
        parts = h.parts ++ here ∷ [];
        many = length_push h.parts here ∙ ap (λ (k : ℕ). k + 1) h.many;
        each = more;
        image_grew = subst (Appends image image') (sym (images-more h.parts here))
            (Appends-trans image imid image' (images h.parts) here.image h.image_grew w.0);
        notes_grew = subst (Appends notes notes') (sym (lines-more h.parts here))
            (Appends-trans notes nmid notes' (lines h.parts) here.lines h.notes_grew w.1);
        totals_are = sum ∙ ap (λ (t : Totals). sum_of t part_totals) h.totals_are ∙ ap (sum_of (totals_over h.parts)) w.2
            ∙ sym (totals-more h.parts here);
      }

  pub read_stop : (fault : PartFault) → n < length (tracks format)
      → ((readings : List NotedReading) → StandsFor book readings → WritesPart (part_of format (track_at format n) readings) imid image' nmid notes' (Err fault))
      → WasStopped format file image image' notes notes' (Err fault)
  unfolding here
  read_stop fault low wrote =
      in-track (λ parts next. AreFileParts format file (parts ++ next ∷ [])) (CutInTotal (AreFileParts format file) (length (tracks format))) (length (tracks format))
      image image' notes notes' fault (record {
        parts = h.parts;
        next = here;
        are = more;
        few = omega (arith, low, h.many);
        wrote = front-cut h.parts here image imid image' notes nmid notes' h.image_grew h.notes_grew fault (wrote gathered.readings gathered.stands);
      })

module _ (format : Format) (file : List ℕ) (left' image image' notes nmid notes' : Option (List ℕ)) (totals : Totals)
    (h : HasRead format file image image' notes nmid (length (tracks format)) totals) (whole : IsWholeFile format file left') where
  pub read_all : Appends nmid notes' (total_text totals) → SaysOfFile format file left' image image' notes notes' (Ok totals)
  read_all wrote =
      let none = whole.no_fault in
      let notes_are : lines h.parts ++ total_text totals ≡ (report_over h.parts (first_fault format file)).notes =
      ap (λ (t : Totals). lines h.parts ++ total_text t) h.totals_are
      ∙ ap (λ (f : Option G64Fault). (report_over h.parts f).notes) (sym none) in (
        report_over h.parts (first_fault format file),
        whole,
        record {
          disk = record { parts = h.parts; each = h.each; many = h.many ∙ ap (read_count format) (sym none); is = refl };
          image_grew = h.image_grew;
          notes_grew = subst (Appends notes notes') notes_are (Appends-trans notes nmid notes' (lines h.parts) (total_text totals) h.notes_grew wrote);
        },
        h.totals_are,
      )

  pub read_no_total : AppendsPart nmid notes' (total_text totals) → SaysOfFile format file left' image image' notes notes' (Err NotesStop)
  read_no_total (k, within, then) = (
    whole,
    inr (record {
      parts = h.parts;
      are = h.each;
      many = h.many;
      image_grew = h.image_grew;
      notes_grew = subst (AppendsAndPart notes notes' (lines h.parts)) (ap total_text h.totals_are)
          (k, within, Appends-trans notes nmid notes' (lines h.parts) (take k (total_text totals)) h.notes_grew then);
    }),
  )

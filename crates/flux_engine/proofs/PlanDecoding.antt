-- What the loop over a disk's tracks says of the disk.
use Rattle.std.specs.Prelude.{◌≡◌, ℕ, ◌+◌, ◌*◌, List, [], ◌++◌, length, take, Option, Some, None, Ok, Err, refl}
use Rattle.std.specs.Io.KnownBytes.{Appends}
use Rattle.std.proofs.Common.{ap, sym, subst, ◌∙◌, arith, inr, append-nil, length-append}
use Rattle.std.proofs.KnownBytes.{Appends-trans}
use Rattle.flux_base.specs.Outside.{AppendsPart}
use Rattle.kryo_stream.specs.declared.fault.StreamFault.{StreamFault}
use Rattle.kryo_stream.specs.declared.fault.StreamFault.TheVariants.{Truncated}
use Rattle.sector_images.specs.Places.{tracks}
use Rattle.sector_images.specs.declared.format.Format.{Format}
use Rattle.sector_report.specs.Lines.{total_text}
use Rattle.sector_report.specs.declared.totals.Totals.{Totals}
use Rattle.flux_engine.specs.Answers.{AppendsAndPart, IsTakenBehind}
use Rattle.flux_engine.specs.Disks.{lines, report_over}
use Rattle.flux_engine.specs.Room.{RoomState}
use Rattle.flux_engine.specs.Streams.{behind}
use Rattle.flux_engine.specs.PlanAnswers.{DecodesPlanned, SaysOfPlanned, WrotePlanned, of_part}
use Rattle.flux_engine.specs.PlanProgress.{EndedInStream, EndsInTracks, HasPlanned, StoppedAt}
use Rattle.flux_engine.specs.Plans.{PartOf, Planned}
use Rattle.flux_engine.specs.declared.track_part.PartFault.{PartFault}
use Rattle.flux_engine.specs.declared.track_part.PartFault.TheVariants.{ImageFault as PartImageFault, NotesFault as PartNotesFault}
use Rattle.flux_engine.specs.declared.fault.RefusedCapture.{RefusedCapture}
use Rattle.flux_engine.specs.declared.fault.Stopped.{Stopped}
use Rattle.flux_engine.specs.declared.fault.Stopped.TheVariants.{ReadFault, ImageFault, NotesFault, Refused}
use Rattle.flux_engine.specs.lemmas.PlanStops.{stops_here, stops_nowhere}
use Rattle.flux_engine.specs.declared.plan.Plan.{Plan}

module _ (plan : Plan) (of : PartOf) (format : Format) (left left' image image' notes notes' : Option (List ℕ)) (totals : Totals) where
  stopped : (fault : Stopped RefusedCapture) (e : EndedInStream plan of format left left' image image' notes notes' totals (Err fault)) (later : List ℕ) (q block : ℕ) (at : StreamFault)
      → StoppedAt plan e.number (e.taken ++ later) later q block at
      → (o : Planned) × WrotePlanned plan of format (e.taken ++ later) image image' notes notes' o
      × (o.stop ≡ Some (record { track = e.number; capture = q; block = block; fault = at }))
  stopped fault e later q block at s =
      let x : List ℕ = e.taken ++ later in
      let stop : RefusedCapture = record { track = e.number; capture = q; block = block; fault = at } in (
        report_over e.parts (Some stop),
        record {
          decoded = record {
            parts = e.parts;
            each = e.each later;
            stops = stops_here plan format x e.number q block at e.low s.low s.clean s.is;
            many = e.many;
            is = refl;
          };
          image_grew = e.image_grew;
          notes_grew = subst (Appends notes notes') (sym (append-nil (lines e.parts))) e.notes_grew;
        },
        refl,
      )

  planned_fault : (fault : Stopped RefusedCapture) → EndedInStream plan of format left left' image image' notes notes' totals (Err fault)
      → DecodesPlanned plan of format left left' image image' notes notes' (Err fault)
  planned_fault ReadFault e = record {
    taken = e.taken;
    consumed = e.stopped.consumed;
    says = λ (later : List ℕ) only.
        let at = e.stopped.says later only in
        let w = stopped ReadFault e later at.0 at.1 Truncated at.2 in
        (w.0, record { track = e.number; capture = at.0; block = at.1; fault = Truncated }, w.1, w.2, refl);
    ended = e.stopped.ended;
  }
  planned_fault (Refused stop) e = record {
    taken = e.taken;
    consumed = e.stopped.consumed;
    says = λ (later : List ℕ) only.
        let at = e.stopped.says later only in
        let w = stopped (Refused stop) e later stop.capture stop.block stop.fault at.1 in
        subst (λ (t : ℕ). SaysOfPlanned plan of format (e.taken ++ later) later image image' notes notes' (Err (Refused (record stop { track = t })))) (sym at.0)
        (w.0, w.1, w.2, at.1.taken);
    ended = e.stopped.ended;
  }
  planned_fault ImageFault e = absurd (e.stopped.says [] (λ cannot. absurd cannot))
  planned_fault NotesFault e = absurd (e.stopped.says [] (λ cannot. absurd cannot))

module _ (plan : Plan) (of : PartOf) (format : Format) (left left' image image' notes nmid notes' : Option (List ℕ)) (room : RoomState) (totals : Totals)
    (h : HasPlanned plan of format left left' image image' notes nmid room (length (tracks format)) totals) where
  all_taken : (later : List ℕ) → IsTakenBehind (h.taken ++ later) later (length (tracks format) * plan.captures) 4096
  all_taken later =
      let size : length (behind (h.taken ++ later) (length (tracks format) * plan.captures)) ≡ length room.held + length later =
      ap length (h.come.rest later) ∙ length-append room.held later in
      record { whole = omega (arith, size); few = omega (arith, size, h.come.held) }

  pub planned_all : Appends nmid notes' (total_text totals) → DecodesPlanned plan of format left left' image image' notes notes' (Ok totals)
  planned_all wrote = record {
    taken = h.taken;
    consumed = h.come.consumed;
    says = λ (later : List ℕ) only.
        let x : List ℕ = h.taken ++ later in
        let notes_are : lines h.parts ++ total_text totals ≡ (report_over {S = RefusedCapture} h.parts None).notes =
        ap (λ (t : Totals). lines h.parts ++ total_text t) h.totals_are in (
          report_over h.parts None,
          record {
            decoded = record {
              parts = h.parts;
              each = h.each later;
              stops = stops_nowhere plan format x (h.come.clean later);
              many = h.many;
              is = refl;
            };
            image_grew = h.image_grew;
            notes_grew = subst (Appends notes notes') notes_are (Appends-trans notes nmid notes' (lines h.parts) (total_text totals) h.notes_grew wrote);
          },
          refl,
          h.totals_are,
          all_taken later,
        );
    ended = λ cannot. absurd cannot;
  }

  pub planned_no_total : AppendsPart nmid notes' (total_text totals) → DecodesPlanned plan of format left left' image image' notes notes' (Err NotesFault)
  planned_no_total (k, within, then) = record {
    taken = h.taken;
    consumed = h.come.consumed;
    says = λ (later : List ℕ) only. inr (record {
      parts = h.parts;
      are = (h.each later, subst (λ (m : ℕ). IsTakenBehind (h.taken ++ later) later (m * plan.captures) 4096) (sym h.many) (all_taken later));
      many = h.many;
      image_grew = h.image_grew;
      notes_grew = subst (AppendsAndPart notes notes' (lines h.parts)) (ap total_text h.totals_are)
          (k, within, Appends-trans notes nmid notes' (lines h.parts) (take k (total_text totals)) h.notes_grew then);
    });
    ended = λ cannot. absurd cannot;
  }

module _ (plan : Plan) (of : PartOf) (format : Format) (left left' image image' notes notes' : Option (List ℕ)) (totals : Totals) where
  pub ends_in_part : (fault : PartFault) → DecodesPlanned plan of format left left' image image' notes notes' (Err (of_part fault))
      → EndsInTracks plan of format left left' image image' notes notes' totals (Err (of_part fault))
  ends_in_part PartImageFault d = d
  ends_in_part PartNotesFault d = d

  pub ends_in_stream : (fault : Stopped RefusedCapture) → EndedInStream plan of format left left' image image' notes notes' totals (Err fault)
      → EndsInTracks plan of format left left' image image' notes notes' totals (Err fault)
  ends_in_stream ReadFault e = e
  ends_in_stream ImageFault e = absurd (e.stopped.says [] (λ cannot. absurd cannot))
  ends_in_stream NotesFault e = absurd (e.stopped.says [] (λ cannot. absurd cannot))
  ends_in_stream (Refused stop) e = e

  -- where the tracks end with a fault, the disk does
  pub planned_ends : (fault : Stopped RefusedCapture) → EndsInTracks plan of format left left' image image' notes notes' totals (Err fault)
      → DecodesPlanned plan of format left left' image image' notes notes' (Err fault)
  planned_ends ReadFault e = planned_fault plan of format left left' image image' notes notes' totals ReadFault e
  planned_ends ImageFault e = e
  planned_ends NotesFault e = e
  planned_ends (Refused stop) e =
      planned_fault plan of format left left' image image' notes notes' totals (Refused stop) e

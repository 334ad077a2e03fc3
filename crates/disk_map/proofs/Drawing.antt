-- From what the engine's loop wrote to the picture of a disk.
use Rattle.std.specs.Prelude.{◌≡◌, ◌≤◌, ◌<◌, ℕ, ◌+◌, ◌*◌, List, [], ◌∷◌, ◌++◌, length, take, Option, Some, None, Ok, Err, refl}
use Rattle.std.specs.Io.KnownBytes.{Appends}
use Rattle.std.proofs.Common.{ap, sym, subst, ◌∙◌, arith, inl, inr, append_assoc, append-nil, length-append}
use Rattle.std.proofs.KnownBytes.{Appends-trans, Consumes-nil}
use Rattle.std.proofs.Math.Nat.{add-mul}
use Rattle.std.proofs.Math.Seq.{take-append-add}
use Rattle.std.proofs.lemmas.List.{length_push}
use Rattle.flux_base.specs.Moments.{Moment}
use Rattle.flux_base.specs.Outside.{AppendsPart}
use Rattle.flux_base.specs.lemmas.Parts.{AppendsPart-second}
use Rattle.kryo_stream.specs.declared.fault.StreamFault.{StreamFault}
use Rattle.kryo_stream.specs.declared.fault.StreamFault.TheVariants.{Truncated}
use Rattle.sector_images.specs.Places.{tracks}
use Rattle.sector_images.specs.declared.format.Format.{Format}
use Rattle.sector_report.specs.Lines.{refused_text}
use Rattle.sector_report.specs.declared.totals.Totals.{Totals}
use Rattle.flux_engine.specs.Answers.{IsTakenBehind}
use Rattle.flux_engine.specs.Disks.{images, report_over, totals_over}
use Rattle.flux_engine.specs.PlanAnswers.{DecodesPlanned, most_of_track}
use Rattle.flux_engine.specs.PlanProgress.{EndedInStream, EndsInTracks, HasPlanned, StoppedAt}
use Rattle.flux_engine.specs.Plans.{IsFirstFault, PartOf, streams_in}
use Rattle.flux_engine.specs.Room.{RoomState}
use Rattle.flux_engine.specs.Streams.{behind}
use Rattle.flux_engine.specs.Tracks.{TrackPart}
use Rattle.flux_engine.specs.declared.fault.RefusedCapture.{RefusedCapture}
use Rattle.flux_engine.specs.declared.fault.Stopped.{Stopped}
use Rattle.flux_engine.specs.declared.fault.Stopped.TheVariants.{ReadFault, ImageFault, NotesFault, Refused}
use Rattle.flux_engine.specs.declared.plan.Plan.{Plan}
use Rattle.flux_engine.specs.lemmas.PartLaws.{images-more}
use Rattle.flux_engine.specs.lemmas.PlanStops.{stops_here, stops_nowhere}
use Rattle.disk_map.specs.Answers.{MapsDisk, SaysOfMap}
use Rattle.disk_map.specs.Maps.{IsDrawn, drawn_by, foot_of, front_of}
use Rattle.disk_map.specs.Places.{layout_of}
use Rattle.disk_map.specs.Progress.{EndsEarly}
use Rattle.disk_map.specs.Texts.{foot_text, top_text}

-- the sink failed before the first field
pub mapped_no_top : (plan : Plan) (format : Format) (left picture picture' : Option (List ℕ)) → 1 ≤ plan.captures → AppendsPart picture picture' (top_text format)
    → MapsDisk plan format left left picture picture' (Err ImageFault)
unfolding behind
mapped_no_top plan format left picture picture' some part = record {
  taken = [];
  consumed = Consumes-nil left;
  says = λ (later : List ℕ) only. record {
    drawn = [];
    each = λ k low. absurd (omega (arith, low));
    many = omega arith;
    ending = [];
    ends = inl refl;
    grew = subst (AppendsPart picture picture') (sym (append-nil (top_text format ++ []) ∙ append-nil (top_text format))) part;
    before = 0;
    close = (omega arith, omega (arith, some));
    taken = record { whole = omega arith; few = omega arith };
  };
  ended = λ cannot. absurd cannot;
}

-- some bytes whole, and a part of more
pub cut_after : (old new : Option (List ℕ)) (whole more : List ℕ) (n : ℕ) → n < length more → Appends old new (whole ++ take n more) → AppendsPart old new (whole ++ more)
cut_after old new whole more n within grew =
    let low : length whole + n < length (whole ++ more) = omega (arith, within, length-append whole more) in
    (length whole + n, low, subst (Appends old new) (sym (take-append-add whole more n)) grew)

-- a text, and after it all of some tracks and a part of the next
pub cut_track : (old top new : Option (List ℕ)) (text : List ℕ) (parts : List TrackPart) (next : TrackPart) (n : ℕ) → n < length next.image
    → Appends old top text → Appends top new (images parts ++ take n next.image) → AppendsPart old new ((text ++ images (parts ++ next ∷ [])) ++ [])
cut_track old top new text parts next n within begun grew =
    let whole : (text ++ images parts) ++ next.image ≡ (text ++ images (parts ++ next ∷ [])) ++ [] =
    append_assoc text (images parts) next.image ∙ ap (λ (r : List ℕ). text ++ r) (sym (images-more parts next)) ∙ sym (append-nil (text ++ images (parts ++ next ∷ []))) in
    let all : Appends old new ((text ++ images parts) ++ take n next.image) =
    subst (Appends old new) (sym (append_assoc text (images parts) (take n next.image))) (Appends-trans old top new text (images parts ++ take n next.image) begun grew) in
    subst (AppendsPart old new) whole (cut_after old new (text ++ images parts) next.image n within all)

module _ (plan : Plan) (some : 1 ≤ plan.captures) (format : Format) (left left' picture top picture' : Option (List ℕ)) (begun : Appends picture top (top_text format)) where
  abbrev drawn : PartOf
  drawn = drawn_by plan.naming

  -- the fields of these tracks were written
  front : (parts : List TrackPart) (written : Option (List ℕ)) → Appends top written (images parts) → Appends picture written (front_of format parts)
  front parts written grew = Appends-trans picture top written (top_text format) (images parts) begun grew

  -- the captures of one track more
  wider : (x later : List ℕ) (n most : ℕ) → most ≤ most_of_track plan → IsTakenBehind x later n most → IsTakenBehind x later n (most_of_track plan)
  wider x later n most enough t = record { whole = t.whole; few = omega (arith, t.few, enough) }

  module _ (notes notes' : Option (List ℕ)) (written : Option (List ℕ)) (room : RoomState) (totals : Totals)
      (h : HasPlanned plan drawn format left left' top written notes notes' room (length (tracks format)) totals) where
    all_taken : (later : List ℕ) → IsTakenBehind (h.taken ++ later) later (length (tracks format) * plan.captures) 4096
    all_taken later =
        let size : length (behind (h.taken ++ later) (length (tracks format) * plan.captures)) ≡ length room.held + length later =
        ap length (h.come.rest later) ∙ length-append room.held later in
        record { whole = omega (arith, size); few = omega (arith, size, h.come.held) }

    last_foot : foot_of format totals None ≡ foot_of format (totals_over h.parts) None
    last_foot = ap (λ (t : Totals). foot_of format t None) h.totals_are

    pub mapped_all : Appends written picture' (foot_of format totals None) → MapsDisk plan format left left' picture picture' (Ok totals)
    mapped_all foot = record {
      taken = h.taken;
      consumed = h.come.consumed;
      says = λ (later : List ℕ) only. (
        report_over h.parts None,
        record {
          drawn = record { parts = h.parts; each = h.each later; stops = stops_nowhere plan format (h.taken ++ later) (h.come.clean later); many = h.many; is = refl };
          grew = Appends-trans picture written picture' (front_of format h.parts) (foot_of format (totals_over h.parts) None)
              (front h.parts written h.image_grew) (subst (Appends written picture') last_foot foot);
        },
        refl,
        h.totals_are,
        all_taken later,
      );
      ended = λ cannot. absurd cannot;
    }

    pub mapped_no_foot : AppendsPart written picture' (foot_of format totals None) → MapsDisk plan format left left' picture picture' (Err ImageFault)
    mapped_no_foot foot = record {
      taken = h.taken;
      consumed = h.come.consumed;
      says = λ (later : List ℕ) only.
          let all : length h.parts * plan.captures ≡ length (tracks format) * plan.captures = ap (λ (n : ℕ). n * plan.captures) h.many in
          record {
            drawn = h.parts;
            each = h.each later;
            many = omega (arith, h.many);
            ending = foot_of format (totals_over h.parts) None;
            ends = inr (None, stops_nowhere plan format (h.taken ++ later) (h.come.clean later), h.many, refl);
            grew = AppendsPart-second picture written picture' (front_of format h.parts) (foot_of format (totals_over h.parts) None)
                (front h.parts written h.image_grew) (subst (AppendsPart written picture') last_foot foot);
            before = length (tracks format) * plan.captures;
            close = (omega (arith, all), omega (arith, all, some));
            taken = wider (h.taken ++ later) later (length (tracks format) * plan.captures) 4096 (omega arith) (all_taken later);
          };
      ended = λ cannot. absurd cannot;
    }

  module _ (notes notes' : Option (List ℕ)) (written : Option (List ℕ)) (totals : Totals) (fault : Stopped RefusedCapture)
      (e : EndedInStream plan drawn format left left' top written notes notes' totals (Err fault)) where
    abbrev stop_at : (q block : ℕ) → StreamFault → RefusedCapture
    stop_at q block at = record { track = e.number; capture = q; block = block; fault = at }

    first : (later : List ℕ) (q block : ℕ) (at : StreamFault) → StoppedAt plan e.number (e.taken ++ later) later q block at
        → IsFirstFault plan format (streams_in plan (e.taken ++ later)) (stop_at q block at)
    first later q block at s = stops_here plan format (e.taken ++ later) e.number q block at e.low s.low s.clean s.is

    planned : (later : List ℕ) (q block : ℕ) (at : StreamFault) → StoppedAt plan e.number (e.taken ++ later) later q block at
        → IsDrawn plan format (e.taken ++ later) (report_over e.parts (Some (stop_at q block at)))
    planned later q block at s = record { parts = e.parts; each = e.each later; stops = first later q block at s; many = e.many; is = refl }

    -- the foot of a refused disk, as its text and as that of the picture
    foot_is : (track q block : ℕ) (at : StreamFault) → track ≡ e.number
        → foot_text (layout_of format) totals (refused_text track block at) ≡ foot_of format (totals_over e.parts) (Some (stop_at q block at))
    foot_is track q block at here =
        ap (λ (n : ℕ). foot_text (layout_of format) totals (refused_text n block at)) here
        ∙ ap (λ (t : Totals). foot_of format t (Some (stop_at q block at))) e.totals_are

  -- the source failed: nothing was written after the tracks before
  mapped_unread : (notes notes' written : Option (List ℕ)) (totals : Totals) → EndedInStream plan drawn format left left' top written notes notes' totals (Err ReadFault)
      → picture' ≡ written → MapsDisk plan format left left' picture picture' (Err ReadFault)
  mapped_unread notes notes' written totals e same = record {
    taken = e.taken;
    consumed = e.stopped.consumed;
    says = λ (later : List ℕ) only.
        let s = e.stopped.says later only in
        let stop : RefusedCapture = stop_at notes notes' written totals ReadFault e s.0 s.1 Truncated in
        record {
          drawn = report_over e.parts (Some stop);
          is = planned notes notes' written totals ReadFault e later s.0 s.1 Truncated s.2;
          grew = subst (λ (p : Option (List ℕ)). Appends picture p (front_of format e.parts)) (sym same) (front e.parts written e.image_grew);
          stop = stop;
          stops = refl;
          cut_short = refl;
        };
    ended = λ cannot. absurd cannot;
  }

  module _ (notes notes' written : Option (List ℕ)) (totals : Totals) (stop : RefusedCapture)
      (e : EndedInStream plan drawn format left left' top written notes notes' totals (Err (Refused stop))) where
    abbrev stop_there : RefusedCapture
    stop_there = stop_at notes notes' written totals (Refused stop) e stop.capture stop.block stop.fault

    abbrev foot_there : List ℕ
    foot_there = foot_of format (totals_over e.parts) (Some stop_there)

    foot_same : stop.track ≡ e.number → foot_text (layout_of format) totals (refused_text stop.track stop.block stop.fault) ≡ foot_there
    foot_same here = foot_is notes notes' written totals (Refused stop) e stop.track stop.capture stop.block stop.fault here

    mapped_refused : Appends written picture' (foot_text (layout_of format) totals (refused_text stop.track stop.block stop.fault))
        → MapsDisk plan format left left' picture picture' (Err (Refused stop))
    mapped_refused foot = record {
      taken = e.taken;
      consumed = e.stopped.consumed;
      says = λ (later : List ℕ) only.
          let s = e.stopped.says later only in
          subst (λ (t : ℕ). SaysOfMap plan format (e.taken ++ later) later picture picture' (Err (Refused (record stop { track = t })))) (sym s.0) (
            report_over e.parts (Some stop_there),
            record {
              drawn = planned notes notes' written totals (Refused stop) e later stop.capture stop.block stop.fault s.1;
              grew = Appends-trans picture written picture' (front_of format e.parts) foot_there
                  (front e.parts written e.image_grew) (subst (Appends written picture') (foot_same s.0) foot);
            },
            refl,
            s.1.taken,
          );
      ended = e.stopped.ended;
    }

    mapped_cut_refusal : AppendsPart written picture' (foot_text (layout_of format) totals (refused_text stop.track stop.block stop.fault))
        → MapsDisk plan format left left' picture picture' (Err ImageFault)
    mapped_cut_refusal foot = record {
      taken = e.taken;
      consumed = e.stopped.consumed;
      says = λ (later : List ℕ) only.
          let s = e.stopped.says later (λ cut. only (e.stopped.ended cut)) in
          let all : length e.parts * plan.captures ≡ e.number * plan.captures = ap (λ (n : ℕ). n * plan.captures) e.many in
          record {
            drawn = e.parts;
            each = e.each later;
            many = omega (arith, e.low, e.many);
            ending = foot_there;
            ends = inr (Some stop_there, first notes notes' written totals (Refused stop) e later stop.capture stop.block stop.fault s.1, e.many, refl);
            grew = AppendsPart-second picture written picture' (front_of format e.parts) foot_there
                (front e.parts written e.image_grew) (subst (AppendsPart written picture') (foot_same s.0) foot);
            before = e.number * plan.captures + stop.capture;
            close = (omega (arith, all), omega (arith, all, s.1.low));
            taken = wider (e.taken ++ later) later (e.number * plan.captures + stop.capture) 4198416 (omega (arith, some)) s.1.taken;
          };
      ended = λ cannot. absurd cannot;
    }

  -- the sink failed at a field
  mapped_cut_field : (notes notes' written : Option (List ℕ)) → DecodesPlanned plan drawn format left left' top written notes notes' (Err ImageFault)
      → picture' ≡ written → MapsDisk plan format left left' picture picture' (Err ImageFault)
  mapped_cut_field notes notes' written p same = record {
    taken = p.taken;
    consumed = p.consumed;
    says = λ (later : List ℕ) only.
        let s = p.says later (λ cannot. absurd cannot) in
        let many : length (s.parts ++ s.next ∷ []) ≡ length s.parts + 1 = length_push s.parts s.next in
        let all : length (s.parts ++ s.next ∷ []) * plan.captures ≡ length s.parts * plan.captures + 1 * plan.captures =
        ap (λ (n : ℕ). n * plan.captures) many ∙ add-mul (length s.parts) 1 plan.captures in
        record {
          drawn = s.parts ++ s.next ∷ [];
          each = s.are.0;
          many = omega (arith, s.few, many);
          ending = [];
          ends = inl refl;
          grew = subst (λ (q : Option (List ℕ)). AppendsPart picture q (front_of format (s.parts ++ s.next ∷ []) ++ [])) (sym same)
              (cut_track picture top written (top_text format) s.parts s.next s.wrote.0.0 s.wrote.0.1 begun s.wrote.0.2);
          before = length s.parts * plan.captures;
          close = (omega (arith, all), omega (arith, all, some));
          taken = s.are.1;
        };
    ended = λ cannot. absurd cannot;
  }

pub mapped_fault : (plan : Plan) (some : 1 ≤ plan.captures) (format : Format) (left left' picture top notes notes' : Option (List ℕ)) (totals : Totals) → Appends picture top (top_text format)
    → {P : Type 0} (before after : Moment P) (fault answer : Stopped RefusedCapture)
    → EndsInTracks plan (drawn_by plan.naming) format left left' top before.bytes notes notes' totals (Err fault)
    → ¬ (fault ≡ NotesFault) → EndsEarly format totals before after fault answer → MapsDisk plan format left left' picture after.bytes (Err answer)
mapped_fault plan some format left left' picture top notes notes' totals begun {P = P} before after ReadFault answer d only e =
    subst (λ (a : Stopped RefusedCapture). MapsDisk plan format left left' picture after.bytes (Err a)) (sym e.0)
    (mapped_unread plan some format left left' picture top after.bytes begun notes notes' before.bytes totals d (ap (λ (m : Moment P). m.bytes) e.1))
mapped_fault plan some format left left' picture top notes notes' totals begun {P = P} before after ImageFault answer d only e =
    subst (λ (a : Stopped RefusedCapture). MapsDisk plan format left left' picture after.bytes (Err a)) (sym e.0)
    (mapped_cut_field plan some format left left' picture top after.bytes begun notes notes' before.bytes d (ap (λ (m : Moment P). m.bytes) e.1))
mapped_fault plan some format left left' picture top notes notes' totals begun before after NotesFault answer d only e = absurd (only refl)
mapped_fault plan some format left left' picture top notes notes' totals begun before after (Refused stop) ReadFault d only e = absurd e
mapped_fault plan some format left left' picture top notes notes' totals begun before after (Refused stop) NotesFault d only e = absurd e
mapped_fault plan some format left left' picture top notes notes' totals begun before after (Refused stop) ImageFault d only e =
    mapped_cut_refusal plan some format left left' picture top after.bytes begun notes notes' before.bytes totals stop d e.1.err
mapped_fault plan some format left left' picture top notes notes' totals begun before after (Refused stop) (Refused stop') d only e =
    subst (λ (s : RefusedCapture). MapsDisk plan format left left' picture after.bytes (Err (Refused s))) e.0
    (mapped_refused plan some format left left' picture top after.bytes begun notes notes' before.bytes totals stop d e.1.ok)

-- The loop over streams that follow one another in a source: what came is what the input has.
use Rattle.std.specs.Prelude.{◌≡◌, ◌≤◌, ◌<◌, ℕ, ◌+◌, ◌*◌, Bool, true, List, [], ◌∷◌, ◌++◌, length, Option, None, Some, Result, Ok, Err, IfErr, OnErr, OnOk, refl}
use Rattle.std.proofs.Common.{ap, sym, subst, ◌∙◌, arith, inl, inr, append_assoc, length-append}
use Rattle.std.proofs.KnownBytes.{Consumes-trans}
use Rattle.std.proofs.Math.Nat.{add-mul, one-mul}
use Rattle.std.proofs.lemmas.Bool.{cases_lt}
use Rattle.std.proofs.lemmas.List.{length_push}
use Rattle.index_turns.specs.Track.{TrackState}
use Rattle.kryo_stream.specs.Growth.{StreamsKeepTheLimit}
use Rattle.kryo_stream.specs.Outcome.{IsReadWhereNeeded, input_of}
use Rattle.kryo_stream.specs.Padding.{IsPadding, padding_of}
use Rattle.kryo_stream.specs.Reads.{SourceMoment}
use Rattle.kryo_stream.specs.Stream.{first_fault, indexes, times}
use Rattle.kryo_stream.specs.declared.fault.StreamFault.{StreamFault}
use Rattle.kryo_stream.specs.declared.fault.StreamFault.TheVariants.{Truncated}
use Rattle.sector_images.specs.Places.{tracks}
use Rattle.sector_images.specs.declared.format.Format.{Format}
use Rattle.sector_report.specs.declared.totals.Totals.{Totals}
use Rattle.flux_engine.specs.Answers.{IsTakenBehind, IsTrackStream, ReadsStream}
use Rattle.flux_engine.specs.Cut.{WritesFront}
use Rattle.flux_engine.specs.LoopProgress.{AreWhole, EndedBySink, EndedByStream, EndsLoop, HasWritten, seen_at, seen_next, streams_over}
use Rattle.flux_engine.specs.PlanAnswers.{DecodesPlanned, MOST_OF_STREAM, most_of_track, of_part, of_stream}
use Rattle.flux_engine.specs.PlanProgress.{EndedInStream, EndsInTracks, HasCome, HasPlanned, StoppedAt, WasStopped}
use Rattle.flux_engine.specs.Plans.{ArePlannedParts, PartOf, Seen, seen, streams_in}
use Rattle.flux_engine.specs.Room.{RoomState}
use Rattle.flux_engine.specs.SourceStreams.{AreFirst, HaveCome, HaveEnded, WasNeeded}
use Rattle.flux_engine.specs.Streams.{behind, stream_at}
use Rattle.flux_engine.specs.Tracks.{TrackPart}
use Rattle.kryo_stream.specs.declared.fault.CaptureFault.{CaptureFault}
use Rattle.kryo_stream.specs.declared.fault.CaptureFault.TheVariants.{ReadFault as UnreadCapture, Refused as RefusedStream}
use Rattle.flux_engine.specs.declared.fault.RefusedCapture.{RefusedCapture}
use Rattle.flux_engine.specs.declared.fault.Stopped.{Stopped}
use Rattle.flux_engine.specs.declared.plan.Plan.{Plan}
use Rattle.flux_engine.specs.declared.track_part.PartFault.{PartFault}
use Rattle.flux_engine.specs.declared.track_part.PartFault.TheVariants.{ImageFault, NotesFault}
use Rattle.flux_engine.specs.declared.track_streams.NextStream.TheVariants.{Read}
use Rattle.flux_engine.specs.lemmas.Coming.{come_more, several_behind, stream_is, taken_behind}
use Rattle.flux_engine.proofs.LoopSteps.{number-below, parts-agree, parts-longer, seen-last, seen-left}
use Rattle.flux_engine.proofs.PlanDecoding.{ends_in_part, ends_in_stream}
use Rattle.flux_engine.proofs.PlanTelling.{capture_more}

seen_of : (times' indexes' : List ℕ) → Seen
seen_of times' indexes' = record { fault = None; passed = None; times = times'; indexes = indexes' }

-- what a stream without a fault says
is_seen : (x times' indexes' stays : List ℕ) → IsTrackStream x times' indexes' stays → seen_of times' indexes' ≡ seen x
unfolding seen_of
is_seen x times' indexes' stays s =
    ap (λ (ts : List ℕ). let y : Seen = record { fault = None; passed = None; times = ts; indexes = indexes' } in y) s.times
    ∙ ap (λ (is : List ℕ). let y : Seen = record { fault = None; passed = None; times = times x; indexes = is } in y) s.indexes
    ∙ ap (λ (f : Option (ℕ × StreamFault)). let y : Seen = record { fault = f; passed = None; times = times x; indexes = indexes x } in y) (sym s.no_fault)

-- the first streams of some bytes are those of more
first-longer : (taken more : List ℕ) (streams : List Seen) → AreFirst taken streams → AreFirst (taken ++ more) streams
first-longer taken more streams are = λ later i below.
    subst (λ (x : List ℕ). seen_at streams i ≡ seen (stream_at x i)) (sym (append_assoc taken more later)) (are (more ++ later) i below)

first-more : (taken : List ℕ) (streams : List Seen) (here : Seen) → AreFirst taken streams
    → ((later : List ℕ) → here ≡ seen (stream_at (taken ++ later) (length streams))) → AreFirst taken (streams ++ here ∷ [])
first-more taken streams here are is = λ (later : List ℕ) (i : ℕ) below.
    elim (cases_lt i (length streams)) [
      | inl before ↦ seen-left streams (here ∷ []) i before ∙ are later i before
      | inr least ↦
          let last : length streams ≡ i = omega (arith, below, least, length_push streams here) in
          ap (seen_at (streams ++ here ∷ [])) (sym last) ∙ seen-last streams here ∙ is later ∙ ap (λ (k : ℕ). seen (stream_at (taken ++ later) k)) last
    ]

module _ (plan : Plan) (format : Format) (start mid now : SourceMoment) (held : List ℕ) (used : Bool) (streams : List Seen) (n q : ℕ) (low : n < length (tracks format))
    (few : q < plan.captures) (number : length streams ≡ n * plan.captures + q) (c : HaveCome plan format start mid held used streams) (reads : IsReadWhereNeeded mid now used held) where
  needed_next : WasNeeded plan format start now
  needed_next = λ (x : List ℕ) told.
      capture_more plan format x start mid now told c.taken held used n q (subst (HasCome start.left mid.left c.taken held used) number c.come) low few (c.needed x told) reads

  -- a stream more came
  pub came_next : (held' : List ℕ) (used' : Bool) (flux : TrackState) (u : Unit {0}) → ReadsStream mid.left now.left used held held' flux.times flux.indexes (Ok u)
      → length held' ≤ 4096 → used' ≡ true → HaveCome plan format start now held' used' (streams ++ seen_next Read flux ∷ [])
  unfolding seen_of
  came_next held' used' flux u r few_held is_used =
      let taken : List ℕ = c.taken ++ r.taken in
      let here : Seen = seen_next Read flux in
      let come : HasCome start.left now.left taken held' used' (length streams + 1) =
      come_more start.left mid.left c.taken held used (length streams) c.come now.left held' used' flux.times flux.indexes u r few_held is_used in
      record {
        taken = taken;
        come = subst (HasCome start.left now.left taken held' used') (sym (length_push streams here)) come;
        are = first-more taken streams here (first-longer c.taken r.taken streams c.are)
            (λ (later : List ℕ).
            is_seen (input_of used ((held ++ r.taken) ++ later)) flux.times flux.indexes (held' ++ later) (r.stream later (λ cannot. absurd cannot))
            ∙ ap seen (sym (stream_is start.left mid.left c.taken held used (length streams) c.come r.taken later)));
        needed = needed_next;
      }

  -- or it ended with a fault
  pub ended_next : (held' times' indexes' : List ℕ) (fault : CaptureFault) → ReadsStream mid.left now.left used held held' times' indexes' (Err fault)
      → HaveEnded plan format start now streams fault
  ended_next held' times' indexes' UnreadCapture r = record {
    taken = c.taken ++ r.taken;
    consumed = Consumes-trans start.left mid.left now.left c.taken r.taken c.come.consumed r.consumed;
    are = first-longer c.taken r.taken streams c.are;
    says = λ (later : List ℕ) only.
        let s = r.stream later only in
        (s.0, ap first_fault (stream_is start.left mid.left c.taken held used (length streams) c.come r.taken later) ∙ s.1);
    behind = λ (later : List ℕ). taken_behind start.left mid.left c.taken held used (length streams) c.come r.taken later MOST_OF_STREAM r.few;
    ended = r.ended;
    needed = needed_next;
  }
  ended_next held' times' indexes' (RefusedStream block fault) r = record {
    taken = c.taken ++ r.taken;
    consumed = Consumes-trans start.left mid.left now.left c.taken r.taken c.come.consumed r.consumed;
    are = first-longer c.taken r.taken streams c.are;
    says = λ (later : List ℕ) only. ap first_fault (stream_is start.left mid.left c.taken held used (length streams) c.come r.taken later) ∙ r.stream later only;
    behind = λ (later : List ℕ). taken_behind start.left mid.left c.taken held used (length streams) c.come r.taken later MOST_OF_STREAM r.few;
    ended = r.ended;
    needed = needed_next;
  }

-- the parts of the first tracks by the streams that came are those of the input
first_parts : (plan : Plan) (of : PartOf) (format : Format) (taken : List ℕ) (streams : List Seen) (parts : List TrackPart) → AreFirst taken streams
    → length parts * plan.captures ≤ length streams → ArePlannedParts plan of format (streams_over plan streams) parts
    → (later : List ℕ) → ArePlannedParts plan of format (streams_in plan (taken ++ later)) parts
first_parts plan of format taken streams parts first all are later =
    parts-agree plan of format (streams_over plan streams) (streams_in plan (taken ++ later)) parts
    (λ n q low few. let below = number-below plan n q (length parts) low few in first later (n * plan.captures + q) (omega (arith, below, all))) are

module _ (plan : Plan) (format : Format) (start now : SourceMoment) (n q : ℕ) (few : q < plan.captures) (came : List Seen) (size : length came ≡ n * plan.captures + q) (whole : AreWhole came) where
  stopped_at : (cause : CaptureFault) (f : HaveEnded plan format start now came cause) (later : List ℕ) (block : ℕ) (fault : StreamFault)
      → first_fault (stream_at (f.taken ++ later) (length came)) ≡ Some (block, fault) → StoppedAt plan n (f.taken ++ later) later q block fault
  stopped_at cause f later block fault is = record {
    low = few;
    clean = λ i below.
        let under : i < length came = omega (arith, below, size) in
        ap (λ (s : Seen). s.fault) (sym (f.are later i under)) ∙ whole i under;
    is = ap (λ (k : ℕ). first_fault (stream_at (f.taken ++ later) k)) (sym size) ∙ is;
    taken = subst (λ (k : ℕ). IsTakenBehind (f.taken ++ later) later k MOST_OF_STREAM) size (f.behind later);
  }

  -- after these streams reading stopped
  was_stopped : (cause : CaptureFault) (f : HaveEnded plan format start now came cause) → WasStopped plan n start.left now.left f.taken (Err (of_stream n q cause))
  was_stopped UnreadCapture f = record {
    consumed = f.consumed;
    says = λ (later : List ℕ) only. let s = f.says later only in (q, s.0, stopped_at UnreadCapture f later s.0 Truncated s.1);
    ended = λ cannot. absurd cannot;
  }
  was_stopped (RefusedStream block fault) f = record {
    consumed = f.consumed;
    says = λ (later : List ℕ) only. (refl, stopped_at (RefusedStream block fault) f later block fault (f.says later only));
    ended = f.ended;
  }

module _ (plan : Plan) (of : PartOf) (format : Format) (start now : SourceMoment) (image image' notes notes' : Option (List ℕ)) (room : RoomState) where
  -- all tracks were written
  pub has_planned : (n : ℕ) (totals : Totals) → HasWritten plan of format (HaveCome plan format start now) image image' notes notes' room n totals
      → HasPlanned plan of format start.left now.left image image' notes notes' room n totals
  has_planned n totals h =
      let c = h.came in
      record {
        taken = c.taken;
        come = subst (HasCome start.left now.left c.taken room.held room.used) h.all c.come;
        parts = h.parts;
        many = h.many;
        each = first_parts plan of format c.taken h.streams h.parts c.are (omega (arith, h.all, ap (λ (k : ℕ). k * plan.captures) h.many)) h.each;
        image_grew = h.image_grew;
        notes_grew = h.notes_grew;
        totals_are = h.totals_are;
        format_is = h.format_is;
        sound = h.sound;
      }

  pub has_planned_all : (totals : Totals) (answer : Result (Unit {0}) (Stopped RefusedCapture))
      → OnOk answer (HasWritten plan of format (HaveCome plan format start now) image image' notes notes' room (length (tracks format)) totals)
      → OnOk answer (HasPlanned plan of format start.left now.left image image' notes notes' room (length (tracks format)) totals)
  has_planned_all totals (Ok u) h = has_planned (length (tracks format)) totals h
  has_planned_all totals (Err fault) h = tt

  -- a stream ended the disk
  by_stream : (totals : Totals) (fault : Stopped RefusedCapture) → EndedByStream plan of format (HaveEnded plan format start now) image image' notes notes' totals fault
      → EndedInStream plan of format start.left now.left image image' notes notes' totals (Err fault)
  by_stream totals fault e =
      let t = e.ended in
      let came : List Seen = e.streams ++ t.more in
      let size : length came ≡ e.number * plan.captures + t.capture =
      length-append e.streams t.more ∙ ap (λ (k : ℕ). k + length t.more) e.all ∙ ap (λ (k : ℕ). e.number * plan.captures + k) t.many_more in
      let before : length e.parts * plan.captures ≤ length e.streams = omega (arith, e.all, ap (λ (k : ℕ). k * plan.captures) e.many) in
      subst (λ (f : Stopped RefusedCapture). EndedInStream plan of format start.left now.left image image' notes notes' totals (Err f)) (sym t.is)
      (record {
        number = e.number;
        low = e.low;
        taken = t.ended.taken;
        parts = e.parts;
        many = e.many;
        each = first_parts plan of format t.ended.taken came e.parts t.ended.are (omega (arith, before, length-append e.streams t.more))
            (parts-longer plan of format e.streams t.more e.parts before e.each);
        image_grew = e.image_grew;
        notes_grew = e.notes_grew;
        totals_are = e.totals_are;
        stopped = was_stopped plan format start now e.number t.capture t.few came size t.whole t.cause t.ended;
      })

  -- a sink failed
  module _ (limit : StreamsKeepTheLimit) (padding : (x : List ℕ) → IsPadding x (padding_of x)) where
    module _ (fault : Stopped RefusedCapture) (e : EndedBySink plan of format (HaveCome plan format start now) image image' notes notes' room fault) where
      taken_of_track : (later : List ℕ) → IsTakenBehind (e.came.taken ++ later) later (length e.parts * plan.captures) (most_of_track plan)
      taken_of_track later =
          let x : List ℕ = e.came.taken ++ later in
          let m : ℕ = length e.parts * plan.captures in
          let several = several_behind limit padding x m plan.captures (λ i below. e.came.come.clean later i (omega (arith, below, e.all))) in
          let size : length (behind x (m + plan.captures)) ≡ length room.held + length later =
          ap (λ (k : ℕ). length (behind x k)) (sym e.all) ∙ ap length (e.came.come.rest later) ∙ length-append room.held later in
          record { whole = omega (arith, several.0, size); few = omega (arith, several.1, size, e.came.come.held) }

      each_part : (later : List ℕ) → ArePlannedParts plan of format (streams_in plan (e.came.taken ++ later)) (e.parts ++ e.next ∷ [])
      each_part =
          let all : length (e.parts ++ e.next ∷ []) * plan.captures ≡ length e.parts * plan.captures + plan.captures =
          ap (λ (k : ℕ). k * plan.captures) (length_push e.parts e.next) ∙ add-mul (length e.parts) 1 plan.captures ∙ ap (λ (k : ℕ). length e.parts * plan.captures + k) (one-mul plan.captures) in
          first_parts plan of format e.came.taken e.streams (e.parts ++ e.next ∷ []) e.came.are (omega (arith, all, e.all)) e.each

      sink_failed : (cause : PartFault) → WritesFront cause e.parts e.next image image' notes notes'
          → DecodesPlanned plan of format start.left now.left image image' notes notes' (Err (of_part cause))
      sink_failed ImageFault wrote = record {
        taken = e.came.taken;
        consumed = e.came.come.consumed;
        says = λ (later : List ℕ) only.
            record { parts = e.parts; next = e.next; are = (each_part later, taken_of_track later); few = e.low; wrote = wrote };
        ended = λ cannot. absurd cannot;
      }
      sink_failed NotesFault wrote = record {
        taken = e.came.taken;
        consumed = e.came.come.consumed;
        says = λ (later : List ℕ) only.
            inl (record { parts = e.parts; next = e.next; are = (each_part later, taken_of_track later); few = e.low; wrote = wrote });
        ended = λ cannot. absurd cannot;
      }

    -- the loop ended with a fault
    ends_in_tracks : (totals : Totals) (fault : Stopped RefusedCapture)
        → EndsLoop plan of format (HaveCome plan format start now) (HaveEnded plan format start now) image image' notes notes' room totals fault
        → EndsInTracks plan of format start.left now.left image image' notes notes' totals (Err fault)
    ends_in_tracks totals fault (inl e) = ends_in_stream plan of format start.left now.left image image' notes notes' totals fault (by_stream totals fault e)
    ends_in_tracks totals fault (inr e) =
        subst (λ (f : Stopped RefusedCapture). EndsInTracks plan of format start.left now.left image image' notes notes' totals (Err f)) (sym e.is)
        (ends_in_part plan of format start.left now.left image image' notes notes' totals e.cause (sink_failed fault e e.cause e.wrote))

    pub ends_loop : (totals : Totals) (answer : Result (Unit {0}) (Stopped RefusedCapture))
        → IfErr answer (EndsLoop plan of format (HaveCome plan format start now) (HaveEnded plan format start now) image image' notes notes' room totals)
        → OnErr answer (EndsInTracks plan of format start.left now.left image image' notes notes' totals answer)
    ends_loop totals (Ok u) e = tt
    ends_loop totals (Err fault) e = ends_in_tracks totals fault e

  ended_needed : (totals : Totals) (fault : Stopped RefusedCapture)
      → EndsLoop plan of format (HaveCome plan format start now) (HaveEnded plan format start now) image image' notes notes' room totals fault → WasNeeded plan format start now
  ended_needed totals fault (inl e) = e.ended.ended.needed
  ended_needed totals fault (inr e) = e.came.needed

  pub all_needed : (totals : Totals) (answer : Result (Unit {0}) (Stopped RefusedCapture))
      → OnOk answer (HasWritten plan of format (HaveCome plan format start now) image image' notes notes' room (length (tracks format)) totals)
      → IfErr answer (EndsLoop plan of format (HaveCome plan format start now) (HaveEnded plan format start now) image image' notes notes' room totals)
      → WasNeeded plan format start now
  all_needed totals (Ok u) h e = h.came.needed
  all_needed totals (Err fault) h e = ended_needed totals fault e

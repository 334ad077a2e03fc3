-- What reading the stream at a file's begin says of the file.
use Rattle.std.proofs.Common.{◌≡◌, ◌++◌, ℕ, Bool, false, List, [], Option, Some, None, Ok, Err, refl, sym, ap, subst, ◌∙◌}
use Rattle.std.specs.Io.KnownBytes.{Consumes, IsAtEnd}
use Rattle.index_turns.specs.Track.{TrackState}
use Rattle.kryo_stream.specs.Outcome.{input_of}
use Rattle.kryo_stream.specs.Stream.{times}
use Rattle.kryo_stream.specs.declared.fault.StreamFault.{StreamFault}
use Rattle.sector_report.specs.declared.dump_lines.Passed.TheVariants.{Refused}
use Rattle.flux_engine.specs.Answers.{CaptureAnswer, IsOfCaptureAtHand, ReadsStream, SaysOfCapture}
use Rattle.flux_engine.specs.LoopProgress.{seen_next}
use Rattle.kryo_stream.specs.declared.fault.CaptureFault.TheVariants.{Refused as RefusedStream}
use Rattle.flux_engine.specs.declared.track_streams.NextStream.TheVariants.{Read, PassedOver}
use Rattle.dump_reading.specs.DumpStreams.{seen_file, seen_unless}

module _ (bytes : List ℕ) (left : Option (List ℕ)) (told : left ≡ Some bytes) (left' : Option (List ℕ)) (used : Bool) (fresh : used ≡ false) (held : List ℕ) (nothing : held ≡ [])
    (held' : List ℕ) (flux : TrackState) where
  -- what an answer says of all bytes of the file
  said : (answer : CaptureAnswer) → ReadsStream left left' used held held' flux.times flux.indexes answer
      → ((stays : List ℕ) → left' ≡ Some stays → IsOfCaptureAtHand answer → stays ≡ [])
      → (stays : List ℕ) × SaysOfCapture answer bytes flux.times flux.indexes stays
  said answer r at_end = by left' (subst (λ (l : Option (List ℕ)). Consumes l left' r.taken) told r.consumed) at_end refl
    where
      same-input : (stays : List ℕ) → bytes ≡ r.taken ++ stays → input_of used ((held ++ r.taken) ++ stays) ≡ bytes
      same-input stays is =
          ap (λ (b : Bool). input_of b ((held ++ r.taken) ++ stays)) fresh ∙ ap (λ (h : List ℕ). (h ++ r.taken) ++ stays) nothing ∙ sym is

      by : (l : Option (List ℕ)) → Consumes (Some bytes) l r.taken → ((stays : List ℕ) → l ≡ Some stays → IsOfCaptureAtHand answer → stays ≡ []) → left' ≡ l
          → (stays : List ℕ) × SaysOfCapture answer bytes flux.times flux.indexes stays
      by None consumed ends same = absurd consumed
      by (Some stays) consumed ends same =
          (held' ++ stays, subst (λ (x : List ℕ). SaysOfCapture answer x flux.times flux.indexes (held' ++ stays)) (same-input stays consumed) (r.stream stays (ends stays refl)))

  -- it was read
  pub file-read : ReadsStream left left' used held held' flux.times flux.indexes (Ok (record {})) → seen_next Read flux ≡ seen_file bytes
  file-read r =
      let says = (said (Ok (record {})) r (λ stays same of. absurd of)).1 in
      ap (λ (ts : List ℕ). record { fault = None; passed = None; times = ts; indexes = flux.indexes }) says.times
      ∙ ap (λ (ts : List ℕ). record { fault = None; passed = None; times = times bytes; indexes = ts }) says.indexes
      ∙ ap (seen_unless bytes) (sym says.no_fault)

  -- it is refused
  pub file-refused : (block : ℕ) (fault : StreamFault) → ReadsStream left left' used held held' flux.times flux.indexes (Err (RefusedStream block fault))
      → seen_next (PassedOver (Refused block fault)) flux ≡ seen_file bytes
  file-refused block fault r =
      let says = (said (Err (RefusedStream block fault)) r (λ stays same of. subst IsAtEnd same (r.ended of))).1 in
      ap (seen_unless bytes) (sym says)

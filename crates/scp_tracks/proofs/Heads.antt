-- A track by its header.
use Rattle.std.proofs.Common.{◌≡◌, ◌≤◌, ◌==◌, if◌then◌else◌, ℕ, true, List, [], length, take, nat_lt, not, slice_index, Option, Some, None, Result, Ok, Err, IfOk, refl, sym, ap, subst, ◌∙◌, inl, inr, arith}
use Rattle.std.proofs.lemmas.Bool.{cases_lt}
use Rattle.std.proofs.lemmas.Bool.Decides.{nat_tests}
use Rattle.std.specs.Str.{bytes_eq}
use Rattle.flux_base.specs.declared.outside.Failed.{Failed}
use Rattle.scp_files.specs.Captures.{CaptureState, Holds}
use Rattle.scp_files.specs.Tracks.{TRACK_SIGNATURE, count_by, end_fault, fault_by, head_fault, head_size, whole_count}
use Rattle.scp_files.specs.declared.fault.ScpTrackFault.{ScpTrackFault}
use Rattle.scp_files.specs.declared.fault.ScpTrackFault.TheVariants.{BadNumber, BadSignature, ShortTrack}
use Rattle.scp_tracks.specs.Tracks.{HoldsFirst, ReadsTrack}
use Rattle.scp_tracks.specs.declared.track.TrackPlace.{TrackPlace}
use Rattle.scp_tracks.specs.inside.Walk.{ReadsRevolutions}

pub none_some : {X : Type 0} {x : X} → None ≡ Some x → ⊥
none_some same = cc

pub some_same : {a b : List ℕ} → Some a ≡ Some b → a ≡ b
some_same same = cc

-- a header without a fault is whole
pub sized : (revolutions number : ℕ) (head : List ℕ) → head_fault revolutions number head ≡ None → head_size revolutions ≤ length head
unfolding head_fault
sized revolutions number head is = elim (cases_lt (length head) (head_size revolutions)) [
  | inl less ↦ let short : nat_lt (length head) (head_size revolutions) ≡ true = grind (arith, nat_tests, less) in
      absurd (none_some (sym is ∙ ap (λ b. if b then Some ShortTrack
      else (if not (bytes_eq (take 3 head) TRACK_SIGNATURE) then Some BadSignature
      else if not (slice_index head 3 == number) then Some (BadNumber (slice_index head 3)) else None)) short))
  | inr full ↦ full
]

module _ (place : TrackPlace) (track : List ℕ) (capture : CaptureState) where
  -- it has a fault
  pub refused-is : (fault : ScpTrackFault) → head_fault place.revolutions place.number track ≡ Some fault → Holds [] [] capture
      → ReadsTrack place track capture (Some fault)
  refused-is fault is begun = (
    sym (ap (λ h. fault_by h (end_fault place.revolutions track)) is),
    subst (λ h. HoldsFirst track (count_by h (whole_count place.revolutions track)) capture) (sym is) begun,
  )

  -- it has none
  pub read-is : (answer : Result (Option ScpTrackFault) Failed) → head_fault place.revolutions place.number track ≡ None
      → IfOk answer (ReadsRevolutions place.revolutions track capture) → IfOk answer (ReadsTrack place track capture)
  read-is (Ok fault) none reads = (
    reads.0 ∙ sym (ap (λ h. fault_by h (end_fault place.revolutions track)) none),
    subst (λ h. HoldsFirst track (count_by h (whole_count place.revolutions track)) capture) (sym none) reads.1,
  )
  read-is (Err failed) none reads = tt

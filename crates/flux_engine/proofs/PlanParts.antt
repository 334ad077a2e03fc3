-- The captures of a track, the parts of a disk, and one more.
use Rattle.std.specs.Prelude.{◌≡◌, ◌≤◌, ◌<◌, ℕ, ◌+◌, ◌*◌, List, [], ◌∷◌, ◌++◌, get_or, length}
use Rattle.std.proofs.Common.{ap, sym, subst, ◌∙◌, arith, inl, inr, append-nil}
use Rattle.std.proofs.lemmas.Bool.{cases_lt}
use Rattle.std.proofs.lemmas.List.{length_push, get_or_append_left}
use Rattle.std.proofs.lemmas.List.Concat.{flat_map-append}
use Rattle.std.proofs.Math.Seq.{get_or-append_seam}
use Rattle.sector_images.specs.declared.format.Format.{Format}
use Rattle.turn_merge.specs.Readings.{NotedReading}
use Rattle.flux_engine.specs.Captured.{AreReadingsOf, count_of_clocks}
use Rattle.flux_engine.specs.Disks.{no_totals, part_at}
use Rattle.flux_engine.specs.Plans.{AreCaptures, ArePlannedParts, IsPlannedPart, PartOf, Streams, joined}
use Rattle.flux_engine.specs.Recordings.{track_at}
use Rattle.flux_engine.specs.Room.{MOST_SOURCES}
use Rattle.flux_engine.specs.Tracks.{TrackPart}
use Rattle.flux_engine.specs.declared.plan.Clocks.{Clocks}
use Rattle.flux_engine.specs.declared.plan.Clocks.TheVariants.{Both, FollowingAlone}
use Rattle.flux_engine.specs.declared.plan.Plan.{Plan}

no_part : TrackPart
no_part = record { image = []; lines = []; totals = no_totals }

-- one track more
pub parts-more : (plan : Plan) (of : PartOf) (format : Format) (streams : Streams) (parts : List TrackPart) (n : ℕ) (part : TrackPart) → length parts ≡ n
    → ArePlannedParts plan of format streams parts → IsPlannedPart plan of format streams n part → ArePlannedParts plan of format streams (parts ++ part ∷ [])
unfolding no_part
parts-more plan of format streams parts n part many each here = λ (k : ℕ) low.
    elim (cases_lt k (length parts)) [
      | inl before ↦ subst (IsPlannedPart plan of format streams k) (sym (get_or_append_left parts (part ∷ []) no_part k before)) (each k before)
      | inr least ↦
          let last : length parts ≡ k = omega (arith, low, least, length_push parts part) in
          let is : part ≡ part_at (parts ++ part ∷ []) k =
          sym (get_or-append_seam parts part [] no_part) ∙ ap (part_at (parts ++ part ∷ [])) last in
          subst (IsPlannedPart plan of format streams k) is (subst (λ (m : ℕ). IsPlannedPart plan of format streams m part) (sym many ∙ last) here)
    ]

-- the readings of a capture
abbrev pub IsCapture : Plan → Format → Streams → (n q : ℕ) → List NotedReading → Type 0
IsCapture plan format streams n q readings =
    AreReadingsOf plan.rule plan.clocks format (track_at format n) (streams n q).times (streams n q).indexes q readings

-- one capture more
pub captures-more : (plan : Plan) (format : Format) (streams : Streams) (n : ℕ) (captures : List (List NotedReading)) (q : ℕ) (readings : List NotedReading) → length captures ≡ q
    → AreCaptures plan format streams n captures → IsCapture plan format streams n q readings → AreCaptures plan format streams n (captures ++ readings ∷ [])
captures-more plan format streams n captures q readings many each here = λ (k : ℕ) low.
    elim (cases_lt k (length captures)) [
      | inl before ↦ subst (IsCapture plan format streams n k) (sym (get_or_append_left captures (readings ∷ []) [] k before)) (each k before)
      | inr least ↦
          let last : length captures ≡ k = omega (arith, low, least, length_push captures readings) in
          let is : readings ≡ get_or (captures ++ readings ∷ []) k [] =
          sym (get_or-append_seam captures readings [] []) ∙ ap (λ (j : ℕ). get_or (captures ++ readings ∷ []) j []) last in
          subst (IsCapture plan format streams n k) is (subst (λ (m : ℕ). IsCapture plan format streams n m readings) (sym many ∙ last) here)
    ]

pub joined-more : (captures : List (List NotedReading)) (readings : List NotedReading) → joined (captures ++ readings ∷ []) ≡ joined captures ++ readings
joined-more captures readings =
    flat_map-append (λ (rs : List NotedReading). rs) captures (readings ∷ []) ∙ ap (λ (r : List NotedReading). joined captures ++ r) (append-nil readings)

-- a track has few enough sources: each capture by each clock
pub few_sources : (clocks : Clocks) (capture captures sources : ℕ) → capture < captures → captures ≤ 16 → sources ≡ capture * count_of_clocks clocks
    → sources + count_of_clocks clocks ≤ MOST_SOURCES
few_sources FollowingAlone capture captures sources low few is = omega (arith, low, few, is)
few_sources Both capture captures sources low few is = omega (arith, low, few, is)

pub one_more_source : (clocks : Clocks) (capture : ℕ) → capture * count_of_clocks clocks + count_of_clocks clocks ≡ (capture + 1) * count_of_clocks clocks
one_more_source FollowingAlone capture = omega arith
one_more_source Both capture = omega arith

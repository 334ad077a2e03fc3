-- What the files of a dump come to that came so far, and one file more.
use Rattle.std.specs.Prelude.{◌≡◌, ◌<◌, ◌≤◌, ◌⊎◌, ℕ, ◌+◌, List, [], ◌∷◌, ◌++◌, get_or, length, None}
use Rattle.std.proofs.Common.{ap, sym, subst, ◌∙◌, arith, inl, inr, length-append}
use Rattle.std.proofs.Math.Seq.{get_or-append_seam}
use Rattle.std.proofs.lemmas.Bool.{cases_lt}
use Rattle.std.proofs.lemmas.List.{get_or_append_left}
use Rattle.flux_engine.specs.LoopProgress.{seen_at}
use Rattle.flux_engine.specs.Plans.{Seen}
use Rattle.flux_engine.specs.declared.track_tally.TrackTally.{TrackTally}
use Rattle.dump_tallies.specs.Files.{track_of_file}
use Rattle.dump_tallies.specs.Tallies.{AreTallied, IsFileTally, NotesFile, TalliedDisk, nothing}
use Rattle.dump_tallies.specs.Tallies.{tally_at}

abbrev no_seen : Seen
no_seen = record { fault = None; passed = None; times = []; indexes = [] }

-- none came
pub tallied-none : (disk : TalliedDisk) → disk.tallies ≡ [] → AreTallied disk []
tallied-none disk none = record {
  many = ap (λ (ts : List TrackTally). length ts) none;
  whole = λ i low. absurd (omega (arith, low));
  each = λ i low. absurd (omega (arith, low));
}

module _ (old : TalliedDisk) (came : List Seen) (here : Seen) (are : AreTallied old came)
    (whole : here.fault ≡ None) where
  abbrev more : List Seen
  more = came ++ here ∷ []

  seen-last : seen_at more (length came) ≡ here
  seen-last = get_or-append_seam came here [] no_seen

  module _ (tally : TrackTally)
      (is : IsFileTally old.stepping old.format (track_of_file (length came)) here tally) where
    abbrev next : TalliedDisk
    next = record old { tallies = old.tallies ++ tally ∷ [] }

    abbrev Tells : ℕ → Seen → TrackTally → Type 0
    Tells i s t = IsFileTally old.stepping old.format (track_of_file i) s t

    tally-last : tally_at next (length came) ≡ tally
    tally-last =
        ap (λ (n : ℕ). get_or (old.tallies ++ tally ∷ []) n nothing) (sym are.many)
        ∙ get_or-append_seam old.tallies tally [] nothing

    each : (i : ℕ) → i < length more → (i < length came) ⊎ (length came ≤ i)
        → Tells i (seen_at more i) (tally_at next i)
    each i low (inl less) =
        let few : i < length old.tallies = (let many = are.many in omega (arith, less, many)) in
        subst (λ (s : Seen). Tells i s (tally_at next i))
        (sym (get_or_append_left came (here ∷ []) no_seen i less))
        (subst (λ (t : TrackTally). Tells i (seen_at came i) t)
        (sym (get_or_append_left old.tallies (tally ∷ []) nothing i few)) (are.each i less))
    each i low (inr past) =
        let long : length more ≡ length came + 1 = length-append came (here ∷ []) in
        let at : length came ≡ i = omega (arith, low, past, long) in
        subst (λ (j : ℕ). Tells j (seen_at more j) (tally_at next j)) at
        (subst (λ (s : Seen). Tells (length came) s (tally_at next (length came))) (sym seen-last)
        (subst (λ (t : TrackTally). Tells (length came) here t) (sym tally-last) is))

    faultless : (i : ℕ) → i < length more → (i < length came) ⊎ (length came ≤ i)
        → (seen_at more i).fault ≡ None
    faultless i low (inl less) =
        ap (λ (s : Seen). s.fault) (get_or_append_left came (here ∷ []) no_seen i less)
        ∙ are.whole i less
    faultless i low (inr past) =
        let long : length more ≡ length came + 1 = length-append came (here ∷ []) in
        let at : i ≡ length came = omega (arith, low, past, long) in
        ap (λ (j : ℕ). (seen_at more j).fault) at ∙ ap (λ (s : Seen). s.fault) seen-last ∙ whole

    tallied-next : AreTallied next more
    tallied-next = record {
      many =
          length-append old.tallies (tally ∷ []) ∙ ap (λ (n : ℕ). n + 1) are.many
          ∙ sym (length-append came (here ∷ []));
      whole = λ i low. faultless i low (cases_lt i (length came));
      each = λ i low. each i low (cases_lt i (length came));
    }

  -- the next one came
  pub tallied-more : (new : TalliedDisk) → NotesFile old new (track_of_file (length came)) here
      → AreTallied new more
  tallied-more new n =
      subst (λ (d : TalliedDisk). AreTallied d more) (sym n.disk) (tallied-next n.tally n.is)

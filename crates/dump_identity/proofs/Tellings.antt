-- The lines of the first disks were written.
use Rattle.std.proofs.Common.{◌≡◌, ◌≤◌, ◌<◌, ◌⊎◌, ◌+◌, ◌++◌, ℕ, Bool, List, [], ◌∷◌, length, map, take, drop, Option, None, inl, inr, refl, sym, ap, subst, ◌∙◌, arith, append-nil}
use Rattle.std.specs.Prelude.{flat_map, get_or}
use Rattle.std.specs.Io.KnownBytes.{Appends}
use Rattle.std.proofs.KnownBytes.{Appends-nil, Appends-trans}
use Rattle.std.proofs.lemmas.Bool.{cases_lt}
use Rattle.std.proofs.lemmas.List.{get_or_append_left, get_or_push, length-map, length_push, length-take-le, map-append, take-append-drop, take_all, take_more}
use Rattle.std.proofs.lemmas.List.Concat.{flat_map-append}
use Rattle.flux_base.specs.Outside.{AppendsPart}
use Rattle.flux_base.specs.lemmas.Parts.{AppendsPart-first, AppendsPart-second}
use Rattle.flux_engine.specs.Plans.{Seen}
use Rattle.sector_report.specs.declared.dump_lines.Passed.{Passed}
use Rattle.track_shelf.specs.Files.{File}
use Rattle.told_disks.specs.declared.foreign.ForeignDisk.{ForeignDisk}
use Rattle.dump_tallies.specs.Tallies.{TalliedDisk}
use Rattle.dump_identity.specs.Findings.{AreFindings, ComesTo, best_of}
use Rattle.dump_identity.specs.Lines.{end_text, foreign_text, line_of, lines_of}
use Rattle.dump_identity.specs.Outcomes.{candidates_in}
use Rattle.dump_identity.specs.declared.candidate.Candidate.{Candidate}
use Rattle.dump_identity.specs.declared.finding.Finding.{Finding}
use Rattle.dump_identity.specs.inside.Outcomes.{AreKnown, CutEnd, CutLine, FindsOne, HaveSaid, HaveTold, candidate_in}

lines-next : (findings : List Finding) (next : Finding) → lines_of (findings ++ next ∷ []) ≡ lines_of findings ++ line_of next
lines-next findings next = flat_map-append line_of findings (next ∷ []) ∙ ap (λ (r : List ℕ). lines_of findings ++ r) (append-nil (line_of next))

-- one more disk comes to this
module _ (dump : List ℕ) (told : Option (List File)) (came : ℕ → List Seen) (findings : List Finding) (next : Finding) where
  abbrev Comes : ℕ → Finding → Type 0
  Comes k f = ComesTo dump told (came k) f.candidate f.totals

  pub findings-more : AreFindings dump told came findings → Comes (length findings) next → AreFindings dump told came (findings ++ next ∷ [])
  findings-more are comes k d below = by (cases_lt k (length findings))
    where
      many : length (findings ++ next ∷ []) ≡ length findings + 1
      many = length_push findings next

      by : (k < length findings) ⊎ (length findings ≤ k) → Comes k (get_or (findings ++ next ∷ []) k d)
      by (inl low) = subst (λ (f : Finding). Comes k f) (sym (get_or_append_left findings (next ∷ []) d k low)) (are k d low)
      by (inr past) =
          let at : length findings ≡ k = omega (arith, past, below, many) in
          subst (λ (j : ℕ). Comes j (get_or (findings ++ next ∷ []) j d)) at
          (subst (λ (f : Finding). Comes (length findings) f) (sym (get_or_push findings next d (length findings) refl)) comes)

module _ (dump : List ℕ) (told : Option (List File)) (came : ℕ → List Seen) (lines : Option (List ℕ)) where
  pub told-none : HaveTold dump told came [] lines lines None
  unfolding best_of
  told-none = record { findings = []; of = refl; are = λ k d low. absurd (omega (arith, low)); grew = Appends-nil lines; best_is = refl }

  -- all were
  pub told-all : (disks : List TalliedDisk) (n : ℕ) → length disks ≤ n → (written : Option (List ℕ)) (best : Option Finding) → HaveTold dump told came (take n disks) lines written best
      → HaveTold dump told came disks lines written best
  told-all disks n past written best h = subst (λ (ds : List TalliedDisk). HaveTold dump told came ds lines written best) (take_all n disks past) h

  module _ (disks : List TalliedDisk) (foreign : List ForeignDisk) (mid after : Option (List ℕ)) (best : Option Finding) (h : HaveTold dump told came disks lines mid best) where
    -- the lines behind were written
    pub said-end : Appends mid after (end_text foreign best) → HaveSaid dump told came disks foreign lines after best
    said-end grew = record {
      findings = h.findings;
      of = h.of;
      are = h.are;
      grew = Appends-trans lines mid after (lines_of h.findings) (end_text foreign (best_of h.findings)) h.grew
          (subst (λ (o : Option Finding). Appends mid after (end_text foreign o)) h.best_is grew);
      best_is = h.best_is;
    }

    -- they were cut
    pub cut-end : AppendsPart mid after (end_text foreign best) → CutEnd dump told came disks foreign lines after
    cut-end cut =
        let part = subst (λ (o : Option Finding). AppendsPart mid after (end_text foreign o)) h.best_is cut in
        record {
          findings = h.findings;
          of = h.of;
          are = h.are;
          grew = (part.0, part.1, Appends-trans lines mid after (lines_of h.findings) (take part.0 (end_text foreign (best_of h.findings))) h.grew part.2);
        }

  module _ (passed : ℕ → List (Option Passed)) (disks : List TalliedDisk) (held : List Bool) (known : AreKnown dump told came passed disks held) (n : ℕ) (low : n < length disks)
      (d : TalliedDisk) (d_is : d ≡ get_or disks n d) (b : Bool) (b_is : b ≡ get_or held n b) (why : List (Option Passed)) (why_is : why ≡ passed n)
      (mid : Option (List ℕ)) (best : Option Finding) (h : HaveTold dump told came (take n disks) lines mid best)
      (finding : Finding) (finds : FindsOne why d b finding) where
    abbrev here : TalliedDisk
    here = get_or disks n d

    found : FindsOne (passed n) here (get_or held n b) finding
    found =
        subst (λ (disk : TalliedDisk). FindsOne (passed n) disk (get_or held n b) finding) d_is
        (subst (λ (x : Bool). FindsOne (passed n) d x finding) b_is (subst (λ (ps : List (Option Passed)). FindsOne ps d b finding) why_is finds))

    comes : ComesTo dump told (came n) finding.candidate finding.totals
    comes =
        subst (λ (c : Candidate). ComesTo dump told (came n) c finding.totals) (sym found.of)
        (found.comes dump told (came n) (known.passed_are n) (known.of n) (known.tallied n d low) (known.held_are.each n d b low))

    -- as many disks were told
    many : n ≡ length h.findings
    many =
        sym (length-take-le n disks (omega (arith, low))) ∙ sym (length-map (take n disks) candidate_in) ∙ ap (λ (cs : List Candidate). length cs) (sym h.of)
        ∙ length-map h.findings (λ (f : Finding). f.candidate)

    are-more : AreFindings dump told came (h.findings ++ finding ∷ [])
    are-more = findings-more dump told came h.findings finding h.are (subst (λ (k : ℕ). ComesTo dump told (came k) finding.candidate finding.totals) many comes)

    of-more : candidates_in (h.findings ++ finding ∷ []) ≡ map candidate_in (take n disks ++ here ∷ [])
    of-more =
        map-append (λ (f : Finding). f.candidate) h.findings (finding ∷ []) ∙ ap (λ (cs : List Candidate). cs ++ finding.candidate ∷ []) h.of
        ∙ ap (λ (c : Candidate). map candidate_in (take n disks) ++ c ∷ []) found.of ∙ sym (map-append candidate_in (take n disks) (here ∷ []))

    -- one more
    pub told-more : (written : Option (List ℕ)) (next : Option Finding) → Appends mid written (line_of finding)
        → ((before : List Finding) → best ≡ best_of before → next ≡ best_of (before ++ finding ∷ [])) → HaveTold dump told came (take (n + 1) disks) lines written next
    told-more written next grew better = record {
      findings = h.findings ++ finding ∷ [];
      of = of-more ∙ ap (map candidate_in) (sym (take_more disks n d low));
      are = are-more;
      grew = subst (Appends lines written) (sym (lines-next h.findings finding)) (Appends-trans lines mid written (lines_of h.findings) (line_of finding) h.grew grew);
      best_is = better h.findings h.best_is;
    }

    -- its line was cut
    pub told-cut : (written : Option (List ℕ)) → AppendsPart mid written (line_of finding) → CutLine dump told came disks lines written
    told-cut written part = record {
      findings = h.findings;
      next = finding;
      behind = map candidate_in (drop (n + 1) disks);
      of = ap (λ (cs : List Candidate). cs ++ map candidate_in (drop (n + 1) disks)) (of-more ∙ ap (map candidate_in) (sym (take_more disks n d low)))
          ∙ sym (map-append candidate_in (take (n + 1) disks) (drop (n + 1) disks)) ∙ ap (map candidate_in) (take-append-drop (n + 1) disks);
      are = are-more;
      grew = (part.0, part.1, Appends-trans lines mid written (lines_of h.findings) (take part.0 (line_of finding)) h.grew part.2);
    }

-- the lines of the first disks of other heads were written, and of one more
module _ (foreign : List ForeignDisk) (n : ℕ) where
  abbrev texts : List ForeignDisk → List ℕ
  texts ds = flat_map foreign_text ds

  pub foreign-all : length foreign ≤ n → (lines mid : Option (List ℕ)) → Appends lines mid (texts (take n foreign)) → Appends lines mid (texts foreign)
  foreign-all past lines mid grew = subst (λ (ds : List ForeignDisk). Appends lines mid (texts ds)) (take_all n foreign past) grew

  module _ (d : ForeignDisk) (low : n < length foreign) (lines mid after : Option (List ℕ)) (grew : Appends lines mid (texts (take n foreign))) where
    next : texts (take (n + 1) foreign) ≡ texts (take n foreign) ++ foreign_text (get_or foreign n d)
    next =
        ap texts (take_more foreign n d low) ∙ flat_map-append foreign_text (take n foreign) (get_or foreign n d ∷ [])
        ∙ ap (λ (r : List ℕ). texts (take n foreign) ++ r) (append-nil (foreign_text (get_or foreign n d)))

    pub foreign-more : Appends mid after (foreign_text (get_or foreign n d)) → Appends lines after (texts (take (n + 1) foreign))
    foreign-more more = subst (Appends lines after) (sym next) (Appends-trans lines mid after (texts (take n foreign)) (foreign_text (get_or foreign n d)) grew more)

    whole : texts foreign ≡ (texts (take n foreign) ++ foreign_text (get_or foreign n d)) ++ texts (drop (n + 1) foreign)
    whole =
        ap texts (sym (take-append-drop (n + 1) foreign)) ∙ flat_map-append foreign_text (take (n + 1) foreign) (drop (n + 1) foreign) ∙ ap (λ (r : List ℕ). r ++ texts (drop (n + 1) foreign)) next

    pub foreign-cut : AppendsPart mid after (foreign_text (get_or foreign n d)) → AppendsPart lines after (texts foreign)
    foreign-cut part =
        subst (AppendsPart lines after) (sym whole)
        (AppendsPart-first lines after (texts (take n foreign) ++ foreign_text (get_or foreign n d)) (texts (drop (n + 1) foreign))
        (AppendsPart-second lines mid after (texts (take n foreign)) (foreign_text (get_or foreign n d)) grew part))

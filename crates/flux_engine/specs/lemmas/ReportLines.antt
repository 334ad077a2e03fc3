-- The lines of a report: one for each sector of the first tracks and whatever ends
-- it, and what each of them tells.
use Rattle.std.specs.Prelude.{◌≡◌, ◌≢◌, ◌≤◌, ◌<◌, ◌⊎◌, ℕ, zero, suc, ◌+◌, ◌-◌, List, [], ◌∷◌, ◌++◌}
use Rattle.std.specs.Prelude.{codes, decimal, length, slice_get, Option, Some, None, refl}
use Rattle.std.proofs.Common.{ap, sym, subst, ◌∙◌, arith, inl, inr, append-nil, length-append}
use Rattle.std.proofs.Math.Seq.{take-length}
use Rattle.std.proofs.lemmas.Bool.{cases_lt}
use Rattle.flux_base.specs.declared.track.TrackId.{TrackId}
use Rattle.sector_images.specs.Formats.{row, zone}
use Rattle.sector_images.specs.Places.{IsSector, tracks}
use Rattle.sector_images.specs.declared.format.Format.{Format}
use Rattle.sector_report.specs.LineLaws.{IsOneLine, LineFits, SectorLinesTell, SectorsHaveOneLine}
use Rattle.sector_report.specs.LineLaws.{TotalsAreNoSectors, TotalsHaveOneLine, line_ends}
use Rattle.sector_report.specs.Lines.{named_text, sector_name, total_text, two_digits, verdict_text}
use Rattle.sector_report.specs.declared.naming.Naming.{Naming}
use Rattle.sector_report.specs.declared.totals.Totals.{Totals}
use Rattle.turn_merge.specs.Readings.{NotedReading, verdict}
use Rattle.turn_merge.specs.declared.verdict.Verdict.{Verdict}
use Rattle.flux_engine.specs.DiskLaws.{HasLine, line_number, lines_in, sectors_before, total_lines}
use Rattle.flux_engine.specs.Disks.{last_line, lines, part_at}
use Rattle.flux_engine.specs.Recordings.{sectors_of, track_at}
use Rattle.flux_engine.specs.Tracks.{TrackPart, lines_by}
use Rattle.flux_engine.specs.lemmas.LineNumbers.{Skips, ends-append, ends-line, line-first}
use Rattle.flux_engine.specs.lemmas.LineNumbers.{sector-line, sectors-more, skips-tracks}

-- the sector whose line has this number
record Numbered (format : Format) (tracks_in number : ℕ) : Type 0 where
  n : ℕ
  sector : ℕ
  below : n < tracks_in
  known : IsSector format (track_at format n) sector
  is : number ≡ line_number format n sector

offset : (first before count number : ℕ) → before ≤ number → number < before + count
    → (first ≤ first + (number - before)) × (first + (number - before) < first + count)
    × (number ≡ before + ((first + (number - before)) - first))
offset first before count number least low =
    (omega arith, omega (arith, least, low), omega (arith, least))

numbered : (format : Format) (n : ℕ) → n ≤ length (tracks format) → (number : ℕ)
    → number < sectors_before format n → Numbered format n number
numbered format zero few number low = (let none : number < 0 = low in absurd (omega (arith, none)))
numbered format (suc n) few number low =
    let within : n < length (tracks format) = omega (arith, few) in
    let more : sectors_before format (suc n)
    ≡ sectors_before format n + (zone format (track_at format n).cylinder).sectors =
    sectors-more format n within in
    elim (cases_lt number (sectors_before format n)) [
      | inl earlier ↦ (let p = numbered format n (omega (arith, within)) number earlier in
          record { n = p.n; sector = p.sector; below = omega (arith, p.below); known = p.known; is = p.is })
      | inr here ↦
          (let there = offset (row format).first_sector (sectors_before format n)
          (zone format (track_at format n).cylinder).sectors number here
          (omega (arith, low, more)) in
          record { n = n; sector = (row format).first_sector + (number - sectors_before format n); below = omega arith; known = (there.0, there.1); is = there.2 })
    ]

some_same : {X : Type 0} {a b : X} → Some a ≡ Some b → a ≡ b
some_same e = cc

none_some : {X : Type 0} {a : X} → None ≡ Some a → ⊥
none_some e = cc

-- what stands after the last line end is empty
past-all : (m : ℕ) (front : List ℕ) → slice_get (lines_in []) m ≡ Some front → front ≡ []
past-all zero front is = sym (some_same is)
past-all (suc m) front is = absurd (none_some is)

-- what ends a report: nothing, or the total line
abbrev pub EndsReport : List ℕ → Type 0
EndsReport last = (last ≡ []) ⊎ ((totals : Totals) × (last ≡ total_text totals))

pub ends_report : {S : Type 0} (totals : Totals) (stop : Option S)
    → EndsReport (last_line totals stop)
ends_report totals None = inr (totals, refl)
ends_report totals (Some stop) = inl refl

pub last_ends : {S : Type 0} → TotalsHaveOneLine → (totals : Totals) (stop : Option S)
    → line_ends (last_line totals stop) ≡ total_lines stop
last_ends one totals None = ends-line (total_text totals) (one totals)
last_ends one totals (Some stop) = refl

-- so what stands after the sectors' lines is nothing, or that line
past-total : (totals : Totals) (one : IsOneLine (total_text totals)) (m : ℕ) (front : List ℕ)
    → slice_get (lines_in (total_text totals)) m ≡ Some front
    → (front ≡ []) ⊎ (front ++ 10 ∷ [] ≡ total_text totals)
past-total totals one m front is =
    let split : lines_in (total_text totals) ≡ one.front ∷ lines_in [] =
    ap lines_in (sym (append-nil (total_text totals))) ∙ line-first (total_text totals) [] one in
    by-place m (ap (λ ls. slice_get ls m) (sym split) ∙ is)
  where
    by-place : (m : ℕ) → slice_get (one.front ∷ lines_in []) m ≡ Some front
        → (front ≡ []) ⊎ (front ++ 10 ∷ [] ≡ total_text totals)
    by-place zero at = inr (ap (λ f. f ++ 10 ∷ []) (sym (some_same at)) ∙ sym one.ends)
    by-place (suc m) at = inl (past-all m front at)

-- a sector's line is more than a line end
blank_last : (text : List ℕ) (blank : ℕ) → 1 ≤ length (text ++ blank ∷ [])
blank_last text blank =
    (let both : length (text ++ blank ∷ []) ≡ length text + 1 = length-append text (blank ∷ []) in
    omega (arith, both))

name_length : (track : TrackId) (sector : ℕ) → 1 ≤ length (sector_name track sector)
unfolding sector_name
name_length track sector = blank_last
    (two_digits track.cylinder ++ codes "." ++ decimal track.head ++ codes " " ++ two_digits sector)
    32

not_empty : (naming : Naming) (track : TrackId) (sector : ℕ) (verdict : Verdict) (front : List ℕ)
    → named_text naming track sector verdict ≡ front ++ 10 ∷ [] → front ≢ []
unfolding named_text
not_empty naming track sector verdict front ends none =
    let alone : length ((sector_name track sector ++ verdict_text naming verdict) ++ 10 ∷ []) ≡ 1 =
    ap length (ends ∙ ap (λ (f : List ℕ). f ++ 10 ∷ []) none) in
    let all : length ((sector_name track sector ++ verdict_text naming verdict) ++ 10 ∷ [])
    ≡ length (sector_name track sector ++ verdict_text naming verdict) + 1 =
    length-append (sector_name track sector ++ verdict_text naming verdict) (10 ∷ []) in
    let both = length-append (sector_name track sector) (verdict_text naming verdict) in
    let name = name_length track sector in
    omega (arith, alone, all, both, name)

-- the line is that of a sector of one of the first tracks, with its verdict
pub record IsLineOf (format : Format) (many : ℕ) (readings : (n : ℕ) → n < many → List NotedReading)
    (track : TrackId) (sector : ℕ) (outcome : Verdict) (number : ℕ) : Type 0 where
  pub n : ℕ
  pub low : n < many
  pub known : IsSector format (track_at format n) sector
  pub track_is : track ≡ track_at format n
  pub outcome_is : verdict (readings n low) sector ≡ outcome
  pub number_is : number ≡ line_number format n sector

module _ (one : SectorsHaveOneLine) (total_one : TotalsHaveOneLine) (format : Format)
    (ps : List TrackPart) (few : length ps ≤ length (tracks format)) (naming : Naming)
    (readings : (n : ℕ) → n < length ps → List NotedReading)
    (are : (n : ℕ) (low : n < length ps)
    → (part_at ps n).lines
    ≡ lines_by naming (track_at format n) (sectors_of format (track_at format n))
    (readings n low))
    (last : List ℕ) where
  skips_all : Skips (lines ps) (sectors_before format (length ps))
  skips_all =
      subst (λ (qs : List TrackPart). Skips (lines qs) (sectors_before format (length ps)))
      (take-length ps)
      (skips-tracks one format ps few naming readings are (length ps) (omega arith))

  -- there is no other line than those of the sectors and what ends the report
  pub line_count : line_ends (lines ps ++ last) ≡ sectors_before format (length ps) + line_ends last
  line_count = ends-append (lines ps) last ∙ ap (λ (n : ℕ). n + line_ends last) skips_all.ends

  module _ (ends : EndsReport last) (tell : SectorLinesTell) (no_sector : TotalsAreNoSectors)
      (own : (n : ℕ) (low : n < length ps) (s : ℕ) → IsSector format (track_at format n) s
      → LineFits naming (track_at format n) s (verdict (readings n low) s))
      (track : TrackId) (sector : ℕ) (outcome : Verdict) (number : ℕ)
      (fits : LineFits naming track sector outcome)
      (h : HasLine (lines ps ++ last) (named_text naming track sector outcome) number) where
    of_sector : Numbered format (length ps) number
        → IsLineOf format (length ps) readings track sector outcome number
    of_sector p =
        let mine : Verdict = verdict (readings p.n p.below) p.sector in
        let line =
        sector-line one format ps few naming readings are last p.n p.below p.sector p.known in
        let same_front : h.front ≡ line.front =
        some_same
        (sym h.there ∙ ap (slice_get (lines_in (lines ps ++ last))) p.is ∙ line.there) in
        let same : named_text naming track sector outcome
        ≡ named_text naming (track_at format p.n) p.sector mine =
        h.ends ∙ ap (λ f. f ++ 10 ∷ []) same_front ∙ sym line.ends in
        let all = tell naming track (track_at format p.n) sector p.sector outcome mine fits
        (own p.n p.below p.sector p.known) same in
        record {
          n = p.n;
          low = p.below;
          known = subst (IsSector format (track_at format p.n)) (sym all.1) p.known;
          track_is = all.0;
          outcome_is = ap (verdict (readings p.n p.below)) all.1 ∙ sym all.2;
          number_is = p.is ∙ ap (line_number format p.n) (sym all.1);
        }

    no_other : (m : ℕ) → slice_get (lines_in last) m ≡ Some h.front → ⊥
    no_other m at =
        elim ends [
          | inl none ↦
              not_empty naming track sector outcome h.front h.ends
              (past-all m h.front (ap (λ text. slice_get (lines_in text) m) (sym none) ∙ at))
          | inr total ↦
              elim (past-total total.0 (total_one total.0) m h.front
              (ap (λ text. slice_get (lines_in text) m) (sym total.1) ∙ at)) [
                | inl none ↦ not_empty naming track sector outcome h.front h.ends none
                | inr is ↦ no_sector naming total.0 track sector outcome fits (h.ends ∙ is)
              ]
        ]

    pub line_of_sector : IsLineOf format (length ps) readings track sector outcome number
    line_of_sector =
        let count : ℕ = sectors_before format (length ps) in
        elim (cases_lt number count) [
          | inl low ↦ of_sector (numbered format (length ps) few number low)
          | inr past ↦
              let split : count + (number - count) ≡ number = omega (arith, past) in
              let at : slice_get (lines_in last) (number - count) ≡ Some h.front =
              sym (skips_all.skips last (number - count))
              ∙ ap (slice_get (lines_in (lines ps ++ last))) split ∙ h.there in
              absurd (no_other (number - count) at)
        ]

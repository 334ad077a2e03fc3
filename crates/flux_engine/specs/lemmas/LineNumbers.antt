-- The numbers of the lines in a disk's notes.
use Rattle.std.specs.Prelude.{◌≡◌, ◌==◌, ◌≤◌, ◌<◌, ℕ, zero, suc, ◌+◌, ◌-◌, Bool, true, false, cond}
use Rattle.std.specs.Prelude.{List, [], ◌∷◌, ◌++◌, All, drop, length, take, flat_map, get_or}
use Rattle.std.specs.Prelude.{slice_get, sum_by, refl}
use Rattle.std.specs.List.{range_with_len}
use Rattle.std.proofs.Common.{ap, sym, subst, ◌∙◌, arith, append_assoc, append-nil}
use Rattle.std.proofs.Math.Seq.{take-suc}
use Rattle.std.proofs.lemmas.List.Concat.{flat_map-append}
use Rattle.std.proofs.lemmas.List.Elements.{All-cons, All-nil}
use Rattle.std.proofs.lemmas.List.Splits.{slice_split_at}
use Rattle.std.proofs.lemmas.List.Sums.{sum_by-append, sum_by-cons}
use Rattle.std.proofs.lemmas.Option.{unwrap_or-slice_get}
use Rattle.flux_base.specs.declared.track.TrackId.{TrackId}
use Rattle.sector_images.specs.Formats.{row, zone}
use Rattle.sector_images.specs.Places.{IsSector, tracks}
use Rattle.sector_images.specs.declared.format.Format.{Format}
use Rattle.sector_report.specs.LineLaws.{IsOneLine, SectorsHaveOneLine, line_ends}
use Rattle.turn_merge.specs.Readings.{NotedReading, verdict}
use Rattle.sector_report.specs.Lines.{named_text}
use Rattle.sector_report.specs.declared.naming.Naming.{Naming}
use Rattle.flux_engine.specs.DiskLaws.{HasLine, line_number, lines_in}
use Rattle.flux_engine.specs.Disks.{lines, part_at}
use Rattle.flux_engine.specs.Recordings.{sectors_of, track_at}
use Rattle.flux_engine.specs.Tracks.{TrackPart, line_by, lines_by}
use Rattle.flux_engine.specs.lemmas.PartLaws.{lines_split, no_part}
use Rattle.flux_engine.specs.lemmas.Pieces.{pieces-at}

-- so many lines stand in front of whatever follows the text, which has as many line ends
pub record Skips (text : List ℕ) (n : ℕ) : Type 0 where
  pub ends : line_ends text ≡ n
  pub skips : (rest : List ℕ) (m : ℕ)
      → slice_get (lines_in (text ++ rest)) (n + m) ≡ slice_get (lines_in rest) m

skips-nil : Skips [] 0
skips-nil = record { ends = refl; skips = λ rest m. (let same : 0 + m ≡ m = omega arith in ap (slice_get (lines_in rest)) same) }

pub ends-append : (a b : List ℕ) → line_ends (a ++ b) ≡ line_ends a + line_ends b
ends-append a b = sum_by-append (λ (byte : ℕ). cond (byte == 10) 1 0) a b

pub ends-line : (line : List ℕ) → IsOneLine line → line_ends line ≡ 1
ends-line line one =
    let both = ends-append one.front (10 ∷ []) in
    let last : line_ends (10 ∷ []) ≡ 1 = refl in
    ap line_ends one.ends ∙ omega (arith, both, last, one.once)

pub skips-append : (a b : List ℕ) (i j : ℕ) → Skips a i → Skips b j → Skips (a ++ b) (i + j)
skips-append a b i j first second = record {
  ends = omega (arith, ends-append a b, first.ends, second.ends);
  skips = λ rest m.
      (let same : (i + j) + m ≡ i + (j + m) = omega arith in
      ap (slice_get (lines_in ((a ++ b) ++ rest))) same
      ∙ ap (λ (text : List ℕ). slice_get (lines_in text) (i + (j + m))) (append_assoc a b rest)
      ∙ first.skips (b ++ rest) (j + m) ∙ second.skips rest m);
}

none_step : (byte : ℕ) (rest : List ℕ) (b : Bool) → (byte == 10) ≡ b
    → cond b 1 0 + line_ends rest ≡ 0 → (b ≡ false) × (line_ends rest ≡ 0)
none_step byte rest true is none = absurd (omega (arith, none))
none_step byte rest false is none = (refl, omega (arith, none))

-- a text without a line end has none at any place
no_ends : (text : List ℕ) → line_ends text ≡ 0 → All (λ (byte : ℕ). (byte == 10) ≡ false) text
no_ends [] none = All-nil (λ (byte : ℕ). (byte == 10) ≡ false)
no_ends (byte ∷ rest) none =
    let step = none_step byte rest (byte == 10) refl
    (sym (sum_by-cons (λ (b : ℕ). cond (b == 10) 1 0) byte rest) ∙ none) in
    All-cons (λ (b : ℕ). (b == 10) ≡ false) byte rest step.0 (no_ends rest step.1)

-- a line stands in front of what follows it
pub line-first : (line rest : List ℕ) (one : IsOneLine line)
    → lines_in (line ++ rest) ≡ one.front ∷ lines_in rest
line-first line rest one =
    ap (λ (l : List ℕ). lines_in (l ++ rest)) one.ends
    ∙ ap lines_in (append_assoc one.front (10 ∷ []) rest)
    ∙ slice_split_at (λ (byte : ℕ). byte == 10) one.front 10 rest (no_ends one.front one.once) refl

skips-line : (line : List ℕ) → IsOneLine line → Skips line 1
skips-line line one = record {
  ends = ends-line line one;
  skips = λ rest m.
      (let same : 1 + m ≡ suc m = omega arith in
      ap (slice_get (lines_in (line ++ rest))) same
      ∙ ap (λ (ls : List (List ℕ)). slice_get ls (suc m)) (line-first line rest one));
}

-- a line for each number of a range
pub skips-lines : (f : ℕ → List ℕ) → ((k : ℕ) → IsOneLine (f k)) → (first count : ℕ)
    → Skips (flat_map f (range_with_len first count)) count
skips-lines f each first zero = skips-nil
skips-lines f each first (suc count) =
    let more : 1 + count ≡ suc count = omega arith in
    subst (Skips (flat_map f (range_with_len first (suc count)))) more
    (skips-append (f first) (flat_map f (range_with_len (first + 1) count)) 1 count
    (skips-line (f first) (each first)) (skips-lines f each (first + 1) count))

abbrev pub sectors_on : Format → TrackId → ℕ
sectors_on format track = (zone format track.cylinder).sectors

abbrev first_track : TrackId
first_track = record { cylinder = 0; head = 0 }

-- the sectors of one track more
pub sectors-more : (format : Format) (n : ℕ) → n < length (tracks format)
    → sum_by (sectors_on format) (take (suc n) (tracks format))
    ≡ sum_by (sectors_on format) (take n (tracks format))
    + sectors_on format (track_at format n)
sectors-more format n low =
    let ts : List TrackId = tracks format in
    let here : get_or ts n first_track ≡ track_at format n =
    sym (unwrap_or-slice_get ts n first_track) in
    let one_track : sum_by (sectors_on format) (get_or ts n first_track ∷ [])
    ≡ sectors_on format (get_or ts n first_track) = omega arith in
    ap (sum_by (sectors_on format)) (take-suc ts n first_track low)
    ∙ sum_by-append (sectors_on format) (take n ts) (get_or ts n first_track ∷ [])
    ∙ ap (λ (m : ℕ). sum_by (sectors_on format) (take n ts) + m)
    (one_track ∙ ap (sectors_on format) here)

-- a line in the middle of a part of a text
line_in : (lt a line b rest last : List ℕ)
    → (lt ++ ((a ++ (line ++ b)) ++ rest)) ++ last ≡ (lt ++ a) ++ (line ++ (b ++ (rest ++ last)))
line_in lt a line b rest last = simp append_assoc

-- the parts of the first tracks, each with the lines of its sectors by these readings
module _ (one : SectorsHaveOneLine) (format : Format) (ps : List TrackPart)
    (few : length ps ≤ length (tracks format)) (naming : Naming)
    (readings : (n : ℕ) → n < length ps → List NotedReading)
    (are : (n : ℕ) (low : n < length ps)
    → (part_at ps n).lines
    ≡ lines_by naming (track_at format n) (sectors_of format (track_at format n))
    (readings n low)) where
  -- a track has a line for each of its sectors
  skips-track : (n : ℕ) → n < length ps
      → Skips (part_at ps n).lines (sectors_on format (track_at format n))
  unfolding lines_by
  skips-track n low =
      let track : TrackId = track_at format n in
      subst (λ (text : List ℕ). Skips text (sectors_on format track)) (sym (are n low))
      (skips-lines (line_by naming track (readings n low))
      (λ k. one naming track k (verdict (readings n low) k)) (sectors_of format track).first
      (sectors_of format track).count)

  -- the first tracks have a line for each of their sectors
  pub skips-tracks : (n : ℕ) → n ≤ length ps
      → Skips (lines (take n ps)) (sum_by (sectors_on format) (take n (tracks format)))
  skips-tracks zero low = skips-nil
  skips-tracks (suc n) low =
      let ts : List TrackId = tracks format in
      let within : n < length ps = omega (arith, low) in
      let count : sum_by (sectors_on format) (take n ts) + sectors_on format (track_at format n)
      ≡ sum_by (sectors_on format) (take (suc n) ts) =
      sym (sectors-more format n (omega (arith, within, few))) in
      let text : lines (take n ps) ++ (part_at ps n).lines ≡ lines (take (suc n) ps) =
      sym (ap lines (take-suc ps n no_part within)
      ∙ flat_map-append (λ (p : TrackPart). p.lines) (take n ps) (part_at ps n ∷ [])
      ∙ ap (λ (l : List ℕ). lines (take n ps) ++ l) (append-nil (part_at ps n).lines)) in
      subst (λ (l : List ℕ). Skips l (sum_by (sectors_on format) (take (suc n) ts))) text
      (subst (Skips (lines (take n ps) ++ (part_at ps n).lines)) count
      (skips-append (lines (take n ps)) (part_at ps n).lines
      (sum_by (sectors_on format) (take n ts)) (sectors_on format (track_at format n))
      (skips-tracks n (omega (arith, within))) (skips-track n within)))

  -- each sector has its line at its number, whatever follows
  pub sector-line : (last : List ℕ) (n : ℕ) (low : n < length ps) (sector : ℕ)
      → IsSector format (track_at format n) sector
      → HasLine (lines ps ++ last)
      (named_text naming (track_at format n) sector (verdict (readings n low) sector))
      (line_number format n sector)
  unfolding lines_by
  sector-line last n low sector known =
      let track : TrackId = track_at format n in
      let first : ℕ = (row format).first_sector in
      let count : ℕ = (sectors_of format track).count in
      let i : ℕ = sector - first in
      let here : first + i ≡ sector = omega (arith, known.0) in
      let few_before : i < count = omega (arith, known.0, known.1) in
      let line_at : ℕ → List ℕ = line_by naming track (readings n low) in
      let line : List ℕ = line_at sector in
      let earlier : List ℕ = flat_map line_at (range_with_len first i) in
      let later : List ℕ = flat_map line_at (range_with_len (first + i + 1) (count - i - 1)) in
      let mine : (part_at ps n).lines ≡ earlier ++ (line ++ later) =
      are n low ∙ pieces-at line_at first i count few_before
      ∙ ap (λ (k : ℕ). earlier ++ (line_at k ++ later)) here in
      let rest : List ℕ = lines (drop (suc n) ps) in
      let before : List ℕ = lines (take n ps) ++ earlier in
      let after : List ℕ = later ++ (rest ++ last) in
      let split : lines ps ++ last ≡ before ++ (line ++ after) =
      ap (λ (xs : List ℕ). xs ++ last)
      (lines_split ps n low ∙ ap (λ (l : List ℕ). lines (take n ps) ++ (l ++ rest)) mine)
      ∙ line_in (lines (take n ps)) earlier line later rest last in
      let mine_is_one : IsOneLine line =
      one naming track sector (verdict (readings n low) sector) in
      let number : ℕ = line_number format n sector in
      let skipped : Skips before number =
      skips-append (lines (take n ps)) earlier (sum_by (sectors_on format) (take n (tracks format)))
      i (skips-tracks n (omega (arith, low)))
      (skips-lines line_at (λ k. one naming track k (verdict (readings n low) k)) first i) in
      let first_of_rest : number ≡ number + 0 = omega arith in
      record {
        before = before;
        after = after;
        is = split;
        front = mine_is_one.front;
        ends = mine_is_one.ends;
        there =
            ap (λ (text : List ℕ). slice_get (lines_in text) number) split
            ∙ ap (slice_get (lines_in (before ++ (line ++ after)))) first_of_rest
            ∙ skipped.skips (line ++ after) 0
            ∙ ap (λ (ls : List (List ℕ)). slice_get ls 0) (line-first line after mine_is_one);
      }

-- The parts of a disk, and one track more.
use Rattle.std.specs.Prelude.{◌≡◌, ◌<◌, ℕ, suc, ◌+◌, List, [], ◌∷◌, ◌++◌, drop, length, sum_by}
use Rattle.std.specs.Prelude.{take}
use Rattle.std.proofs.Common.{ap, sym, ◌∙◌, arith, append-nil}
use Rattle.std.proofs.Math.Seq.{drop-cons}
use Rattle.std.proofs.lemmas.List.{take-append-drop}
use Rattle.std.proofs.lemmas.List.Concat.{flat_map-append}
use Rattle.std.proofs.lemmas.List.Sums.{sum_by-append}
use Rattle.sector_report.specs.declared.totals.Totals.{Totals}
use Rattle.flux_engine.specs.Disks.{images, lines, no_totals, part_at, totals_over}
use Rattle.flux_engine.specs.Tracks.{TrackPart}
use Rattle.flux_engine.specs.Writing.{sum_of}

abbrev pub no_part : TrackPart
no_part = record { image = []; lines = []; totals = no_totals }

-- a list of parts up to one, that one and the others
module _ (ps : List TrackPart) (n : ℕ) (low : n < length ps) where
  parts_split : ps ≡ take n ps ++ (part_at ps n ∷ drop (suc n) ps)
  parts_split = sym (take-append-drop n ps)
      ∙ ap (λ (qs : List TrackPart). take n ps ++ qs) (drop-cons ps n no_part low)

  pub image_split : images ps
      ≡ images (take n ps) ++ ((part_at ps n).image ++ images (drop (suc n) ps))
  image_split = ap images parts_split
      ∙ flat_map-append (λ (p : TrackPart). p.image) (take n ps) (part_at ps n ∷ drop (suc n) ps)

  pub lines_split : lines ps
      ≡ lines (take n ps) ++ ((part_at ps n).lines ++ lines (drop (suc n) ps))
  lines_split = ap lines parts_split
      ∙ flat_map-append (λ (p : TrackPart). p.lines) (take n ps) (part_at ps n ∷ drop (suc n) ps)

-- parts of the image, lines and totals of one track more
pub images-more : (parts : List TrackPart) (part : TrackPart)
    → images (parts ++ part ∷ []) ≡ images parts ++ part.image
images-more parts part =
    flat_map-append (λ (p : TrackPart). p.image) parts (part ∷ [])
    ∙ ap (λ (r : List ℕ). images parts ++ r) (append-nil part.image)

pub lines-more : (parts : List TrackPart) (part : TrackPart)
    → lines (parts ++ part ∷ []) ≡ lines parts ++ part.lines
lines-more parts part =
    flat_map-append (λ (p : TrackPart). p.lines) parts (part ∷ [])
    ∙ ap (λ (r : List ℕ). lines parts ++ r) (append-nil part.lines)

sum-more : (f : TrackPart → ℕ) (parts : List TrackPart) (part : TrackPart)
    → sum_by f (parts ++ part ∷ []) ≡ sum_by f parts + f part
sum-more f parts part =
    let whole = sum_by-append f parts (part ∷ []) in
    let one : sum_by f (part ∷ []) ≡ f part = omega arith in
    whole ∙ ap (λ (n : ℕ). sum_by f parts + n) one

abbrev of_numbers : (sectors good bad missing contradictory : ℕ) → Totals
of_numbers s g b m c = record { sectors = s; good = g; bad = b; missing = m; contradictory = c }

totals-same : (a b : Totals) → a.sectors ≡ b.sectors → a.good ≡ b.good → a.bad ≡ b.bad
    → a.missing ≡ b.missing → a.contradictory ≡ b.contradictory → a ≡ b
totals-same a b s g d m c =
    ap (λ (n : ℕ). of_numbers n a.good a.bad a.missing a.contradictory) s
    ∙ ap (λ (n : ℕ). of_numbers b.sectors n a.bad a.missing a.contradictory) g
    ∙ ap (λ (n : ℕ). of_numbers b.sectors b.good n a.missing a.contradictory) d
    ∙ ap (λ (n : ℕ). of_numbers b.sectors b.good b.bad n a.contradictory) m
    ∙ ap (λ (n : ℕ). of_numbers b.sectors b.good b.bad b.missing n) c

pub totals-more : (parts : List TrackPart) (part : TrackPart)
    → totals_over (parts ++ part ∷ []) ≡ sum_of (totals_over parts) part.totals
totals-more parts part =
    totals-same (totals_over (parts ++ part ∷ [])) (sum_of (totals_over parts) part.totals)
    (sum-more (λ (p : TrackPart). p.totals.sectors) parts part)
    (sum-more (λ (p : TrackPart). p.totals.good) parts part)
    (sum-more (λ (p : TrackPart). p.totals.bad) parts part)
    (sum-more (λ (p : TrackPart). p.totals.missing) parts part)
    (sum-more (λ (p : TrackPart). p.totals.contradictory) parts part)

-- and one track before the others
sum-first : (f : TrackPart → ℕ) (part : TrackPart) (parts : List TrackPart)
    → sum_by f (part ∷ parts) ≡ f part + sum_by f parts
sum-first f part parts =
    let whole = sum_by-append f (part ∷ []) parts in
    let one : sum_by f (part ∷ []) ≡ f part = omega arith in
    whole ∙ ap (λ (n : ℕ). n + sum_by f parts) one

pub totals-first : (part : TrackPart) (parts : List TrackPart)
    → totals_over (part ∷ parts) ≡ sum_of part.totals (totals_over parts)
totals-first part parts =
    totals-same (totals_over (part ∷ parts)) (sum_of part.totals (totals_over parts))
    (sum-first (λ (p : TrackPart). p.totals.sectors) part parts)
    (sum-first (λ (p : TrackPart). p.totals.good) part parts)
    (sum-first (λ (p : TrackPart). p.totals.bad) part parts)
    (sum-first (λ (p : TrackPart). p.totals.missing) part parts)
    (sum-first (λ (p : TrackPart). p.totals.contradictory) part parts)

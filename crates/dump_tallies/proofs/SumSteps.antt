-- The numbers of one track more.
use Rattle.std.specs.Prelude.{◌≡◌, ℕ, ◌+◌, ◌≤◌, Bool, false, not, cond, List, [], ◌∷◌, ◌++◌, length, map, sum_by, Option, refl}
use Rattle.std.specs.Option.{is_some}
use Rattle.std.proofs.Common.{ap, sym, subst, ◌∙◌, arith}
use Rattle.std.proofs.lemmas.List.Elements.{filter-append}
use Rattle.std.proofs.lemmas.List.Sums.{sum_by-append, sum_by-cons}
use Rattle.flux_base.specs.declared.track.TrackId.{TrackId}
use Rattle.sector_images.specs.declared.format.Format.{Format}
use Rattle.sector_report.specs.declared.dump_lines.Passed.{Passed}
use Rattle.sector_report.specs.declared.totals.Totals.{Totals}
use Rattle.flux_engine.specs.Disks.{no_totals}
use Rattle.flux_engine.specs.Names.{passed_beside}
use Rattle.flux_engine.specs.Plans.{is_failed}
use Rattle.flux_engine.specs.Writing.{sum_of}
use Rattle.flux_engine.specs.declared.track_tally.TrackTally.{TrackTally}
use Rattle.dump_reading.specs.Beside.{is_track}
use Rattle.dump_reading.specs.declared.totals.DumpTotals.{DumpTotals}
use Rattle.dump_tallies.specs.Tallies.{TalliedDisk}
use Rattle.dump_tallies.specs.inside.Sums.{AreFewNumbers, beside_among, failed_in, own_numbers, passed_at, sectors_in, tally_of, with_beside}

pub sum-push : {X : Type 0} (weight : X → ℕ) (xs : List X) (x : X) → sum_by weight (xs ++ x ∷ []) ≡ sum_by weight xs + weight x
sum-push weight xs x = (let whole = sum_by-append weight xs (x ∷ []) in let one : sum_by weight (x ∷ []) ≡ weight x = omega arith in whole ∙ ap (λ (n : ℕ). sum_by weight xs + n) one)

-- of a list that is made of another
pub sum-map-by : {X Y : Type 0} (f : Y → ℕ) (g : X → Y) (xs : List X) → sum_by f (map g xs) ≡ sum_by (λ x. f (g x)) xs
sum-map-by f g [] = refl
sum-map-by f g (x ∷ xs) =
    sum_by-cons f (g x) (map g xs) ∙ ap (λ (n : ℕ). f (g x) + n) (sum-map-by f g xs) ∙ sym (sum_by-cons (λ y. f (g y)) x xs)

pub sum-same : {X : Type 0} (f g : X → ℕ) (xs : List X) → ((x : X) → f x ≡ g x) → sum_by f xs ≡ sum_by g xs
sum-same f g [] same = refl
sum-same f g (x ∷ xs) same =
    sum_by-cons f x xs ∙ ap (λ (n : ℕ). n + sum_by f xs) (same x) ∙ ap (λ (n : ℕ). g x + n) (sum-same f g xs same) ∙ sym (sum_by-cons g x xs)

abbrev of_five : (sectors good bad missing contradictory : ℕ) → Totals
of_five s g b m c = record { sectors = s; good = g; bad = b; missing = m; contradictory = c }

pub totals-same : (a b : Totals) → a.sectors ≡ b.sectors → a.good ≡ b.good → a.bad ≡ b.bad → a.missing ≡ b.missing → a.contradictory ≡ b.contradictory → a ≡ b
totals-same a b s g d m c =
    ap (λ (n : ℕ). of_five n a.good a.bad a.missing a.contradictory) s
    ∙ ap (λ (n : ℕ). of_five b.sectors n a.bad a.missing a.contradictory) g
    ∙ ap (λ (n : ℕ). of_five b.sectors b.good n a.missing a.contradictory) d
    ∙ ap (λ (n : ℕ). of_five b.sectors b.good b.bad n a.contradictory) m
    ∙ ap (λ (n : ℕ). of_five b.sectors b.good b.bad b.missing n) c

abbrev of_numbers : Totals → (unread lost others whole : ℕ) → DumpTotals
of_numbers s u l o w = record { sectors = s; unread = u; lost = l; others = o; whole = w }

pub numbers-same : (a b : DumpTotals) → a.sectors ≡ b.sectors → a.unread ≡ b.unread → a.lost ≡ b.lost → a.others ≡ b.others → a.whole ≡ b.whole → a ≡ b
numbers-same a b s u l o w =
    ap (λ (t : Totals). of_numbers t a.unread a.lost a.others a.whole) s
    ∙ ap (λ (n : ℕ). of_numbers b.sectors n a.lost a.others a.whole) u
    ∙ ap (λ (n : ℕ). of_numbers b.sectors b.unread n a.others a.whole) l
    ∙ ap (λ (n : ℕ). of_numbers b.sectors b.unread b.lost n a.whole) o
    ∙ ap (λ (n : ℕ). of_numbers b.sectors b.unread b.lost b.others n) w

module _ (disk : TalliedDisk) (passed : List (Option Passed)) (before : List TrackId) (track : TrackId) where
  abbrev more : List TrackId
  more = before ++ track ∷ []

  abbrev tally : TrackTally
  tally = tally_of disk track

  sectors-more : sectors_in disk more ≡ sum_of (sectors_in disk before) tally.sectors
  sectors-more =
      totals-same (sectors_in disk more) (sum_of (sectors_in disk before) tally.sectors)
      (sum-push (λ (t : TrackId). (tally_of disk t).sectors.sectors) before track)
      (sum-push (λ (t : TrackId). (tally_of disk t).sectors.good) before track)
      (sum-push (λ (t : TrackId). (tally_of disk t).sectors.bad) before track)
      (sum-push (λ (t : TrackId). (tally_of disk t).sectors.missing) before track)
      (sum-push (λ (t : TrackId). (tally_of disk t).sectors.contradictory) before track)

  abbrev fails : ℕ
  fails = cond (is_failed (passed_at disk passed track)) 1 0

  failed-more : failed_in disk passed more ≡ failed_in disk passed before + fails
  failed-more = sum-push (λ (t : TrackId). cond (is_failed (passed_at disk passed t)) 1 0) before track

  -- of a track of the format
  pub own-more : (old new : DumpTotals) → old ≡ own_numbers disk passed before → new.sectors ≡ sum_of old.sectors tally.sectors
      → new.unread ≡ old.unread + cond (is_some (passed_at disk passed track)) 1 0 → new.lost ≡ old.lost + fails
      → new.others ≡ old.others + tally.others → new.whole ≡ old.whole + tally.whole → new ≡ own_numbers disk passed more
  own-more old new is s u l o w =
      numbers-same new (own_numbers disk passed more)
      (s ∙ ap (λ (t : DumpTotals). sum_of t.sectors tally.sectors) is ∙ sym sectors-more)
      (u ∙ ap (λ (t : DumpTotals). t.unread + cond (is_some (passed_at disk passed track)) 1 0) is
      ∙ sym (sum-push (λ (t : TrackId). cond (is_some (passed_at disk passed t)) 1 0) before track))
      (l ∙ ap (λ (t : DumpTotals). t.lost + fails) is ∙ sym failed-more)
      (o ∙ ap (λ (t : DumpTotals). t.others + tally.others) is ∙ sym (sum-push (λ (t : TrackId). (tally_of disk t).others) before track))
      (w ∙ ap (λ (t : DumpTotals). t.whole + tally.whole) is ∙ sym (sum-push (λ (t : TrackId). (tally_of disk t).whole) before track))

  add-on : (a b c : ℕ) → (a + b) + c ≡ a + (b + c)
  add-on a b c = omega arith

  -- of one beside them
  pub beside-more : (own old new : DumpTotals) → old ≡ with_beside disk passed before own → new.sectors ≡ old.sectors
      → new.unread ≡ old.unread + length (passed_beside 0 (passed_at disk passed track)) → new.lost ≡ old.lost + fails
      → new.others ≡ old.others + tally.others → new.whole ≡ old.whole + tally.whole → new ≡ with_beside disk passed more own
  beside-more own old new is s u l o w =
      numbers-same new (with_beside disk passed more own)
      (s ∙ ap (λ (t : DumpTotals). t.sectors) is)
      (u ∙ ap (λ (t : DumpTotals). t.unread + length (passed_beside 0 (passed_at disk passed track))) is
      ∙ add-on own.unread _ _
      ∙ ap (λ (n : ℕ). own.unread + n) (sym (sum-push (λ (t : TrackId). length (passed_beside 0 (passed_at disk passed t))) before track)))
      (l ∙ ap (λ (t : DumpTotals). t.lost + fails) is ∙ add-on own.lost _ _ ∙ ap (λ (n : ℕ). own.lost + n) (sym failed-more))
      (o ∙ ap (λ (t : DumpTotals). t.others + tally.others) is ∙ add-on own.others _ _
      ∙ ap (λ (n : ℕ). own.others + n) (sym (sum-push (λ (t : TrackId). (tally_of disk t).others) before track)))
      (w ∙ ap (λ (t : DumpTotals). t.whole + tally.whole) is ∙ add-on own.whole _ _
      ∙ ap (λ (n : ℕ). own.whole + n) (sym (sum-push (λ (t : TrackId). (tally_of disk t).whole) before track)))

-- no more than of so many tracks is no more than of more
pub few-up : (n m : ℕ) (totals : DumpTotals) → n ≤ m → AreFewNumbers n totals → AreFewNumbers m totals
few-up n m totals more few = record {
  sum = few.sum;
  sectors = (let x = few.sectors in omega (arith, x, more));
  unread = (let x = few.unread in omega (arith, x, more));
  lost = (let x = few.lost in omega (arith, x, more));
  others = (let x = few.others in omega (arith, x, more));
  whole = (let x = few.whole in omega (arith, x, more));
}

-- the numbers of no track
pub none-own : (disk : TalliedDisk) (passed : List (Option Passed)) (sectors : Totals) → sectors ≡ no_totals
    → record { sectors = sectors; unread = 0; lost = 0; others = 0; whole = 0 } ≡ own_numbers disk passed []
none-own disk passed sectors none = ap (λ (s : Totals). of_numbers s 0 0 0 0) none

pub none-few : (sectors : Totals) → sectors ≡ no_totals → AreFewNumbers 0 (record { sectors = sectors; unread = 0; lost = 0; others = 0; whole = 0 })
none-few sectors none =
    subst (λ (s : Totals). AreFewNumbers 0 (of_numbers s 0 0 0 0)) (sym none)
    (record { sum = refl; sectors = omega arith; unread = omega arith; lost = omega arith; others = omega arith; whole = omega arith })

pub none-beside : (disk : TalliedDisk) (passed : List (Option Passed)) (own : DumpTotals) → own ≡ with_beside disk passed [] own
none-beside disk passed own = numbers-same own (with_beside disk passed [] own) refl (add-none own.unread) (add-none own.lost) (add-none own.others) (add-none own.whole)
  where
    add-none : (n : ℕ) → n ≡ n + 0
    add-none n = omega arith

-- a track that is none of the format's is beside them
pub among-next : (format : Format) (before : List TrackId) (track : TrackId) → is_track format track ≡ false → beside_among format (before ++ track ∷ []) ≡ beside_among format before ++ track ∷ []
among-next format before track none =
    filter-append (λ (t : TrackId). not (is_track format t)) before (track ∷ [])
    ∙ ap (λ (b : Bool). beside_among format before ++ cond (not b) (track ∷ []) []) none

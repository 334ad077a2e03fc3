-- The means of the files that are read, and how many files are of each kind.
use Rattle.std.proofs.Common.{◌≡◌, ◌<◌, ◌≤◌, ◌+◌, ◌*◌, ◌/◌, ◌^◌, ◌++◌, ℕ, List, [], ◌∷◌, length, take, get_or, sym, ap, subst, ◌∙◌, arith, append-nil}
use Rattle.std.specs.Prelude.{All}
use Rattle.std.proofs.lemmas.List.{take_more}
use Rattle.std.proofs.lemmas.List.Elements.{All-get_or, All-push, filter_map-append}
use Rattle.std.proofs.lemmas.List.Sorted.{All-permutation}
use Rattle.std.proofs.lemmas.Option.{get_or_from_slice_get, slice_get_within}
use Rattle.std.proofs.lemmas.Nat.{le-div}
use Rattle.std.proofs.Math.Nat.{div-le_self}
use Rattle.dump_turns.specs.Files.{mean_in, means_in}
use Rattle.dump_turns.specs.Spreads.{IsBoundedSpread, IsSpread}
use Rattle.dump_turns.specs.Turns.{IsBoundedTurns, mean_of}
use Rattle.dump_turns.specs.declared.found.FileTurns.{FileTurns}
use Rattle.dump_turns.specs.declared.found.Found.{Found}
use Rattle.dump_turns.specs.declared.found.Found.TheVariants.{PassedOver, Read}
use Rattle.dump_turns.specs.declared.spread.Spread.{Spread}
use Rattle.dump_turns.specs.inside.Told.{IsBoundedFound}

pub record IsSmallMean (mean : ℕ) : Type 0 where
  pub some : 0 < mean
  pub few : mean < 2 ^ 39

pub small-mean : (t : FileTurns) → IsBoundedTurns t → IsSmallMean (mean_of t)
small-mean t b = record {
  some = (let one : 1 * t.turns ≤ t.ticks = omega (arith, b.each) in let least = le-div 1 t.ticks t.turns b.some_turn one in omega (arith, least));
  few = (let most = div-le_self t.ticks t.turns in let below = b.few_ticks in omega (arith, most, below));
}

-- that of a file that is read
pub mean-small : (founds : List Found) (n : ℕ) (d : Found) → n < length founds → All IsBoundedFound founds → (t : FileTurns) → get_or founds n d ≡ Read t → (mean : ℕ) → mean ≡ mean_of t
    → IsSmallMean mean
mean-small founds n d below bounded t is mean same =
    subst IsSmallMean (sym same) (small-mean t (subst IsBoundedFound is (All-get_or IsBoundedFound founds n d below bounded)))

-- one more
pub small-more : (means : List ℕ) (mean : ℕ) → All IsSmallMean means → IsSmallMean mean → All IsSmallMean (means ++ mean ∷ [])
small-more means mean before here = All-push IsSmallMean means mean before here

-- so the one in the middle is
pub small-spread : (means : List ℕ) (spread : Spread) → All IsSmallMean means → IsSpread means spread → IsBoundedSpread spread
small-spread means spread small is =
    let middle : ℕ = length means / 2 in
    let all = All-permutation IsSmallMean means is.sorted is.same small in
    let low = slice_get_within is.sorted middle spread.median is.median in
    let here = subst IsSmallMean (get_or_from_slice_get is.sorted middle spread.median 0 is.median) (All-get_or IsSmallMean is.sorted middle 0 low all) in
    record { some = here.some; few = here.few }

-- those of one file more
module _ (founds : List Found) (n : ℕ) (d : Found) (below : n < length founds) where
  means-next : means_in (take (n + 1) founds) ≡ means_in (take n founds) ++ means_in (get_or founds n d ∷ [])
  means-next = ap means_in (take_more founds n d below) ∙ filter_map-append mean_in (take n founds) (get_or founds n d ∷ [])

  pub means-read : (t : FileTurns) → get_or founds n d ≡ Read t → means_in (take (n + 1) founds) ≡ means_in (take n founds) ++ mean_of t ∷ []
  means-read t is = means-next ∙ ap (λ (f : Found). means_in (take n founds) ++ means_in (f ∷ [])) is

  pub means-passed : (why : _) → get_or founds n d ≡ PassedOver why → means_in (take (n + 1) founds) ≡ means_in (take n founds)
  means-passed why is = means-next ∙ ap (λ (f : Found). means_in (take n founds) ++ means_in (f ∷ [])) is ∙ append-nil (means_in (take n founds))

-- The rates and the sizes of sectors, one by one.
use Rattle.std.specs.Prelude.{◌≡◌, ◌*◌, ℕ, Bool, true, false, Contains, List, [], ◌∷◌, ◌++◌, get_or, refl}
use Rattle.std.proofs.Common.{arith, subst, sym}
use Rattle.std.proofs.lemmas.List.Elements.{All-contains, All-from_recursion}
use Rattle.ibm_disks.specs.Numbers.{size_of}
use Rattle.ibm_disks.specs.GapPlans.{density_of, track_bytes}
use Rattle.ibm_disks.specs.Words.{density_word, rate_word}
use Rattle.ibm_disks.specs.declared.rate.Density.{Density}
use Rattle.ibm_disks.specs.declared.rate.Density.TheVariants.{Single as SingleDensity, Double as DoubleDensity}
use Rattle.ibm_disks.specs.declared.rate.Rate.{Rate}
use Rattle.ibm_disks.specs.declared.rate.Rate.TheVariants.{Double, High, HighAt360, Single, SingleAt360}
use Rattle.ibm_disks.specs.declared.sector_size.SectorSize.{SectorSize}
use Rattle.ibm_disks.specs.declared.sector_size.SectorSize.TheVariants.{Bytes128, Bytes256, Bytes512, Bytes1024}
use Rattle.ibm_disks.specs.declared.track_numbers.LeadIn.{LeadIn}
use Rattle.sector_images.specs.Formats.{cell_of}
use Rattle.law_stated_tables.specs.Speeds.{IsCell, IsTurn, kilobits}
use Rattle.law_stated_tables.specs.Words.{FitTrack, IsGap, StatedRate, bytes_of_turn, recording, stated_rates}
use Rattle.law_stated_tables.proofs.Tests.{cell-is, turn-is}

-- where each stands among the stated ones
abbrev number_of : Rate → ℕ
number_of Double = 0
number_of High = 1
number_of HighAt360 = 2
number_of Single = 3
number_of SingleAt360 = 4

abbrev pub stated_rate : Rate → StatedRate
stated_rate rate = get_or stated_rates (number_of rate) (record { word = []; kilobits = 0; turns = 0; is_mfm = true })

pub is_listed : (rate : Rate) → Contains stated_rates (stated_rate rate)
is_listed Double = (0, omega arith, refl)
is_listed High = (1, omega arith, refl)
is_listed HighAt360 = (2, omega arith, refl)
is_listed Single = (3, omega arith, refl)
is_listed SingleAt360 = (4, omega arith, refl)

abbrev HasRate : StatedRate → Type 0
HasRate stated = (rate : Rate) × (stated_rate rate ≡ stated)

pub has_rate : (stated : StatedRate) → Contains stated_rates stated → HasRate stated
has_rate stated listed =
    All-contains HasRate stated_rates stated
    (All-from_recursion HasRate stated_rates ((Double, refl), ((High, refl), ((HighAt360, refl), ((Single, refl), ((SingleAt360, refl), tt))))))
    listed

abbrev HasSize : ℕ → Type 0
HasSize bytes = (size : SectorSize) × (size_of size ≡ bytes)

pub has_size : (bytes : ℕ) → Contains (128 ∷ 256 ∷ 512 ∷ 1024 ∷ []) bytes → HasSize bytes
has_size bytes listed =
    All-contains HasSize (128 ∷ 256 ∷ 512 ∷ 1024 ∷ []) bytes
    (All-from_recursion HasSize (128 ∷ 256 ∷ 512 ∷ 1024 ∷ []) ((Bytes128, refl), ((Bytes256, refl), ((Bytes512, refl), ((Bytes1024, refl), tt)))))
    listed

pub size_listed : (size : SectorSize) → Contains (128 ∷ 256 ∷ 512 ∷ 1024 ∷ []) (size_of size)
size_listed Bytes128 = (0, omega arith, refl)
size_listed Bytes256 = (1, omega arith, refl)
size_listed Bytes512 = (2, omega arith, refl)
size_listed Bytes1024 = (3, omega arith, refl)

-- how a word begins
pub begins : (rate : Rate) (rest : List ℕ) → (stated_rate rate).word ++ rest ≡ density_word rate ++ 45 ∷ (rate_word rate ++ 45 ∷ rest)
begins Double rest = refl
begins High rest = refl
begins HighAt360 rest = refl
begins Single rest = refl
begins SingleAt360 rest = refl

-- the bytes of a turn are those of a track, which has this density
pub bytes_are : (rate : Rate) → bytes_of_turn (stated_rate rate) ≡ track_bytes rate
bytes_are Double = refl
bytes_are High = refl
bytes_are HighAt360 = refl
bytes_are Single = refl
bytes_are SingleAt360 = refl

abbrev pub is_double : Density → Bool
is_double DoubleDensity = true
is_double SingleDensity = false

pub is_mfm : (rate : Rate) → (stated_rate rate).is_mfm ≡ is_double (density_of rate)
is_mfm Double = refl
is_mfm High = refl
is_mfm HighAt360 = refl
is_mfm Single = refl
is_mfm SingleAt360 = refl

-- the cell and the ring of a rate
pub cell_is : (rate : Rate) → IsCell (2 * 1000 * (stated_rate rate).kilobits) 1 (cell_of rate)
cell_is Double = cell-is _ _ _ refl
cell_is High = cell-is _ _ _ refl
cell_is HighAt360 = cell-is _ _ _ refl
cell_is Single = cell-is _ _ _ refl
cell_is SingleAt360 = cell-is _ _ _ refl

pub ring_is : (rate : Rate) → IsTurn (kilobits (stated_rate rate).kilobits (stated_rate rate).turns) 0 16 (16 * track_bytes rate)
ring_is Double = turn-is _ _ _ _ refl
ring_is High = turn-is _ _ _ _ refl
ring_is HighAt360 = turn-is _ _ _ _ refl
ring_is Single = turn-is _ _ _ _ refl
ring_is SingleAt360 = turn-is _ _ _ _ refl

-- so sectors fit the track of the one where they fit that of the other
pub fit_of : (rate : Rate) (sectors bytes : ℕ) → FitTrack (stated_rate rate).is_mfm sectors bytes (bytes_of_turn (stated_rate rate))
    → FitTrack (is_double (density_of rate)) sectors bytes (track_bytes rate)
fit_of rate sectors bytes fit =
    subst (λ (mfm : Bool). FitTrack mfm sectors bytes (track_bytes rate)) (is_mfm rate)
    (subst (FitTrack (stated_rate rate).is_mfm sectors bytes) (bytes_are rate) fit)

pub of_fit : (rate : Rate) (sectors bytes : ℕ) → FitTrack (is_double (density_of rate)) sectors bytes (track_bytes rate)
    → FitTrack (stated_rate rate).is_mfm sectors bytes (bytes_of_turn (stated_rate rate))
of_fit rate sectors bytes fit =
    subst (λ (mfm : Bool). FitTrack mfm sectors bytes (bytes_of_turn (stated_rate rate))) (sym (is_mfm rate))
    (subst (FitTrack (is_double (density_of rate)) sectors bytes) (sym (bytes_are rate)) fit)

-- and the recording and the gap of the one are those of the other
pub recording_is : (rate : Rate) → density_of rate ≡ recording (stated_rate rate).is_mfm
recording_is Double = refl
recording_is High = refl
recording_is HighAt360 = refl
recording_is Single = refl
recording_is SingleAt360 = refl

pub of_gap : (rate : Rate) (sectors bytes : ℕ) (lead_in : LeadIn) (gap : ℕ) → IsGap (is_double (density_of rate)) sectors bytes (track_bytes rate) lead_in gap
    → IsGap (stated_rate rate).is_mfm sectors bytes (bytes_of_turn (stated_rate rate)) lead_in gap
of_gap rate sectors bytes lead_in gap is =
    subst (λ (mfm : Bool). IsGap mfm sectors bytes (bytes_of_turn (stated_rate rate)) lead_in gap) (sym (is_mfm rate))
    (subst (λ (track : ℕ). IsGap (is_double (density_of rate)) sectors bytes track lead_in gap) (sym (bytes_are rate)) is)

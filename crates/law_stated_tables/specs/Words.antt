-- The words that write disks by their numbers, mfm-RATE-CxHxSxB and fm-RATE-CxHxSxB with @F behind
-- them or not, and the numbers that there are.
use Rattle.std.specs.Prelude.{◌≡◌, ◌⊎◌, ◌<◌, ◌≤◌, ℕ, ◌+◌, ◌-◌, ◌*◌, ◌/◌, Bool, true, false}
use Rattle.std.specs.Prelude.{Contains, List, [], ◌∷◌, ◌++◌, codes, decimal}
use Rattle.ibm_disks.specs.declared.rate.Density.{Density}
use Rattle.ibm_disks.specs.declared.rate.Density.TheVariants.{Single as SingleDensity}
use Rattle.ibm_disks.specs.declared.rate.Density.TheVariants.{Double as DoubleDensity}
use Rattle.ibm_disks.specs.declared.track_numbers.LeadIn.{LeadIn}
use Rattle.ibm_disks.specs.declared.track_numbers.LeadIn.TheVariants.{Indexed, Bare}
use Rattle.law_stated_tables.specs.Table.{StatedFormat, stated}

-- How a word begins, the data rate of such a disk and how fast its drive turns,
-- and whether it has MFM, or FM.
pub record StatedRate : Type 0 where
  pub word : List ℕ
  pub kilobits : ℕ
  pub turns : ℕ
  pub is_mfm : Bool

abbrev pub stated_rates : List StatedRate
stated_rates =
    record { word = codes "mfm-dd-"; kilobits = 250; turns = 300; is_mfm = true }
    ∷ record { word = codes "mfm-hd-"; kilobits = 500; turns = 300; is_mfm = true }
    ∷ record { word = codes "mfm-hd360-"; kilobits = 500; turns = 360; is_mfm = true }
    ∷ record { word = codes "fm-sd-"; kilobits = 125; turns = 300; is_mfm = false }
    ∷ record { word = codes "fm-sd8-"; kilobits = 250; turns = 360; is_mfm = false } ∷ []

-- the whole bytes of 16 cells that pass in a turn, where each bit has two cells
abbrev pub bytes_of_turn : StatedRate → ℕ
bytes_of_turn rate = 60 * (2 * 1000 * rate.kilobits) / (16 * rate.turns)

-- the rate, the cylinders, the heads, the sectors of a track, the bytes of a sector,
-- and the number of the first one
pub record StatedNumbers : Type 0 where
  pub rate : StatedRate
  pub cylinders : ℕ
  pub heads : ℕ
  pub sectors : ℕ
  pub bytes : ℕ
  pub first : ℕ

-- The sectors fit the track. In MFM there are ten bytes before the first one, and 53 around the
-- bytes of each with a byte of gap at least, and a byte behind the last. In FM there are 73 and 33,
-- and seven eighths of the rest have four bytes of gap at least for each sector.
abbrev pub FitTrack : (is_mfm : Bool) → (sectors bytes track : ℕ) → Type 0
FitTrack true sectors bytes track = 10 + sectors * (53 + bytes + 1) + 1 ≤ track
FitTrack false sectors bytes track =
    7 * (73 + sectors * (33 + bytes)) + 8 * (4 * sectors) ≤ 7 * track

-- A gap is the widest of at most 80 bytes, so many of which are no more than what is left for them.
pub record IsWidest (many left gap : ℕ) : Type 0 where
  pub most : gap ≤ 80
  pub within : many * gap ≤ left
  pub widest : (gap ≡ 80) ⊎ (left < many * (gap + 1))

-- what so many sectors leave of a track, with so many bytes before the
-- first one and around those of each
abbrev pub rest : (before around sectors bytes track : ℕ) → ℕ
rest before around sectors bytes track = track - (before + sectors * (around + bytes))

-- The gap behind each sector, with an index mark before the first one or not. It leaves an eighth
-- of the rest to the end of the track, and in MFM has ten bytes at least, in FM four. Where in MFM
-- there is no room for such a gap, there is no index mark and fewer zeros, and the end of the track
-- has as many bytes as each gap.
abbrev pub IsGap : (is_mfm : Bool) → (sectors bytes track : ℕ) → LeadIn → (gap : ℕ) → Type 0
IsGap true sectors bytes track lead_in gap =
    ((lead_in ≡ Indexed) × IsWidest (8 * sectors) (7 * rest 146 62 sectors bytes track) gap
    × (10 ≤ gap))
    ⊎ ((lead_in ≡ Bare) × IsWidest (sectors + 1) (rest 10 53 sectors bytes track) gap × (1 ≤ gap)
    × (7 * rest 146 62 sectors bytes track < 8 * sectors * 10))
IsGap false sectors bytes track lead_in gap =
    (lead_in ≡ Indexed) × IsWidest (8 * sectors) (7 * rest 73 33 sectors bytes track) gap
    × (4 ≤ gap)

-- MFM, or FM
abbrev pub recording : (is_mfm : Bool) → Density
recording true = DoubleDensity
recording false = SingleDensity

-- there is a disk of these numbers
pub record AreNumbers (n : StatedNumbers) : Type 0 where
  pub rate : Contains stated_rates n.rate
  pub some_cylinders : 1 ≤ n.cylinders
  pub most_cylinders : n.cylinders ≤ 99
  pub some_heads : 1 ≤ n.heads
  pub most_heads : n.heads ≤ 2
  pub some_sectors : 1 ≤ n.sectors
  pub most_sectors : n.sectors ≤ 32
  pub bytes : Contains (128 ∷ 256 ∷ 512 ∷ 1024 ∷ []) n.bytes
  pub last : n.first + n.sectors ≤ 256
  pub fit : FitTrack n.rate.is_mfm n.sectors n.bytes (bytes_of_turn n.rate)

-- how they are written but for the number of the first sector, and with this behind them
abbrev pub numbers_text : StatedNumbers → List ℕ → List ℕ
numbers_text n behind =
    n.rate.word
    ++ (decimal n.cylinders
    ++ (codes "x"
    ++ (decimal n.heads
    ++ (codes "x" ++ (decimal n.sectors ++ (codes "x" ++ (decimal n.bytes ++ behind)))))))

-- there is a disk of these numbers, and the word writes them: that of the
-- first sector too, or else it is 1
pub record WritesNumbers (word : List ℕ) (n : StatedNumbers) : Type 0 where
  pub are : AreNumbers n
  pub word_is : (word ≡ numbers_text n (codes "@" ++ decimal n.first))
      ⊎ ((word ≡ numbers_text n []) × (n.first ≡ 1))

-- the format that they make: rings of whole bytes, and the sectors' bytes are the image
abbrev pub stated_by : List ℕ → StatedNumbers → StatedFormat
stated_by word n =
    stated word n.cylinders n.heads n.sectors n.bytes n.first n.rate.kilobits n.rate.turns
    (n.cylinders * n.heads * n.sectors * n.bytes)

-- The disks that have names: their recording, what stands before the first sector, the bytes before
-- it and around those of each, of the gap behind each, and to the end of the track.
pub record StatedGaps : Type 0 where
  pub word : List ℕ
  pub is_mfm : Bool
  pub lead_in : LeadIn
  pub before : ℕ
  pub around : ℕ
  pub gap : ℕ
  pub end : ℕ

abbrev mfm_gaps : List ℕ → (gap end : ℕ) → StatedGaps
mfm_gaps word gap end =
    record { word = word; is_mfm = true; lead_in = Indexed; before = 146; around = 62; gap = gap; end = end }

abbrev acorn_gaps : List ℕ → StatedGaps
acorn_gaps word =
    record { word = word; is_mfm = false; lead_in = Bare; before = 16; around = 33; gap = 21; end = 9 }

abbrev pub stated_gaps : List StatedGaps
stated_gaps =
    mfm_gaps (codes "ibm-160") 80 872
    ∷ mfm_gaps (codes "ibm-180") 80 218
    ∷ mfm_gaps (codes "ibm-320") 80 872
    ∷ mfm_gaps (codes "ibm-1200") 84 400
    ∷ mfm_gaps (codes "atari-st-800") 30 64
    ∷ mfm_gaps (codes "cpc-data") 82 200
    ∷ mfm_gaps (codes "cpc-system") 82 200
    ∷ acorn_gaps (codes "acorn-dfs-40")
    ∷ acorn_gaps (codes "acorn-dfs-80") ∷ []

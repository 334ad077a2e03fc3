-- Where the sectors of a track begin in its ring, once more.
use Rattle.std.specs.Prelude.{ℕ, ◌+◌, Bool, true, false, List, [], ◌∷◌, codes}
use Rattle.ibm_disks.specs.declared.track_numbers.LeadIn.{LeadIn}
use Rattle.ibm_disks.specs.declared.track_numbers.LeadIn.TheVariants.{Indexed, Bare}

-- Of the format of a word, on the cylinders from a first one to before a last one: the place of the
-- first sector, and the cells from one to the next.
pub record StatedPlaces : Type 0 where
  pub word : List ℕ
  pub first : ℕ
  pub end : ℕ
  pub begin : ℕ
  pub pitch : ℕ

abbrev places : List ℕ → (first end begin pitch : ℕ) → StatedPlaces
places word first end begin pitch =
    record { word = word; first = first; end = end; begin = begin; pitch = pitch }

-- the first cylinder and the one behind the last, the first place, and
-- the cells from one to the next
abbrev pub stated_places : List StatedPlaces
stated_places =
    places (codes "ibm-3740") 0 77 1264 3008
    ∷ places (codes "ibm-360") 0 40 2528 10464
    ∷ places (codes "ibm-720") 0 80 2528 10464
    ∷ places (codes "ibm-1440") 0 80 2528 10912
    ∷ places (codes "amiga") 0 80 32 8704
    ∷ places (codes "amiga-hd") 0 80 32 8704
    ∷ places (codes "c1541") 0 17 30 2928
    ∷ places (codes "c1541") 17 24 30 3000
    ∷ places (codes "c1541") 24 30 30 2960
    ∷ places (codes "c1541") 30 35 30 2936
    ∷ places (codes "c1541-40") 0 17 30 2928
    ∷ places (codes "c1541-40") 17 24 30 3000
    ∷ places (codes "c1541-40") 24 30 30 2960
    ∷ places (codes "c1541-40") 30 40 30 2936
    ∷ places (codes "c1571") 0 17 30 2928
    ∷ places (codes "c1571") 17 24 30 3000
    ∷ places (codes "c1571") 24 30 30 2960
    ∷ places (codes "c1571") 30 35 30 2936
    ∷ places (codes "apple-do") 0 35 330 3104
    ∷ places (codes "apple-po") 0 35 330 3104
    ∷ places (codes "apple-dos33") 0 35 330 3104
    ∷ places (codes "apple-prodos") 0 35 330 3104
    ∷ places (codes "mac-400") 0 80 160 5988
    ∷ places (codes "mac-800") 0 80 160 5988
    ∷ places (codes "c8050") 0 39 30 3176
    ∷ places (codes "c8050") 39 53 30 3168
    ∷ places (codes "c8050") 53 64 30 3200
    ∷ places (codes "c8050") 64 77 30 3256
    ∷ places (codes "c8250") 0 39 30 3176
    ∷ places (codes "c8250") 39 53 30 3168
    ∷ places (codes "c8250") 53 64 30 3200
    ∷ places (codes "c8250") 64 77 30 3256
    ∷ places (codes "c1581") 0 80 2528 9664 ∷ []

-- Of a disk of IBM's recordings by its numbers: the bytes before the first sector's header,
-- and those from one to the next beside the bytes of a sector and the gap behind it. In MFM a
-- gap of 80, 12 zeros, the mark and a gap of 50, or a gap of 10; 12 zeros before each header,
-- or 3; its 10 bytes, a gap of 22, 12 zeros and 6 bytes of the data. In FM 40, 6, the mark and
-- 26, or 16; 6 zeros; 7, 11, 6 and 3.
abbrev pub bytes_before : (is_mfm : Bool) → LeadIn → ℕ
bytes_before true Indexed = 80 + 12 + 4 + 50 + 12
bytes_before true Bare = 10 + 3
bytes_before false Indexed = 40 + 6 + 1 + 26 + 6
bytes_before false Bare = 16 + 6

abbrev pub bytes_around : (is_mfm : Bool) → LeadIn → ℕ
bytes_around true Indexed = 12 + 10 + 22 + 12 + 6
bytes_around true Bare = 3 + 10 + 22 + 12 + 6
bytes_around false lead_in = 6 + 7 + 11 + 6 + 3

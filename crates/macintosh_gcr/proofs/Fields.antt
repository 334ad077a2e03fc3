-- A header's name and what data hold, by the values that are read.
use Rattle.std.proofs.Common.{◌≡◌, ℕ, zero, suc, ◌+◌, ◌*◌, Bool, List, [], ◌∷◌, length, take, drop, get_or, ap, sym, subst, ◌∙◌, arith, refl, length-drop, Option, Some, None, IfNone}
use Rattle.std.proofs.lemmas.List.{ext_get_or, length-take, take-append-drop}
use Rattle.check_values.specs.Sums.{xor}
use Rattle.apple_nibbles.specs.Nibbles.{disk_byte, nibble}
use Rattle.macintosh_gcr.specs.Coding.{AreSixBits, IsCoded}
use Rattle.macintosh_gcr.specs.Sectors.{Hold, Names, NamesValues, NibblesAt, checked, named_values}
use Rattle.flux_base.specs.declared.header_name.HeaderName.{HeaderName}
use Rattle.flux_base.specs.declared.header_name.HeaderName.TheVariants.{Address, TrackSector, TrackSectorSide}
use Rattle.macintosh_gcr.specs.lemmas.RowLaws.{values-fit}
use Rattle.macintosh_gcr.specs.lemmas.Values.{one_nibble}

-- what holds whether or not there is a value
pub in_any_case : {X P : Type 0} (found : Option X) → P → IfNone found P
in_any_case None p = p
in_any_case (Some x) p = tt

-- five nibbles one after another
pub five-stand : (cells : List Bool) (a b c d e : ℕ) → disk_byte cells 24 ≡ nibble a → disk_byte cells 32 ≡ nibble b → disk_byte cells 40 ≡ nibble c
    → disk_byte cells 48 ≡ nibble d → disk_byte cells 56 ≡ nibble e → NibblesAt cells 24 (a ∷ b ∷ c ∷ d ∷ e ∷ [])
five-stand cells a b c d e first second third fourth fifth zero within = first
five-stand cells a b c d e first second third fourth fifth (suc zero) within = second
five-stand cells a b c d e first second third fourth fifth (suc (suc zero)) within = third
five-stand cells a b c d e first second third fourth fifth (suc (suc (suc zero))) within = fourth
five-stand cells a b c d e first second third fourth fifth (suc (suc (suc (suc zero)))) within = fifth
five-stand cells a b c d e first second third fourth fifth (suc (suc (suc (suc (suc k))))) within = absurd (omega (arith, within))

-- at one place stand nibbles of one list of so many values
pub one_list : (cells : List Bool) (place : ℕ) (xs ys : List ℕ) → length xs ≡ length ys → AreSixBits xs → AreSixBits ys → NibblesAt cells place xs
    → NibblesAt cells place ys → xs ≡ ys
one_list cells place xs ys same fit also first second =
    ext_get_or 0 xs ys same
    (λ k below.
    one_nibble (disk_byte cells (place + 8 * k)) (disk_byte cells (place + 8 * k)) xs ys k fit also refl (first k below)
    (second k (omega (arith, same, below))))

-- a header that has a name has five values, the last of which is the check value of the others
pub named-list : (cells : List Bool) (name : HeaderName) → Names cells name
    → (values : List ℕ) × (length values ≡ 5) × AreSixBits values × NibblesAt cells 24 values
    × (get_or values 4 0 ≡ xor (get_or values 0 0 ∷ get_or values 1 0 ∷ get_or values 2 0 ∷ get_or values 3 0 ∷ []))
named-list cells (Address cylinder head sector size) names = absurd names
named-list cells (TrackSector track sector) names = absurd names
named-list cells (TrackSectorSide low sector side format) names = (
  checked (named_values low side sector format),
  refl,
  values-fit low side sector format names.low_fits names.side_fits names.sector_fits names.format_fits,
  names.values,
  refl,
)

module _ (cells : List Bool) (values : List ℕ) (size : length values ≡ 5) (fit : AreSixBits values) (stand : NibblesAt cells 24 values) where
  -- these are they
  pub check-named : (name : HeaderName) → Names cells name
      → get_or values 4 0 ≡ xor (get_or values 0 0 ∷ get_or values 1 0 ∷ get_or values 2 0 ∷ get_or values 3 0 ∷ [])
  check-named name names =
      let there = named-list cells name names in
      let same = one_list cells 24 there.0 values (there.1 ∙ sym size) there.2 fit there.3 stand in
      subst (λ (some : List ℕ). get_or some 4 0 ≡ xor (get_or some 0 0 ∷ get_or some 1 0 ∷ get_or some 2 0 ∷ get_or some 3 0 ∷ [])) same there.4

  -- and a header that has such values has a name
  pub names-so : get_or values 4 0 ≡ xor (get_or values 0 0 ∷ get_or values 1 0 ∷ get_or values 2 0 ∷ get_or values 3 0 ∷ [])
      → NamesValues (get_or values 0 0) (get_or values 2 0) (get_or values 3 0) cells (get_or values 1 0)
  names-so check =
      let low = get_or values 0 0 in
      let s = get_or values 1 0 in
      let side = get_or values 2 0 in
      let format = get_or values 3 0 in
      record {
        format_fits = fit 3;
        low_fits = fit 0;
        side_fits = fit 2;
        sector_fits = fit 1;
        values = five-stand cells low s side format (xor (named_values low side s format))
            (stand 0 (omega (arith, size))) (stand 1 (omega (arith, size))) (stand 2 (omega (arith, size)))
            (stand 3 (omega (arith, size))) (stand 4 (omega (arith, size)) ∙ ap nibble check);
      }

-- data that hold what was read
pub holds-so : (cells : List Bool) (sync : ℕ) (values plain : List ℕ) → disk_byte cells (sync + 16) ≡ 0xAD
    → disk_byte cells (sync + 24) ≡ disk_byte cells 32 → IsCoded values plain → NibblesAt cells (sync + 32) values → Hold cells sync (drop 12 plain)
holds-so cells sync values plain opens of_sector coded stand = record {
  opens = opens;
  of_sector = of_sector;
  tags = take 12 plain;
  coded_values = values;
  tags_size = omega (arith, length-take 12 plain, coded.size);
  size = omega (arith, length-drop 12 plain, coded.size);
  coded = subst (IsCoded values) (sym (take-append-drop 12 plain)) coded;
  stand = stand;
}

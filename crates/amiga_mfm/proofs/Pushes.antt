-- Halves of longs, written one after another.
use Rattle.std.proofs.Common.{◌≡◌, ℕ, ◌+◌, ◌≤◌, List, [], ◌∷◌, ◌++◌, length, map, IsErr, Ok, Err, refl, ap, sym, subst, ◌∙◌, arith}
use Rattle.std.specs.List.{flat_map}
use Rattle.std.specs.declared.result.Result.{Result}
use Rattle.std.proofs.lemmas.List.{map-append}
use Rattle.std.proofs.lemmas.List.Concat.{flat_map-append}
use Rattle.flux_base.specs.declared.outside.Memory.{Memory}
use Rattle.cell_bits.specs.State.{CellsState}
use Rattle.mfm_coding.specs.declared.symbol.Symbol.{Symbol}
use Rattle.mfm_coding.specs.declared.symbol.Symbol.TheVariants.{Data}
use Rattle.mfm_coding.specs.Coding.{bytes_as_data}
use Rattle.mfm_coding.specs.Writes.{AppendsSymbols}
use Rattle.mfm_coding.specs.lemmas.WriteLaws.{AppendsSymbols-more, AppendsSymbols-none, AppendsSymbols-stop}
use Rattle.amiga_mfm.specs.declared.half.Half.{Half}
use Rattle.amiga_mfm.specs.Layout.{halves_symbols}
use Rattle.amiga_mfm.specs.Longs.{half_bytes, half_of}
use Rattle.amiga_mfm.specs.lemmas.RowLaws.{length-halves_symbols}

-- one half of one long
abbrev pub one_half : Half → ℕ → List Symbol
one_half half long = bytes_as_data (half_bytes (half_of half long))

pub halves-each : (half : Half) (longs : List ℕ) → flat_map (one_half half) longs ≡ halves_symbols (map (half_of half) longs)
halves-each half [] = refl
halves-each half (long ∷ longs) =
    ap (λ (rest : List Symbol). one_half half long ++ rest) (halves-each half longs)
    ∙ sym (map-append Data (half_bytes (half_of half long)) (flat_map half_bytes (map (half_of half) longs)))

module _ (old mid new : CellsState) (xs ys : List ℕ) (result : Result (Unit {0}) Memory) (first : AppendsSymbols old mid (halves_symbols xs) (Ok tt)) where
  -- some halves, and then more
  pub halves-more : AppendsSymbols mid new (halves_symbols ys) result → AppendsSymbols old new (halves_symbols (xs ++ ys)) result
  halves-more then =
      subst (λ (symbols : List Symbol). AppendsSymbols old new symbols result)
      (sym (ap (map Data) (flat_map-append half_bytes xs ys) ∙ map-append Data (flat_map half_bytes xs) (flat_map half_bytes ys)))
      (AppendsSymbols-more old mid new (halves_symbols xs) (halves_symbols ys) result first then)

  -- some, and then no memory for all
  pub halves-stop : (all : List ℕ) (why : Memory) → IsErr result → AppendsSymbols mid new (halves_symbols ys) (Err why) → length xs + length ys ≤ length all
      → AppendsSymbols old new (halves_symbols all) result
  halves-stop all why failed then short =
      AppendsSymbols-stop old mid new (halves_symbols xs) (halves_symbols ys) (halves_symbols all) why result failed first then
      (omega (arith, short, length-halves_symbols xs, length-halves_symbols ys, length-halves_symbols all))

pub no-halves : (state : CellsState) → AppendsSymbols state state (halves_symbols []) (Ok tt)
no-halves state = AppendsSymbols-none state

-- Headers with all their data, and sectors by the second rule.
use Rattle.std.specs.Prelude.{◌≡◌, ℕ, ◌≤◌, Bool, List, ◌++◌, take, drop}
use Rattle.std.proofs.Common.{ap, sym, subst, ◌∙◌, arith, append_assoc, inl, inr}
use Rattle.std.proofs.lemmas.Bool.{cases_lt}
use Rattle.std.proofs.lemmas.List.{take-append-drop, take-take}
use Rattle.track_rings.specs.OwnSectors.{IsAlone, IsAloneWithin}
use Rattle.frame_law.specs.Controller.{HasHeaderData, HeaderData, START_ZEROS, SearchesFindAll, SectorStandsBy}
use Rattle.frame_law.specs.lemmas.ControllerLaws.{fewer_zeros}
use Rattle.frame_law.proofs.Searches.{all-found, found-all, found_one}

pub searches : {X : Type 0} (At : ℕ → X → Type 0) → ((place : ℕ) (x y : X) → At place x → At place y → x ≡ y) → SearchesFindAll At
searches At one = record {
  all = λ from found. (found-all At one from found, all-found At one from found);
  one = found_one At one;
}

module _ (header : List Bool → ℕ → Type 0) (data_at : List Bool → ℕ → List ℕ → Type 0)
    (one_header : (cells : List Bool) (s t : ℕ) → header cells s → header cells t → s ≡ t)
    (one_data : (cells : List Bool) (place : ℕ) (xs ys : List ℕ) → data_at cells place xs → data_at cells place ys → xs ≡ ys) where
  -- a header's data are one list
  pub one_header_data : (cells : List Bool) (place : ℕ) (found others : HeaderData) → HasHeaderData header data_at cells place found
      → HasHeaderData header data_at cells place others → found ≡ others
  one_header_data cells place found others first second =
      let here = drop place cells in
      let sector : found.0 ≡ others.0 = one_header here found.0 others.0 first.stands second.stands in
      let all = all-found (data_at here) (one_data here) 0 in
      let data_same : found.1 ≡ others.1 =
      found_one (data_at here) (one_data here) 0 found.1 others.1 (all found.1 first.all) (all others.1 second.all) in
      λ i. (sector i, data_same i)

-- what stands alone stands in all cells that begin with more of its cells
stands_longer : (zeros : ℕ) (Here : List Bool → Type 0) (cells : List Bool) (alone : IsAloneWithin zeros Here cells) (end : ℕ) → alone.end ≤ end
    → (more : List Bool) → Here (take end cells ++ more)
stands_longer most Here cells alone end long more =
    let part = take end cells in
    let front : take alone.end part ≡ take alone.end cells = take-take alone.end end cells long in
    let joined : take alone.end cells ++ (drop alone.end part ++ more) ≡ part ++ more =
    ap (λ (xs : List Bool). xs ++ (drop alone.end part ++ more)) (sym front)
    ∙ sym (append_assoc (take alone.end part) (drop alone.end part) more)
    ∙ ap (λ (xs : List Bool). xs ++ more) (take-append-drop alone.end part) in
    subst Here joined (alone.alone (drop alone.end part ++ more))

module _ (header : List Bool → ℕ → Type 0) (data_at : List Bool → ℕ → List ℕ → Type 0) (cells : List Bool) (s : ℕ) (bytes : List ℕ) where
  -- so does a header with data
  pub sector_alone : IsAlone (λ others. header others s) cells → (place : ℕ) → IsAloneWithin START_ZEROS (λ others. data_at others place bytes) cells
      → IsAloneWithin START_ZEROS (λ others. SectorStandsBy header data_at others s bytes) cells
  sector_alone first place second =
      elim (cases_lt first.end second.end) [
        | inl shorter ↦ record {
          end = second.end;
          some = second.some;
          within = second.within;
          unbroken = second.unbroken;
          alone = λ more. (
            stands_longer 8 (λ (others : List Bool). header others s) cells first second.end (omega (arith, shorter)) more,
            (place, second.alone more),
          );
        }
        | inr longer ↦ record {
          end = first.end;
          some = first.some;
          within = first.within;
          unbroken = fewer_zeros 8 START_ZEROS cells 0 first.end (omega arith) first.unbroken;
          alone = λ more. (
            first.alone more,
            (place, stands_longer START_ZEROS (λ (others : List Bool). data_at others place bytes) cells second first.end longer more),
          );
        }
      ]

-- Where a header stands with data behind it, it is among all headers that are read, and so are its data.
use Rattle.std.proofs.Common.{◌≡◌, ◌⊎◌, ◌<◌, ◌∙◌, ℕ, Bool, List, ◌∷◌, Option, Some, drop, length, ap, refl, sym, subst, inl, inr, arith}
use Rattle.std.specs.Prelude.{Contains}
use Rattle.disk_recordings.specs.Laws.{DataAreRead, NamesAreTold}
use Rattle.disk_recordings.specs.Members.{data_at}
use Rattle.flux_engine.specs.Tracks.{time_of_place}
use Rattle.frame_law.specs.Controller.{AreFound}
use Rattle.ibm_disks.specs.GapPlans.{density_of}
use Rattle.ibm_disks.specs.Numbers.{code_of}
use Rattle.ibm_disks.specs.declared.rate.Rate.{Rate}
use Rattle.ibm_disks.specs.declared.sector_size.SectorSize.{SectorSize}
use Rattle.ibm_disks.specs.declared.sector_size.SectorSize.TheVariants.{Bytes128}
use Rattle.ibm_walks.specs.Headers.{FoundName, HasSync, HoldBy, IsNameAt, IsNamed, address_of, data_of, mark_at, since_index, size_of_code}
use Rattle.ibm_walks.specs.Rates.{cells_at, format_with_one}
use Rattle.ibm_walks.specs.Walks.{AreNamesBy}
use Rattle.name_book.specs.Names.{NotedData}
use Rattle.name_book.specs.declared.name.NamedHeader.{NamedHeader}
use Rattle.name_book.specs.declared.name.SectorName.{SectorName}
use Rattle.turn_merge.specs.declared.clock.Clock.{Clock}
use Rattle.law_imd_tracks.proofs.Searches.{found_at, found_stands, is_found, same_sector_name, size_is, some_bool, some_list}
use Rattle.law_imd_tracks.specs.lemmas.Elements.{flat_has, map_has}

module _ (names : NamesAreTold) (reads : DataAreRead) (clock : Clock) (rate : Rate) (dump : ℕ) (times indexes : List ℕ) (headers : List NamedHeader) (noted : List NotedData)
    (are : AreNamesBy clock rate dump times indexes headers noted) where
  abbrev read : List Bool
  read = cells_at clock rate times indexes

  stands_at : (f : ℕ × FoundName) → Contains are.found f → IsNameAt rate dump times indexes read f.0 f.1
  stands_at f has = found_stands (IsNameAt rate dump times indexes read) 0 are.found f are.all has

  module _ (size : SectorSize) (its_name : SectorName) (code : its_name.code ≡ code_of size) (place : ℕ) (header : IsNamed rate (drop place read) (address_of its_name)) where
    abbrev Held : ℕ → List ℕ → Type 0
    Held = HoldBy rate (size_of_code its_name.code) (drop place read)

    abbrev HeldBy : Option SectorSize → ℕ → List ℕ → Type 0
    HeldBy option = HoldBy rate option (drop place read)

    size_same : size_of_code its_name.code ≡ Some size
    size_same = ap size_of_code code ∙ size_is size

    held_low : (behind : ℕ) (held : List ℕ) → Held behind held → behind < length (drop place read)
    held_low behind held here =
        let hold : HeldBy (Some size) behind held = subst (λ (o : Option SectorSize). HeldBy o behind held) size_same here in
        (reads.told (format_with_one rate size)).inside (drop place read) behind hold.bytes hold.stand

    -- it is found at its place
    met : (f : ℕ × FoundName) × Contains are.found f × (f.0 ≡ place)
    met = by (found_at are.found place)
      where
        never : ((f : ℕ × FoundName) → Contains are.found f → f.0 ≡ place → ⊥) → ⊥
        never none =
            some_list Held (length (drop place read)) held_low 0 (length (drop place read)) (omega arith)
            (λ held all.
            some_bool (HasSync rate (drop place read))
            (λ opens says.
            let time : ℕ = time_of_place times read place in
            let named : NamedHeader = record { name = its_name; dump = dump; time = time; since = since_index indexes time; opens = opens } in
            is_found (IsNameAt rate dump times indexes read) 0 are.found place (named, data_of its_name held) are.all (omega arith)
            (record { named = header; dump_is = refl; time = refl; since = refl; opens = says; held = held; all = all; are = refl }) none))

        by : ((f : ℕ × FoundName) × Contains are.found f × (f.0 ≡ place)) ⊎ ((f : ℕ × FoundName) → Contains are.found f → f.0 ≡ place → ⊥)
            → (f : ℕ × FoundName) × Contains are.found f × (f.0 ≡ place)
        by (inl here) = here
        by (inr none) = absurd (never none)

    abbrev found_one : ℕ × FoundName
    found_one = met.0

    abbrev its_at : IsNameAt rate dump times indexes read found_one.0 found_one.1
    its_at = stands_at found_one met.1

    own_name : found_one.1.0.name ≡ its_name
    own_name =
        same_sector_name found_one.1.0.name its_name
        ((names.told (format_with_one rate Bytes128) (record { cylinder = 0; head = 0 })).one_name (drop place read) (address_of found_one.1.0.name) (address_of its_name)
        (subst (λ (k : ℕ). IsNamed rate (drop k read) (address_of found_one.1.0.name)) met.2 its_at.named) header)

    pub header_met : (h : NamedHeader) × Contains headers h × (h.name ≡ its_name)
    header_met = (
      found_one.1.0,
      subst (λ (hs : List NamedHeader). Contains hs found_one.1.0) (sym are.headers_are) (map_has (λ (g : ℕ × FoundName). g.1.0) are.found found_one met.1),
      own_name,
    )

    -- and so are data behind it
    module _ (behind : ℕ) (bytes : List ℕ) (stand : data_at (format_with_one rate size) (drop place read) behind bytes) where
      abbrev its_held : List ℕ
      its_held = mark_at (density_of rate) (drop place read) behind ∷ bytes

      abbrev its_data : NotedData
      its_data = record { name = its_name; held = its_held }

      by_size : HeldBy (Some size) behind its_held
      by_size = record { bytes = bytes; stand = stand; are = refl }

      -- all data of the header are those that stand here
      all_here : AreFound Held 0 its_at.held
      all_here =
          subst (λ (n : SectorName). AreFound (HoldBy rate (size_of_code n.code) (drop place read)) 0 its_at.held) own_name
          (subst (λ (k : ℕ). AreFound (HoldBy rate (size_of_code found_one.1.0.name.code) (drop k read)) 0 its_at.held) met.2 its_at.all)

      hold_here : Held behind its_held
      hold_here = subst (λ (o : Option SectorSize). HeldBy o behind its_held) (sym size_same) by_size

      -- data at one place are one
      same_held : (h : ℕ × List ℕ) → Contains its_at.held h → h.0 ≡ behind → h.1 ≡ its_held
      same_held h has same =
          let there : Held behind h.1 = subst (λ (k : ℕ). Held k h.1) same (found_stands Held 0 its_at.held h all_here has) in
          let hold : HeldBy (Some size) behind h.1 = subst (λ (o : Option SectorSize). HeldBy o behind h.1) size_same there in
          hold.are
          ∙ ap (λ (bs : List ℕ). mark_at (density_of rate) (drop place read) behind ∷ bs)
          ((reads.told (format_with_one rate size)).one (drop place read) behind hold.bytes bytes hold.stand stand)

      whole_by : ((h : ℕ × List ℕ) × Contains its_at.held h × (h.0 ≡ behind)) ⊎ ((h : ℕ × List ℕ) → Contains its_at.held h → h.0 ≡ behind → ⊥) → Contains noted its_data
      whole_by (inl (h, has, same)) =
          let d : NotedData = record { name = found_one.1.0.name; held = h.1 } in
          let there : Contains noted d =
          subst (λ (ds : List NotedData). Contains ds d) (sym are.data_are)
          (flat_has (λ (g : ℕ × FoundName). g.1.1) are.found found_one d met.1
          (subst (λ (ds : List NotedData). Contains ds d) (sym its_at.are)
          (map_has (λ (g : ℕ × List ℕ). let k : NotedData = record { name = found_one.1.0.name; held = g.1 } in k) its_at.held h has))) in
          let held = same_held h has same in
          let is : d ≡ its_data = λ i. record { name = own_name i; held = held i } in
          subst (λ (e : NotedData). Contains noted e) is there
      whole_by (inr none) = absurd (is_found Held 0 its_at.held behind its_held all_here (omega arith) hold_here none)

      pub whole_met : Contains noted its_data
      whole_met = whole_by (found_at its_at.held behind)

-- Where the sync stands in a ring only where its sectors begin, what stands in a stretch of the
-- ring between zeros is one of its own sectors.
use Rattle.std.specs.Prelude.{◌≡◌, ℕ, zero, suc, ◌+◌, ◌-◌, ◌%◌, ◌<◌, ◌≤◌, Bool, true, false, List}
use Rattle.std.specs.Prelude.{[], ◌∷◌, ◌++◌, length, take, drop, get_or, replicate, Option, Some}
use Rattle.std.specs.Prelude.{refl}
use Rattle.std.proofs.Common.{ap, sym, subst, ◌∙◌, arith, inl, inr, length-drop}
use Rattle.std.proofs.lemmas.Bool.{cases_lt}
use Rattle.std.proofs.lemmas.List.{get_or-drop, take-take}
use Rattle.std.proofs.Math.Nat.{mod-add-mod, mod-eq_of_lt, mod-lt}
use Rattle.cell_bits.specs.Broken.{Unbroken}
use Rattle.track_rings.specs.lemmas.Cuts.{cut_cells, get_or-stretch, length-stretch, mod-cancel}
use Rattle.track_rings.specs.lemmas.Cuts.{stretch-in_two}
use Rattle.track_rings.specs.lemmas.Fronts.{AgreeTo, agree-cells}
use Rattle.track_rings.specs.OwnSectors.{IsOwnPlace, between_zeros}
use Rattle.track_rings.specs.Rings.{IsSectorNumber, cell_of, stretch}
use Rattle.track_rings.specs.lemmas.Syncs.{Only, Syncs, fits, fits-agree}

-- so many zeros, a one, and the rest of a sync stand at the front
abbrev pub Leads : ℕ → List (Option Bool) → List Bool → Type 0
Leads lead sync cells = fits (replicate lead (Some false) ++ Some true ∷ sync) cells ≡ true

leads-zero : (lead : ℕ) (sync : List (Option Bool)) (cells : List Bool) (k : ℕ)
    → Leads lead sync cells → k < lead → get_or cells k false ≡ false
unfolding fits
leads-zero zero sync cells k leads within = absurd (omega arith)
leads-zero (suc lead) sync [] k leads within = refl
leads-zero (suc lead) sync (true ∷ cells) k leads within = absurd (cc)
leads-zero (suc lead) sync (false ∷ cells) zero leads within = refl
leads-zero (suc lead) sync (false ∷ cells) (suc k) leads within =
    leads-zero lead sync cells k leads (omega arith)

leads-sync : (lead : ℕ) (sync : List (Option Bool)) (cells : List Bool) → Leads lead sync cells
    → Syncs (Some true ∷ sync) (drop lead cells)
unfolding fits
leads-sync zero sync cells leads = leads
leads-sync (suc lead) sync [] leads = absurd (cc)
leads-sync (suc lead) sync (true ∷ cells) leads = absurd (cc)
leads-sync (suc lead) sync (false ∷ cells) leads = leads-sync lead sync cells leads

first-one : (sync : List (Option Bool)) (cells : List Bool) → Syncs (Some true ∷ sync) cells
    → get_or cells 0 false ≡ true
unfolding fits
first-one sync [] fit = absurd (cc)
first-one sync (true ∷ cells) fit = refl
first-one sync (false ∷ cells) fit = absurd (cc)

leads-one : (lead : ℕ) (sync : List (Option Bool)) (cells : List Bool) → Leads lead sync cells
    → get_or cells lead false ≡ true
leads-one lead sync cells leads =
    let e : lead ≡ lead + 0 = omega arith in
    ap (λ (n : ℕ). get_or cells n false) e ∙ sym (get_or-drop lead cells 0 false)
    ∙ first-one sync (drop lead cells) (leads-sync lead sync cells leads)

-- so it stands in no cells without a one
pub leads-not_zeros : (lead : ℕ) (sync : List (Option Bool)) (count : ℕ)
    → ¬ Leads lead sync (replicate count false)
unfolding fits
leads-not_zeros zero sync zero leads = cc
leads-not_zeros zero sync (suc count) leads = cc
leads-not_zeros (suc lead) sync zero leads = cc
leads-not_zeros (suc lead) sync (suc count) leads = leads-not_zeros lead sync count leads

-- What stands at the front of the cells says so by its first cells: it is unbroken
-- up to an end, and whatever agrees with the cells up to seven before that end, the
-- sync among them, is as it says.
pub record SaysEarly (sync_cells : ℕ) (Says : List Bool → Type 0) (cells : List Bool) : Type 0 where
  pub end : ℕ
  pub within : end ≤ length cells
  pub unbroken : Unbroken cells 0 end
  pub long : sync_cells + 7 ≤ end
  pub says : (others : List Bool) → AgreeTo (end - 7) cells others → Says others

-- A ring, the sync of its headers (zeros, a one, and the rest), what
-- stands, and where its sectors lie.
pub record Owner : Type 1 where
  pub ring : List Bool
  pub ring_cells : ℕ
  pub lead : ℕ
  pub sync : List (Option Bool)
  pub header : List Bool → ℕ → Type 0
  pub sector : List Bool → ℕ → List ℕ → Type 0
  pub first : ℕ
  pub sectors : ℕ
  pub content : ℕ → List ℕ
  pub place_of : ℕ → ℕ
  pub frame_cells : ℕ

-- a sync begins where the sync of one of the sectors does
abbrev pub IsSyncPlace : (ℕ → ℕ) → ℕ → ℕ → ℕ → ℕ → Type 0
IsSyncPlace place_of first sectors lead place =
    (s : ℕ) × IsSectorNumber first sectors s × (place ≡ place_of s + lead)

-- a place that lies so many cells after the begin of one of the sectors' frames
abbrev pub IsPlaceIn : (ℕ → ℕ) → ℕ → ℕ → (ℕ → Type 0) → ℕ → Type 0
IsPlaceIn place_of first sectors At place = (s : ℕ) × IsSectorNumber first sectors s × (offset : ℕ)
    × At offset × (place ≡ place_of s + offset)

-- what is to be shown of them: the ring's length, that each header begins with the
-- sync, that the sync stands only where sectors begin, that they stand there, and that
-- headers and sectors say so early
pub record IsOwner (o : Owner) : Type 0 where
  pub size : length o.ring ≡ o.ring_cells
  pub room : o.lead + suc (length o.sync) ≤ o.ring_cells
  pub leads : (cells : List Bool) (s : ℕ) → o.header cells s → Leads o.lead o.sync cells
  pub only : Only (Syncs (Some true ∷ o.sync)) (IsSyncPlace o.place_of o.first o.sectors o.lead)
      o.ring o.ring
  pub stands : (s count : ℕ) → IsSectorNumber o.first o.sectors s → o.frame_cells ≤ count
      → o.sector (stretch o.ring (o.place_of s) count) s (o.content s)
  pub has_header : (cells : List Bool) (s : ℕ) (bytes : List ℕ) → o.sector cells s bytes
      → o.header cells s
  pub header_early : (cells : List Bool) (s : ℕ) → o.header cells s
      → SaysEarly (o.lead + suc (length o.sync))
      (λ others. (t : ℕ) (bytes : List ℕ) → o.sector others t bytes → s ≡ t) cells
  pub sector_early : (cells : List Bool) (s : ℕ) (bytes : List ℕ) → o.sector cells s bytes
      → SaysEarly (o.lead + suc (length o.sync))
      (λ others.
      (t : ℕ) (others_bytes : List ℕ) → o.sector others t others_bytes → bytes ≡ others_bytes)
      cells

module _ (o : Owner) (is : IsOwner o) (zeros from count behind place : ℕ) where
  abbrev pub cut : List Bool
  cut = drop place (between_zeros o.ring zeros from count behind)

  some : 0 < length o.ring
  some = omega (arith, is.size, is.room)

  -- where the sync of what stands lies in the stretch
  record Start (start : ℕ) : Type 0 where
    at : place + o.lead ≡ zeros + start
    same : (k low end : ℕ) → low + 8 ≤ end → end ≤ length cut → Unbroken cut low end
        → o.lead + k + 7 < end
        → get_or cut (o.lead + k) false ≡ cell_of o.ring (from + (start + k))

  start_of : (end : ℕ) → Leads o.lead o.sync cut → 8 ≤ end → end ≤ length cut → Unbroken cut 0 end
      → (start : ℕ) × Start start
  start_of end leads enough within whole =
      let one = leads-one o.lead o.sync cut leads in
      let here = cut_cells o.ring zeros from count behind place o.lead 0 end one
      (omega (arith, enough)) within whole in (
        here.0,
        record {
          at = here.1;
          same = λ k low other some inside unbroken near.
              let there = cut_cells o.ring zeros from count behind place o.lead low other one some
              inside unbroken in
              let e : from + (there.0 + k) ≡ from + (here.0 + k) = omega (arith, there.1, here.1) in
              there.2 k near ∙ ap (cell_of o.ring) e;
        },
      )

  -- the sync stands there in the ring
  sync_in_ring : (start end : ℕ) → Start start → Leads o.lead o.sync cut → end ≤ length cut
      → Unbroken cut 0 end
      → o.lead + suc (length o.sync) + 7 ≤ end
      → Syncs (Some true ∷ o.sync) (drop ((from + start) % length o.ring) (o.ring ++ o.ring))
  sync_in_ring start end is_start leads within whole long =
      let many : ℕ = suc (length o.sync) in
      let cells = drop o.lead cut in
      let own = stretch o.ring (from + start) many in
      let own_size : length own ≡ many = length-stretch o.ring (from + start) many in
      let room : many ≤ length cells = omega (arith, long, within, length-drop o.lead cut) in
      let same = agree-cells many cells own room (omega (arith, own_size))
      (λ k inside.
      let e : from + (start + k) ≡ from + start + k = omega arith in
      get_or-drop o.lead cut k false
      ∙ is_start.same k 0 end (omega (arith, long)) within whole (omega (arith, long, inside))
      ∙ ap (cell_of o.ring) e
      ∙ sym (get_or-stretch o.ring (from + start) many k inside)) in
      let there = drop ((from + start) % length o.ring) (o.ring ++ o.ring) in
      let in_two =
      stretch-in_two o.ring (from + start) many some (omega (arith, is.size, is.room)) in
      let again : AgreeTo many own there =
      ap (take many) in_two ∙ take-take many many there (omega arith) in
      fits-agree (Some true ∷ o.sync) own there again
      (fits-agree (Some true ∷ o.sync) cells own same (leads-sync o.lead o.sync cut leads))

  -- So it is that of a sector, with which the cells agree up to seven before an end, where those
  -- before it are unbroken from some place on.
  pub record Found (t : ℕ) : Type 0 where
    pub number : IsSectorNumber o.first o.sectors t
    pub own : IsOwnPlace o.ring_cells (o.place_of t) zeros from place
    pub agree : (low end size : ℕ) → low + 8 ≤ end → end ≤ length cut → Unbroken cut low end
        → end ≤ size → o.frame_cells ≤ size
        → AgreeTo (end - 7) cut (stretch o.ring (o.place_of t) size)

  pub found : (end : ℕ) → Leads o.lead o.sync cut → end ≤ length cut → Unbroken cut 0 end
      → o.lead + suc (length o.sync) + 7 ≤ end → (t : ℕ) × Found t
  found end leads within whole long =
      let begin = start_of end leads (omega (arith, long)) within whole in
      let start = begin.0 in
      let size = length o.ring in
      let here = (from + start) % size in
      let at = is.only here (mod-lt (from + start) some)
      (sync_in_ring start end begin.1 leads within whole long) in
      let t = at.0 in
      let there : (from + start) % size ≡ (o.place_of t + o.lead) % size =
      sym (mod-mod (from + start)) ∙ ap (λ (n : ℕ). n % size) at.2 in
      let e : from + place + o.lead ≡ from + start + zeros = omega (arith, begin.1.at) in
      let f : o.place_of t + o.lead + zeros ≡ o.place_of t + zeros + o.lead = omega arith in
      let shifted : (from + place + o.lead) % size ≡ (o.place_of t + zeros + o.lead) % size =
      ap (λ (n : ℕ). n % size) e ∙ sym (mod-add-mod (from + start) size zeros)
      ∙ ap (λ (n : ℕ). (n + zeros) % size) there
      ∙ mod-add-mod (o.place_of t + o.lead) size zeros ∙ ap (λ (n : ℕ). n % size) f in
      let own = mod-cancel (from + place) (o.place_of t + zeros) o.lead size
      (omega (arith, is.size, is.room)) shifted in (
        t,
        record {
          number = at.1;
          own = subst (λ (n : ℕ). (from + place) % n ≡ (o.place_of t + zeros) % n) is.size own;
          agree = λ low other many some inside unbroken enough framed.
              let ring_part = stretch o.ring (o.place_of t) many in
              let part_size = length-stretch o.ring (o.place_of t) many in
              let stands = is.leads ring_part t
              (is.has_header ring_part t (o.content t) (is.stands t many at.1 framed)) in
              agree-cells (other - 7) cut ring_part (omega (arith, inside))
              (omega (arith, enough, part_size))
              (λ k less. elim (cases_lt k o.lead) [
                | inl early ↦
                    leads-zero o.lead o.sync cut k leads early
                    ∙ sym (leads-zero o.lead o.sync ring_part k stands early)
                | inr late ↦
                    let i = k - o.lead in
                    let is_k : o.lead + i ≡ k = omega arith in
                    let near : o.lead + i + 7 < other = omega (arith, less) in
                    let sum : from + (start + i) ≡ from + start + i = omega arith in
                    let more : o.place_of t + o.lead + i ≡ o.place_of t + k = omega arith in
                    let same : (from + (start + i)) % size ≡ (o.place_of t + k) % size =
                    ap (λ (n : ℕ). n % size) sum ∙ sym (mod-add-mod (from + start) size i)
                    ∙ ap (λ (n : ℕ). (n + i) % size) there
                    ∙ mod-add-mod (o.place_of t + o.lead) size i ∙ ap (λ (n : ℕ). n % size) more in
                    ap (λ (n : ℕ). get_or cut n false) (sym is_k)
                    ∙ begin.1.same i low other some inside unbroken near
                    ∙ ap (λ (n : ℕ). get_or o.ring n false) same
                    ∙ sym
                    (get_or-stretch o.ring (o.place_of t) many k (omega (arith, less, enough)))
              ]);
        },
      )
    where
      mod-mod : (n : ℕ) → n % length o.ring % length o.ring ≡ n % length o.ring
      mod-mod n = mod-eq_of_lt (mod-lt n some)

  pub header_found : (s : ℕ) → o.header cut s → Found s
  header_found s header =
      let early = is.header_early cut s header in
      let here = found early.end (is.leads cut s header) early.within early.unbroken early.long in
      let t = here.0 in
      let size = early.end + o.frame_cells in
      let ring_part = stretch o.ring (o.place_of t) size in
      let same : s ≡ t =
      early.says ring_part
      (here.1.agree 0 early.end size (omega (arith, early.long)) early.within early.unbroken
      (omega arith) (omega arith)) t (o.content t)
      (is.stands t size here.1.number (omega arith)) in
      subst Found (sym same) here.1

  -- a header that stands is the ring's own
  pub header_own : (s : ℕ) → o.header cut s
      → IsOwnPlace o.ring_cells (o.place_of s) zeros from place
  header_own s header = (header_found s header).own

  -- so is a sector, with its bytes
  pub sector_own : (s : ℕ) (bytes : List ℕ) → o.sector cut s bytes
      → IsOwnPlace o.ring_cells (o.place_of s) zeros from place × (bytes ≡ o.content s)
  sector_own s bytes sector =
      let here = header_found s (is.has_header cut s bytes sector) in
      let early = is.sector_early cut s bytes sector in
      let size = early.end + o.frame_cells in
      let ring_part = stretch o.ring (o.place_of s) size in
      let same = early.says ring_part
      (here.agree 0 early.end size (omega (arith, early.long)) early.within early.unbroken
      (omega arith) (omega arith)) s (o.content s)
      (is.stands s size here.number (omega arith)) in
      (here.own, same)

-- The second reading rule: what its data depend on, and that they are a ring's own.
use Rattle.std.specs.Prelude.{◌≡◌, ℕ, ◌+◌, ◌-◌, ◌%◌, ◌<◌, ◌≤◌, ◌⊎◌, Bool, false, List, [], ◌∷◌}
use Rattle.std.specs.Prelude.{◌++◌, length, take, drop, Option, refl}
use Rattle.std.proofs.Common.{ap, sym, subst, ◌∙◌, arith, inl, inr}
use Rattle.std.proofs.lemmas.Bool.{cases_lt}
use Rattle.std.proofs.lemmas.List.{take-replicate, take-take}
use Rattle.std.proofs.Math.Nat.{mod-eq_of_lt}
use Rattle.cell_bits.specs.Broken.{Unbroken}
use Rattle.track_rings.specs.lemmas.Cuts.{length-stretch, stretch-in_two}
use Rattle.track_rings.specs.lemmas.Fronts.{AgreeTo, agree-front, agree-length, agree-less}
use Rattle.track_rings.specs.lemmas.Fronts.{agree-part, agree-stands, agree-unbroken}
use Rattle.track_rings.specs.lemmas.Owning.{IsPlaceIn}
use Rattle.track_rings.specs.lemmas.Parts.{take-first}
use Rattle.track_rings.specs.lemmas.Stretches.{drop-stretch, stretch-append}
use Rattle.track_rings.specs.lemmas.Syncs.{Only, Syncs, fits-agree}
use Rattle.track_rings.specs.OwnSectors.{IsAlone, IsAloneWithin, NoZeros}
use Rattle.track_rings.specs.Rings.{IsSectorNumber, stretch}
use Rattle.frame_law.specs.Controller.{DataStandAt, NamedHeaderStands, START_ZEROS}
use Rattle.flux_base.specs.declared.header_name.HeaderName.{HeaderName}
use Rattle.frame_law.specs.Frames.{DataStand}
use Rattle.frame_law.specs.lemmas.OwnData.{AreSyncsOrNone, BeginAtOnce, HasOwnDataSyncs}
use Rattle.frame_law.specs.lemmas.OwnData.{IsDataOffset}
use Rattle.frame_law.specs.lemmas.OwnFrames.{AgreesWithFrame, TellsEarly, TellsEnds, told-alone}

-- cells without so many zeros in a row have no more either
pub fewer_zeros : (few many : ℕ) (cells : List Bool) (from to : ℕ) → few ≤ many
    → NoZeros few cells from to → NoZeros many cells from to
fewer_zeros few many cells from to less none place above below zeros =
    none place above (omega (arith, below, less))
    (sym (take-take few many (drop place cells) less) ∙ ap (take few) zeros
    ∙ take-replicate few many false less)

agree_zeros : (zeros total : ℕ) (cells others : List Bool) → AgreeTo total cells others
    → (from to : ℕ) → to ≤ total
    → NoZeros zeros cells from to → NoZeros zeros others from to
agree_zeros zeros total cells others same from to within none place above below there =
    none place above below
    (agree-part total cells others same place zeros (omega (arith, below, within)) ∙ there)

module _ (header_cells data_cells : ℕ) (header_end : List Bool → ℕ) (data_end : List Bool → ℕ → ℕ)
    (is_sync : List Bool → ℕ → Type 0) (hold : List Bool → ℕ → List ℕ → Type 0)
    (sync sync_cells : ℕ) (names : List Bool → HeaderName → Type 0) where
  abbrev Header : List Bool → HeaderName → Type 0
  Header = NamedHeaderStands sync sync_cells header_end names

  abbrev Data : List Bool → ℕ → List ℕ → Type 0
  Data = DataStandAt header_end data_end is_sync hold Header

  -- what stands by the strict rule stands by this one
  pub strict_has_data : AreSyncsOrNone sync sync_cells header_end names is_sync
      → (cells : List Bool) (bytes : List ℕ)
      → DataStand header_end data_end is_sync hold cells bytes
      → (place : ℕ) × Data cells place bytes
  strict_has_data syncs cells bytes content = (
    content.sync,
    record {
      begin = record {
        after = content.first_sync.after;
        near = content.first_sync.near;
        stands = content.first_sync.stands;
      };
      nearest = λ other name above below header. elim syncs [
        | inl are ↦
            content.first_sync.first other above below
            (are cells other name header.begins header.named)
        | inr once ↦
            (let e = once cells content.sync content.first_sync.stands in
            omega (arith, e, above, below))
      ];
      rest = record {
        whole = content.whole;
        held = content.held;
        unbroken = λ place above below. content.unbroken place (omega arith) below;
        no_start = fewer_zeros 8 START_ZEROS cells 0 (data_end cells content.sync) (omega arith)
            content.unbroken;
      };
    },
  )

  module _ (ends : TellsEnds header_cells data_cells header_end data_end)
      (tells : TellsEarly sync_cells header_cells data_cells header_end data_end names is_sync
      hold) where
    -- a header that stands stands in cells that agree
    pub agree_header : (total : ℕ) (cells others : List Bool) (name : HeaderName)
        → AgreeTo total cells others → header_end cells ≤ total
        → Header cells name → Header others name
    agree_header total cells others name same long header =
        let own = agree-less total cells others same (header_end cells) long in
        let told = ends.header_told cells others own in
        record {
          begins = agree-stands total cells others same sync sync_cells 0
              (omega (arith, tells.sync_within, ends.header_least cells, long)) header.begins;
          whole =
              omega (arith, told, agree-length (header_end cells) cells others own header.whole);
          named = tells.named cells others name own header.named;
          unbroken = subst (Unbroken others 0) (sym told)
              (agree-unbroken total cells others same 0 (header_end cells) long header.unbroken);
        }

    -- so it depends on its own cells alone
    pub named_alone : (cells : List Bool) (name : HeaderName) → 0 < header_cells → Header cells name
        → IsAlone (λ others. Header others name) cells
    named_alone cells name some header =
        let end = header_end cells in
        told-alone (λ others. Header others name) cells end
        (omega (arith, some, ends.header_least cells)) header.whole header.unbroken
        (λ others same. agree_header end cells others name same (omega arith) header)

    -- so do data
    pub agree_data : (total : ℕ) (cells others : List Bool) (place : ℕ) (bytes : List ℕ)
        → AgreeTo total cells others → data_end cells place ≤ total
        → Data cells place bytes → Data others place bytes
    agree_data total cells others place bytes same long content =
        let end = data_end cells place in
        let own = agree-less total cells others same end long in
        let past = ends.data_least cells place in
        let told = ends.data_told cells others place own in
        let told_header = ends.header_told cells others
        (agree-less end cells others own (header_end cells)
        (omega (arith, content.begin.after, past))) in
        record {
          begin = record {
            after = omega (arith, content.begin.after, told_header);
            near = omega (arith, content.begin.near, told_header);
            stands = tells.synced cells others place
                (agree-less end cells others own (place + data_cells - 7) (omega (arith, past)))
                content.begin.stands;
          };
          nearest = λ other name above below header.
              let there = drop other others in
              let most = ends.header_most there in
              content.nearest other name (omega (arith, above, told_header)) below
              (agree_header (header_end there) there (drop other cells) name
              (sym
              (agree-part end cells others own other (header_end there)
              (omega (arith, most, below, past)))) (omega arith) header);
          rest = record {
            whole = omega (arith, told, agree-length end cells others own content.rest.whole);
            held = tells.held cells others place bytes own content.rest.held;
            unbroken = subst (Unbroken others place) (sym told)
                (agree-unbroken total cells others same place end long content.rest.unbroken);
            no_start = subst (NoZeros START_ZEROS others 0) (sym told)
                (agree_zeros START_ZEROS total cells others same 0 end long content.rest.no_start);
          };
        }

    pub data_alone : (cells : List Bool) (place : ℕ) (bytes : List ℕ) → Data cells place bytes
        → IsAloneWithin START_ZEROS (λ others. Data others place bytes) cells
    data_alone cells place bytes content =
        let end = data_end cells place in
        record {
          end = end;
          some = omega (arith, ends.data_least cells place, ends.some);
          within = content.rest.whole;
          unbroken = content.rest.no_start;
          alone = λ more.
              agree_data end cells (take end cells ++ more) place bytes
              (agree-front end cells more content.rest.whole) (omega arith) content;
        }

    pub data_within : (cells : List Bool) (place : ℕ) (bytes : List ℕ) → Data cells place bytes
        → place < length cells
    data_within cells place bytes content =
        omega (arith, content.rest.whole, ends.data_least cells place, ends.some)

    module _ (data_place frame_cells first sectors : ℕ) (place_of : ℕ → ℕ) (ring : List Bool)
        (frame : data_place + data_cells ≡ frame_cells)
        (low : (s : ℕ) → IsSectorNumber first sectors s → place_of s + frame_cells ≤ length ring)
        (apart : (s t : ℕ) → IsSectorNumber first sectors s → IsSectorNumber first sectors t → s < t
        → place_of s + frame_cells ≤ place_of t) where
      -- where data's first cells stand in a frame of the ring
      module _ (lead : ℕ) (pattern : List (Option Bool))
          (short : lead + length pattern + 7 ≤ data_cells)
          (only : Only (Syncs pattern)
          (IsPlaceIn place_of first sectors (IsDataOffset header_cells data_place lead)) ring
          ring) where
        at_place : (s t place offset : ℕ) → IsSectorNumber first sectors s
            → IsSectorNumber first sectors t → header_cells ≤ place
            → place + lead < frame_cells → IsDataOffset header_cells data_place lead offset
            → place_of s + (place + lead) ≡ place_of t + offset
            → place ≡ data_place
        at_place s t place offset of_s of_t above below is e =
            let inside : offset < frame_cells = elim is [
              | inl data_there ↦ omega (arith, data_there, short, frame)
              | inr in_header ↦ omega (arith, in_header, above, below)
            ] in
            elim (cases_lt s t) [
              | inl before ↦
                  absurd (let far = apart s t of_s of_t before in omega (arith, far, e, below))
              | inr not_before ↦ elim (cases_lt t s) [
                | inl behind ↦
                    absurd (let far = apart t s of_t of_s behind in omega (arith, far, e, inside))
                | inr not_behind ↦
                    let same : s ≡ t = omega (arith, not_before, not_behind) in
                    let here : place + lead ≡ offset =
                    (let p = ap place_of same in omega (arith, p, e)) in
                    elim is [
                      | inl data_there ↦ omega (arith, data_there, here)
                      | inr in_header ↦ absurd (omega (arith, in_header, here, above))
                    ]
              ]
            ]

        pub one_place : (s place size : ℕ) → IsSectorNumber first sectors s → header_cells ≤ place
            → place + lead < frame_cells
            → place + data_cells ≤ size
            → Syncs pattern (drop (place + lead) (stretch ring (place_of s) size))
            → place ≡ data_place
        one_place s place size number above below enough stands =
            let many = length pattern in
            let offset = place + lead in
            let from = place_of s + offset in
            let here = low s number in
            let more = size - offset - many in
            let e : size - offset ≡ many + more = omega (arith, short, enough) in
            let own = stretch ring from many in
            let cells = drop offset (stretch ring (place_of s) size) in
            let is : cells ≡ own ++ stretch ring (from + many) more =
            drop-stretch offset ring (place_of s) size (omega (arith, short, enough))
            ∙ ap (stretch ring from) e ∙ stretch-append ring from many more in
            let front : AgreeTo many cells own =
            ap (take many) is
            ∙ take-first own (stretch ring (from + many) more) many
            (length-stretch ring from many)
            ∙ sym
            (ap (take many) (append_none own)
            ∙ take-first own [] many (length-stretch ring from many)) in
            let inside : from < length ring = omega (arith, here, below) in
            let two = drop (from % length ring) (ring ++ ring) in
            let in_two = stretch-in_two ring from many (omega (arith, inside))
            (omega (arith, here, short, frame)) in
            let again : AgreeTo many own two =
            ap (take many) in_two ∙ take-take many many two (omega arith) in
            let there =
            fits-agree pattern own two again (fits-agree pattern cells own front stands) in
            let at = only from inside
            (subst (λ (n : ℕ). Syncs pattern (drop n (ring ++ ring))) (mod-eq_of_lt inside)
            there) in
            at_place s at.0 place at.2 number at.1 above below at.3 at.4
          where
            append_none : (xs : List Bool) → xs ≡ xs ++ []
            append_none [] = refl
            append_none (x ∷ xs) = ap (λ (rest : List Bool). x ∷ rest) (append_none xs)

      module _ (s size place other : ℕ) (cells : List Bool) (xs ys : List ℕ)
          (Given : List ℕ → Type 0) (rings : List ℕ → List Bool) (given : List ℕ)
          (is_ring : rings given ≡ ring) (has : Given given)
          (own : (BeginAtOnce header_end is_sync)
          ⊎ HasOwnDataSyncs header_cells data_cells data_place first sectors header_end is_sync
          hold place_of Given rings)
          (number : IsSectorNumber first sectors s) (long : data_end cells place ≤ size)
          (same : AgreeTo (data_end cells place - 7) cells (stretch ring (place_of s) size))
          (here : Data cells place xs) (there : Data (stretch ring (place_of s) size) other ys) where
        abbrev part : List Bool
        part = stretch ring (place_of s) size

        -- in cells that agree with a frame of the ring up to seven before the
        -- data's end, data stand where the ring's do
        pub same_place : other ≡ place
        same_place =
            let end = data_end cells place in
            let past = ends.data_least cells place in
            let size_is = length-stretch ring (place_of s) size in
            let told = ends.header_told cells part
            (agree-less (end - 7) cells part same (header_end cells)
            (omega (arith, here.begin.after, past, ends.some))) in
            elim own [
              | inl once ↦
                  once part other there.begin.stands ∙ told
                  ∙ sym (once cells place here.begin.stands)
              | inr syncs ↦
                  let only = subst
                  (λ (r : List Bool).
                  Only (Syncs syncs.pattern)
                  (IsPlaceIn place_of first sectors
                  (IsDataOffset header_cells data_place syncs.lead)) r r) is_ring
                  (syncs.only given has) in
                  let found = fits-agree syncs.pattern (drop (place + syncs.lead) cells)
                  (drop (place + syncs.lead) part)
                  (agree-part (end - 7) cells part same (place + syncs.lead)
                  (length syncs.pattern) (omega (arith, syncs.short, past)))
                  (syncs.leads cells place xs here.begin.stands here.rest.held) in
                  one_place syncs.lead syncs.pattern syncs.short only s other size number
                  (omega (arith, there.begin.after, ends.header_least part))
                  (omega (arith, there.begin.near, syncs.near part, frame))
                  (omega (arith, there.rest.whole, size_is, ends.data_least part other))
                  (syncs.leads part other ys there.begin.stands there.rest.held)
                  ∙ sym (one_place syncs.lead syncs.pattern syncs.short only s place size number
                  (omega (arith, here.begin.after, ends.header_least cells))
                  (omega (arith, here.begin.near, syncs.near cells, frame))
                  (omega (arith, long, past)) found)
            ]

        -- and are the ring's
        pub same_data : xs ≡ ys
        same_data =
            tells.held_early cells part place xs ys same here.rest.held
            (subst (λ (n : ℕ). hold part n ys) same_place there.rest.held)

    -- so data after a header that stands in a stretch of a ring between zeros are its sector's
    pub own_content : (data_place frame_cells first sectors : ℕ) (place_of : ℕ → ℕ)
        (Given : List ℕ → Type 0) (rings : List ℕ → List Bool)
        (given : List ℕ) → Given given → data_place + data_cells ≡ frame_cells
        → ((s t : ℕ) → IsSectorNumber first sectors s → IsSectorNumber first sectors t → s < t
        → place_of s + frame_cells ≤ place_of t)
        → AreSyncsOrNone sync sync_cells header_end names is_sync
        → (BeginAtOnce header_end is_sync)
        ⊎ HasOwnDataSyncs header_cells data_cells data_place first sectors header_end is_sync
        hold place_of Given rings
        → (s place : ℕ) (content xs : List ℕ) (cells : List Bool)
        → AgreesWithFrame header_end data_end is_sync hold first sectors place_of (rings given)
        frame_cells s content cells
        → Data cells place xs → xs ≡ content
    own_content data_place frame_cells first sectors place_of Given rings given has frame apart
        syncs own s place content xs cells agrees data_there =
        let end = data_end cells place in
        let size = end + frame_cells in
        let there = strict_has_data syncs (stretch (rings given) (place_of s) size) content
        (agrees.stands size (omega arith)) in
        same_data data_place frame_cells first sectors place_of (rings given) frame agrees.room
        apart
        s size place there.0 cells xs content Given rings given refl has own agrees.number
        (omega arith)
        (agrees.agree place end size (omega (arith, ends.data_least cells place, ends.some))
        data_there.rest.whole data_there.rest.unbroken (omega arith) (omega arith))
        data_there there.1

    -- and they stand at their place in its frame, whose cells but the last seven are the ring's
    pub own_cells : (data_place frame_cells first sectors : ℕ) (place_of : ℕ → ℕ)
        (Given : List ℕ → Type 0) (rings : List ℕ → List Bool)
        (given : List ℕ) → Given given → data_place + data_cells ≡ frame_cells
        → ((s t : ℕ) → IsSectorNumber first sectors s → IsSectorNumber first sectors t → s < t
        → place_of s + frame_cells ≤ place_of t)
        → (BeginAtOnce header_end is_sync)
        ⊎ HasOwnDataSyncs header_cells data_cells data_place first sectors header_end is_sync
        hold place_of Given rings
        → (s place : ℕ) (content xs : List ℕ) (cells : List Bool)
        → AgreesWithFrame header_end data_end is_sync hold first sectors place_of (rings given)
        frame_cells s content cells
        → Data cells place xs
        → ((size : ℕ) → frame_cells ≤ size
        → Data (stretch (rings given) (place_of s) size) data_place content)
        → (place ≡ data_place)
        × ((size : ℕ) × (frame_cells ≤ size)
        × AgreeTo (frame_cells - 7) cells (stretch (rings given) (place_of s) size))
    own_cells data_place frame_cells first sectors place_of Given rings given has frame apart own
        s place content xs cells agrees data_there stands =
        let end = data_end cells place in
        let size = end + frame_cells in
        let past = ends.data_least cells place in
        let same = agrees.agree place end size (omega (arith, past, ends.some))
        data_there.rest.whole data_there.rest.unbroken (omega arith) (omega arith) in
        let one : data_place ≡ place =
        same_place data_place frame_cells first sectors place_of (rings given) frame agrees.room
        apart
        s size place data_place cells xs content Given rings given refl has own agrees.number
        (omega arith) same data_there (stands size (omega arith)) in (
          sym one,
          (
            size,
            omega arith,
            agree-less (end - 7) cells (stretch (rings given) (place_of s) size) same
                (frame_cells - 7) (omega (arith, past, frame, one)),
          ),
        )

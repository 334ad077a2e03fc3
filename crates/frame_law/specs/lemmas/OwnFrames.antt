-- What stands depends on its own cells alone, and in a stretch of a track's ring
-- between zeros it is one of the track's own sectors: of what a header names, what data
-- hold, and where the sync stands.
use Rattle.std.specs.Prelude.{◌≡◌, ℕ, suc, ◌+◌, ◌-◌, ◌%◌, ◌<◌, ◌≤◌, Bool, true, false, List, ◌∷◌}
use Rattle.std.specs.Prelude.{◌++◌, length, take, drop, replicate, Option, Some, refl}
use Rattle.std.proofs.Common.{sym, subst, ◌∙◌, arith}
use Rattle.std.proofs.Math.Nat.{mod-eq_of_lt}
use Rattle.cell_bits.specs.Broken.{Unbroken}
use Rattle.cell_bits.specs.Word.{Stands}
use Rattle.track_rings.specs.lemmas.Fronts.{AgreeTo, agree-front, agree-length, agree-less}
use Rattle.track_rings.specs.lemmas.Fronts.{agree-stands, agree-unbroken}
use Rattle.track_rings.specs.OwnSectors.{IsAlone, IsOwnPlace, between_zeros}
use Rattle.track_rings.specs.lemmas.Owning.{IsOwner, IsSyncPlace, Leads, Owner, SaysEarly}
use Rattle.track_rings.specs.lemmas.Owning.{leads-not_zeros}
use Rattle.track_rings.specs.lemmas.Owning as owning
use Rattle.track_rings.specs.Rings.{IsSectorNumber, LiesAt, stretch}
use Rattle.track_rings.specs.lemmas.Syncs.{Only, Syncs}
use Rattle.frame_law.specs.lemmas.FrameLaws.{IsWhole, one_sync}
use Rattle.flux_base.specs.declared.header_name.HeaderName.{HeaderName}
use Rattle.frame_law.specs.Others.{NamesSectors}
use Rattle.frame_law.specs.Controller.{NamedHeaderStands}
use Rattle.frame_law.specs.Frames.{DataStand, HeaderStands, IsDataSync}

-- Where headers and data end: not before so many cells, a header after no more than data have at
-- least, and where their own cells up to the end tell.
pub record TellsEnds (header_cells data_cells : ℕ) (header_end : List Bool → ℕ)
    (data_end : List Bool → ℕ → ℕ) : Type 0 where
  pub some : 8 ≤ data_cells
  pub header_least : (cells : List Bool) → header_cells ≤ header_end cells
  pub header_most : (cells : List Bool) → header_end cells ≤ data_cells
  pub header_told : (cells others : List Bool) → AgreeTo (header_end cells) cells others
      → header_end others ≡ header_end cells
  pub data_least : (cells : List Bool) (sync : ℕ) → sync + data_cells ≤ data_end cells sync
  pub data_told : (cells others : List Bool) (sync : ℕ) → AgreeTo (data_end cells sync) cells others
      → data_end others sync ≡ data_end cells sync

-- where they have so many cells, whatever these are
pub fixed_ends : (header_cells data_cells : ℕ) → 8 ≤ data_cells → header_cells ≤ data_cells
    → TellsEnds header_cells data_cells (λ cells. header_cells) (λ cells sync. sync + data_cells)
fixed_ends header_cells data_cells some less = record {
  some = some;
  header_least = λ cells. omega arith;
  header_most = λ cells. less;
  header_told = λ cells others same. refl;
  data_least = λ cells sync. omega arith;
  data_told = λ cells others sync same. refl;
}

-- What a header names, and what data hold, is told by their own cells, and by all of these but
-- the last seven: they name and hold nothing else where the last seven are others. A sync is told
-- by fewer cells than data have.
pub record TellsEarly {Name : Type 0} (sync_cells header_cells data_cells : ℕ)
    (header_end : List Bool → ℕ) (data_end : List Bool → ℕ → ℕ)
    (names : List Bool → Name → Type 0) (is_sync : List Bool → ℕ → Type 0)
    (hold : List Bool → ℕ → List ℕ → Type 0) : Type 0 where
  pub sync_within : sync_cells ≤ header_cells
  pub named : (cells others : List Bool) (s : Name) → AgreeTo (header_end cells) cells others
      → names cells s → names others s
  pub named_early : (cells others : List Bool) (s t : Name)
      → AgreeTo (header_end cells - 7) cells others → names cells s → names others t → s ≡ t
  pub synced : (cells others : List Bool) (place : ℕ)
      → AgreeTo (place + data_cells - 7) cells others → is_sync cells place → is_sync others place
  pub held : (cells others : List Bool) (sync : ℕ) (bytes : List ℕ)
      → AgreeTo (data_end cells sync) cells others → hold cells sync bytes
      → hold others sync bytes
  pub held_early : (cells others : List Bool) (sync : ℕ) (xs ys : List ℕ)
      → AgreeTo (data_end cells sync - 7) cells others → hold cells sync xs
      → hold others sync ys → xs ≡ ys

-- Each header begins with some zeros, a one and what more is known of its first cells, and in the
-- ring of given bytes, where another follows it, these cells begin only where headers do.
pub record HasOwnSyncs {Name : Type 0} (sync sync_cells header_cells first sectors : ℕ)
    (names : List Bool → Name → Type 0) (place_of : ℕ → ℕ)
    (Given : List ℕ → Type 0) (ring : List ℕ → List Bool) : Type 0 where
  pub lead : ℕ
  pub rest : List (Option Bool)
  pub short : lead + suc (length rest) + 7 ≤ header_cells
  pub leads : (cells : List Bool) (s : Name) → Stands cells sync sync_cells 0 → names cells s
      → Leads lead rest cells
  pub only : (bytes : List ℕ) → Given bytes
      → Only (Syncs (Some true ∷ rest)) (IsSyncPlace place_of first sectors lead) (ring bytes)
      (ring bytes)

module _ {Name : Type 0} (names : List Bool → Name → Type 0) (is_name_of : Name → ℕ → Type 0)
    (names_sector : List Bool → ℕ → Type 0)
    (is : NamesSectors names is_name_of names_sector) where
  -- where a name of one is that of the other, sectors are one
  pub same_sector : (cells others : List Bool) (s t : ℕ)
      → ((n m : Name) → names cells n → names others m → n ≡ m)
      → names_sector cells s → names_sector others t → s ≡ t
  same_sector cells others s t one first second =
      let n = is.has_name cells s first in
      let m = is.has_name others t second in
      is.one_sector m.0 s t (subst (λ (name : Name). is_name_of name s) (one n.0 m.0 n.1 m.1) n.2)
      m.2

  -- so what is told of names is told of sectors
  pub tells_sector : (sync_cells header_cells data_cells : ℕ) (header_end : List Bool → ℕ)
      (data_end : List Bool → ℕ → ℕ)
      (is_sync : List Bool → ℕ → Type 0) (hold : List Bool → ℕ → List ℕ → Type 0)
      → TellsEarly sync_cells header_cells data_cells header_end data_end names is_sync hold
      → TellsEarly sync_cells header_cells data_cells header_end data_end names_sector is_sync hold
  tells_sector sync_cells header_cells data_cells header_end data_end is_sync hold tells = record {
    sync_within = tells.sync_within;
    named = λ cells others s same named.
        let n = is.has_name cells s named in
        is.is_named others n.0 s (tells.named cells others n.0 same n.1) n.2;
    named_early = λ cells others s t same.
        same_sector cells others s t (λ n m. tells.named_early cells others n m same);
    synced = tells.synced;
    held = tells.held;
    held_early = tells.held_early;
  }

  abbrev pub sector_syncs : (sync sync_cells header_cells first sectors : ℕ) (place_of : ℕ → ℕ)
      (Given : List ℕ → Type 0) (ring : List ℕ → List Bool)
      → HasOwnSyncs sync sync_cells header_cells first sectors names place_of Given ring
      → HasOwnSyncs sync sync_cells header_cells first sectors names_sector place_of Given ring
  sector_syncs sync sync_cells header_cells first sectors place_of Given ring own = record {
    lead = own.lead;
    rest = own.rest;
    short = own.short;
    leads = λ cells s stands named.
        (let n = is.has_name cells s named in own.leads cells n.0 stands n.1);
    only = own.only;
  }

-- Cells at whose front a header of a ring's sector stands: they agree with the sector's
-- frame up to seven before an end, where they are unbroken from some place on; and in
-- the ring the frame has its data.
pub record AgreesWithFrame (header_end : List Bool → ℕ) (data_end : List Bool → ℕ → ℕ)
    (is_sync : List Bool → ℕ → Type 0)
    (hold : List Bool → ℕ → List ℕ → Type 0) (first sectors : ℕ) (place_of : ℕ → ℕ)
    (ring : List Bool) (frame_cells s : ℕ)
    (content : List ℕ) (cells : List Bool) : Type 0 where
  pub number : IsSectorNumber first sectors s
  pub room : (t : ℕ) → IsSectorNumber first sectors t → place_of t + frame_cells ≤ length ring
  pub agree : (low end size : ℕ) → low + 8 ≤ end → end ≤ length cells → Unbroken cells low end
      → end ≤ size → frame_cells ≤ size
      → AgreeTo (end - 7) cells (stretch ring (place_of s) size)
  pub stands : (size : ℕ) → frame_cells ≤ size
      → DataStand header_end data_end is_sync hold (stretch ring (place_of s) size) content

-- what cells up to an end tell, which are unbroken, depends on these alone
pub told-alone : (Said : List Bool → Type 0) (cells : List Bool) (end : ℕ) → 0 < end
    → end ≤ length cells → Unbroken cells 0 end
    → ((others : List Bool) → AgreeTo end cells others → Said others) → IsAlone Said cells
told-alone Said cells end some within unbroken told = record {
  end = end;
  some = some;
  within = within;
  unbroken = unbroken;
  alone = λ more. told (take end cells ++ more) (agree-front end cells more within);
}

module _ (header_cells data_cells : ℕ) (header_end : List Bool → ℕ) (data_end : List Bool → ℕ → ℕ)
    (is_sync : List Bool → ℕ → Type 0) (hold : List Bool → ℕ → List ℕ → Type 0)
    (sync sync_cells data_place first sectors : ℕ) (names : List Bool → ℕ → Type 0)
    (ends : TellsEnds header_cells data_cells header_end data_end)
    (tells : TellsEarly sync_cells header_cells data_cells header_end data_end names is_sync
    hold) where
  abbrev Header : List Bool → ℕ → Type 0
  Header cells s = HeaderStands sync sync_cells header_end first sectors names cells s

  abbrev Sector : List Bool → ℕ → List ℕ → Type 0
  Sector cells s bytes = IsWhole header_end data_end is_sync hold sync sync_cells data_place first
      sectors names cells s bytes

  -- what stands in cells that agree
  agree-header : (total : ℕ) (cells others : List Bool) (s : ℕ) → AgreeTo total cells others
      → header_end cells ≤ total → Header cells s → Header others s
  agree-header total cells others s same long header =
      let own = agree-less total cells others same (header_end cells) long in
      let told = ends.header_told cells others own in
      record {
        begins = agree-stands total cells others same sync sync_cells 0
            (omega (arith, tells.sync_within, ends.header_least cells, long)) header.begins;
        whole = omega (arith, told, agree-length (header_end cells) cells others own header.whole);
        named = tells.named cells others s own header.named;
        known = header.known;
        unbroken = subst (Unbroken others 0) (sym told)
            (agree-unbroken total cells others same 0 (header_end cells) long header.unbroken);
      }

  agree-data_sync : (total : ℕ) (cells others : List Bool) (place : ℕ) → AgreeTo total cells others
      → place + data_cells - 7 ≤ total
      → IsDataSync (header_end cells) (is_sync cells) place
      → IsDataSync (header_end others) (is_sync others) place
  agree-data_sync total cells others place same long at =
      let told = ends.header_told cells others
      (agree-less total cells others same (header_end cells)
      (omega (arith, ends.some, at.after, long))) in
      record {
        after = omega (arith, told, at.after);
        near = omega (arith, told, at.near);
        stands = tells.synced cells others place
            (agree-less total cells others same (place + data_cells - 7) long) at.stands;
        first = λ other above below stands. at.first other (omega (arith, told, above)) below
            (tells.synced others cells other
            (sym (agree-less total cells others same (other + data_cells - 7) (omega arith)))
            stands);
      }

  pub header_alone : (cells : List Bool) (s : ℕ) → 0 < header_cells → Header cells s
      → IsAlone (λ others. Header others s) cells
  header_alone cells s some header =
      let end = header_end cells in
      told-alone (λ others. Header others s) cells end
      (omega (arith, some, ends.header_least cells)) header.whole header.unbroken
      (λ others same. agree-header end cells others s same (omega arith) header)

  pub sector_alone : (cells : List Bool) (s : ℕ) (bytes : List ℕ) → 0 < header_cells
      → Sector cells s bytes
      → IsAlone (λ others. Sector others s bytes) cells
  sector_alone cells s bytes some sector =
      let content = sector.content in
      let place = content.sync in
      let end = data_end cells place in
      let after = content.first_sync.after in
      let past = ends.data_least cells place in
      record {
        end = end;
        some = omega (arith, some, after, past, ends.header_least cells);
        within = content.whole;
        unbroken = content.unbroken;
        alone = λ more.
            let others = take end cells ++ more in
            let same = agree-front end cells more content.whole in
            let told = ends.data_told cells others place same in
            record {
              header =
                  agree-header end cells others s same (omega (arith, after, past)) sector.header;
              content = record {
                sync = place;
                first_sync = agree-data_sync end cells others place same (omega (arith, past))
                    content.first_sync;
                whole = omega (arith, told, agree-length end cells others same content.whole);
                held = tells.held cells others place bytes same content.held;
                unbroken = subst (Unbroken others 0) (sym told)
                    (agree-unbroken end cells others same 0 end (omega arith) content.unbroken);
              };
            };
      }

  module _ (place_of : ℕ → ℕ) (Given : List ℕ → Type 0) (ring : List ℕ → List Bool)
      (own_syncs : HasOwnSyncs sync sync_cells header_cells first sectors names place_of Given
      ring) where
    abbrev Early : (List Bool → Type 0) → List Bool → Type 0
    Early Says cells = SaysEarly (own_syncs.lead + suc (length own_syncs.rest)) Says cells

    -- no header stands in zeros
    pub no_header : (count s : ℕ) → ¬ Header (replicate count false) s
    no_header count s header =
        leads-not_zeros own_syncs.lead own_syncs.rest count
        (own_syncs.leads (replicate count false) s header.begins header.named)

    header_early : (cells : List Bool) (s : ℕ) → Header cells s
        → Early (λ others. (t : ℕ) (bytes : List ℕ) → Sector others t bytes → s ≡ t) cells
    header_early cells s header = record {
      end = header_end cells;
      within = header.whole;
      unbroken = header.unbroken;
      long = omega (arith, own_syncs.short, ends.header_least cells);
      says = λ others same t bytes sector.
          tells.named_early cells others s t same header.named sector.header.named;
    }

    sector_early : (cells : List Bool) (s : ℕ) (bytes : List ℕ) → Sector cells s bytes
        → Early
        (λ others.
        (t : ℕ) (others_bytes : List ℕ) → Sector others t others_bytes → bytes ≡ others_bytes)
        cells
    sector_early cells s bytes sector =
        let data_sync = sector.content.first_sync in
        let place = sector.content.sync in
        let end = data_end cells place in
        let past = ends.data_least cells place in
        record {
          end = end;
          within = sector.content.whole;
          unbroken = sector.content.unbroken;
          long = omega (arith, own_syncs.short, data_sync.after, ends.header_least cells, past);
          says = λ others same t others_bytes other.
              let there = agree-data_sync (end - 7) cells others place same (omega (arith, past))
              data_sync in
              let one : other.content.sync ≡ place =
              one_sync (header_end others) (is_sync others) other.content.sync place
              other.content.first_sync there in
              tells.held_early cells others place bytes others_bytes same sector.content.held
              (subst (λ (n : ℕ). hold others n others_bytes) one other.content.held);
        }

    module _ (ring_cells frame_cells : ℕ) (content : List ℕ → ℕ → List ℕ) (bytes : List ℕ)
        (given : Given bytes) where
      owner : Owner
      owner = record {
        ring = ring bytes;
        ring_cells = ring_cells;
        lead = own_syncs.lead;
        sync = own_syncs.rest;
        header = Header;
        sector = Sector;
        first = first;
        sectors = sectors;
        content = content bytes;
        place_of = place_of;
        frame_cells = frame_cells;
      }

      module _ (size : length (ring bytes) ≡ ring_cells) (some : 1 ≤ frame_cells)
          (low : (s : ℕ) → IsSectorNumber first sectors s → place_of s + frame_cells ≤ ring_cells)
          (room : header_cells ≤ ring_cells)
          (stands : (s from count place : ℕ) → IsSectorNumber first sectors s
          → LiesAt ring_cells (place_of s) frame_cells from count place
          → Sector (drop place (stretch (ring bytes) from count)) s (content bytes s)) where
        owns : IsOwner owner
        unfolding owner
        owns = record {
          size = size;
          room = omega (arith, own_syncs.short, room);
          leads = λ cells s header. own_syncs.leads cells s header.begins header.named;
          only = own_syncs.only bytes given;
          stands = λ s count number enough.
              let within = low s number in
              let here : place_of s + 0 < ring_cells = omega (arith, within, some) in
              let same : (place_of s + 0) % ring_cells ≡ place_of s =
              mod-eq_of_lt here ∙ (omega arith) in
              let long : frame_cells ≤ count = enough in
              stands s (place_of s) count 0 number (record { same = same; whole = omega arith });
          has_header = λ cells s others sector. sector.header;
          header_early = header_early;
          sector_early = sector_early;
        }

        module _ (zeros from count behind place : ℕ) where
          -- a header of any name is that of one of the sectors
          pub named_own : (all : List Bool → HeaderName → Type 0)
              (is_name_of : HeaderName → ℕ → Type 0)
              → NamesSectors all is_name_of names
              → TellsEarly sync_cells header_cells data_cells header_end data_end all is_sync hold
              → ((cells : List Bool) (n : HeaderName) → Stands cells sync sync_cells 0 → all cells n
              → Leads own_syncs.lead own_syncs.rest cells)
              → (name : HeaderName)
              → NamedHeaderStands sync sync_cells header_end all
              (drop place (between_zeros (ring bytes) zeros from count behind)) name
              → (t : ℕ) × Header (drop place (between_zeros (ring bytes) zeros from count behind)) t
          unfolding owner
          named_own all is_name_of is tells_all leads name header =
              let cells = drop place (between_zeros (ring bytes) zeros from count behind) in
              let end = header_end cells in
              let long : own_syncs.lead + suc (length own_syncs.rest) + 7 ≤ end =
              omega (arith, own_syncs.short, ends.header_least cells) in
              let found = owning.found owner owns zeros from count behind place end
              (leads cells name header.begins header.named)
              header.whole header.unbroken long in
              let t = found.0 in
              let size = end + frame_cells in
              let part = stretch (ring bytes) (place_of t) size in
              let same = found.1.agree 0 end size (omega (arith, long)) header.whole header.unbroken
              (omega arith) (omega arith) in
              let ring_name = is.has_name part t
              (owns.stands t size found.1.number (omega arith)).header.named in
              let one : name ≡ ring_name.0 =
              tells_all.named_early cells part name ring_name.0 same header.named ring_name.1 in (
                t,
                record {
                  begins = header.begins;
                  whole = header.whole;
                  named = is.is_named cells name t header.named
                      (subst (λ (n : HeaderName). is_name_of n t) (sym one) ring_name.2);
                  known = found.1.number;
                  unbroken = header.unbroken;
                },
              )

        module _ (s zeros from count behind place : ℕ) where
          pub header_own : Header (drop place (between_zeros (ring bytes) zeros from count behind))
              s
              → IsOwnPlace ring_cells (place_of s) zeros from place
          unfolding owner
          header_own header = owning.header_own owner owns zeros from count behind place s header

          pub sector_own : (xs : List ℕ)
              → Sector (drop place (between_zeros (ring bytes) zeros from count behind)) s xs
              → xs ≡ content bytes s
          unfolding owner
          sector_own xs sector =
              (owning.sector_own owner owns zeros from count behind place s xs sector).1

          pub header_agrees : Header
              (drop place (between_zeros (ring bytes) zeros from count behind)) s
              → AgreesWithFrame header_end data_end is_sync hold first sectors place_of (ring bytes)
              frame_cells s (content bytes s)
              (drop place (between_zeros (ring bytes) zeros from count behind))
          unfolding owner
          header_agrees header =
              let here = owning.header_found owner owns zeros from count behind place s header in
              record {
                number = here.number;
                room = λ t number. (let within = low t number in omega (arith, within, size));
                agree = here.agree;
                stands = λ many enough. (owns.stands s many here.number enough).content;
              }

-- What is known of a track: what cells tell of it, where its first cells stand in its
-- ring, and where its sectors do.
pub record TellsTrack (header_cells data_cells : ℕ) (header_end : List Bool → ℕ)
    (data_end : List Bool → ℕ → ℕ) (is_sync : List Bool → ℕ → Type 0)
    (hold : List Bool → ℕ → List ℕ → Type 0) (sync sync_cells data_place first sectors : ℕ)
    (all : List Bool → HeaderName → Type 0) (names : List Bool → ℕ → Type 0) (place_of : ℕ → ℕ)
    (Given : List ℕ → Type 0) (ring : List ℕ → List Bool) (ring_cells : ℕ)
    (content : List ℕ → ℕ → List ℕ) : Type 0 where
  pub ends : TellsEnds header_cells data_cells header_end data_end
  pub tells : TellsEarly sync_cells header_cells data_cells header_end data_end names is_sync hold
  pub syncs : HasOwnSyncs sync sync_cells header_cells first sectors names place_of Given ring
  pub leads : (cells : List Bool) (n : HeaderName) → Stands cells sync sync_cells 0 → all cells n
      → Leads syncs.lead syncs.rest cells
  pub some : 1 ≤ data_place + data_cells
  pub size : (bytes : List ℕ) → Given bytes → length (ring bytes) ≡ ring_cells
  pub low : (bytes : List ℕ) → Given bytes → (s : ℕ) → IsSectorNumber first sectors s
      → place_of s + (data_place + data_cells) ≤ ring_cells
  pub room : (bytes : List ℕ) → Given bytes → header_cells ≤ ring_cells
  pub stands : (bytes : List ℕ) → Given bytes → (s from count place : ℕ)
      → IsSectorNumber first sectors s
      → LiesAt ring_cells (place_of s) (data_place + data_cells) from count place
      → IsWhole header_end data_end is_sync hold sync sync_cells data_place first sectors names
      (drop place (stretch (ring bytes) from count)) s (content bytes s)

module _ {header_cells data_cells : ℕ} {header_end : List Bool → ℕ} {data_end : List Bool → ℕ → ℕ}
    {is_sync : List Bool → ℕ → Type 0}
    {hold : List Bool → ℕ → List ℕ → Type 0} {sync sync_cells data_place first sectors : ℕ}
    {all : List Bool → HeaderName → Type 0} {names : List Bool → ℕ → Type 0} {place_of : ℕ → ℕ}
    {Given : List ℕ → Type 0} {ring : List ℕ → List Bool} {ring_cells : ℕ}
    {content : List ℕ → ℕ → List ℕ}
    (told : TellsTrack header_cells data_cells header_end data_end is_sync hold sync sync_cells
    data_place first sectors all names place_of Given ring ring_cells content) where
  -- no header of one of its sectors stands in zeros
  pub track-no_header : (count s : ℕ)
      → ¬ HeaderStands sync sync_cells header_end first sectors names (replicate count false) s
  track-no_header = no_header header_cells data_cells header_end data_end is_sync hold sync
      sync_cells data_place first sectors names told.ends told.tells place_of Given ring told.syncs

  module _ (bytes : List ℕ) (given : Given bytes) (zeros from count behind place : ℕ) where
    abbrev here : List Bool
    here = drop place (between_zeros (ring bytes) zeros from count behind)

    -- in a stretch of its ring between zeros stands nothing but its own sectors
    pub track-header_own : (s : ℕ)
        → HeaderStands sync sync_cells header_end first sectors names here s
        → IsOwnPlace ring_cells (place_of s) zeros from place
    track-header_own s =
        header_own header_cells data_cells header_end data_end is_sync hold sync sync_cells
        data_place first sectors names told.ends told.tells place_of Given ring told.syncs
        ring_cells (data_place + data_cells) content bytes given (told.size bytes given) told.some
        (told.low bytes given) (told.room bytes given) (told.stands bytes given)
        s zeros from count behind place

    pub track-sector_own : (s : ℕ) (xs : List ℕ)
        → IsWhole header_end data_end is_sync hold sync sync_cells data_place first sectors names
        here s xs
        → xs ≡ content bytes s
    track-sector_own s =
        sector_own header_cells data_cells header_end data_end is_sync hold sync sync_cells
        data_place first sectors names told.ends told.tells place_of Given ring told.syncs
        ring_cells (data_place + data_cells) content bytes given (told.size bytes given) told.some
        (told.low bytes given) (told.room bytes given) (told.stands bytes given)
        s zeros from count behind place

    pub track-header_agrees : (s : ℕ)
        → HeaderStands sync sync_cells header_end first sectors names here s
        → AgreesWithFrame header_end data_end is_sync hold first sectors place_of (ring bytes)
        (data_place + data_cells) s (content bytes s) here
    track-header_agrees s =
        header_agrees header_cells data_cells header_end data_end is_sync hold sync sync_cells
        data_place first sectors names told.ends told.tells place_of Given ring told.syncs
        ring_cells (data_place + data_cells) content bytes given (told.size bytes given) told.some
        (told.low bytes given) (told.room bytes given) (told.stands bytes given)
        s zeros from count behind place

    pub track-named_own : (is_name_of : HeaderName → ℕ → Type 0) → NamesSectors all is_name_of names
        → TellsEarly sync_cells header_cells data_cells header_end data_end all is_sync hold
        → (name : HeaderName) → NamedHeaderStands sync sync_cells header_end all here name
        → (t : ℕ) × HeaderStands sync sync_cells header_end first sectors names here t
    track-named_own is_name_of named tells =
        named_own header_cells data_cells header_end data_end is_sync hold sync sync_cells
        data_place first sectors names told.ends told.tells place_of Given ring told.syncs
        ring_cells (data_place + data_cells) content bytes given (told.size bytes given) told.some
        (told.low bytes given) (told.room bytes given) (told.stands bytes given)
        zeros from count behind place all is_name_of named tells told.leads

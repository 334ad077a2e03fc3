-- What an FM header names, and what FM data hold, is told by their own cells, and by
-- all of these but the last seven.
use Rattle.std.specs.Prelude.{◌≡◌, ℕ, ◌+◌, ◌-◌, ◌≤◌, Bool, List}
use Rattle.std.proofs.Common.{ap, sym, ◌∙◌, arith, inl, inr}
use Rattle.track_rings.specs.lemmas.Fronts.{AgreeTo, agree-data_byte, agree-stands}
use Rattle.frame_law.specs.lemmas.OwnFrames.{TellsEarly}
use Rattle.flux_base.specs.declared.header_name.HeaderName.{HeaderName}
use Rattle.ibm_fields.specs.Fields.{bytes_at}
use Rattle.ibm_fields.specs.lemmas.FieldLaws.{length-bytes_at, one_address}
use Rattle.ibm_fields.specs.lemmas.FieldFronts.{agree-bytes_at, agree-number_at}
use Rattle.ibm_fm.specs.Sectors.{CONTENT_CHECK_PLACE, DATA_CELLS, DataMarkAt, Hold, IsSync, Names}
use Rattle.ibm_fm.specs.Sectors.{check_of}

named : (cells others : List Bool) (n : HeaderName) → AgreeTo 112 cells others → Names cells n
    → Names others n
named cells others n same names = record {
  address = sym (agree-bytes_at 112 cells others same 16 4 (omega arith)) ∙ names.address;
  check = sym (agree-number_at 112 cells others same 80 (omega arith)) ∙ names.check;
}

-- the address stands before the last seven cells
named_early : (cells others : List Bool) (n m : HeaderName) → AgreeTo 105 cells others
    → Names cells n → Names others m → n ≡ m
named_early cells others n m same first second =
    one_address (bytes_at cells 16 4) n m (length-bytes_at cells 16 4) first.address
    (agree-bytes_at 105 cells others same 16 4 (omega arith) ∙ second.address)

opens : (total : ℕ) (cells others : List Bool) (place : ℕ) → AgreeTo total cells others
    → place + 16 ≤ total → DataMarkAt cells place
    → DataMarkAt others place
opens total cells others place same long (inl stands) =
    inl (agree-stands total cells others same 0xF56F 16 place long stands)
opens total cells others place same long (inr stands) =
    inr (agree-stands total cells others same 0xF56A 16 place long stands)

synced : (size : ℕ) (cells others : List Bool) (place : ℕ)
    → AgreeTo (place + DATA_CELLS size - 7) cells others → IsSync cells place → IsSync others place
synced size cells others place same (inl opening) =
    inl (opens (place + DATA_CELLS size - 7) cells others place same (omega arith) opening)
synced size cells others place same (inr (inl stands)) =
    inr
    (inl
    (agree-stands (place + DATA_CELLS size - 7) cells others same 0xF57E 16 place (omega arith)
    stands))
synced size cells others place same (inr (inr stands)) =
    inr
    (inr
    (agree-stands (place + DATA_CELLS size - 7) cells others same 0xF77A 16 place (omega arith)
    stands))

held : (size : ℕ) (cells others : List Bool) (sync : ℕ) (bytes : List ℕ)
    → AgreeTo (sync + DATA_CELLS size) cells others → Hold size cells sync bytes
    → Hold size others sync bytes
held size cells others sync bytes same hold =
    let total = sync + DATA_CELLS size in record {
      opens = opens total cells others sync same (omega arith) hold.opens;
      content = sym (agree-bytes_at total cells others same (sync + 16) size (omega arith))
          ∙ hold.content;
      check = sym
          (agree-number_at total cells others same (sync + CONTENT_CHECK_PLACE size) (omega arith))
          ∙ hold.check
          ∙ ap (λ (byte : ℕ). check_of byte bytes)
          (agree-data_byte total cells others same sync (omega arith));
    }

-- so do the bytes
held_early : (size : ℕ) (cells others : List Bool) (sync : ℕ) (xs ys : List ℕ)
    → AgreeTo (sync + DATA_CELLS size - 7) cells others → Hold size cells sync xs
    → Hold size others sync ys → xs ≡ ys
held_early size cells others sync xs ys same first second =
    sym first.content
    ∙ agree-bytes_at (sync + DATA_CELLS size - 7) cells others same (sync + 16) size
    (omega arith)
    ∙ second.content

-- data have more than the last seven cells
pub data_long : (size : ℕ) → 8 ≤ DATA_CELLS size
data_long size = omega arith

pub tells : (size : ℕ)
    → TellsEarly 16 112 (DATA_CELLS size) (λ cells. 112) (λ cells sync. sync + DATA_CELLS size)
    Names IsSync (Hold size)
tells size = record {
  sync_within = omega arith;
  named = named;
  named_early = named_early;
  synced = synced size;
  held = held size;
  held_early = held_early size;
}

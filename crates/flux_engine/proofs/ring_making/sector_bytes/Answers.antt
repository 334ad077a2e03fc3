use Rattle.std.proofs.Common.{◌≡◌, ◌+◌, ◌*◌, ◌<◌, All, ℕ, List, arith, ap, sym, subst, ◌∙◌, get_or, ◌-◌, ◌++◌, take, drop}
use Rattle.std.proofs.lemmas.List.Elements.{All-from_get_or}
use Rattle.std.specs.List.{flat_map, range_with_len}
use Rattle.sector_images.specs.Formats.{row}
use Rattle.flux_engine.specs.Recordings.{sectors_of}
use Rattle.flux_engine.specs.Rings.{sector_bytes, track_bytes}
use Rattle.disk_recordings.specs.declared.sectors.Sectors.{Sectors}
use Rattle.flux_engine.proofs.RingLaws.{sectors_fit, sectors_more, slice_size}
use Rattle.flux_engine.proofs.ring_making.sector_bytes.Goals as goal

pub returns-clause-bytes : goal.returns-clause-bytes
unfolding track_bytes
returns-clause-bytes c =
    let all : c.loop-index.index ≡ c.sectors_of-sectors.result.count = omega arith in
    c.loop-index.invariant.bytes
    ∙ ap (λ (n : ℕ). flat_map (sector_bytes c.args.format c.args.track c.args.image.now) (range_with_len c.sectors_of-sectors.result.first n)) all
    ∙ ap (λ (s : Sectors). flat_map (sector_bytes c.args.format c.args.track c.args.image.now) (range_with_len s.first s.count)) c.sectors_of-sectors.ensures

pub returns-clause-sectors : goal.returns-clause-sectors
returns-clause-sectors c =
    let all : c.loop-index.index ≡ c.sectors_of-sectors.result.count = omega arith in
    let count : c.sectors_of-sectors.result.count ≡ (sectors_of c.args.format c.args.track).count = ap (λ (s : Sectors). s.count) c.sectors_of-sectors.ensures in
    let size : c.sectors_of-sectors.result.size ≡ (sectors_of c.args.format c.args.track).size = ap (λ (s : Sectors). s.size) c.sectors_of-sectors.ensures in
    let bytes : All (λ byte. byte < 256) c.args.image.now =
    All-from_get_or (λ byte. byte < 256) c.args.image.now 0 (λ i within. omega (arith, c.type_inv.image i)) in record {
      whole = c.loop-index.invariant.len ∙ ap (λ (n : ℕ). n * c.sectors_of-sectors.result.size) (all ∙ count)
          ∙ ap (λ (n : ℕ). (sectors_of c.args.format c.args.track).count * n) size;
      fit = λ k.
          subst (λ (bs : List ℕ). get_or bs k 0 < 256) (sym (returns-clause-bytes c)) (sectors_fit c.args.format c.args.track c.args.image.now bytes k);
    }

pub loop-index-preserved : goal.loop-index-preserved
loop-index-preserved c =
    let place : ℕ = c.image_place-place.result in
    let size : ℕ = c.from.result in
    let more = sectors_more c.args.format c.args.track c.args.image.now c.sectors_of-sectors.result c.loop-index.index place size c.sectors_of-sectors.ensures
    c.image_place-place.ensures.place c.from.ensures in
    let size_is : (row c.args.format).sector_size ≡ size = sym (c.from.ensures ∙ ap (λ (s : Sectors). s.size) c.sectors_of-sectors.ensures) in
    let taken = slice_size c.args.image.now place size (omega (arith, c.image_place-place.ensures.within, size_is, c.requires.image)) in
    let next : (c.loop-index.index + 1) * c.sectors_of-sectors.result.size ≡ c.loop-index.index * c.sectors_of-sectors.result.size + size =
    omega (arith, c.from.ensures) in record {
      bytes = c.in-Ok.ensures.ok
          ∙ ap (λ (bytes : List ℕ). bytes ++ take (place + size - place) (drop place c.args.image.now)) c.loop-index.invariant.bytes ∙ more;
      len = omega (arith, c.in-Ok.ensures.len, taken, c.loop-index.invariant.len, next);
    }

use Rattle.std.proofs.Common.{◌≡◌, ◌∙◌, ℕ, ap, sym}
use Rattle.apple_gcr.specs.Sectors.{check_of}
use Rattle.apple_gcr.specs.lemmas.StandLaws.{address_numbers, one_byte}
use Rattle.apple_gcr.proofs.header.name_of.Goals as goal

pub returns-then-check-xor_bytes-clause-none : goal.returns-then-check-xor_bytes-clause-none
returns-then-check-xor_bytes-clause-none c = λ name named.
    let there = address_numbers _ name named in
    let names = there.2 in
    let volume : names.volume ≡ c.in_ok-volume.volume = one_byte _ _ names.volume c.in_ok-volume.volume names.has_volume c.in_ok-volume.ensures.some in
    let track : there.0 ≡ c.in_ok-track.track = one_byte _ _ there.0 c.in_ok-track.track names.has_track c.in_ok-track.ensures.some in
    let sector : there.1 ≡ c.in_ok-sector.sector = one_byte _ _ there.1 c.in_ok-sector.sector names.has_sector c.in_ok-sector.ensures.some in
    let check : c.in_ok-check.check ≡ check_of names.volume there.0 there.1 =
    one_byte _ _ c.in_ok-check.check (check_of names.volume there.0 there.1) c.in_ok-check.ensures.some names.has_check in
    c.if-check-xor_bytes.true
    (check
    ∙ ap (λ (n : ℕ). check_of n there.0 there.1) volume
    ∙ ap (λ (n : ℕ). check_of c.in_ok-volume.volume n there.1) track
    ∙ ap (check_of c.in_ok-volume.volume c.in_ok-track.track) sector
    ∙ sym c.xor_bytes.ensures)

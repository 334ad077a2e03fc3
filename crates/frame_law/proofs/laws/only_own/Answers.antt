use Rattle.std.proofs.Common.{◌≡◌, ℕ, replicate, List, Bool, false, ◌+◌, ◌%◌, ◌<◌, drop, ap, sym, subst, ◌∙◌, append-nil, arith, inl, inr}
use Rattle.std.proofs.Math.Nat.{mod-eq_of_lt}
use Rattle.std.proofs.lemmas.Bool.{cases_lt}
use Rattle.track_rings.specs.OwnSectors.{IsOwnPlace, between_zeros}
use Rattle.track_rings.specs.Rings.{stretch}
use Rattle.frame_law.proofs.laws.only_own.Goals as goal

-- a stretch is one with no zeros before and after it
no_zeros : (ring : List Bool) (from count place : ℕ) → drop place (stretch ring from count) ≡ drop place (between_zeros ring 0 from count 0)
no_zeros ring from count place = ap (drop place) (sym (append-nil (stretch ring from count)))

own_place : (ring_cells begin from place : ℕ) → begin < ring_cells → IsOwnPlace ring_cells begin 0 from place → (from + place) % ring_cells ≡ begin
own_place ring_cells begin from place low own =
    let e : begin + 0 ≡ begin = omega arith in
    own ∙ ap (λ (n : ℕ). n % ring_cells) e ∙ mod-eq_of_lt low

pub returns-clause-alone : goal.returns-clause-alone
returns-clause-alone g c r track known =
    let laws = g.met.R.Recording in
    record {
      headers = laws.header_alone r track;
      sectors = laws.sector_alone r track;
      no_header = λ count s header. laws.no_header r track count s known header;
      no_sector = λ count s bytes sector. laws.no_header r track count s known (laws.header_of_sector r track (replicate count false) s bytes sector);
    }

pub returns-clause-between_zeros : goal.returns-clause-between_zeros
returns-clause-between_zeros g c r track bytes zeros from count behind known given =
    let laws = g.met.R.Recording in
    let cells = λ (place : ℕ). drop place (between_zeros (g.R.Recording.ring r track bytes) zeros from count behind) in
    record {
      headers = λ place s header. laws.header_own r track bytes s zeros from count behind place known given header;
      sectors = λ place s content sector. (
        laws.header_own r track bytes s zeros from count behind place known given (laws.header_of_sector r track (cells place) s content sector),
        laws.sector_own r track bytes s zeros from count behind place content known given sector,
      );
    }

pub returns-clause-stretches : goal.returns-clause-stretches
returns-clause-stretches g c r track bytes from count known given =
    let ring = g.R.Recording.ring r track bytes in
    let laws = g.met.R.Recording in
    let place_at = λ (place s : ℕ) (header : g.R.Recording.header_at r track (drop place (stretch ring from count)) s).
    let number = laws.header_number r track (drop place (stretch ring from count)) s known header in
    let whole = laws.frame_whole r track bytes s known given number in
    let some = laws.frame_some r in
    let own = laws.header_own r track bytes s 0 from count 0 place known given
    (subst (λ (cells : List Bool). g.R.Recording.header_at r track cells s) (no_zeros ring from count place) header) in
    own_place (g.R.Recording.ring_cells r track) (g.R.Recording.sector_place r track s) from place (omega (arith, whole.0, some)) own in
    record {
      sectors = λ place s content sector. (
        place_at place s (laws.header_of_sector r track (drop place (stretch ring from count)) s content sector),
        laws.sector_own r track bytes s 0 from count 0 place content known given
            (subst (λ (cells : List Bool). g.R.Recording.sector_at r track cells s content) (no_zeros ring from count place) sector),
      );
      headers = λ place s only. (
        place_at place s only.0,
        elim (cases_lt count (place + g.R.Recording.frame_cells r)) [
          | inl cut ↦ cut
          | inr whole ↦ absurd (
              let number = laws.header_number r track (drop place (stretch ring from count)) s known only.0 in
              only.1 s _ (laws.sector_stands r track bytes s from count place known given number
              (record { same = place_at place s only.0; whole = whole })))
        ],
      );
    }

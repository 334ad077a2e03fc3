-- The recording's numbers; what cells name and hold is one thing, and is told by their own cells,
-- and by all of these but the last seven.
use Rattle.std.specs.Prelude.{◌≡◌, ℕ, ◌+◌, ◌-◌, ◌*◌, ◌<◌, ◌≤◌, Bool, List, ◌++◌, length, get_or}
use Rattle.std.specs.Prelude.{drop, refl}
use Rattle.std.proofs.Common.{ap, sym, subst, ◌∙◌, arith, lit<, lit≤}
use Rattle.std.proofs.Math.Seq.{drop-append_seam}
use Rattle.flux_base.specs.declared.track.TrackId.{TrackId}
use Rattle.track_rings.specs.lemmas.Fronts.{AgreeTo, agree-stands}
use Rattle.frame_law.specs.Frames.{AreSizes, IsWithinReach}
use Rattle.frame_law.specs.lemmas.FrameSizes.{AreSizes-fit}
use Rattle.frame_law.specs.lemmas.OwnFrames.{TellsEarly}
use Rattle.frame_law.specs.Others.{NamesSectors}
use Rattle.apple_nibbles.specs.Marks.{IsSync}
use Rattle.apple_nibbles.specs.Nibbles.{disk_byte}
use Rattle.apple_nibbles.specs.lemmas.FieldBytes.{same_byte}
use Rattle.apple_nibbles.specs.lemmas.NibbleLaws.{one_value}
use Rattle.macintosh_gcr.specs.Coding.{AreSixBits, IsCoded, NO_SUMS}
use Rattle.macintosh_gcr.specs.Sectors.{Hold, IsNameOf, Names, NamesSector, checked, low_value}
use Rattle.macintosh_gcr.specs.Sectors.{named_values, side_value}
use Rattle.flux_base.specs.declared.header_name.HeaderName.{HeaderName}
use Rattle.flux_base.specs.declared.header_name.HeaderName.TheVariants.{Address, TrackSector}
use Rattle.flux_base.specs.declared.header_name.HeaderName.TheVariants.{TrackSectorSide}
use Rattle.macintosh_gcr.specs.lemmas.CodingLaws.{AreSums, FirstSame, data-fit, data-length}
use Rattle.macintosh_gcr.specs.lemmas.CodingLaws.{one_plain}
use Rattle.macintosh_gcr.specs.lemmas.Values.{nibbles-agree, one_nibble}

pub sizes : AreSizes 1 3 24 64 2
sizes = AreSizes-fit (lit≤ tt) (lit≤ tt) (lit≤ tt) (lit≤ tt) (lit≤ tt) (lit≤ tt) (lit≤ tt)

pub within_reach : IsWithinReach 64 148 5656
within_reach = record { after = lit≤ tt; near = lit< tt; few = lit≤ tt }

-- the first four nibbles are those of the name
one_values : (a b c d e f m n : ℕ) → a ≡ b → c ≡ d → e ≡ f → m ≡ n
    → TrackSectorSide a c e m ≡ TrackSectorSide b d f n
one_values a b c d e f m n first second third fourth = cc

same_name : (total : ℕ) (cells others : List Bool) → AgreeTo total cells others → 56 ≤ total
    → (n m : HeaderName) → Names cells n → Names others m → n ≡ m
same_name total cells others same long (Address cylinder head sector size) m first second =
    absurd first
same_name total cells others same long (TrackSector track sector) m first second = absurd first
same_name total cells others same long (TrackSectorSide low s side format)
    (Address cylinder head sector size) first second = absurd second
same_name total cells others same long (TrackSectorSide low s side format)
    (TrackSector track sector) first second = absurd second
same_name total cells others same long (TrackSectorSide low s side format)
    (TrackSectorSide other t far form) first second =
    let at : (place : ℕ) → place + 8 ≤ 56 → disk_byte others place ≡ disk_byte cells place =
    λ place below.
    same_byte total cells others same place (omega (arith, below, long)) in
    one_values low other s t side far format form
    (one_value low other first.low_fits second.low_fits
    (sym (first.values 0 (lit< tt)) ∙ sym (at 24 (lit≤ tt)) ∙ second.values 0 (lit< tt)))
    (one_value s t first.sector_fits second.sector_fits
    (sym (first.values 1 (lit< tt)) ∙ sym (at 32 (lit≤ tt)) ∙ second.values 1 (lit< tt)))
    (one_value side far first.side_fits second.side_fits
    (sym (first.values 2 (lit< tt)) ∙ sym (at 40 (lit≤ tt)) ∙ second.values 2 (lit< tt)))
    (one_value format form first.format_fits second.format_fits
    (sym (first.values 3 (lit< tt)) ∙ sym (at 48 (lit≤ tt)) ∙ second.values 3 (lit< tt)))

pub one_name : (cells : List Bool) (n m : HeaderName) → Names cells n → Names cells m → n ≡ m
one_name cells n m first second = same_name 56 cells cells refl (lit≤ tt) n m first second

pub named_sector : (track : TrackId) → NamesSectors Names (IsNameOf track) (NamesSector track)
named_sector track = record {
  has_name = λ cells s named.
      (TrackSectorSide (low_value track) s (side_value track) named.0, named.1, (named.0, refl));
  is_named = λ cells name s named same. (same.0, subst (Names cells) same.1 named);
  one_sector = λ name s t first second.
      one_sector (low_value track) (side_value track) s t first.0 second.0 (sym first.1 ∙ second.1);
}
  where
    one_sector : (low side s t format form : ℕ)
        → TrackSectorSide low s side format ≡ TrackSectorSide low t side form → s ≡ t
    one_sector low side s t format form same = cc

named : (cells others : List Bool) (n : HeaderName) → AgreeTo 64 cells others → Names cells n
    → Names others n
named cells others (Address cylinder head sector size) same names = absurd names
named cells others (TrackSector track sector) same names = absurd names
named cells others (TrackSectorSide low s side format) same names = record {
  format_fits = names.format_fits;
  low_fits = names.low_fits;
  side_fits = names.side_fits;
  sector_fits = names.sector_fits;
  values = nibbles-agree 64 cells others 24 (checked (named_values low side s format)) same
      (lit≤ tt) names.values;
}

pub no_sums_fit : AreSums NO_SUMS
no_sums_fit = record { a = lit< tt; b = lit< tt; c = lit< tt }

-- the values of coded bytes have six bits, and there are 703
pub coded-fit : (values bytes : List ℕ) → IsCoded values bytes → AreSixBits values
coded-fit values bytes coded =
    subst AreSixBits (sym coded.values_are)
    (data-fit coded.spare NO_SUMS bytes coded.spare_fits no_sums_fit coded.fit)

pub coded-length : (values bytes : List ℕ) → IsCoded values bytes → length values ≡ 703
coded-length values bytes coded =
    ap length coded.values_are ∙ data-length 174 coded.spare NO_SUMS bytes coded.size

-- the values before the check values tell the bytes
pub coded-one : (values others xs ys : List ℕ) → IsCoded values xs → IsCoded others ys
    → FirstSame 699 values others → xs ≡ ys
coded-one values others xs ys first second same =
    one_plain 174 first.spare second.spare NO_SUMS xs ys first.size second.size first.spare_fits
    second.spare_fits no_sums_fit first.fit second.fit
    (λ k below.
    ap (λ (some : List ℕ). get_or some k 0) (sym first.values_are) ∙ same k below
    ∙ ap (λ (some : List ℕ). get_or some k 0) second.values_are)

after-tags : (tags bytes : List ℕ) → length tags ≡ 12 → drop 12 (tags ++ bytes) ≡ bytes
after-tags tags bytes size =
    ap (λ (n : ℕ). drop n (tags ++ bytes)) (sym size) ∙ drop-append_seam tags bytes

-- so the nibbles before those of the check values tell what data hold
pub held_one : (cells others : List Bool) (sync : ℕ) (xs ys : List ℕ)
    → ((k : ℕ) → k < 699
    → disk_byte others (sync + 32 + 8 * k) ≡ disk_byte cells (sync + 32 + 8 * k))
    → Hold cells sync xs → Hold others sync ys → xs ≡ ys
held_one cells others sync xs ys same first second =
    let vs = first.coded_values in
    let ws = second.coded_values in
    let long = coded-length vs (first.tags ++ xs) first.coded in
    let also = coded-length ws (second.tags ++ ys) second.coded in
    let all = coded-one vs ws (first.tags ++ xs) (second.tags ++ ys) first.coded second.coded
    (λ k below.
    one_nibble (disk_byte cells (sync + 32 + 8 * k)) (disk_byte others (sync + 32 + 8 * k)) vs ws k
    (coded-fit vs (first.tags ++ xs) first.coded)
    (coded-fit ws (second.tags ++ ys) second.coded) (same k below)
    (first.stand k (omega (arith, long, below)))
    (second.stand k (omega (arith, also, below)))) in
    sym (after-tags first.tags xs first.tags_size) ∙ ap (drop 12) all
    ∙ after-tags second.tags ys second.tags_size

pub one_content : (cells : List Bool) (sync : ℕ) (xs ys : List ℕ) → Hold cells sync xs
    → Hold cells sync ys → xs ≡ ys
one_content cells sync xs ys first second =
    held_one cells cells sync xs ys (λ k below. refl) first second

held : (cells others : List Bool) (sync : ℕ) (bytes : List ℕ) → AgreeTo (sync + 5656) cells others
    → Hold cells sync bytes → Hold others sync bytes
held cells others sync bytes same hold =
    let at : (place : ℕ) → place + 8 ≤ sync + 5656
    → disk_byte others place ≡ disk_byte cells place =
    same_byte (sync + 5656) cells others same in
    let long = coded-length hold.coded_values (hold.tags ++ bytes) hold.coded in
    record {
      opens = at (sync + 16) (omega arith) ∙ hold.opens;
      of_sector = at (sync + 24) (omega arith) ∙ hold.of_sector ∙ sym (at 32 (omega arith));
      tags = hold.tags;
      coded_values = hold.coded_values;
      tags_size = hold.tags_size;
      size = hold.size;
      coded = hold.coded;
      stand = nibbles-agree (sync + 5656) cells others (sync + 32) hold.coded_values same
          (omega (arith, long)) hold.stand;
    }

-- a header's number and the bytes of data stand before the last seven cells
pub tells : TellsEarly 24 64 5656 (λ cells. 64) (λ cells sync. sync + 5656) Names IsSync Hold
tells = record {
  sync_within = lit≤ tt;
  named = named;
  named_early = λ cells others n m same first second.
      same_name 57 cells others same (lit≤ tt) n m first second;
  synced = λ cells others place same stands.
      agree-stands (place + 5656 - 7) cells others same 0xD5AA 16 place (omega arith) stands;
  held = held;
  held_early = λ cells others sync xs ys same first second.
      held_one cells others sync xs ys
      (λ k below.
      same_byte (sync + 5656 - 7) cells others same (sync + 32 + 8 * k) (omega (arith, below)))
      first second;
}

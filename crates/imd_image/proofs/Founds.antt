-- The files of a track, one after the other, and the tracks.
use Rattle.std.proofs.Common.{◌≡◌, ◌<◌, ◌≤◌, ◌⊎◌, ◌+◌, ◌*◌, ◌++◌, ℕ, zero, suc, List, [], ◌∷◌, length, get_or, Option, refl, sym, ap, subst, ◌∙◌, inl, inr, arith, append-nil, append_assoc, length-append}
use Rattle.std.specs.Prelude.{flat_map}
use Rattle.std.specs.Io.KnownBytes.{Appends}
use Rattle.std.proofs.KnownBytes.{Appends-trans}
use Rattle.std.proofs.lemmas.Bool.{cases_lt}
use Rattle.std.proofs.lemmas.List.{get_or_append_left}
use Rattle.dump_reading.specs.DumpStreams.{DumpTracks, HaveComeOf}
use Rattle.dump_reading.specs.Files.{ShelfNow}
use Rattle.dump_reading.specs.lemmas.Coming.{came-gave, none_came}
use Rattle.dump_turns.specs.Reaches.{track_number}
use Rattle.dump_turns.specs.declared.reach.Reach.{Reach}
use Rattle.flux_base.specs.declared.track.TrackId.{TrackId}
use Rattle.flux_engine.specs.Plans.{Seen, passed_one}
use Rattle.flux_engine.specs.declared.gathered_track.PassedStream.{PassedStream}
use Rattle.imd_records.specs.Choices.{names_by}
use Rattle.imd_records.specs.declared.books.TrackBooks.{TrackBooks}
use Rattle.imd_records.specs.declared.mode.Mode.{Mode}
use Rattle.imd_records.specs.declared.mode.Mode.TheVariants.{Mfm250}
use Rattle.name_book.specs.Book.{NamesStandFor}
use Rattle.imd_image.specs.Found.{IsFoundOf, TrackFound, found_at, passed_in}
use Rattle.imd_image.specs.Outcomes.{DumpsAsked, HaveFound, streams_at}
use Rattle.imd_image.specs.Reaches.{of_reach}
use Rattle.imd_image.specs.inside.Finding.{HasFoundTrack, HasNotedFile, HaveNotedFiles}
use Rattle.imd_image.proofs.Counting.{flat-push}
use Rattle.imd_image.proofs.Joining.{names-more, passed-more}

module _ (of : DumpTracks) (track : TrackId) where
  pub files-none : (start : ShelfNow) (books : TrackBooks) (passed : List PassedStream) → passed ≡ [] → ((mode : Mode) → NamesStandFor (names_by books mode) [] [])
      → HaveNotedFiles of track 0 start start books passed
  files-none start books passed none cleared = record {
    streams = [];
    many = refl;
    came = λ first before number same size have. subst (HaveComeOf of first start) (sym (append-nil before)) have;
    names = λ mode. record { headers = []; «data» = []; are = (refl, refl); stand = cleared mode };
    passed_are = none;
  }

  pub files-more : (count : ℕ) → count < of.count → (start mid now : ShelfNow) (books later : TrackBooks) (passed passed' : List PassedStream)
      → HaveNotedFiles of track count start mid books passed → HasNotedFile of.stepping of.dumps track count mid now books later passed passed'
      → HaveNotedFiles of track (count + 1) start now later passed'
  files-more count low start mid now books later passed passed' w one = record {
    streams = w.streams ++ one.here ∷ [];
    many = length-append w.streams (one.here ∷ []) ∙ ap (λ (n : ℕ). n + 1) w.many;
    came = λ first before number same size have.
        subst (HaveComeOf of first now) (append_assoc before w.streams (one.here ∷ []))
        (came-gave of first mid (before ++ w.streams) number count low
        (length-append before w.streams ∙ ap (λ (n : ℕ). n + length w.streams) size ∙ ap (λ (k : ℕ). number * of.count + k) w.many) (w.came first before number same size have) track
        same now one.here one.gave);
    names = λ mode. names-more w.streams one.here mode count w.many (names_by books mode) (names_by later mode) (w.names mode) (one.noted mode);
    passed_are = one.passed_are ∙ ap (λ (ps : List PassedStream). ps ++ passed_one count one.here.passed) w.passed_are ∙ sym (passed-more w.streams one.here count w.many);
  }

-- of as many streams each
concat-size : (came : List (List Seen)) (size : ℕ) → ((n : ℕ) → n < length came → length (streams_at came n) ≡ size) → length (flat_map (λ streams. streams) came) ≡ length came * size
concat-size [] size each = omega arith
concat-size (streams ∷ came) size each =
    let first : length streams ≡ size = each 0 (omega arith) in
    let rest : length (flat_map (λ streams. streams) came) ≡ length came * size = concat-size came size (λ n low. each (suc n) (omega (arith, low))) in
    let both : length (streams ++ flat_map (λ streams. streams) came) ≡ length streams + length (flat_map (λ streams. streams) came) =
    length-append streams (flat_map (λ streams. streams) came) in
    both ∙ ap (λ (n : ℕ). n + length (flat_map (λ streams. streams) came)) first ∙ ap (λ (n : ℕ). size + n) rest ∙ next (length came)
  where
    next : (k : ℕ) → size + k * size ≡ suc k * size
    next k = omega arith

-- the last one
last-of : {X : Type 0} (xs : List X) (x d : X) (n : ℕ) → n ≡ length xs → get_or (xs ++ x ∷ []) n d ≡ x
last-of xs x d n at = ap (λ (k : ℕ). get_or (xs ++ x ∷ []) k d) at ∙ by xs
  where
    by : (ys : List _) → get_or (ys ++ x ∷ []) (length ys) d ≡ x
    by [] = refl
    by (y ∷ ys) = by ys

module _ (asked : DumpsAsked) (start : ShelfNow) (reach : Reach) where
  pub founds-none : HaveFound asked start start reach []
  founds-none = record {
    came = [];
    many = refl;
    have = none_came (of_reach asked.stepping asked.names reach) start;
    each = λ n low. absurd (omega (arith, low));
    are = λ n low. absurd (omega (arith, low));
  }

  module _ (mid now : ShelfNow) (founds : List TrackFound) (found : TrackFound) (w : HaveFound asked start mid reach founds) (number : ℕ) (many : length founds ≡ number)
      (one : HasFoundTrack (of_reach asked.stepping asked.names reach) number mid now found) where
    abbrev more : List TrackFound
    more = founds ++ found ∷ []

    abbrev came : List (List Seen)
    came = w.came ++ one.streams ∷ []

    long : length more ≡ length founds + 1
    long = length-append founds (found ∷ [])

    each-more : (n : ℕ) → n < length more → (n < length founds) ⊎ (length founds ≤ n) → length (streams_at came n) ≡ length asked.names
    each-more n below (inl less) =
        let low : n < length w.came = (let same = w.many in omega (arith, less, same)) in
        ap length (get_or_append_left w.came (one.streams ∷ []) [] n low) ∙ w.each n less
    each-more n below (inr past) =
        let at : n ≡ length w.came = (let same = w.many in let size = long in omega (arith, below, past, same, size)) in
        ap length (last-of w.came one.streams [] n at) ∙ one.many

    abbrev no_found : TrackFound
    no_found = found_at [] 0

    are-more : (n : ℕ) → n < length more → (n < length founds) ⊎ (length founds ≤ n) → IsFoundOf (track_number reach n) (streams_at came n) (found_at more n)
    are-more n below (inl less) =
        let low : n < length w.came = (let same = w.many in omega (arith, less, same)) in
        subst (λ (ss : List Seen). IsFoundOf (track_number reach n) ss (found_at more n)) (sym (get_or_append_left w.came (one.streams ∷ []) [] n low))
        (subst (IsFoundOf (track_number reach n) (streams_at w.came n)) (sym (get_or_append_left founds (found ∷ []) no_found n less)) (w.are n less))
    are-more n below (inr past) =
        let same = w.many in
        let size = long in
        let at : n ≡ length founds = omega (arith, below, past, size) in
        let at_came : n ≡ length w.came = omega (arith, at, same) in
        let is : number ≡ n = omega (arith, many, at) in
        subst (λ (ss : List Seen). IsFoundOf (track_number reach n) ss (found_at more n)) (sym (last-of w.came one.streams [] n at_came))
        (subst (IsFoundOf (track_number reach n) one.streams) (sym (last-of founds found no_found n at))
        (subst (λ (k : ℕ). IsFoundOf (track_number reach k) one.streams found) is one.is))

    sized : length (flat_map (λ streams. streams) w.came) ≡ number * length asked.names
    sized =
        concat-size w.came (length asked.names) (λ n low. w.each n (let same = w.many in omega (arith, low, same)))
        ∙ ap (λ (k : ℕ). k * length asked.names) (w.many ∙ many)

    pub founds-more : HaveFound asked start now reach (founds ++ found ∷ [])
    founds-more = record {
      came = came;
      many = length-append w.came (one.streams ∷ []) ∙ ap (λ (k : ℕ). k + 1) w.many ∙ sym long;
      have = subst (HaveComeOf (of_reach asked.stepping asked.names reach) start now) (sym (flat-push (λ (streams : List Seen). streams) w.came one.streams))
          (one.came start (flat_map (λ streams. streams) w.came) number refl sized w.have);
      each = λ n below. each-more n below (cases_lt n (length founds));
      are = λ n below. are-more n below (cases_lt n (length founds));
    }

-- what is written of each, one after the other
pub pieces-push : (f : TrackFound → List ℕ) (founds : List TrackFound) (found : TrackFound) (old mid new : Option (List ℕ)) → Appends old mid (flat_map f founds)
    → Appends mid new (f found) → Appends old new (flat_map f (founds ++ found ∷ []))
pieces-push f founds found old mid new before here =
    subst (Appends old new) (sym (flat-push f founds found)) (Appends-trans old mid new (flat_map f founds) (f found) before here)

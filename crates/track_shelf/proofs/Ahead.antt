-- What is still to come of the files that are read.
use Rattle.std.proofs.Common.{◌≡◌, ◌<◌, ◌≤◌, ◌+◌, ℕ, List, [], ◌∷◌, ◌++◌, length, take, drop, map, get_or, arith, refl, sym, ◌∙◌, ap, append_assoc, append-nil, length-drop, length-take, min, ◌==◌, Bool, true, false, Option, None, Some}
use Rattle.std.proofs.lemmas.List.{drop_all, drop_more, drop-drop, length-map, take-append-drop, take-take}
use Rattle.std.specs.List.{concat, flat_map}
use Rattle.sector_images.specs.Places.{tracks}
use Rattle.sector_images.specs.declared.format.Format.{Format}
use Rattle.track_shelf.specs.Files.{File, joined, track_bytes}
use Rattle.track_shelf.specs.Memory.{ahead_from, bytes_at, cut_first, first_piece, pieces_of, with_bytes}

-- pieces without those that are empty have the same bytes
pub concat-with_bytes : (pieces : List (List ℕ)) → concat (with_bytes pieces) ≡ concat pieces
unfolding with_bytes
concat-with_bytes [] = refl
concat-with_bytes ([] ∷ rest) = concat-with_bytes rest
concat-with_bytes ((byte ∷ bytes) ∷ rest) = ap (λ later. (byte ∷ bytes) ++ later) (concat-with_bytes rest)

pub with_bytes-again : (pieces : List (List ℕ)) → with_bytes (with_bytes pieces) ≡ with_bytes pieces
unfolding with_bytes
with_bytes-again [] = refl
with_bytes-again ([] ∷ rest) = with_bytes-again rest
with_bytes-again ((byte ∷ bytes) ∷ rest) = ap (λ later. (byte ∷ bytes) ∷ later) (with_bytes-again rest)

cut-none : (pieces : List (List ℕ)) → cut_first 0 pieces ≡ pieces
cut-none [] = refl
cut-none (piece ∷ rest) = refl

with-nil : (rest : List (List ℕ)) → with_bytes ([] ∷ rest) ≡ with_bytes rest
unfolding with_bytes
with-nil rest = refl

pub with-none : with_bytes [] ≡ []
unfolding with_bytes
with-none = refl

with-empty : (piece : List ℕ) (rest : List (List ℕ)) → piece ≡ [] → with_bytes (piece ∷ rest) ≡ with_bytes rest
with-empty piece rest none = ap (λ (p : List ℕ). with_bytes (p ∷ rest)) none ∙ with-nil rest

with-some : (piece : List ℕ) (rest : List (List ℕ)) → 0 < length piece → with_bytes (piece ∷ rest) ≡ piece ∷ with_bytes rest
unfolding with_bytes
with-some [] rest some = absurd (omega (arith, some))
with-some (byte ∷ bytes) rest some = refl

cleared-before : (p : List ℕ) (rest : List (List ℕ)) → with_bytes (p ∷ rest) ≡ with_bytes (p ∷ with_bytes rest)
unfolding with_bytes
cleared-before [] rest = sym (with_bytes-again rest)
cleared-before (byte ∷ bytes) rest = ap (λ (later : List (List ℕ)). (byte ∷ bytes) ∷ later) (sym (with_bytes-again rest))

-- the first piece cut, and then all that have bytes: the others may have been cleared of those without before
cut-again : (n start : ℕ) (piece : List ℕ) (rest : List (List ℕ))
    → with_bytes (drop (start + n) piece ∷ rest) ≡ with_bytes (drop n (drop start piece) ∷ with_bytes rest)
cut-again n start piece rest =
    ap (λ (p : List ℕ). with_bytes (p ∷ rest)) (sym (drop-drop n start piece)) ∙ cleared-before (drop n (drop start piece)) rest

module _ {X : Type 0} (content : X → List ℕ) (items : List X) (n : ℕ) (d : X) (below : n < length items) where
  here : map content (drop n items) ≡ content (get_or items n d) ∷ map content (drop (n + 1) items)
  here = ap (map content) (drop_more items n d below)

  -- the file at hand is taken to its end: the next one is at hand
  pub pass : (start : ℕ) → length (content (get_or items n d)) ≤ start
      → with_bytes (cut_first 0 (map content (drop (n + 1) items))) ≡ with_bytes (cut_first start (map content (drop n items)))
  pass start taken =
      let rest = map content (drop (n + 1) items) in
      ap with_bytes (cut-none rest)
      ∙ sym (ap (λ pieces. with_bytes (cut_first start pieces)) here ∙ with-empty (drop start (content (get_or items n d))) rest (drop_all start (content (get_or items n d)) taken))

  -- the file at hand has bytes, and so many of them are taken
  pub record AtHand (start : ℕ) : Type 0 where
    pub rest : List (List ℕ)
    pub is : with_bytes (cut_first start (map content (drop n items))) ≡ drop start (content (get_or items n d)) ∷ rest
    pub after : (m : ℕ) → with_bytes (cut_first (start + m) (map content (drop n items))) ≡ with_bytes (drop m (drop start (content (get_or items n d))) ∷ rest)

  pub at-hand : (start : ℕ) → 0 < length (drop start (content (get_or items n d))) → AtHand start
  at-hand start some = record {
    rest = with_bytes (map content (drop (n + 1) items));
    is = ap (λ pieces. with_bytes (cut_first start pieces)) here ∙ with-some (drop start (content (get_or items n d))) _ some;
    after = λ m. ap (λ pieces. with_bytes (cut_first (start + m) pieces)) here ∙ cut-again m start (content (get_or items n d)) (map content (drop (n + 1) items));
  }

-- all files are passed
pub none-ahead : {X : Type 0} (content : X → List ℕ) (items : List X) (n start : ℕ) → length items ≤ n → with_bytes (cut_first start (map content (drop n items))) ≡ []
none-ahead content items n start passed = ap (λ later. with_bytes (cut_first start (map content later))) (drop_all n items passed) ∙ with-none

-- what a read does that gives the first n bytes of the file at hand
module _ (pieces : List (List ℕ)) (n : ℕ) (buffer : List ℕ) (within : n ≤ length (first_piece pieces)) (front : take n buffer ≡ take n (first_piece pieces)) where
  pub consumes : concat pieces ≡ take n buffer ++ concat (with_bytes (cut_first n pieces))
  consumes = by pieces within front
    where
      by : (ps : List (List ℕ)) → n ≤ length (first_piece ps) → take n buffer ≡ take n (first_piece ps)
          → concat ps ≡ take n buffer ++ concat (with_bytes (cut_first n ps))
      by [] few same =
          let none : n ≡ 0 = omega (arith, few) in
          sym (ap (λ (m : ℕ). take m buffer ++ concat (with_bytes [])) none ∙ ap concat with-none)
      by (piece ∷ rest) few same =
          let later : concat (with_bytes (drop n piece ∷ rest)) ≡ drop n piece ++ concat rest = concat-with_bytes (drop n piece ∷ rest) in
          ap (λ (p : List ℕ). p ++ concat rest) (sym (take-append-drop n piece)) ∙ append_assoc (take n piece) (drop n piece) (concat rest)
          ∙ ap (λ (p : List ℕ). take n piece ++ p) (sym later) ∙ ap (λ (p : List ℕ). p ++ concat (with_bytes (drop n piece ∷ rest))) (sym same)

-- how many bytes are copied of the file at hand
pub given-count : (given buffer most k : ℕ) (piece : List ℕ) → given ≡ min buffer (length (take k piece)) → k ≡ min (length piece) most
    → given ≡ min (min most buffer) (length piece)
given-count given buffer most k piece count least =
    let size : length (take k piece) ≡ min k (length piece) = length-take k piece in
    omega (arith, count, least, size)

-- and which they are
pub given-front : (given buffer most k : ℕ) (piece copied : List ℕ) → given ≡ min buffer (length (take k piece)) → copied ≡ take given (take k piece)
    → copied ≡ take given piece
given-front given buffer most k piece copied count front =
    let size : length (take k piece) ≡ min k (length piece) = length-take k piece in
    front ∙ take-take given k piece (omega (arith, count, size))

concat-map : {X : Type 0} (content : X → List ℕ) (items : List X) → concat (map content items) ≡ flat_map content items
concat-map content [] = refl
concat-map content (item ∷ items) = ap (λ (later : List ℕ). content item ++ later) (concat-map content items)

-- from the first place on all files are ahead, the first of them from this byte on
pub ahead-at : (files : List File) (places : List ℕ) (start : ℕ)
    → ahead_from files places 0 start ≡ with_bytes (cut_first start (map (bytes_at files) places))
unfolding ahead_from
ahead-at files places start = refl

pub all-ahead : (files : List File) (places : List ℕ) → ahead_from files places 0 0 ≡ with_bytes (map (bytes_at files) places)
all-ahead files places = ahead-at files places 0 ∙ ap with_bytes (cut-none (map (bytes_at files) places))

-- of no files nothing is
pub none-places : (files : List File) → ahead_from files [] 0 0 ≡ []
unfolding ahead_from
none-places files = none-ahead (bytes_at files) [] 0 0 (omega arith)

-- the wanted files joined
pub all-joined : (files : List File) (folder : List ℕ) (format : Format) → concat (with_bytes (map (track_bytes files folder) (tracks format))) ≡ joined files folder format
unfolding joined
all-joined files folder format =
    concat-with_bytes (map (track_bytes files folder) (tracks format)) ∙ concat-map (track_bytes files folder) (tracks format)

-- the file at hand, and what is ahead after so many of its bytes
pub record AtFile (files : List File) (places : List ℕ) (number start : ℕ) : Type 0 where
  pub rest : List (List ℕ)
  pub is : ahead_from files places number start ≡ drop start (bytes_at files (get_or places number 0)) ∷ rest
  pub after : (m : ℕ) → ahead_from files places number (start + m) ≡ with_bytes (drop m (drop start (bytes_at files (get_or places number 0))) ∷ rest)

pub next-at : (files : List File) (places : List ℕ) (number start : ℕ) → number < length places → start < length (bytes_at files (get_or places number 0))
    → AtFile files places number start
unfolding ahead_from
next-at files places number start below within =
    let size = length-drop start (bytes_at files (get_or places number 0)) in
    let h = at-hand (bytes_at files) places number 0 below start (omega (arith, within, size)) in
    record { rest = h.rest; is = h.is; after = h.after }

-- where a file has a place, its bytes from this one on are ahead
pub opened-file : (files : List File) (places : List ℕ) (file : Option File) (offset : ℕ) → map (bytes_at files) places ≡ pieces_of file
    → (empty : Bool) → empty ≡ (length places == 0) → empty ≡ false
    → (ahead : List (List ℕ)) → ahead ≡ with_bytes (cut_first offset (map (bytes_at files) places))
    → (f : File) × (file ≡ Some f) × (Some (concat ahead) ≡ Some (drop offset f.bytes))
opened-file files places None offset same empty is some ahead all =
    let size : length places ≡ 0 = sym (length-map places (bytes_at files)) ∙ ap length same in
    absurd (has (sym some ∙ is ∙ ap (λ n. n == 0) size))
  where
    has : false ≡ true → ⊥
    has same = cc
opened-file files places (Some f) offset same empty is some ahead all = (
  f,
  refl,
  ap Some (ap concat (all ∙ ap (λ pieces. with_bytes (cut_first offset pieces)) same)
      ∙ concat-with_bytes (drop offset f.bytes ∷ []) ∙ append-nil (drop offset f.bytes)),
)

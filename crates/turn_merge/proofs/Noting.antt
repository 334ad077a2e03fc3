-- What a note does to the fields of a book.
use Rattle.std.proofs.Common.{◌≡◌, ◌≢◌, ℕ, ◌+◌, ◌-◌, ◌*◌, ◌<◌, ◌≤◌, ◌^◌, List, [], ◌∷◌, ◌++◌, length, get_or, set, arith, sym, ◌∙◌, ap, subst, refl, Some, None, zero, suc, replicate}
use Rattle.std.proofs.lemmas.List.{get_or_default, get_or-set_same, get_or-set_other}
use Rattle.std.proofs.Math.Nat.{mul-le-mul_right}
use Rattle.turn_merge.specs.declared.verdict.Place.{Place}
use Rattle.turn_merge.specs.declared.verdict.Verdict.{Verdict}
use Rattle.turn_merge.specs.declared.verdict.Verdict.TheVariants.{Good, Contradictory, Bad, Missing}
use Rattle.turn_merge.specs.Readings.{NotedReading, good_reading, bad_reading, good_ones, bad_ones, verdict, agreed}
use Rattle.turn_merge.specs.Book.{Knowledge, IsKnown, StandsFor, HasShape, MOST_NOTES, part, counted, kept, Found}
use Rattle.turn_merge.specs.inside.Book.{IsOf}
use Rattle.turn_merge.proofs.Knowing.{book_of, known_below, found_at_is, length-found, stands_from, stands_more, good_ones-good, bad_ones-good, good_ones-bad, bad_ones-bad}

-- the index of a known sector
pub index_below : {book : Knowledge} {first n size notes : ℕ} (vs : List Verdict) (bs : List ℕ) {s len i : ℕ}
    → book_of first n size notes vs bs ≡ book → IsKnown book s → n ≤ length vs → len ≡ length vs → i ≡ s - first → i < len
index_below {book} {first} {n} {size} {notes} vs bs {s} e known room long index =
    let known_here : IsKnown (book_of first n size notes vs bs) s = subst (λ (b : Knowledge). IsKnown b s) (sym e) known in
    let below = (known_below first n size notes vs bs s known_here).1 in
    omega (arith, below, room, long, index)

-- the part of a sector lies in the bytes
pub part_within : (vs : List Verdict) (bs : List ℕ) (size i : ℕ) → length bs ≡ length vs * size → i < length vs
    → i * size + size ≤ length bs
part_within vs bs size i held below =
    let h : (i + 1) * size ≤ length vs * size = mul-le-mul_right size (omega arith) in omega (arith, h)

-- the verdict that was read at an index
pub read_is : (vs : List Verdict) (i : ℕ) (v : Verdict) → v ≡ get_or vs i v → i < length vs → v ≡ get_or vs i Missing
read_is vs i v e below = e ∙ get_or_default vs i v Missing below

pub few_counted : (vs : List Verdict) (i notes : ℕ) (v : Verdict) → v ≡ get_or vs i Missing
    → ((k : ℕ) → counted (get_or vs k Missing) ≤ notes) → notes < MOST_NOTES → counted v + 1 < 2 ^ 64
few_counted vs i notes v e counts few = let h : counted v ≤ notes = rw e (counts i) in omega arith

pub noted_bad : (first n size notes : ℕ) (vs : List Verdict) (bs : List ℕ) (s i : ℕ) (place : Place) (v v' : Verdict) (readings : List NotedReading)
    → IsKnown (book_of first n size notes vs bs) s → i ≡ s - first → i < length vs → v ≡ get_or vs i Missing
    → ((good bad : List NotedReading) (sector : ℕ) (held : List ℕ) → IsOf v held good bad → IsOf v' held good (bad ++ bad_reading sector place ∷ []))
    → StandsFor (book_of first n size notes vs bs) readings
    → StandsFor (book_of first n size (notes + 1) (set vs i v') bs) (readings ++ bad_reading s place ∷ [])
noted_bad first n size notes vs bs s i place v v' readings known index below read more stands =
    stands_more first n size notes vs (set vs i v') bs bs readings (bad_reading s place) known
    (λ old.
    let now : get_or (set vs i v') (s - first) Missing ≡ v' = rw (← index) (get_or-set_same vs i v' Missing below) in
    let before : get_or vs (s - first) Missing ≡ v = rw (← index) (sym read) in
    rw (now, good_ones-bad readings s s place, bad_ones-bad readings s place)
    (more (good_ones readings s) (bad_ones readings s) s (part bs size (s - first)) (rw before at old)))
    (λ k other. get_or-set_other vs i k v' Missing (λ e. other (e ∙ index)))
    (λ k other. refl)
    stands

pub noted_good : (first n size notes : ℕ) (vs : List Verdict) (bs bs' : List ℕ) (s i : ℕ) (place : Place) (bytes : List ℕ) (v v' : Verdict) (readings : List NotedReading)
    → IsKnown (book_of first n size notes vs bs) s → i ≡ s - first → i < length vs → v ≡ get_or vs i Missing
    → length bytes ≡ size
    → ((good bad : List NotedReading) (sector : ℕ) → IsOf v (part bs (length bytes) i) good bad
    → IsOf v' (part bs' (length bytes) i) (good ++ good_reading sector place bytes ∷ []) bad)
    → ((k : ℕ) → k ≢ i → part bs' (length bytes) k ≡ part bs (length bytes) k)
    → StandsFor (book_of first n size notes vs bs) readings
    → StandsFor (book_of first n size (notes + 1) (set vs i v') bs') (readings ++ good_reading s place bytes ∷ [])
noted_good first n size notes vs bs bs' s i place bytes v v' readings known index below read whole more others stands =
    stands_more first n size notes vs (set vs i v') bs bs' readings (good_reading s place bytes) known
    (λ old.
    let now : get_or (set vs i v') (s - first) Missing ≡ v' = rw (← index) (get_or-set_same vs i v' Missing below) in
    let before : get_or vs (s - first) Missing ≡ v = rw (← index) (sym read) in
    let told = more (good_ones readings s) (bad_ones readings s) s in
    let at_index = rw (whole, index) at told in
    rw (now, good_ones-good readings s place bytes, bad_ones-good readings s s place bytes) (at_index (rw before at old)))
    (λ k other. get_or-set_other vs i k v' Missing (λ e. other (e ∙ index)))
    (λ k other. rw (← whole) (others k (λ e. other (e ∙ index))))
    stands

-- what a sector's verdict and data are, where the book stands for readings
pub verdict_read : (first n size notes : ℕ) (vs : List Verdict) (bs : List ℕ) (s i : ℕ) (v : Verdict) (readings : List NotedReading)
    → IsKnown (book_of first n size notes vs bs) s → i ≡ s - first → v ≡ get_or vs i Missing
    → StandsFor (book_of first n size notes vs bs) readings → v ≡ verdict readings s
verdict_read first n size notes vs bs s i v readings known index read stands =
    read ∙ rw index (sym (ap (λ (f : Found). f.verdict) (found_at_is first n size notes vs bs s known)) ∙ stands.verdicts s known)

pub kept_read : (first n size notes : ℕ) (vs : List Verdict) (bs : List ℕ) (s i : ℕ) (v : Verdict) (readings : List NotedReading)
    → IsKnown (book_of first n size notes vs bs) s → i ≡ s - first → v ≡ get_or vs i Missing
    → StandsFor (book_of first n size notes vs bs) readings → kept v (part bs size i) ≡ agreed readings s
kept_read first n size notes vs bs s i v readings known index read stands =
    rw (read, index) (sym (ap (λ (f : Found). f.bytes) (found_at_is first n size notes vs bs s known)) ∙ stands.bytes s known)

-- the same of what was read of a book's fields
pub kept_of_known : {book : Knowledge} {first n size notes : ℕ} (vs : List Verdict) (bs : List ℕ) {s i : ℕ} (v : Verdict) (readings : List NotedReading)
    → book_of first n size notes vs bs ≡ book → IsKnown book s → n ≤ length vs → i ≡ s - first → v ≡ get_or vs i v
    → StandsFor book readings → kept v (part bs size i) ≡ agreed readings s
kept_of_known {book} {first} {n} {size} {notes} vs bs {s} {i} v readings e known room index read stands =
    kept_read first n size notes vs bs s i v readings (subst (λ (b : Knowledge). IsKnown b s) (sym e) known) index
    (read_is vs i v read (index_below vs bs e known room refl index)) (subst (λ (b : Knowledge). StandsFor b readings) (sym e) stands)

pub kept_good : (v : Verdict) (held : List ℕ) (good bad : ℕ) (first : Place) → v ≡ Good good bad first → kept v held ≡ Some held
kept_good v held good bad first e = rw e refl

pub kept_not_good : (v : Verdict) (held : List ℕ) → ((good bad : ℕ) (first : Place) → v ≡ Good good bad first → ⊥) → kept v held ≡ None
kept_not_good (Good good bad first) held other = absurd (other good bad first refl)
kept_not_good (Contradictory good bad first second) held other = refl
kept_not_good (Bad bad first) held other = refl
kept_not_good Missing held other = refl

-- a book in which no sector was read
pub stands_empty : (first n size : ℕ) (vs : List Verdict) (bs : List ℕ) → ((k : ℕ) → get_or vs k Missing ≡ Missing)
    → StandsFor (book_of first n size 0 vs bs) []
stands_empty first n size vs bs none =
    stands_from first n size 0 vs bs [] refl (λ s from below. rw (none (s - first)) (record { is = refl; bytes = refl }))

pub shape_at : (first n size notes : ℕ) (vs : List Verdict) (bs : List ℕ) (was_first most was_size : ℕ)
    → first ≡ was_first → length vs ≡ most → size ≡ was_size
    → HasShape (book_of first n size notes vs bs) was_first most was_size n
shape_at first n size notes vs bs was_first most was_size e f g =
    record { first_is = e; most_is = f; size_is = g; sectors_are = length-found n size vs bs }

pub missing_each : (m k : ℕ) → get_or (replicate m Missing) k Missing ≡ Missing
missing_each zero k = refl
missing_each (suc m) zero = refl
missing_each (suc m) (suc k) = missing_each m k

-- Names of several parts, joined in order.
use Rattle.std.proofs.Common.{◌≡◌, ◌<◌, ◌+◌, ◌++◌, ℕ, zero, suc, List, [], ◌∷◌, length, get_or, Option, Some, None, refl, sym, ap, subst, ◌∙◌, arith, append-nil, append_assoc, length-append}
use Rattle.std.specs.List.{range_with_len}
use Rattle.std.proofs.lemmas.List.{get_or_append_left}
use Rattle.flux_engine.specs.LoopProgress.{seen_at}
use Rattle.flux_engine.specs.Plans.{Seen, Streams, passed_one, passed_to}
use Rattle.flux_engine.specs.declared.gathered_track.PassedStream.{PassedStream}
use Rattle.flux_engine.specs.lemmas.Pieces.{range-more}
use Rattle.ibm_walks.specs.Walks.{HaveNoted}
use Rattle.imd_records.specs.declared.mode.Mode.{Mode}
use Rattle.name_book.specs.Book.{NamesKnown, NamesStandFor}
use Rattle.name_book.specs.Names.{NotedData}
use Rattle.name_book.specs.declared.name.NamedHeader.{NamedHeader}
use Rattle.sector_report.specs.declared.dump_lines.Passed.{Passed}
use Rattle.imd_image.specs.Found.{passed_in}
use Rattle.imd_image.specs.Streams.{AreJoined, AreNamesIn, AreNamesOf}

module _ {K : Type 0} (Are : K → List NamedHeader → List NotedData → Type 0) where
  pub joined-append : (keys more : List K) (headers later : List NamedHeader) (held others : List NotedData) → AreJoined Are keys headers held → AreJoined Are more later others
      → AreJoined Are (keys ++ more) (headers ++ later) (held ++ others)
  joined-append [] more headers later held others none rest =
      subst (λ (hs : List NamedHeader). AreJoined Are more (hs ++ later) (held ++ others)) (sym none.0)
      (subst (λ (ds : List NotedData). AreJoined Are more later (ds ++ others)) (sym none.1) rest)
  joined-append (key ∷ keys) more headers later held others parts rest = record {
    first = parts.first;
    later = parts.later ++ later;
    held_first = parts.held_first;
    held_later = parts.held_later ++ others;
    one = parts.one;
    others = joined-append keys more parts.later later parts.held_later others parts.others rest;
    headers_are = ap (λ (hs : List NamedHeader). hs ++ later) parts.headers_are ∙ append_assoc parts.first parts.later later;
    data_are = ap (λ (ds : List NotedData). ds ++ others) parts.data_are ∙ append_assoc parts.held_first parts.held_later others;
  }

  pub joined-one : (key : K) (headers : List NamedHeader) (held : List NotedData) → Are key headers held → AreJoined Are (key ∷ []) headers held
  joined-one key headers held one = record {
    first = headers;
    later = [];
    held_first = held;
    held_later = [];
    one = one;
    others = (refl, refl);
    headers_are = sym (append-nil headers);
    data_are = sym (append-nil held);
  }

  -- they were noted, one part after the other
  pub noted-both : (keys more : List K) (old mid new : NamesKnown) → HaveNoted (AreJoined Are keys) old mid → HaveNoted (AreJoined Are more) mid new
      → HaveNoted (AreJoined Are (keys ++ more)) old new
  noted-both keys more old mid new a b = record {
    headers = a.headers ++ b.headers;
    «data» = a.data ++ b.data;
    are = joined-append keys more a.headers b.headers a.data b.data a.are b.are;
    noted = λ before held stands.
        subst (λ (hs : List NamedHeader). NamesStandFor new hs (held ++ (a.data ++ b.data))) (append_assoc before a.headers b.headers)
        (subst (NamesStandFor new ((before ++ a.headers) ++ b.headers)) (append_assoc held a.data b.data)
        (b.noted (before ++ a.headers) (held ++ a.data) (a.noted before held stands)));
  }

  pub noted-one : (key : K) (old new : NamesKnown) → HaveNoted (Are key) old new → HaveNoted (AreJoined Are (key ∷ [])) old new
  noted-one key old new a = record { headers = a.headers; «data» = a.data; are = joined-one key a.headers a.data a.are; noted = a.noted }

-- nothing was
pub noted-none : (known : NamesKnown) → HaveNoted (λ (headers : List NamedHeader) (held : List NotedData). (headers ≡ []) × (held ≡ [])) known known
noted-none known = record {
  headers = [];
  «data» = [];
  are = (refl, refl);
  noted = λ before held stands.
      subst (λ (hs : List NamedHeader). NamesStandFor known hs (held ++ [])) (sym (append-nil before)) (subst (NamesStandFor known before) (sym (append-nil held)) stands);
}

-- parts by their numbers
joined-range : (Are Else : ℕ → List NamedHeader → List NotedData → Type 0) (first count : ℕ)
    → ((k : ℕ) → k < first + count → (headers : List NamedHeader) (held : List NotedData) → Are k headers held → Else k headers held) → (headers : List NamedHeader)
    (held : List NotedData) → AreJoined Are (range_with_len first count) headers held → AreJoined Else (range_with_len first count) headers held
joined-range Are Else first zero same headers held none = none
joined-range Are Else first (suc count) same headers held parts = record {
  first = parts.first;
  later = parts.later;
  held_first = parts.held_first;
  held_later = parts.held_later;
  one = same first (omega arith) parts.first parts.held_first parts.one;
  others = joined-range Are Else (first + 1) count (λ k low. same k (omega (arith, low))) parts.later parts.held_later parts.others;
  headers_are = parts.headers_are;
  data_are = parts.data_are;
}

passed-same : (streams others : Streams) (n k : ℕ) → ((q : ℕ) → q < k → streams n q ≡ others n q) → passed_to streams n k ≡ passed_to others n k
passed-same streams others n zero same = refl
passed-same streams others n (suc k) same =
    ap (λ (ps : List PassedStream). ps ++ passed_one k (streams n k).passed) (passed-same streams others n k (λ q low. same q (omega (arith, low))))
    ∙ ap (λ (s : Seen). passed_to others n k ++ passed_one k s.passed) (same k (omega arith))

-- one stream more
module _ (streams : List Seen) (here : Seen) where
  abbrev more : List Seen
  more = streams ++ here ∷ []

  abbrev no_seen : Seen
  no_seen = record { fault = None; passed = None; times = []; indexes = [] }

  before-is : (k : ℕ) → k < length streams → seen_at more k ≡ seen_at streams k
  before-is k low = get_or_append_left streams (here ∷ []) no_seen k low

  last-is : seen_at more (length streams) ≡ here
  last-is = by streams
    where
      by : (xs : List Seen) → get_or (xs ++ here ∷ []) (length xs) no_seen ≡ here
      by [] = refl
      by (x ∷ xs) = by xs

  long : length more ≡ length streams + 1
  long = length-append streams (here ∷ [])

  pub passed-more : (count : ℕ) → length streams ≡ count → passed_in more ≡ passed_in streams ++ passed_one count here.passed
  passed-more count many =
      let next : length more ≡ suc (length streams) = omega (arith, long) in
      ap (passed_to (λ n dump. seen_at more dump) 0) next
      ∙ ap (λ (ps : List PassedStream). ps ++ passed_one (length streams) (seen_at more (length streams)).passed)
      (passed-same (λ n dump. seen_at more dump) (λ n dump. seen_at streams dump) 0 (length streams) before-is)
      ∙ ap (λ (s : Seen). passed_in streams ++ passed_one (length streams) s.passed) last-is
      ∙ ap (λ (k : ℕ). passed_in streams ++ passed_one k here.passed) many

  module _ (mode : Mode) where
    abbrev Here : ℕ → List NamedHeader → List NotedData → Type 0
    Here dump = AreNamesIn mode (seen_at more dump) dump

    abbrev Before : ℕ → List NamedHeader → List NotedData → Type 0
    Before dump = AreNamesIn mode (seen_at streams dump) dump

    pub names-more : (count : ℕ) → length streams ≡ count → (old new : NamesKnown) → AreNamesOf mode streams old → HaveNoted (AreNamesIn mode here count) old new
        → AreNamesOf mode more new
    names-more count many old new a b =
        let at : count ≡ 0 + length streams = omega (arith, many) in
        let is : here ≡ seen_at more (0 + length streams) = sym last-is ∙ ap (seen_at more) (let e : length streams ≡ 0 + length streams = omega arith in e) in
        record {
          headers = a.headers ++ b.headers;
          «data» = a.data ++ b.data;
          are = subst (λ (keys : List ℕ). AreJoined Here keys (a.headers ++ b.headers) (a.data ++ b.data)) (sym (ap (range_with_len 0) long ∙ range-more 0 (length streams)))
              (joined-append Here (range_with_len 0 (length streams)) ((0 + length streams) ∷ []) a.headers b.headers a.data b.data
              (joined-range Before Here 0 (length streams)
              (λ k low headers held one. subst (λ (s : Seen). AreNamesIn mode s k headers held) (sym (before-is k (omega (arith, low)))) one) a.headers a.data a.are)
              (joined-one Here (0 + length streams) b.headers b.data
              (subst (λ (s : Seen). AreNamesIn mode s (0 + length streams) b.headers b.data) is
              (subst (λ (k : ℕ). AreNamesIn mode here k b.headers b.data) at b.are))));
          stand = b.noted a.headers a.data a.stand;
        }

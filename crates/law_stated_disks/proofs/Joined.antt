-- Streams stand in order exactly where they are joined.
use Rattle.std.specs.Prelude.{◌≡◌, ◌≢◌, ◌<◌, ◌≤◌, ℕ, zero, suc, ◌+◌, ◌-◌, All, List, [], ◌++◌, drop, flat_map, get_or, length, slice_index, take}
use Rattle.std.specs.List.{range_with_len}
use Rattle.std.proofs.Common.{arith, ap, sym, subst, ◌∙◌, append_assoc, length-append}
use Rattle.std.proofs.lemmas.Grind.{same_number_lists}
use Rattle.std.proofs.lemmas.List.{drop-drop, get_or-append-add, get_or-drop, get_or-take, get_or_append_left, get_or_default, length-drop, length-take-le, take-append-drop}
use Rattle.std.proofs.lemmas.List.Elements.{All-nil}
use Rattle.std.proofs.Math.Seq.{drop-append_seam}
use Rattle.kryo_stream.specs.Joined.{MayStandBefore}
use Rattle.law_captured_disks.specs.Inputs.{AreJoined}
use Rattle.law_stated_disks.specs.Joined.{StandInOrder}
use Rattle.law_stated_disks.specs.Laws.{StreamsInOrderAreJoined}

-- what stands at a place, and then the rest
at_place : (x s : List ℕ) (b : ℕ) → b + length s ≤ length x → ((i : ℕ) → i < length s → get_or x (b + i) 0 ≡ get_or s i 0)
    → drop b x ≡ s ++ drop (b + length s) x
at_place x s b within same =
    let n : ℕ = length s in
    let front : take n (drop b x) ≡ s =
    same_number_lists (take n (drop b x)) s (length-take-le n (drop b x) (omega (arith, within, length-drop b x)))
    (λ i below.
    let low : i < n = omega (arith, below, length-take-le n (drop b x) (omega (arith, within, length-drop b x))) in
    get_or-take n (drop b x) i 0 low ∙ get_or-drop b x i 0 ∙ same i low) in
    sym (take-append-drop n (drop b x)) ∙ ap (λ (front : List ℕ). front ++ drop n (drop b x)) front ∙ ap (λ (rest : List ℕ). s ++ rest) (drop-drop n b x)

between : (x : List ℕ) (e b : ℕ) → e ≤ b → drop e x ≡ take (b - e) (drop e x) ++ drop b x
between x e b up =
    let at : e + (b - e) ≡ b = omega (arith, up) in
    sym (take-append-drop (b - e) (drop e x)) ∙ ap (λ (rest : List ℕ). take (b - e) (drop e x) ++ rest) (drop-drop (b - e) e x ∙ ap (λ (n : ℕ). drop n x) at)

module _ (count : ℕ) (stream : ℕ → List ℕ) (x : List ℕ) where
  module _ (stand : StandInOrder count stream x) where
    -- where the streams before number k end
    abbrev end : ℕ → ℕ
    end zero = 0
    end (suc k) = stand.begin k + length (stream k)

    abbrev padding : ℕ → List ℕ
    padding k = take (stand.begin k - end k) (drop (end k) x)

    up : (k : ℕ) → k < count → end k ≤ stand.begin k
    up zero known = omega arith
    up (suc k) known = (let e : k + 1 ≡ suc k = omega arith in subst (λ (n : ℕ). end (suc k) ≤ stand.begin n) e (stand.behind k (omega (arith, known))))

    one : (k : ℕ) → k < count → drop (end k) x ≡ (padding k ++ stream k) ++ drop (end (suc k)) x
    one k known =
        between x (end k) (stand.begin k) (up k known)
        ∙ ap (λ (rest : List ℕ). padding k ++ rest) (at_place x (stream k) (stand.begin k) (stand.within k known) (λ i below. stand.bytes k i known below))
        ∙ sym (append_assoc (padding k) (stream k) (drop (end (suc k)) x))

    all : (k rest : ℕ) → k + rest ≡ count → drop (end k) x ≡ flat_map (λ (j : ℕ). padding j ++ stream j) (range_with_len k rest) ++ drop (end count) x
    all k zero is = (let e : k ≡ count = omega (arith, is) in ap (λ (n : ℕ). drop (end n) x) e)
    all k (suc rest) is =
        let e : k + 1 ≡ suc k = omega arith in
        let later = subst (λ (n : ℕ). drop (end n) x ≡ flat_map (λ (j : ℕ). padding j ++ stream j) (range_with_len (k + 1) rest) ++ drop (end count) x) e (all (k + 1) rest (omega (arith, is))) in
        one k (omega (arith, is))
        ∙ ap (λ (rest : List ℕ). (padding k ++ stream k) ++ rest) later
        ∙ sym (append_assoc (padding k ++ stream k) (flat_map (λ (j : ℕ). padding j ++ stream j) (range_with_len (k + 1) rest)) (drop (end count) x))

    empty : (n : ℕ) (xs : List ℕ) → n ≡ 0 → take n xs ≡ []
    empty n xs none = ap (λ (m : ℕ). take m xs) none

    within : (k : ℕ) → k < count → stand.begin k ≤ length x
    within k known = (let w = stand.within k known in omega (arith, w))

    long : (k : ℕ) → k < count → length (padding k) ≡ stand.begin k - end k
    long k known = (let w = within k known in length-take-le (stand.begin k - end k) (drop (end k) x) (omega (arith, w, length-drop (end k) x)))

    may_stand : (k : ℕ) → k < count → MayStandBefore (padding k) (stream k)
    may_stand zero known = record {
      each = subst (All (λ (byte : ℕ). byte ≡ 13)) (sym (empty (stand.begin 0 - end 0) (drop 0 x) (let f = stand.first in omega (arith, f)))) (All-nil (λ (byte : ℕ). byte ≡ 13));
      few = (let f = stand.first in omega (arith, f, long 0 known));
      none_in_stream = λ other. empty (stand.begin 0 - end 0) (drop 0 x) (let f = stand.first in omega (arith, f));
    }
    may_stand (suc k) known =
        let e : k + 1 ≡ suc k = omega arith in
        let low : k + 1 < count = omega (arith, known) in
        let size = long (suc k) known in record {
          each = λ i d below.
              let inside : i < stand.begin (suc k) - end (suc k) = omega (arith, below, size) in
              let less : end (suc k) + i < stand.begin (k + 1) = subst (λ (n : ℕ). end (suc k) + i < stand.begin n) (sym e) (omega (arith, inside)) in
              get_or_default (padding (suc k)) i d 0 below
              ∙ get_or-take (stand.begin (suc k) - end (suc k)) (drop (end (suc k)) x) i 0 inside
              ∙ get_or-drop (end (suc k)) x i 0
              ∙ stand.filled k (end (suc k) + i) low (omega arith) less;
          few = (let near = subst (λ (n : ℕ). stand.begin n ≤ end (suc k) + 16) e (stand.near k low) in omega (arith, near, size));
          none_in_stream = λ other.
              let no : slice_index (stream (k + 1)) 0 ≢ 13 = subst (λ (n : ℕ). slice_index (stream n) 0 ≢ 13) (sym e) other in
              let at = subst (λ (n : ℕ). stand.begin n ≡ end (suc k)) e (stand.none_in_stream k low no) in
              empty (stand.begin (suc k) - end (suc k)) (drop (end (suc k)) x) (omega (arith, at));
        }

    pub joined : AreJoined count stream x
    joined = record {
      padding = padding;
      later = drop (end count) x;
      joined = all 0 count (omega arith);
      first = empty (stand.begin 0 - end 0) (drop 0 x) (let f = stand.first in omega (arith, f));
      padded = may_stand;
    }

  module _ (are : AreJoined count stream x) where
    -- where the streams before number k end
    abbrev pub after : ℕ → ℕ
    after zero = 0
    after (suc k) = after k + length (are.padding k) + length (stream k)

    abbrev pub begin : ℕ → ℕ
    begin k = after k + length (are.padding k)

    -- the streams from number k on, and what is behind all of them
    abbrev pub from : ℕ → ℕ → List ℕ
    from k rest = flat_map (λ (j : ℕ). are.padding j ++ stream j) (range_with_len k rest) ++ are.later

    split : (k rest : ℕ) → from k (suc rest) ≡ are.padding k ++ (stream k ++ from (k + 1) rest)
    split k rest =
        append_assoc (are.padding k ++ stream k) (flat_map (λ (j : ℕ). are.padding j ++ stream j) (range_with_len (k + 1) rest)) are.later
        ∙ append_assoc (are.padding k) (stream k) (from (k + 1) rest)

    pub rest_is : (k rest : ℕ) → k + rest ≡ count → (drop (after k) x ≡ from k rest) × (after k ≤ length x)
    rest_is zero rest is = (are.joined ∙ ap (from 0) (let e : count ≡ rest = omega (arith, is) in e), omega arith)
    rest_is (suc k) rest is =
        let before = rest_is k (suc rest) (omega (arith, is)) in
        let front : List ℕ = are.padding k ++ stream k in
        let size = length-append (are.padding k) (stream k) in
        let e : k + 1 ≡ suc k = omega arith in
        let whole : drop (after k) x ≡ front ++ from (k + 1) rest =
        before.0 ∙ split k rest ∙ sym (append_assoc (are.padding k) (stream k) (from (k + 1) rest)) in
        let at : after k + length front ≡ after (suc k) = omega (arith, size) in
        let sizes = length-append front (from (k + 1) rest) in
        let total : length (drop (after k) x) ≡ length (front ++ from (k + 1) rest) = ap length whole in (
          sym (ap (λ (n : ℕ). drop n x) at) ∙ sym (drop-drop (length front) (after k) x) ∙ ap (drop (length front)) whole
              ∙ drop-append_seam front (from (k + 1) rest) ∙ ap (λ (n : ℕ). from n rest) e,
          omega (arith, total, sizes, size, length-drop (after k) x, before.1),
        )

    here : (k : ℕ) → k < count → drop (after k) x ≡ are.padding k ++ (stream k ++ from (k + 1) (count - (k + 1)))
    here k known =
        let e : count - k ≡ suc (count - (k + 1)) = omega (arith, known) in
        (rest_is k (count - k) (omega (arith, known))).0 ∙ ap (from k) e ∙ split k (count - (k + 1))

    pub end_within : (k : ℕ) → k < count → after (suc k) ≤ length x
    end_within k known = (rest_is (suc k) (count - suc k) (omega (arith, known))).1

    pub next_after : (k : ℕ) → after (k + 1) ≡ after k + length (are.padding k) + length (stream k)
    next_after k = (let e : k + 1 ≡ suc k = omega arith in ap after e)

    pub read : (k i : ℕ) → k < count → i < length (stream k) → slice_index x (begin k + i) ≡ slice_index (stream k) i
    read k i known below =
        let at : after k + (length (are.padding k) + i) ≡ begin k + i = omega arith in
        let rest : List ℕ = from (k + 1) (count - (k + 1)) in
        ap (λ (n : ℕ). get_or x n 0) (sym at)
        ∙ sym (get_or-drop (after k) x (length (are.padding k) + i) 0)
        ∙ ap (λ (xs : List ℕ). get_or xs (length (are.padding k) + i) 0) (here k known)
        ∙ get_or-append-add (are.padding k) (stream k ++ rest) i 0
        ∙ get_or_append_left (stream k) rest 0 i below

    pub read_padding : (k place : ℕ) → k < count → after k ≤ place → place < begin k → slice_index x place ≡ 13
    read_padding k place known from_here below =
        let i : ℕ = place - after k in
        let at : after k + i ≡ place = omega (arith, from_here) in
        let inside : i < length (are.padding k) = omega (arith, from_here, below) in
        let rest : List ℕ = stream k ++ from (k + 1) (count - (k + 1)) in
        ap (λ (n : ℕ). get_or x n 0) (sym at)
        ∙ sym (get_or-drop (after k) x i 0)
        ∙ ap (λ (xs : List ℕ). get_or xs i 0) (here k known)
        ∙ get_or_append_left (are.padding k) rest 0 i inside
        ∙ (are.padded k known).each i 0 inside

    abbrev pub stand : StandInOrder count stream x
    stand = record {
      begin = begin;
      first = (let none : length (are.padding 0) ≡ 0 = ap length are.first in omega (arith, none));
      within = end_within;
      bytes = read;
      behind = λ k known. (let next = next_after k in omega (arith, next));
      near = λ k known. (let next = next_after k in let few = (are.padded (k + 1) known).few in omega (arith, next, few));
      filled = λ k place known from_here below. (let next = next_after k in read_padding (k + 1) place known (omega (arith, next, from_here)) below);
      none_in_stream = λ k known other.
          let next = next_after k in
          let none : length (are.padding (k + 1)) ≡ 0 = ap length ((are.padded (k + 1) known).none_in_stream other) in
          omega (arith, next, none);
    }

pub streams_are_joined : StreamsInOrderAreJoined
streams_are_joined count stream x = (joined count stream x, stand count stream x)

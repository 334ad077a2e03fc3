-- The bytes of the streams of an input, one after another, are the input, but for padding behind each.
use Rattle.std.proofs.Common.{◌≡◌, ◌<◌, ◌+◌, ◌++◌, ◌&&◌, ◌==◌, ℕ, zero, suc, Bool, true, false, List, [], length, map, take, drop, get_or, refl, sym, ap, subst, ◌∙◌, arith, add-one, take-append-drop, length-take, eqb-true}
use Rattle.std.specs.List.{range_with_len}
use Rattle.std.specs.Prelude.{nat_lt}
use Rattle.std.proofs.lemmas.Bool.{lt-ltb}
use Rattle.std.proofs.lemmas.Grind.{get_or_default_zero}
use Rattle.std.proofs.lemmas.List.{get_or-take}
use Rattle.flux_engine.specs.Streams.{behind, behind_stream, stream_at}
use Rattle.kryo_stream.specs.Outcome.{input_of}
use Rattle.kryo_stream.specs.Padding.{IsPadding, is_padding, padding_of}
use Rattle.kryo_stream.specs.Stream.{stream_length}
use Rattle.stream_files.specs.Joined.{AreJoinedWithPadding, FilesAreJoined, IsPaddingRun}
use Rattle.stream_files.specs.Streams.{stream_bytes}

first-true : (a b : Bool) → (a && b) ≡ true → a ≡ true
first-true true b is = refl
first-true false b is = is

module _ (law : (x : List ℕ) → IsPadding x (padding_of x)) where
  pads : (x : List ℕ) → IsPaddingRun (take (padding_of x) x)
  pads x = record {
    each = λ k d low.
        let few : k < padding_of x = omega (arith, low, length-take (padding_of x) x) in
        let inside : k < length x = omega (arith, low, length-take (padding_of x) x) in
        get_or-take (padding_of x) x k d few ∙ get_or_default_zero x k d inside
        ∙ eqb-true (get_or x k 0) 13 (first-true (get_or x k 0 == 13) (get_or x (k + 1) 13 == 13) ((law x).each k few));
    few = omega (arith, length-take (padding_of x) x, (law x).within);
  }

  module _ (x : List ℕ) where
    -- what stands behind a stream, without the padding, is the next one with all behind it
    next_is : (k : ℕ) → drop (padding_of (behind_stream (stream_at x k))) (behind_stream (stream_at x k)) ≡ stream_at x (k + 1)
    unfolding behind
    next_is k =
        ap (λ n. input_of true (behind x n)) (sym (add-one k))
        ∙ ap (λ b. input_of b (behind x (k + 1))) (sym (lt-ltb 0 (k + 1) (omega arith)))

    from : (k m : ℕ) → stream_at x (k + m) ≡ [] → AreJoinedWithPadding (map (stream_bytes x) (range_with_len k m)) (stream_at x k)
    from k zero none = (let here : k ≡ k + 0 = omega arith in ap (stream_at x) here ∙ none)
    from k (suc m) none =
        let y = stream_at x k in
        let b = behind_stream y in
        let same : k + 1 + m ≡ k + suc m = omega arith in (
          take (padding_of b) b,
          stream_at x (k + 1),
          sym (take-append-drop (stream_length y) y)
              ∙ ap (λ r. take (stream_length y) y ++ r) (sym (take-append-drop (padding_of b) b) ∙ ap (λ r. take (padding_of b) b ++ r) (next_is k)),
          pads b,
          from (k + 1) m (ap (stream_at x) same ∙ none),
        )

  pub joined : FilesAreJoined
  unfolding behind
  joined x count none = (let same : 0 + count ≡ count = omega arith in from x 0 count (ap (stream_at x) same ∙ none))

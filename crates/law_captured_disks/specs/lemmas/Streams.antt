-- The streams of an input that were joined are its streams.
use Rattle.std.specs.Prelude.{◌≡◌, ◌<◌, ℕ, zero, suc, ◌+◌, ◌-◌, ◌++◌, Bool, true, List, flat_map}
use Rattle.std.specs.Prelude.{length, drop, nat_lt, None}
use Rattle.std.specs.List.{range_with_len}
use Rattle.std.proofs.Common.{ap, ◌∙◌, arith, append_assoc}
use Rattle.std.proofs.lemmas.Bool.{lt-ltb}
use Rattle.std.proofs.Math.Seq.{drop-append_seam}
use Rattle.kryo_stream.specs.Growth.{StreamsStay}
use Rattle.kryo_stream.specs.Joined.{PaddingIsPassed}
use Rattle.kryo_stream.specs.Outcome.{input_of}
use Rattle.kryo_stream.specs.Stream.{first_fault, indexes, indexes_of, stream_length, times}
use Rattle.kryo_stream.specs.Stream.{times_of, total_bytes}
use Rattle.kryo_stream.specs.declared.block.SpelledBlock.{SpelledBlock}
use Rattle.flux_engine.specs.Streams.{behind, behind_stream, stream_at}
use Rattle.law_captured_disks.specs.Inputs.{AreJoined}

-- one stream of the input
pub record IsStreamNumber (x : List ℕ) (k : ℕ) (bytes : List ℕ) : Type 0 where
  pub no_fault : first_fault (stream_at x k) ≡ None
  pub times_are : times (stream_at x k) ≡ times bytes
  pub indexes_are : indexes (stream_at x k) ≡ indexes bytes

module _ (stay : StreamsStay) (passed : PaddingIsPassed) (count : ℕ) (bytes : ℕ → List ℕ)
    (x : List ℕ) (joined : AreJoined count bytes x)
    (sound : (k : ℕ) → k < count
    → (first_fault (bytes k) ≡ None) × (stream_length (bytes k) ≡ length (bytes k))) where
  abbrev padded : ℕ → List ℕ
  padded k = joined.padding k ++ bytes k

  -- the streams from number k on, and what is after all of them
  abbrev from : ℕ → ℕ → List ℕ
  from k rest = flat_map padded (range_with_len k rest) ++ joined.later

  from-next : (k rest : ℕ) → from k (suc rest) ≡ joined.padding k ++ (bytes k ++ from (k + 1) rest)
  from-next k rest =
      append_assoc (padded k) (flat_map padded (range_with_len (k + 1) rest)) joined.later
      ∙ append_assoc (joined.padding k) (bytes k) (from (k + 1) rest)

  without_padding : (k rest : ℕ) → k < count → behind x k ≡ from k (suc rest)
      → stream_at x k ≡ bytes k ++ from (k + 1) rest
  unfolding behind
  without_padding zero rest known is =
      is ∙ from-next 0 rest
      ∙ ap (λ (front : List ℕ). front ++ (bytes 0 ++ from (0 + 1) rest)) joined.first
  without_padding (suc k) rest known is =
      let used : nat_lt 0 (suc k) ≡ true = lt-ltb 0 (suc k) (omega arith) in
      ap (λ (b : Bool). input_of b (behind x (suc k))) used
      ∙ ap (input_of true) (is ∙ from-next (suc k) rest)
      ∙ passed (joined.padding (suc k)) (bytes (suc k)) (from (suc k + 1) rest)
      (sound (suc k) known).0 (joined.padded (suc k) known)

  after : (k rest : ℕ) → k < count → stream_at x k ≡ bytes k ++ from (k + 1) rest
      → behind_stream (stream_at x k) ≡ from (k + 1) rest
  after k rest known is =
      let same = stay (bytes k) (from (k + 1) rest) (sound k known).0 in
      ap behind_stream is
      ∙ ap (λ (ps : List SpelledBlock). drop (total_bytes ps) (bytes k ++ from (k + 1) rest))
      same.blocks
      ∙ ap (λ (n : ℕ). drop n (bytes k ++ from (k + 1) rest)) (sound k known).1
      ∙ drop-append_seam (bytes k) (from (k + 1) rest)

  behind-is : (k rest : ℕ) → k + rest ≡ count → behind x k ≡ from k rest
  unfolding behind
  behind-is zero rest all = joined.joined ∙ ap (from 0) (omega (arith, all))
  behind-is (suc k) rest all =
      let before = behind-is k (suc rest) (omega (arith, all)) in
      let known : k < count = omega (arith, all) in
      let e : k + 1 ≡ suc k = omega arith in
      after k rest known (without_padding k rest known before) ∙ ap (λ (n : ℕ). from n rest) e

  pub is_stream_number : (k : ℕ) → k < count → IsStreamNumber x k (bytes k)
  is_stream_number k known =
      let rest = count - suc k in
      let here : stream_at x k ≡ bytes k ++ from (k + 1) rest =
      without_padding k rest known (behind-is k (suc rest) (omega arith)) in
      let same = stay (bytes k) (from (k + 1) rest) (sound k known).0 in
      record {
        no_fault = ap first_fault here ∙ same.no_fault;
        times_are = ap times here ∙ ap times_of same.blocks;
        indexes_are = ap indexes here ∙ ap indexes_of same.blocks;
      }

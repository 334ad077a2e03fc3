-- What a reader keeps of the blocks, as one more block comes.
use Rattle.std.proofs.Common.{◌≡◌, ℕ, ◌+◌, ◌≤◌, ◌++◌, ◌||◌, Bool, true, false, List, [], ◌∷◌, length, take, refl, sym, ap, ◌∙◌, arith, length-append, append-nil}
use Rattle.std.proofs.lemmas.List.{take_all}
use Rattle.std.proofs.lemmas.List.Elements.{All-push, All-weaker, All-nil}
use Rattle.std.proofs.lemmas.List.Folds.{list_any-append}
use Rattle.std.specs.Prelude.{All, slice_get, if◌then◌else◌}
use Rattle.std.specs.List.{cons_option}
use Rattle.std.specs.Option.{option_and_then}
use Rattle.kryo_stream.specs.declared.block.Block.{Block}
use Rattle.kryo_stream.specs.declared.block.Block.TheVariants.{Flux, Overflow, Nop, StreamInfo, Index, StreamEnd, Info, End}
use Rattle.kryo_stream.specs.declared.block.SpelledBlock.{SpelledBlock}
use Rattle.kryo_stream.specs.declared.before.Before.{Before}
use Rattle.kryo_stream.specs.Stream.{is_in_stream, is_stream_end, has_ended, block_ticks, ticks, times_of, time_at, flux_time}
use Rattle.kryo_stream.specs.Tally.{new_times}
use Rattle.kryo_stream.specs.inside.Tally.{at_start, behind, IsWithin, MayFollow, IsTally}
use Rattle.kryo_stream.proofs.Lists.{sum_by-push, gathered, slice_get-front, slice_get-last, take-front}

flux_time-new : (up_to : List SpelledBlock) (time : ℕ) (b : Block) → ticks up_to ≡ time + block_ticks b
    → cons_option (flux_time up_to b) [] ≡ new_times time b
flux_time-new up_to time (Flux t) is = ap (λ n. n ∷ []) is
flux_time-new up_to time Overflow is = refl
flux_time-new up_to time (Nop _) is = refl
flux_time-new up_to time (StreamInfo _ _) is = refl
flux_time-new up_to time (Index _ _ _) is = refl
flux_time-new up_to time (StreamEnd _ _) is = refl
flux_time-new up_to time (Info _) is = refl
flux_time-new up_to time End is = refl

pub times_of-push : (ps : List SpelledBlock) (p : SpelledBlock) → times_of (ps ++ p ∷ []) ≡ times_of ps ++ new_times (ticks ps) p.block
times_of-push ps p =
    let whole : take (length ps + 1) (ps ++ p ∷ []) ≡ ps ++ p ∷ [] =
    take_all (length ps + 1) (ps ++ p ∷ []) (omega (arith, length-append ps (p ∷ []))) in
    let sum : ticks (take (length ps + 1) (ps ++ p ∷ [])) ≡ ticks ps + block_ticks p.block =
    ap ticks whole ∙ sum_by-push (λ q. block_ticks q.block) ps p in
    gathered time_at ps p
    (λ j inside. ap (option_and_then (λ q. flux_time (take (j + 1) (ps ++ p ∷ [])) q.block)) (slice_get-front ps (p ∷ []) j inside)
    ∙ ap (λ front. option_and_then (λ q. flux_time front q.block) (slice_get ps j))
    (take-front ps (p ∷ []) (j + 1) (omega (arith, inside))))
    ∙ ap (λ o. times_of ps ++ cons_option o []) (ap (option_and_then (λ q. flux_time (take (length ps + 1) (ps ++ p ∷ [])) q.block)) (slice_get-last ps p))
    ∙ ap (λ new. times_of ps ++ new) (flux_time-new (take (length ps + 1) (ps ++ p ∷ [])) (ticks ps) p.block sum)

or_false : (b : Bool) → (b || false) ≡ b
or_false true = refl
or_false false = refl

pub has_ended-push : (ps : List SpelledBlock) (p : SpelledBlock) → has_ended (ps ++ p ∷ []) ≡ (has_ended ps || is_stream_end p.block)
has_ended-push ps p = list_any-append (λ q. is_stream_end q.block) ps (p ∷ [])
    ∙ ap (λ b. has_ended ps || b) (or_false (is_stream_end p.block))

new_times-order : (times : List ℕ) (time : ℕ) (b : Block) → All (λ t. t ≤ time) times
    → All (λ t. t ≤ time + block_ticks b) (times ++ new_times time b)
new_times-order times time (Flux ticks) order =
    All-push (λ t. t ≤ time + ticks) times (time + ticks) (All-weaker (λ t. t ≤ time) (λ t. t ≤ time + ticks) (λ t low. omega (arith, low)) times order) (omega arith)
new_times-order times time b order =
    rw (append-nil times) (All-weaker (λ t. t ≤ time) (λ t. t ≤ time + block_ticks b) (λ t low. omega (arith, low)) times order)

new_times-few : (times : List ℕ) (time : ℕ) (b : Block) (bytes : ℕ) → 1 ≤ bytes
    → length (times ++ new_times time b) ≤ length times + bytes
new_times-few times time (Flux ticks) bytes some = omega (arith, length-append times ((time + ticks) ∷ []))
new_times-few times time b bytes some = omega (arith, length-append {A = ℕ} times [])

pub IsTally-start : IsTally [] at_start []
IsTally-start = record {
  offset = refl;
  counted = refl;
  ended = refl;
  time = refl;
  within = record { offset = omega arith; counted = omega arith; time = omega arith };
  times_are = refl;
  in_order = All-nil _;
  few_times = omega arith;
}

-- one more block
pub IsTally-push : (ps : List SpelledBlock) (b : Before) (times : List ℕ) (p : SpelledBlock) → IsTally ps b times → MayFollow b p
    → IsWithin (behind b p) → IsTally (ps ++ p ∷ []) (behind b p) (times ++ new_times b.time p.block)
IsTally-push ps b times p tally may within = record {
  offset = ap (λ n. n + p.bytes) tally.offset ∙ sym (sum_by-push (λ q. q.bytes) ps p);
  counted = ap (λ n. n + (if is_in_stream p.block then p.bytes else 0)) tally.counted
      ∙ sym (sum_by-push (λ q. if is_in_stream q.block then q.bytes else 0) ps p);
  ended = ap (λ e. e || is_stream_end p.block) tally.ended ∙ sym (has_ended-push ps p);
  time = ap (λ n. n + block_ticks p.block) tally.time ∙ sym (sum_by-push (λ q. block_ticks q.block) ps p);
  within = within;
  times_are = ap (λ ts. ts ++ new_times b.time p.block) tally.times_are
      ∙ ap (λ n. times_of ps ++ new_times n p.block) tally.time ∙ sym (times_of-push ps p);
  in_order = new_times-order times b.time p.block tally.in_order;
  few_times = (let few : length (times ++ new_times b.time p.block) ≤ length times + p.bytes =
      new_times-few times b.time p.block p.bytes may.some in omega (arith, few, tally.few_times));
}

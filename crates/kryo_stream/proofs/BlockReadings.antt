-- An in-stream block of any kind is passed over.
use Rattle.std.proofs.Common.{◌≡◌, ℕ, ◌+◌, ◌++◌, false, true, List, [], ◌∷◌, drop, refl, sym, ap, ◌∙◌, arith, subst, Ok}
use Rattle.kryo_stream.specs.declared.before.Before.{Before}
use Rattle.kryo_stream.specs.declared.block.Block.{Block}
use Rattle.kryo_stream.specs.declared.block.Block.TheVariants.{Flux, Overflow, Nop, StreamInfo, Index, StreamEnd, Info, End}
use Rattle.kryo_stream.specs.declared.block.SpelledBlock.{SpelledBlock}
use Rattle.kryo_stream.specs.Bench.{BenchState, IsNoted, IsSized, end_of, overflow_of, stream_step}
use Rattle.kryo_stream.specs.inside.Keeping.{AddsNotes}
use Rattle.kryo_stream.specs.Pieces.{piece_at}
use Rattle.kryo_stream.specs.inside.Progress.{IsReading, ReadsOn}
use Rattle.kryo_stream.specs.Stream.{is_in_stream, is_end, pieces}
use Rattle.kryo_stream.specs.Tally.{new_times}
use Rattle.kryo_stream.specs.inside.Tally.{behind, IsWithin}
use Rattle.kryo_stream.proofs.BenchLemmas.{noted_bytes}
use Rattle.kryo_stream.proofs.Progressing.{IsReading-push}
use Rattle.kryo_stream.proofs.Runs.{same_reading}

no_index : (block : Block) → is_in_stream block ≡ true → (x y z : ℕ) → block ≡ Index x y z → ⊥
no_index block is x y z same = not_both (sym (ap is_in_stream same) ∙ is)
  where
    not_both : false ≡ true → ⊥
    not_both same = cc

no_end : (block : Block) → is_in_stream block ≡ true → is_end block ≡ false
no_end (Flux _) is = refl
no_end Overflow is = refl
no_end (Nop _) is = refl
no_end (StreamInfo _ _) is = refl
no_end (Index _ _ _) is = refl
no_end (StreamEnd _ _) is = refl
no_end (Info _) is = refl
no_end End is = sym is

-- the bytes at hand begin with an in-stream block, which is passed over
pub reads_block : (held held' : List ℕ) (b b' : Before) (ts ts' : List ℕ) (bench bench' : BenchState) (p : SpelledBlock)
    → piece_at b.offset b.counted b.ended held ≡ Ok p → is_in_stream p.block ≡ true → IsSized p → held' ≡ drop p.bytes held
    → b' ≡ behind b p → IsWithin (behind b p) → ts' ≡ ts ++ new_times b.time p.block
    → AddsNotes (stream_step p) (end_of (bench.counted + stream_step p) p.block) (overflow_of bench.counted p.block) bench bench'
    → ReadsOn 1 held held' b b' ts ts' bench bench'
reads_block held held' b b' ts ts' bench bench' p reads in_stream sized rest next within times adds x n r =
    let noted : IsNoted (pieces x n ++ p ∷ []) bench' =
    noted_bytes (pieces x n) p bench bench' (no_index p.block in_stream) sized adds r.noted in
    subst (λ bytes. IsReading x (n + 1) bytes b' ts' bench') (sym rest)
    (same_reading (IsReading-push x n held b ts bench bench' p r reads (no_end p.block in_stream) within noted) (omega arith) (sym next) (sym times))

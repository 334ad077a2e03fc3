-- The reads of a disk, and of an image.
use Rattle.std.specs.Prelude.{◌≡◌, ◌≤◌, ◌<◌, ℕ, zero, suc, ◌+◌, List, [], ◌∷◌, ◌++◌, length, take, Option, Some, None, refl}
use Rattle.std.specs.List.{concat}
use Rattle.std.specs.Io.KnownBytes.{Consumes, Keeps}
use Rattle.std.proofs.Common.{ap, sym, subst, ◌∙◌, arith, append-nil, length-append}
use Rattle.std.proofs.lemmas.List.{length-take-le}
use Rattle.std.proofs.lemmas.List.Folds.{concat-append}
use Rattle.flux_base.specs.Outside.{Gives}
use Rattle.kryo_stream.specs.Reads.{SourceMoment}
use Rattle.flux_engine.specs.Needed.{ReadsUpTo, ReadsWhereOpen}
use Rattle.flux_engine.specs.lemmas.ReadLaws.{no_reads, reads_more}

one_some : (piece : List ℕ) → piece ∷ [] ≡ [] → ⊥
one_some piece same = cc

-- one read more
pub one_more : (IsOpen : List ℕ → Type 0) (old mid new : SourceMoment) (r : ReadsWhereOpen IsOpen old mid) (piece : List ℕ)
    → Gives mid.given new.given (piece ∷ []) → Consumes mid.left new.left piece → IsOpen (concat r.pieces) → ReadsWhereOpen IsOpen old new
one_more IsOpen old mid new r piece gave consumed open_still = reads_more IsOpen old mid new r (piece ∷ []) (
  gave,
  subst (Consumes mid.left new.left) (sym (append-nil piece)) consumed,
  first,
  λ none. absurd (one_some piece none),
)
  where
    first : (k : ℕ) → k < length (piece ∷ []) → IsOpen (concat r.pieces ++ concat (take k (piece ∷ [])))
    first zero below = subst IsOpen (sym (append-nil (concat r.pieces))) open_still
    first (suc k) below = absurd (omega (arith, below))

keeps_nothing : (old new : Option (List ℕ)) → Keeps old new → Consumes old new []
keeps_nothing None new keeps = tt
keeps_nothing (Some xs) None keeps = absurd keeps
keeps_nothing (Some xs) (Some ys) keeps = sym keeps

-- a buffer for so many bytes is filled up to here
pub record IsFilled (most : ℕ) (old new : SourceMoment) (filled : ℕ) : Type 0 where
  pub reads : ReadsWhereOpen (λ so_far. length so_far < most) old new
  pub so_far : ReadsUpTo most old new
  pub size : length (concat reads.pieces) ≡ filled

pub filled_none : (most : ℕ) (m : SourceMoment) → IsFilled most m m 0
unfolding no_reads ReadsUpTo
filled_none most m = (let none = no_reads (λ so_far. length so_far < most) m in record { reads = none; so_far = none; size = refl })

module _ (most : ℕ) (old mid new : SourceMoment) (filled : ℕ) (f : IsFilled most old mid filled) (below : filled < most) where
  may_go_on : length (concat f.reads.pieces) < most
  may_go_on = omega (arith, below, f.size)

  reads_on : (piece : List ℕ) → Gives mid.given new.given (piece ∷ []) → Consumes mid.left new.left piece
      → ReadsWhereOpen (λ so_far. length so_far < most) old new
  reads_on piece gave consumed = one_more (λ so_far. length so_far < most) old mid new f.reads piece gave consumed may_go_on

  pub filled_read : (piece : List ℕ) → Gives mid.given new.given (piece ∷ []) → Consumes mid.left new.left piece → ReadsUpTo most old new
  unfolding ReadsUpTo
  filled_read piece gave consumed = reads_on piece gave consumed

  pub filled_failed : Gives mid.given new.given ([] ∷ []) → Keeps mid.left new.left → ReadsUpTo most old new
  filled_failed gave keeps = filled_read [] gave (keeps_nothing mid.left new.left keeps)

  pub filled_more : (count : ℕ) (buffer : List ℕ) → count ≤ length buffer → Gives mid.given new.given (take count buffer ∷ [])
      → Consumes mid.left new.left (take count buffer) → IsFilled most old new (filled + count)
  unfolding reads_on one_more reads_more ReadsUpTo
  filled_more count buffer few gave consumed = record {
    reads = reads_on (take count buffer) gave consumed;
    so_far = reads_on (take count buffer) gave consumed;
    size = (let all : length (concat (reads_on (take count buffer) gave consumed).pieces) ≡ length (concat f.reads.pieces) + length (take count buffer ++ []) =
        ap length (concat-append f.reads.pieces (take count buffer ∷ [])) ∙ length-append (concat f.reads.pieces) (take count buffer ++ []) in
        let piece : length (take count buffer ++ []) ≡ count = ap length (append-nil (take count buffer)) ∙ length-take-le count buffer few in
        omega (arith, all, piece, f.size));
  }

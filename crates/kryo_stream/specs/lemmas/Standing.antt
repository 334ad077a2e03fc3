-- Blocks of which each may stand after those before it may stand where they stand.
use Rattle.std.proofs.Common.{◌≡◌, ◌+◌, ◌++◌, ◌||◌, ◌↔◌, ℕ, Bool, true, false, List, [], ◌∷◌, refl}
use Rattle.std.proofs.Common.{ap, sym, ◌∙◌, subst, arith, append_assoc, append-nil}
use Rattle.std.proofs.lemmas.List.{map-append}
use Rattle.std.proofs.lemmas.List.Folds.{list_any-append}
use Rattle.std.proofs.lemmas.List.Sums.{sum_by-append, sum_by-cons}
use Rattle.kryo_stream.specs.Bench.{stream_step}
use Rattle.kryo_stream.specs.Sequence.{StandsBetween, all_spelled, spelled}
use Rattle.kryo_stream.specs.Spelling.{IsWritable}
use Rattle.kryo_stream.specs.Stream.{has_ended, in_stream_bytes, is_end, is_stream_end}
use Rattle.kryo_stream.specs.WellFormed.{MayStand}
use Rattle.kryo_stream.specs.declared.block.Block.{Block}

abbrev pub is_empty : List Block → Bool
is_empty [] = true
is_empty (b ∷ bs) = false

-- each block may stand where it stands, where so many in-stream bytes, and perhaps a StreamEnd,
-- stand before the first, and the last and no other is an End
abbrev pub Stand : ℕ → Bool → List Block → Type 0
Stand counted ended [] = Unit {0}
Stand counted ended (b ∷ bs) =
    IsWritable b × MayStand counted ended b × (is_end b ≡ is_empty bs)
    × Stand (counted + stream_step (spelled b)) (ended || is_stream_end b) bs

counted-next : (done : List Block) (b : Block)
    → in_stream_bytes (all_spelled (done ++ b ∷ []))
    ≡ in_stream_bytes (all_spelled done) + stream_step (spelled b)
counted-next done b =
    ap in_stream_bytes (map-append spelled done (b ∷ []))
    ∙ omega (
      arith,
      sum_by-append stream_step (all_spelled done) (spelled b ∷ []),
      sum_by-cons stream_step (spelled b) [],
    )

ended-next : (done : List Block) (b : Block)
    → has_ended (all_spelled (done ++ b ∷ [])) ≡ (has_ended (all_spelled done) || is_stream_end b)
ended-next done b =
    ap has_ended (map-append spelled done (b ∷ []))
    ∙ list_any-append (λ p. is_stream_end p.block) (all_spelled done) (spelled b ∷ [])
    ∙ ap (λ e. has_ended (all_spelled done) || e) (or_false (is_stream_end b))
  where
    or_false : (e : Bool) → (e || false) ≡ e
    or_false true = refl
    or_false false = refl

end-iff : (e : Bool) (bs : List Block) → e ≡ is_empty bs → (e ≡ true) ↔ (bs ≡ [])
end-iff e [] is = ((λ end. refl), (λ none. is))
end-iff e (b ∷ bs) is =
    ((λ end. absurd (true_false (sym end ∙ is))), (λ none. absurd (cons_nil none)))
  where
    true_false : true ≡ false → ⊥
    true_false same = cc

    cons_nil : b ∷ bs ≡ [] → ⊥
    cons_nil same = cc

-- so each stands between those before it and those after it
pub Stand-each : (done before : List Block) (block : Block) (behind : List Block)
    → Stand (in_stream_bytes (all_spelled done)) (has_ended (all_spelled done))
    (before ++ block ∷ behind)
    → StandsBetween (done ++ before) block behind
Stand-each done [] block behind stand =
    subst (λ front. StandsBetween front block behind) (sym (append-nil done))
    (record { numbers = stand.0; place = stand.1; end = end-iff (is_end block) behind stand.2 })
Stand-each done (b ∷ before) block behind stand =
    let more = done ++ b ∷ [] in
    let rest = before ++ block ∷ behind in
    let stands : Stand (in_stream_bytes (all_spelled more)) (has_ended (all_spelled more)) rest =
    subst (λ n. Stand n (has_ended (all_spelled more)) rest) (sym (counted-next done b))
    (subst (λ e. Stand (in_stream_bytes (all_spelled done) + stream_step (spelled b)) e rest)
    (sym (ended-next done b)) stand.3) in
    subst (λ front. StandsBetween front block behind) (append_assoc done (b ∷ []) before)
    (Stand-each more before block behind stands)

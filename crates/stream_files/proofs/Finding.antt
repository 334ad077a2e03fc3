-- What is at hand behind the padding before a stream.
use Rattle.std.proofs.Common.{◌≡◌, ◌≢◌, ◌<◌, ◌≤◌, ◌+◌, ◌++◌, ℕ, Bool, true, false, List, [], length, drop, refl, sym, ap, subst, ◌∙◌, arith, append-nil, length-drop, Option, Ok}
use Rattle.std.proofs.lemmas.List.{drop-append-le, drop_all}
use Rattle.std.specs.Io.KnownBytes.{Consumes, IsAtEnd}
use Rattle.kryo_stream.specs.Padding.{IsPadding, padding_of}
use Rattle.stream_files.specs.inside.Ahead.{Finds, MOST_AHEAD}

true_false : true ≡ false → ⊥
true_false same = cc

module _ (left left' : Option (List ℕ)) (held mid taken : List ℕ) (consumed : Consumes left left' taken) (grown : mid ≡ held ++ taken)
    (ended : length mid < MOST_AHEAD → IsAtEnd left') where
  pub found-first : Finds true left left' held mid (Ok true)
  found-first = (
    taken,
    consumed,
    (λ later. ap (λ h. h ++ later) (sym grown)),
    (λ few. ended (omega (arith, few))),
    (λ not_first. absurd (true_false not_first)),
  )

  pub found-next : ((x : List ℕ) → IsPadding x (padding_of x)) → (count : ℕ) → ((later : List ℕ) → padding_of (mid ++ later) ≡ count) → count < length mid
      → Finds false left left' held (drop count mid) (Ok true)
  found-next law count settled within =
      let few : count ≤ 16 = subst (λ n. n ≤ 16) (settled []) (law (mid ++ [])).within in
      let size : length (drop count mid) + count ≡ length mid = omega (arith, length-drop count mid, within) in (
        taken,
        consumed,
        (λ later. ap (λ h. drop (padding_of (h ++ later)) (h ++ later)) (sym grown) ∙ ap (λ n. drop n (mid ++ later)) (settled later)
            ∙ drop-append-le count mid later (omega (arith, within))),
        (λ short. ended (omega (arith, short, size, few))),
        (λ not_first. λ none. let gone : length (drop count mid) ≡ 0 = ap length none in absurd (omega (arith, gone, size, within))),
      )

  pub found-none : padding_of mid ≡ length mid → length mid ≤ 16 → Finds false left left' held mid (Ok false)
  found-none all short = (
    taken,
    consumed,
    refl,
    ended (omega (arith, short)),
    ap (λ h. drop (padding_of h) h) (sym grown) ∙ ap (λ n. drop n mid) all ∙ drop_all (length mid) mid (omega arith),
  )

-- A stream that is read after padding.
use Rattle.std.proofs.Common.{◌≡◌, ℕ, zero, suc, ◌≤◌, ◌++◌, Bool, true, false, List, [], ◌∷◌, length, take, drop, refl, sym, ap, ◌∙◌, arith, length-append, length-drop, append_assoc, append-nil, Option, Some, Ok, Err, subst}
use Rattle.std.proofs.lemmas.List.{drop-append-le}
use Rattle.std.proofs.lemmas.List.FromFn.{length-range_with_len}
use Rattle.std.proofs.Math.Seq.{drop-length}
use Rattle.std.proofs.KnownBytes.{Consumes-trans}
use Rattle.std.specs.List.{range_with_len, prefix_len}
use Rattle.std.specs.Io.KnownBytes.{IsAtEnd}
use Rattle.flux_base.specs.declared.outside.Failed.{Failed}
use Rattle.index_turns.specs.Track.{TrackState}
use Rattle.kryo_stream.specs.declared.fault.StreamFault.TheVariants.{Truncated}
use Rattle.kryo_stream.specs.declared.fault.TrackFault.TheVariants.{ReadFault, Refused}
use Rattle.kryo_stream.specs.declared.intake.More.TheVariants.{Taken, End}
use Rattle.kryo_stream.specs.inside.Held.{Took}
use Rattle.kryo_stream.specs.Outcome.{Answer, Says, IsCut, IsRead, DoNotTell, IsReadWhereNeeded, input_of}
use Rattle.kryo_stream.specs.Padding.{padding_of, unpadded, is_padding}
use Rattle.kryo_stream.specs.inside.Progress.{TakesOpenly, IsUnpadded}
use Rattle.kryo_stream.specs.Reads.{SourceMoment}
use Rattle.kryo_stream.specs.Stream.{first_fault}
use Rattle.kryo_stream.proofs.Taking.{Takes-nothing, Takes-trans, reads_needed}

length-take-within : (n : ℕ) (xs : List ℕ) → length (take n xs) ≤ length xs
length-take-within zero xs = omega arith
length-take-within (suc n) [] = omega arith
length-take-within (suc n) (x ∷ xs) = omega (arith, length-take-within n xs)

padding_of-few : (x : List ℕ) → padding_of x ≤ 16
padding_of-few x = omega (arith, length-take-within (prefix_len (is_padding x) (range_with_len 0 16)) (range_with_len 0 16), length-range_with_len 0 16)

-- padding whose end is known
pub padding_passed : {old new : SourceMoment} {held now : List ℕ} (count : ℕ) → Took (λ so_far. DoNotTell true (held ++ so_far)) old new held now
    → ((later : List ℕ) → padding_of (now ++ later) ≡ count) → count ≤ length now
    → IsUnpadded old new true held (drop count now) (Ok Taken)
padding_passed {now = now} count t settled within =
    let few : count ≤ 16 = omega (arith, settled [], padding_of-few (now ++ [])) in record {
      taken = t.taken;
      takes = t.takes;
      says = (
        λ later. ap (λ xs. unpadded (xs ++ later)) (sym t.grown) ∙ ap (λ k. drop k (now ++ later)) (settled later)
            ∙ drop-append-le count now later within,
        omega (arith, few, within, length-drop count now, ap length t.grown),
      );
    }

padding_whole : (held taken now : List ℕ) → now ≡ held ++ taken → padding_of now ≡ length now → unpadded (held ++ taken) ≡ []
padding_whole held taken now grown whole = ap unpadded (sym grown) ∙ ap (λ k. drop k now) whole ∙ drop-length now

-- the bytes at hand may all be padding, and then they tell nothing
pub padding_open : (held taken now : List ℕ) → now ≡ held ++ taken → padding_of now ≡ length now → DoNotTell true (held ++ taken)
padding_open held taken now grown whole = (0, ap first_fault (padding_whole held taken now grown whole))

-- nothing but padding
pub padding_to_end : {old new : SourceMoment} {held now : List ℕ} (rest : List ℕ) → Took (λ so_far. DoNotTell true (held ++ so_far)) old new held now
    → padding_of now ≡ length now → length now ≤ 16 → IsAtEnd new.left → IsUnpadded old new true held rest (Ok End)
padding_to_end {held = held} {now = now} rest t whole few ended = record {
  taken = t.taken;
  takes = t.takes;
  says = (padding_whole held t.taken now t.grown whole, omega (arith, few, ap length t.grown), ended);
}

pub padding_to_failure : {old new : SourceMoment} {held now : List ℕ} (rest : List ℕ) (failed : Failed)
    → Took (λ so_far. DoNotTell true (held ++ so_far)) old new held now
    → padding_of now ≡ length now → length now ≤ 16 → IsUnpadded old new true held rest (Err failed)
padding_to_failure {held = held} {now = now} rest failed t whole few = record {
  taken = t.taken;
  takes = t.takes;
  says = (padding_whole held t.taken now t.grown whole, omega (arith, few, ap length t.grown));
}

-- through a fresh intake there is no padding
pub no_padding : (m : SourceMoment) (held : List ℕ) → IsUnpadded m m false held held (Ok Taken)
no_padding m held = record {
  taken = [];
  takes = Takes-nothing (λ so_far. DoNotTell false (held ++ so_far)) m;
  says = (λ later. ap (λ xs. xs ++ later) (append-nil held), omega (arith, length-append {A = ℕ} held []));
}

-- the stream after the padding
pub IsRead-behind : {old mid : SourceMoment} {left' : Option (List ℕ)} {used : Bool} {held now next : List ℕ} (flux : TrackState) (answer : Answer)
    → IsUnpadded old mid used held now (Ok Taken) → IsRead mid.left left' false now next flux answer → IsRead old.left left' used held next flux answer
IsRead-behind {old} {mid} {left'} {used} {held} {now} {next} flux answer u r =
    let joined : (later : List ℕ) → input_of used ((held ++ (u.taken ++ r.taken)) ++ later) ≡ (now ++ r.taken) ++ later =
    λ later. ap (λ xs. input_of used xs) (ap (λ xs. xs ++ later) (sym (append_assoc held u.taken r.taken))
    ∙ append_assoc (held ++ u.taken) r.taken later) ∙ u.says.0 (r.taken ++ later) ∙ sym (append_assoc now r.taken later) in
    let whole : input_of used (held ++ (u.taken ++ r.taken)) ≡ now ++ r.taken =
    ap (input_of used) (sym (append-nil (held ++ (u.taken ++ r.taken)))) ∙ joined [] ∙ append-nil (now ++ r.taken) in record {
      taken = u.taken ++ r.taken;
      consumed = Consumes-trans old.left mid.left left' u.taken r.taken u.takes.consumed r.consumed;
      few = omega (arith, u.says.1, r.few, ap length (append_assoc held u.taken r.taken), length-append (held ++ u.taken) r.taken, length-append now r.taken);
      says = λ later none. subst (λ input. Says answer input flux (next ++ later)) (sym (joined later)) (r.says later none);
      ended = r.ended;
      cut = subst (IsCut answer) (sym whole) r.cut;
    }

-- the same of what was taken
pub taken_behind : {old mid new : SourceMoment} {used : Bool} {held now taken : List ℕ} → IsUnpadded old mid used held now (Ok Taken)
    → TakesOpenly false now mid new taken → IsReadWhereNeeded old new used held
taken_behind {used = used} {held = held} {now = now} u takes =
    let joined : (more : List ℕ) → now ++ more ≡ input_of used (held ++ (u.taken ++ more)) =
    λ more. sym (ap (input_of used) (sym (append_assoc held u.taken more)) ∙ u.says.0 more) in
    reads_needed (Takes-trans u.takes takes
    (λ more untold. (untold.0, subst (λ x. first_fault x ≡ Some (untold.0, Truncated)) (joined more) untold.1)))

pub IsRead-padding : {old new : SourceMoment} {used : Bool} {held now : List ℕ} (flux : TrackState)
    → IsUnpadded old new used held now (Ok End) → IsRead old.left new.left used held now flux (Err (Refused 0 Truncated))
IsRead-padding {used = used} {held = held} flux u = record {
  taken = u.taken;
  consumed = u.takes.consumed;
  few = omega (arith, u.says.1);
  says = λ later none. ap first_fault (ap (λ z. input_of used ((held ++ u.taken) ++ z)) (none refl)
      ∙ ap (input_of used) (append-nil (held ++ u.taken)) ∙ u.says.0);
  ended = λ _. u.says.2;
  cut = tt;
}

pub IsRead-cut_padding : {old new : SourceMoment} {used : Bool} {held now : List ℕ} (flux : TrackState) (failed : Failed)
    → IsUnpadded old new used held now (Err failed) → IsRead old.left new.left used held now flux (Err ReadFault)
IsRead-cut_padding flux failed u = record {
  taken = u.taken;
  consumed = u.takes.consumed;
  few = omega (arith, u.says.1);
  says = λ later none. tt;
  ended = λ never. absurd never;
  cut = (0, ap first_fault u.says.0);
}

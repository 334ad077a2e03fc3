-- Bytes that are passed over: a text that is longer than an intake, and padding.
use Rattle.std.proofs.Common.{◌≡◌, ℕ, ◌+◌, ◌-◌, ◌<◌, ◌≤◌, ◌++◌, List, length, drop, sym, ap, ◌∙◌, arith, length-append, length-drop, append_assoc, append-nil, Result, Ok, Err, subst}
use Rattle.std.proofs.lemmas.List.{drop-append-le, drop-drop}
use Rattle.std.specs.Io.KnownBytes.{IsAtEnd}
use Rattle.flux_base.specs.declared.outside.Failed.{Failed}
use Rattle.kryo_stream.specs.declared.before.Before.{Before}
use Rattle.kryo_stream.specs.declared.block.Block.TheVariants.{Info}
use Rattle.kryo_stream.specs.declared.fault.StreamFault.TheVariants.{Truncated}
use Rattle.kryo_stream.specs.declared.intake.More.TheVariants.{Taken, End}
use Rattle.kryo_stream.specs.inside.Held.{Took}
use Rattle.kryo_stream.specs.Pieces.{BlockOrFault, piece, piece_at}
use Rattle.kryo_stream.specs.inside.Pieces.{IsText}
use Rattle.kryo_stream.specs.inside.Progress.{BlockSays, IsBlockOpen, TakesBlock, AreFew, IsPassing, IsSkipped}
use Rattle.kryo_stream.specs.Reads.{SourceMoment}
use Rattle.kryo_stream.specs.inside.Reads.{Takes, IsNothing}
use Rattle.kryo_stream.specs.inside.Tally.{IsWithin}
use Rattle.kryo_stream.proofs.Pieces.{piece_at-text_whole, piece_at-text_cut}
use Rattle.kryo_stream.proofs.Taking.{Takes-trans, Takes-other}

-- some of the held bytes are passed over
pub IsPassing-pass : {old new : SourceMoment} {held held' : List ℕ} {count gone : ℕ} (here next : ℕ) → IsPassing old new held held' count gone
    → here ≤ length held' → next ≡ gone + here → IsPassing old new held (drop here held') count next
IsPassing-pass {held = held} {held' = held'} {gone = gone} here next p few is =
    let rest : length held' ≡ length (held ++ p.taken) - gone = ap length p.place ∙ length-drop gone (held ++ p.taken) in record {
      taken = p.taken;
      takes = p.takes;
      inside = omega (arith, rest, few, p.inside, is);
      place = ap (drop here) p.place ∙ drop-drop here gone (held ++ p.taken) ∙ ap (λ n. drop n (held ++ p.taken)) (sym is);
    }

-- all that is held was passed over
length_gone : {old new : SourceMoment} {held held' : List ℕ} {count gone : ℕ} → (p : IsPassing old new held held' count gone)
    → length held' ≡ 0 → length (held ++ p.taken) ≡ gone
length_gone {held = held} {held' = held'} {gone = gone} p nothing =
    let rest : length held' ≡ length (held ++ p.taken) - gone = ap length p.place ∙ length-drop gone (held ++ p.taken) in
    omega (arith, rest, nothing, p.inside)

-- more bytes are taken, where those that were held are not enough
pub IsPassing-took : {old mid new : SourceMoment} {held now next : List ℕ} {count gone : ℕ} → IsPassing old mid held now count gone
    → Took IsNothing mid new now next → length now ≡ 0 → gone < count → IsPassing old new held next count gone
IsPassing-took {held = held} {now = now} {count = count} {gone = gone} p t nothing short =
    let few : AreFew count held p.taken = omega (arith, length_gone p nothing, short) in record {
      taken = p.taken ++ t.taken;
      takes = Takes-trans p.takes t.takes (λ s none. subst (AreFew count held) (sym (ap (λ x. p.taken ++ x) none ∙ append-nil p.taken)) few);
      inside = omega (arith, p.inside, length-append (held ++ p.taken) t.taken, ap length (append_assoc held p.taken t.taken));
      place = t.grown ∙ ap (λ xs. xs ++ t.taken) p.place ∙ sym (drop-append-le gone (held ++ p.taken) t.taken p.inside)
          ∙ ap (drop gone) (append_assoc held p.taken t.taken);
    }

-- all that is held is passed over, and more bytes are taken
pub IsPassing-on : {old mid new : SourceMoment} {held now between next : List ℕ} {count gone : ℕ} (here later : ℕ) → IsPassing old mid held now count gone
    → here ≡ length now → later ≡ gone + here → later < count → between ≡ drop here now → Took IsNothing mid new between next
    → IsPassing old new held next count later
IsPassing-on {old} {mid} {new} {held} {now} {between} {next} {count} {gone} here later p all is short place t =
    IsPassing-took (subst (λ h. IsPassing old mid held h count later) (sym place) (IsPassing-pass here later p (omega (arith, all)) is)) t
    (omega (arith, ap length place, length-drop here now, all)) short

-- the same of what is left to be passed over, where that is more
pub IsPassing-rest : {old mid new : SourceMoment} {held now between next : List ℕ} {count here : ℕ} (rest : ℕ) → rest ≤ count
    → IsPassing old mid held now count (count - rest) → here ≡ length now → here < rest → between ≡ drop here now → Took IsNothing mid new between next
    → IsPassing old new held next count (count - (rest - here))
IsPassing-rest {count = count} {here = here} rest within p all less = IsPassing-on here (count - (rest - here)) p all (omega (arith, within, less)) (omega (arith, within, less))

pub skipped_to_end : {old new : SourceMoment} {held held' : List ℕ} {count gone : ℕ} → IsPassing old new held held' count gone
    → length held' ≡ 0 → gone < count → IsAtEnd new.left → IsSkipped old new held held' count (Ok End)
skipped_to_end p none short ended = record {
  taken = p.taken;
  takes = p.takes;
  says = (omega (arith, length_gone p none, short), ended);
}

pub skipped_to_failure : {old new : SourceMoment} {held held' : List ℕ} {count gone : ℕ} (failed : Failed) → IsPassing old new held held' count gone
    → length held' ≡ 0 → gone < count → IsSkipped old new held held' count (Err failed)
skipped_to_failure failed p none short = record {
  taken = p.taken;
  takes = p.takes;
  says = omega (arith, length_gone p none, short);
}

-- a text of which bytes are to come is not told
text_takes : {old new : SourceMoment} {held taken : List ℕ} (b : Before) (size : ℕ) → IsText b.offset held size
    → Takes (AreFew (4 + size) held) old new taken → Takes (IsBlockOpen b held) old new taken
text_takes {held = held} b size text takes = Takes-other takes (λ t few. piece_at-text_cut b held t size text few)

-- a text that was passed over is a block
pub text_taken : {old new : SourceMoment} {held held' : List ℕ} (b : Before) (size : ℕ) → IsText b.offset held size
    → IsSkipped old new held held' (4 + size) (Ok Taken) → length held' ≤ 4096
    → TakesBlock old new held held' b (Ok (piece (Info size) (4 + size)))
text_taken {held = held} {held' = held'} b size text s bound =
    let rest : length held' ≡ length (held ++ s.taken) - (4 + size) = ap length s.says.1 ∙ length-drop (4 + size) (held ++ s.taken) in record {
      taken = s.taken;
      takes = text_takes b size text s.takes;
      few = omega (arith, rest, bound, text.room, s.says.0);
      says = (piece_at-text_whole b held s.taken size text s.says.0, s.says.1);
    }

pub text_cut : {old new : SourceMoment} {held held' : List ℕ} (b : Before) (size : ℕ) → IsText b.offset held size
    → IsSkipped old new held held' (4 + size) (Ok End) → TakesBlock old new held held' b (Ok (Err Truncated))
text_cut {held = held} b size text s = record {
  taken = s.taken;
  takes = text_takes b size text s.takes;
  few = omega (arith, text.room, s.says.0);
  says = (piece_at-text_cut b held s.taken size text s.says.0, λ _. s.says.1);
}

pub text_failed : {old new : SourceMoment} {held held' : List ℕ} (b : Before) (size : ℕ) (failed : Failed) → IsText b.offset held size
    → IsSkipped old new held held' (4 + size) (Err failed) → TakesBlock old new held held' b (Err failed)
text_failed {held = held} b size failed text s = record {
  taken = s.taken;
  takes = text_takes b size text s.takes;
  few = omega (arith, text.room, s.says);
  says = piece_at-text_cut b held s.taken size text s.says;
}

-- bytes that stand at hand without being passed over
pub at_hand : {old new : SourceMoment} {held now next : List ℕ} (b : Before) (answer : Result BlockOrFault Failed) → IsWithin b
    → Took (IsBlockOpen b held) old new held now → length now ≤ 4096 → BlockSays b answer now next new.left → TakesBlock old new held next b answer
at_hand {new = new} {next = next} b answer within t bound says = record {
  taken = t.taken;
  takes = t.takes;
  few = omega (arith, within.offset, bound, ap length t.grown);
  says = subst (λ xs. BlockSays b answer xs next new.left) t.grown says;
}

-- then the bytes that are taken after it count too
pub took_before : {old mid new : SourceMoment} {held now next : List ℕ} (b : Before) (answer : Result BlockOrFault Failed)
    → Took (IsBlockOpen b held) old mid held now → TakesBlock mid new now next b answer → TakesBlock old new held next b answer
took_before {new = new} {held = held} {now = now} {next = next} b answer t k =
    let joined : (more : List ℕ) → now ++ more ≡ held ++ (t.taken ++ more) =
    λ more. ap (λ xs. xs ++ more) t.grown ∙ append_assoc held t.taken more in record {
      taken = t.taken ++ k.taken;
      takes = Takes-trans t.takes k.takes (λ more untold. subst (λ x. piece_at b.offset b.counted b.ended x ≡ Err Truncated) (joined more) untold);
      few = omega (arith, k.few, ap length (joined k.taken));
      says = subst (λ xs. BlockSays b answer xs next new.left) (joined k.taken) k.says;
    }

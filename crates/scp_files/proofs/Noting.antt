-- Entries that are noted one after another, and revolutions that end.
use Rattle.std.proofs.Common.{◌≡◌, ◌≤◌, ◌<◌, ◌+◌, ◌-◌, ◌*◌, ◌++◌, ℕ, zero, suc, Bool, true, false, List, [], ◌∷◌, length, map, take, drop, get_or, sum_by, nat_lt, if◌then◌else◌, Option, Some, None, Err, refl, ap, sym, ◌∙◌, subst, arith, append_assoc, append-nil, length-append, inl, inr}
use Rattle.std.specs.List.{cons_option, filter_map, range_with_len, sum}
use Rattle.std.specs.Io.KnownBytes.{Consumes}
use Rattle.std.proofs.KnownBytes.{Consumes-trans}
use Rattle.std.proofs.lemmas.List.{get_or_append_left, length-map, map-append, take-append-le, take_all}
use Rattle.std.proofs.lemmas.List.FromFn.{length-range_with_len}
use Rattle.std.proofs.lemmas.List.Sums.{sum_by-append, sum_by-cons}
use Rattle.std.proofs.Math.Seq.{get_or-append_seam, take-append_seam}
use Rattle.track_rings.specs.Rings.{last_in}
use Rattle.scp_files.specs.Captures.{AreKept, CaptureState, Holds, HoldsStill, LeavesRevolution, TakesFewer, TakesRevolution}
use Rattle.scp_files.specs.Tracks.{words}
use Rattle.scp_files.specs.Units.{entry_units, moments, ticks_of, transition_at, transitions}
use Rattle.scp_files.specs.declared.head.Revolution.{Revolution}
use Rattle.scp_files.specs.inside.Noting.{HasNoted, IsKept, KeepsTurns, NextIndex, Noted, ReadsBytes, Turned, transitions_from}
use Rattle.scp_files.specs.declared.fault.RevolutionFault.{RevolutionFault}
use Rattle.scp_files.specs.declared.fault.RevolutionFault.TheVariants.{Ended, ReadFault}
use Rattle.scp_files.proofs.Lists.{range-more}

-- the transitions of entries, and of more behind them
pub transitions_from-append : (q u : ℕ) (xs ys : List ℕ)
    → transitions_from q u (xs ++ ys) ≡ transitions_from q u xs ++ transitions_from q (u + sum_by entry_units xs) ys
transitions_from-append q u [] ys = ap (λ n. transitions_from q n ys) (omega arith)
transitions_from-append q u (x ∷ xs) ys =
    let next : (u + entry_units x) + sum_by entry_units xs ≡ u + sum_by entry_units (x ∷ xs) = omega (arith, sum_by-cons entry_units x xs) in
    let first : Option ℕ = if nat_lt 0 x then Some (ticks_of q (u + entry_units x)) else None in
    ap (cons_option first) (transitions_from-append q (u + entry_units x) xs ys
    ∙ ap (λ n. transitions_from q (u + entry_units x) xs ++ transitions_from q n ys) next)
    ∙ cons_option-append first (transitions_from q (u + entry_units x) xs) (transitions_from q (u + sum_by entry_units (x ∷ xs)) ys)
  where
    cons_option-append : (o : Option ℕ) (us vs : List ℕ) → cons_option o (us ++ vs) ≡ cons_option o us ++ vs
    cons_option-append None us vs = refl
    cons_option-append (Some u) us vs = refl

transition-seam : (q : ℕ) (done : List ℕ) (v : ℕ) (rest : List ℕ)
    → transition_at q (done ++ v ∷ rest) (length done) ≡ (if nat_lt 0 v then Some (ticks_of q (sum_by entry_units done + entry_units v)) else None)
transition-seam q done v rest =
    let front : take (length done + 1) (done ++ v ∷ rest) ≡ done ++ v ∷ [] =
    ap (take (length done + 1)) (sym (append_assoc done (v ∷ []) rest))
    ∙ ap (λ n. take n ((done ++ v ∷ []) ++ rest)) (sym (length-append done (v ∷ []))) ∙ take-append_seam (done ++ v ∷ []) rest in
    let units : sum_by entry_units (take (length done + 1) (done ++ v ∷ rest)) ≡ sum_by entry_units done + entry_units v =
    ap (sum_by entry_units) front ∙ omega (arith, sum_by-append entry_units done (v ∷ []), sum_by-cons entry_units v []) in
    ap (λ x. if nat_lt 0 x then Some (ticks_of q (sum_by entry_units (take (length done + 1) (done ++ v ∷ rest)))) else None) (get_or-append_seam done v rest 0)
    ∙ ap (λ n. if nat_lt 0 v then Some (ticks_of q n) else None) units

transitions-rest : (q : ℕ) (done rest : List ℕ)
    → filter_map (transition_at q (done ++ rest)) (range_with_len (length done) (length rest)) ≡ transitions_from q (sum_by entry_units done) rest
transitions-rest q done [] = refl
transitions-rest q done (v ∷ rest) =
    let longer : length (done ++ v ∷ []) ≡ length done + 1 = length-append done (v ∷ []) in
    let same : (done ++ v ∷ []) ++ rest ≡ done ++ v ∷ rest = append_assoc done (v ∷ []) rest in
    let units : sum_by entry_units (done ++ v ∷ []) ≡ sum_by entry_units done + entry_units v =
    omega (arith, sum_by-append entry_units done (v ∷ []), sum_by-cons entry_units v []) in
    ap (λ o. cons_option o (filter_map (transition_at q (done ++ v ∷ rest)) (range_with_len (length done + 1) (length rest)))) (transition-seam q done v rest)
    ∙ ap (cons_option (if nat_lt 0 v then Some (ticks_of q (sum_by entry_units done + entry_units v)) else None))
    (ap (λ l. filter_map (transition_at q l) (range_with_len (length done + 1) (length rest))) (sym same)
    ∙ ap (λ n. filter_map (transition_at q ((done ++ v ∷ []) ++ rest)) (range_with_len n (length rest))) (sym longer)
    ∙ transitions-rest q (done ++ v ∷ []) rest ∙ ap (λ n. transitions_from q n rest) units)

pub transitions-from : (q : ℕ) (values : List ℕ) → transitions q values ≡ transitions_from q 0 values
transitions-from q values = transitions-rest q [] values

transitions-append : (q : ℕ) (xs ys : List ℕ) → transitions q (xs ++ ys) ≡ transitions q xs ++ transitions_from q (sum_by entry_units xs) ys
transitions-append q xs ys =
    transitions-from q (xs ++ ys) ∙ transitions_from-append q 0 xs ys
    ∙ ap (λ l. l ++ transitions_from q (0 + sum_by entry_units xs) ys) (sym (transitions-from q xs))
    ∙ ap (λ n. transitions q xs ++ transitions_from q n ys) (omega arith)

-- the index times of one revolution more
pub moments-more : (q : ℕ) (ds : List ℕ) (d : ℕ) → moments q (ds ++ d ∷ []) ≡ moments q ds ++ ticks_of q (sum ds + d) ∷ []
moments-more q ds d =
    let longer : length (ds ++ d ∷ []) ≡ length ds + 1 = length-append ds (d ∷ []) in
    let n : ℕ = length ds + 1 in
    let at : ℕ → ℕ = λ k. ticks_of q (sum (take k (ds ++ d ∷ []))) in
    let last : at n ≡ ticks_of q (sum ds + d) =
    ap (λ l. ticks_of q (sum l)) (take_all n (ds ++ d ∷ []) (omega (arith, longer)))
    ∙ ap (ticks_of q) (omega (arith, sum_by-append (λ x. x) ds (d ∷ []), sum_by-cons (λ x. x) d [])) in
    ap (λ m. map at (range_with_len 0 (m + 1))) longer
    ∙ ap (map at) (range-more n) ∙ map-append at (range_with_len 0 n) (n ∷ [])
    ∙ ap (λ l. l ++ at n ∷ []) (map-same at (λ k. ticks_of q (sum (take k ds))) 0 n (λ k below. ap (λ l. ticks_of q (sum l)) (take-append-le k ds (d ∷ []) (omega (arith, below)))))
    ∙ ap (λ t. moments q ds ++ t ∷ []) last
  where
    map-same : (f g : ℕ → ℕ) (a m : ℕ) → ((k : ℕ) → k < a + m → f k ≡ g k) → map f (range_with_len a m) ≡ map g (range_with_len a m)
    map-same f g a zero same = refl
    map-same f g a (suc m) same =
        ap (λ x. x ∷ map f (range_with_len (a + 1) m)) (same a (omega arith))
        ∙ ap (λ l. g a ∷ l) (map-same f g (a + 1) m (λ k below. same k (omega (arith, below))))

pub length-moments : (q : ℕ) (ds : List ℕ) → length (moments q ds) ≡ length ds + 1
length-moments q ds =
    length-map (range_with_len 0 (length ds + 1)) (λ k. ticks_of q (sum (take k ds))) ∙ length-range_with_len 0 (length ds + 1)

-- numbers of two bytes each, behind others
pub words-append : (n : ℕ) (xs ys : List ℕ) → length xs ≡ 2 * n → words (xs ++ ys) ≡ words xs ++ words ys
words-append n [] ys even = refl
words-append n (x ∷ []) ys even = absurd (odd n even)
  where
    odd : (m : ℕ) → 1 ≡ 2 * m → ⊥
    odd m e = omega (arith, e)
words-append zero (x ∷ y ∷ xs) ys even = absurd (omega (arith, even))
words-append (suc n) (x ∷ y ∷ xs) ys even = ap (λ l. (x * 256 + y) ∷ l) (words-append n xs ys (omega (arith, even)))

pub length-words : (n : ℕ) (xs : List ℕ) → length xs ≤ 2 * n → length (words xs) ≤ n
length-words n [] few = omega arith
length-words n (x ∷ []) few = omega arith
length-words zero (x ∷ y ∷ xs) few = absurd (omega (arith, few))
length-words (suc n) (x ∷ y ∷ xs) few = let rest = length-words n xs (omega (arith, few)) in omega (arith, rest)

KeepsTurns-trans : (a b c : CaptureState) → KeepsTurns a b → KeepsTurns b c → KeepsTurns a c
KeepsTurns-trans a b c one two = record {
  resolution = two.resolution ∙ one.resolution;
  indexes = two.indexes ∙ one.indexes;
  revolutions = two.revolutions ∙ one.revolutions;
  moment = two.moment ∙ one.moment;
  falls = two.falls ∙ one.falls;
}

pub Noted-none : (a : CaptureState) → Noted [] a a
Noted-none a = record {
  times = sym (append-nil a.flux.times);
  units = omega arith;
  entries = omega arith;
  turns = record { resolution = refl; indexes = refl; revolutions = refl; moment = refl; falls = refl };
}

pub Noted-then : (xs ys : List ℕ) (a b c : CaptureState) → Noted xs a b → Noted ys b c → Noted (xs ++ ys) a c
Noted-then xs ys a b c one two = record {
  times = two.times ∙ ap (λ l. l ++ transitions_from b.resolution b.units ys) one.times
      ∙ append_assoc a.flux.times (transitions_from a.resolution a.units xs) (transitions_from b.resolution b.units ys)
      ∙ ap (λ l. a.flux.times ++ l) (ap (λ q. transitions_from a.resolution a.units xs ++ transitions_from q b.units ys) one.turns.resolution
      ∙ ap (λ u. transitions_from a.resolution a.units xs ++ transitions_from a.resolution u ys) one.units
      ∙ sym (transitions_from-append a.resolution a.units xs ys));
  units = omega (arith, one.units, two.units, sum_by-append entry_units xs ys);
  entries = omega (arith, one.entries, two.entries, length-append xs ys);
  turns = KeepsTurns-trans a b c one.turns two.turns;
}

-- bytes that are noted behind an even number of others
pub Noted-bytes : (n : ℕ) (xs ys : List ℕ) (a b c : CaptureState) → length xs ≡ 2 * n → Noted (words xs) a b → Noted (words ys) b c → Noted (words (xs ++ ys)) a c
Noted-bytes n xs ys a b c even one two =
    subst (λ l. Noted l a c) (sym (words-append n xs ys even)) (Noted-then (words xs) (words ys) a b c one two)

pub HasNoted-then : (xs : List ℕ) (a b c : CaptureState) → Noted xs a b → HasNoted b c → HasNoted a c
HasNoted-then xs a b c one two = (xs ++ two.0, Noted-then xs two.0 a b c one two.1)

pub TakesFewer-then : (left mid left' : Option (List ℕ)) (taken : List ℕ) (most all : ℕ) → Consumes left mid taken → TakesFewer mid left' most
    → length taken + most ≤ all → TakesFewer left left' all
TakesFewer-then left mid left' taken most all took fewer bound =
    (taken ++ fewer.0, Consumes-trans left mid left' taken fewer.0 took fewer.1, omega (arith, fewer.2, bound, length-append taken fewer.0))

-- what a capture holds, with entries behind it
pub Holds-noted : (more : List ℕ) (old new : CaptureState) → Noted more old new → (values durations : List ℕ) → Holds values durations old
    → Holds (values ++ more) durations new
Holds-noted more old new n values durations h = record {
  times = n.times ∙ ap (λ l. l ++ transitions_from old.resolution old.units more) h.times
      ∙ ap (λ u. transitions old.resolution values ++ transitions_from old.resolution u more) h.units
      ∙ sym (transitions-append old.resolution values more) ∙ ap (λ q. transitions q (values ++ more)) (sym n.turns.resolution);
  indexes = subst (AreKept (moments new.resolution durations) new.flux.indexes) (sym n.turns.falls)
      (subst (λ l. AreKept (moments new.resolution durations) l old.falls) (sym n.turns.indexes)
      (subst (λ q. AreKept (moments q durations) old.flux.indexes old.falls) (sym n.turns.resolution) h.indexes));
  entries = omega (arith, n.entries, h.entries, length-append values more);
  units = omega (arith, n.units, h.units, sum_by-append entry_units values more);
  revolutions = n.turns.revolutions ∙ h.revolutions;
  moment = n.turns.moment ∙ h.moment;
}

pub Holds-kept : (old new : CaptureState) → IsKept old new → HoldsStill old new
Holds-kept old new k values durations h = record {
  times = k.times ∙ h.times ∙ ap (λ q. transitions q values) (sym k.turns.resolution);
  indexes = subst (AreKept (moments new.resolution durations) new.flux.indexes) (sym k.turns.falls)
      (subst (λ l. AreKept (moments new.resolution durations) l old.falls) (sym k.turns.indexes)
      (subst (λ q. AreKept (moments q durations) old.flux.indexes old.falls) (sym k.turns.resolution) h.indexes));
  entries = k.entries ∙ h.entries;
  units = k.units ∙ h.units;
  revolutions = k.turns.revolutions ∙ h.revolutions;
  moment = k.turns.moment ∙ h.moment;
}

kept_all : (all : List ℕ) (t : ℕ) → 0 < length all → t ≤ last_in all → AreKept (all ++ t ∷ []) all true
kept_all all t some late = (
  sym (take-append_seam all (t ∷ [])),
  some,
  omega (arith, length-append all (t ∷ [])),
  omega (arith, late, get_or-append_seam all t [] 0, get_or_append_left all (t ∷ []) 0 (length all - 1) (omega (arith, some))),
)

-- the index times that are kept, with one more behind all
kept-next : (all kept kept' : List ℕ) (t : ℕ) (falls still : Bool) → 0 < length all → AreKept all kept falls
    → NextIndex kept falls t kept' still → AreKept (all ++ t ∷ []) kept' still
kept-next all kept kept' t true still some are next =
    subst (AreKept (all ++ t ∷ []) kept') (sym next.1) (subst (λ l. AreKept (all ++ t ∷ []) l true) (sym next.0) (
      are.0 ∙ sym (take-append-le (length kept) all (t ∷ []) (omega (arith, are.2))),
      are.1,
      omega (arith, are.2, length-append all (t ∷ [])),
      omega (
        arith,
        are.3,
        get_or_append_left all (t ∷ []) 0 (length kept) are.2,
        get_or_append_left all (t ∷ []) 0 (length kept - 1) (omega (arith, are.2)),
      ),
    ))
kept-next all kept kept' t false still some are (inl rises) =
    subst (AreKept (all ++ t ∷ []) kept') (sym rises.2) (rises.1 ∙ ap (λ l. l ++ t ∷ []) are)
kept-next all kept kept' t false still some are (inr stays) =
    subst (AreKept (all ++ t ∷ []) kept') (sym stays.2) (subst (λ l. AreKept (all ++ t ∷ []) l true) (sym (stays.1 ∙ are))
    (kept_all all t some (subst (λ l. t ≤ last_in l) are stays.0)))

pub Holds-turned : (d : ℕ) (old new : CaptureState) → Turned d old new → (values durations : List ℕ) → Holds values durations old
    → Holds values (durations ++ d ∷ []) new
Holds-turned d old new t values durations h =
    let q : ℕ = old.resolution in
    let time : ticks_of q new.moment ≡ ticks_of q (sum durations + d) = ap (ticks_of q) (t.moment ∙ ap (λ m. m + d) h.moment) in
    let kept = kept-next (moments q durations) old.flux.indexes new.flux.indexes (ticks_of q new.moment) old.falls new.falls
    (omega (arith, length-moments q durations)) h.indexes t.indexes in
    record {
      times = t.times ∙ h.times ∙ ap (λ r. transitions r values) (sym t.resolution);
      indexes = subst (λ r. AreKept (moments r (durations ++ d ∷ [])) new.flux.indexes new.falls) (sym t.resolution)
          (subst (λ all. AreKept all new.flux.indexes new.falls) (ap (λ m. moments q durations ++ m ∷ []) time ∙ sym (moments-more q durations d)) kept);
      entries = t.entries ∙ h.entries;
      units = t.units ∙ h.units;
      revolutions = omega (arith, t.revolutions, h.revolutions, length-append durations (d ∷ []));
      moment = omega (arith, t.moment, h.moment, sum_by-append (λ x. x) durations (d ∷ []), sum_by-cons (λ x. x) d []);
    }

-- what came of reading a revolution
pub takes_revolution : (left left' : Option (List ℕ)) (it : Revolution) (old mid new : CaptureState) (taken : List ℕ)
    → Consumes left left' taken → length taken ≡ 2 * it.entries → Noted (words taken) old mid → Turned it.duration mid new
    → TakesRevolution left left' it old new
takes_revolution left left' it old mid new taken consumed size noted turned = record {
  taken = taken;
  consumed = consumed;
  size = size;
  holds = λ values durations h. Holds-turned it.duration mid new turned (values ++ words taken) durations (Holds-noted (words taken) old mid noted values durations h);
}

pub leaves_revolution : (left left' : Option (List ℕ)) (it : Revolution) (old new : CaptureState) → TakesFewer left left' (2 * it.entries) → IsKept old new
    → LeavesRevolution left left' it old new
leaves_revolution left left' it old new fewer kept =
    record { taken = fewer.0; consumed = fewer.1; few = fewer.2; holds = Holds-kept old new kept }

-- the transitions that were there before some were noted
pub front-kept : (values : List ℕ) (old mid : CaptureState) → Noted values old mid → take (length old.flux.times) mid.flux.times ≡ old.flux.times
front-kept values old mid n =
    ap (take (length old.flux.times)) n.times ∙ take-append_seam old.flux.times (transitions_from old.resolution old.units values)

-- what came of reading some bytes behind others
pub reads_then : (left mid left' : Option (List ℕ)) (taken : List ℕ) (most all : ℕ) (old now new : CaptureState) (fault : RevolutionFault)
    → Consumes left mid taken → length taken + most ≤ all → Noted (words taken) old now → ReadsBytes mid left' most now new (Err fault)
    → ReadsBytes left left' all old new (Err fault)
reads_then left mid left' taken most all old now new Ended took bound noted reads =
    (TakesFewer-then left mid left' taken most all took reads.0 bound, reads.1, HasNoted-then (words taken) old now new noted reads.2)
reads_then left mid left' taken most all old now new ReadFault took bound noted reads =
    (TakesFewer-then left mid left' taken most all took reads.0 bound, HasNoted-then (words taken) old now new noted reads.1)

-- one number more of some bytes
pub noted_word : (bytes rest passed : List ℕ) (old now new : CaptureState) → 2 ≤ length rest
    → words bytes ≡ passed ++ words rest → Noted passed old now → Noted ((get_or rest 0 0 * 256 + get_or rest 1 0) ∷ []) now new
    → (x : List ℕ) × (words bytes ≡ x ++ words (take (length rest - 2) (drop 2 rest))) × Noted x old new
noted_word bytes [] passed old now new long are noted one = absurd (omega (arith, long))
noted_word bytes (a ∷ []) passed old now new long are noted one = absurd (omega (arith, long))
noted_word bytes (a ∷ b ∷ rest) passed old now new long are noted one =
    let word : ℕ = a * 256 + b in
    let behind : take (length (a ∷ b ∷ rest) - 2) rest ≡ rest = take_all (length (a ∷ b ∷ rest) - 2) rest (omega arith) in (
      passed ++ word ∷ [],
      are ∙ sym (append_assoc passed (word ∷ []) (words rest)) ∙ ap (λ l. (passed ++ word ∷ []) ++ words l) (sym behind),
      Noted-then passed (word ∷ []) old now new noted one,
    )

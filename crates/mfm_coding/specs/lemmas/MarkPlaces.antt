-- Where the first cells of the mark A1 stand, from its first one on: nowhere in bytes written
-- as data, whatever follows them.
use Rattle.std.specs.Prelude.{◌≡◌, ℕ, zero, suc, ◌+◌, ◌*◌, ◌<◌, ◌≤◌, Bool, true, false, not, ◌||◌}
use Rattle.std.specs.Prelude.{List, [], ◌∷◌, ◌++◌, length, drop, replicate, Option, None, refl}
use Rattle.std.specs.List.{flat_map, range_with_len}
use Rattle.std.proofs.Common.{ap, subst, sym, arith}
use Rattle.cell_bits.specs.Bytes.{mfm, mfm_cells}
use Rattle.cell_bits.specs.Word.{digit, word_cells}
use Rattle.track_rings.specs.lemmas.Syncs.{QuietPart, SyncPart, Syncs, all_known, clashes}
use Rattle.track_rings.specs.lemmas.Syncs.{clashes-not, fits, fits-append, fits-drop, fits-front}
use Rattle.track_rings.specs.lemmas.Syncs.{fits-known, part-append, quiet-append, quiet-none}
use Rattle.mfm_coding.specs.declared.symbol.Symbol.{Symbol}
use Rattle.mfm_coding.specs.declared.symbol.Symbol.TheVariants.{Data, SyncMark, IndexMark}
use Rattle.mfm_coding.specs.Coding.{bytes_as_data, coded, symbol_cells}
use Rattle.mfm_coding.specs.lemmas.CodingLaws.{coded-append, last_bit, last_bit-append}
use Rattle.mfm_coding.specs.lemmas.CodingLaws.{length-coded, length-mfm}

-- the first eleven cells of the mark, from its first one on: what data can't hold
abbrev pub mark_front : List (Option Bool)
mark_front = all_known
    (true ∷ false ∷ false ∷ false ∷ true ∷ false ∷ false ∷ true ∷ false ∷ false ∷ false ∷ [])

-- from a clock cell on
not_at_clock : (before first second : Bool) (rest : List Bool)
    → ¬ (fits mark_front (not (before || first) ∷ first ∷ not (first || second) ∷ second ∷ rest)
    ≡ true)
unfolding fits
not_at_clock true first second rest fit = cc
not_at_clock false true second rest fit = cc
not_at_clock false false true rest fit = cc
not_at_clock false false false rest fit = cc

-- from a data cell on
not_at_data : (a b c d e f : Bool) (rest : List Bool)
    → ¬ (fits mark_front
    (a ∷ not (a || b) ∷ b ∷ not (b || c) ∷ c ∷ not (c || d) ∷ d ∷ not (d || e) ∷ e
    ∷ not (e || f) ∷ f ∷ rest)
    ≡ true)
unfolding fits
not_at_data false b c d e f rest fit = cc
not_at_data true true c d e f rest fit = cc
not_at_data true false false d e f rest fit = cc
not_at_data true false true true e f rest fit = cc
not_at_data true false true false true f rest fit = cc
not_at_data true false true false false true rest fit = cc
not_at_data true false true false false false rest fit = cc

-- nowhere in data bits where six more follow
not_in_bits : (before : Bool) (bits : List Bool) (place : ℕ) (more : List Bool)
    → place + 12 ≤ 2 * length bits
    → ¬ (fits mark_front (drop place (mfm_cells before bits ++ more)) ≡ true)
unfolding mfm_cells
not_in_bits before [] place more enough fit = absurd (omega arith)
not_in_bits before (a ∷ []) place more enough fit = absurd (omega arith)
not_in_bits before (a ∷ b ∷ []) place more enough fit = absurd (omega arith)
not_in_bits before (a ∷ b ∷ c ∷ []) place more enough fit = absurd (omega arith)
not_in_bits before (a ∷ b ∷ c ∷ d ∷ []) place more enough fit = absurd (omega arith)
not_in_bits before (a ∷ b ∷ c ∷ d ∷ e ∷ []) place more enough fit = absurd (omega arith)
not_in_bits before (a ∷ b ∷ c ∷ d ∷ e ∷ f ∷ bits) zero more enough fit =
    not_at_clock before a b _ fit
not_in_bits before (a ∷ b ∷ c ∷ d ∷ e ∷ f ∷ bits) (suc zero) more enough fit =
    not_at_data a b c d e f _ fit
not_in_bits before (a ∷ b ∷ c ∷ d ∷ e ∷ f ∷ bits) (suc (suc place)) more enough fit =
    not_in_bits a (b ∷ c ∷ d ∷ e ∷ f ∷ bits) place more (omega (arith, enough)) fit

two_bytes : (before : Bool) (byte next : ℕ) (more : List Bool)
    → mfm before byte ++ (mfm (digit byte 0) next ++ more)
    ≡ mfm_cells before (word_cells 8 byte ++ word_cells 8 next) ++ more
unfolding mfm mfm_cells word_cells
two_bytes before byte next more = refl

-- a byte before a byte
byte_before_byte : (before : Bool) (byte next place : ℕ) (more : List Bool) → place < 16
    → ¬ (fits mark_front (drop place (mfm before byte ++ (mfm (digit byte 0) next ++ more))) ≡ true)
unfolding word_cells
byte_before_byte before byte next place more low fit =
    not_in_bits before (word_cells 8 byte ++ word_cells 8 next) place more (omega (arith, low))
    (subst (λ (cells : List Bool). fits mark_front (drop place cells) ≡ true)
    (two_bytes before byte next more) fit)

-- a byte before a mark, whose cells are known
abbrev sixteen_unknown : List (Option Bool)
sixteen_unknown =
    None ∷ None ∷ None ∷ None ∷ None ∷ None ∷ None ∷ None
    ∷ None ∷ None ∷ None ∷ None ∷ None ∷ None ∷ None ∷ None ∷ []

before_known : (before : Bool) (byte mark place : ℕ) (more : List Bool)
    → clashes mark_front (drop place (sixteen_unknown ++ all_known (word_cells 16 mark))) ≡ true
    → ¬ (fits mark_front (drop place (mfm before byte ++ (word_cells 16 mark ++ more))) ≡ true)
unfolding mfm mfm_cells word_cells fits
before_known before byte mark place more clash fit =
    clashes-not mark_front (drop place (sixteen_unknown ++ all_known (word_cells 16 mark)))
    (drop place (mfm before byte ++ (word_cells 16 mark ++ more))) clash fit
    (fits-drop place (sixteen_unknown ++ all_known (word_cells 16 mark))
    (mfm before byte ++ (word_cells 16 mark ++ more))
    (fits-append sixteen_unknown (all_known (word_cells 16 mark)) (mfm before byte)
    (word_cells 16 mark ++ more) refl refl
    (fits-known (word_cells 16 mark) more)))

byte_before_mark : (before : Bool) (byte mark place : ℕ) (more : List Bool) → place < 16
    → clashes mark_front (drop 7 (sixteen_unknown ++ all_known (word_cells 16 mark))) ≡ true
    → clashes mark_front (drop 9 (sixteen_unknown ++ all_known (word_cells 16 mark))) ≡ true
    → clashes mark_front (drop 11 (sixteen_unknown ++ all_known (word_cells 16 mark))) ≡ true
    → clashes mark_front (drop 13 (sixteen_unknown ++ all_known (word_cells 16 mark))) ≡ true
    → clashes mark_front (drop 14 (sixteen_unknown ++ all_known (word_cells 16 mark))) ≡ true
    → clashes mark_front (drop 15 (sixteen_unknown ++ all_known (word_cells 16 mark))) ≡ true
    → ¬ (fits mark_front (drop place (mfm before byte ++ (word_cells 16 mark ++ more))) ≡ true)
unfolding mfm mfm_cells word_cells fits
byte_before_mark before byte mark zero more low seven nine eleven thirteen fourteen fifteen fit =
    not_at_clock before (digit byte 7) (digit byte 6) _ fit
byte_before_mark before byte mark (suc zero) more low seven nine eleven thirteen fourteen fifteen
    fit = not_at_data (digit byte 7) (digit byte 6) (digit byte 5) (digit byte 4) (digit byte 3)
    (digit byte 2) _ fit
byte_before_mark before byte mark (suc (suc zero)) more low seven nine eleven thirteen fourteen
    fifteen fit = not_at_clock (digit byte 7) (digit byte 6) (digit byte 5) _ fit
byte_before_mark before byte mark (suc (suc (suc zero))) more low seven nine eleven thirteen
    fourteen fifteen fit = not_at_data (digit byte 6) (digit byte 5) (digit byte 4) (digit byte 3)
    (digit byte 2) (digit byte 1) _ fit
byte_before_mark before byte mark (suc (suc (suc (suc zero)))) more low seven nine eleven thirteen
    fourteen fifteen fit = not_at_clock (digit byte 6) (digit byte 5) (digit byte 4) _ fit
byte_before_mark before byte mark (suc (suc (suc (suc (suc zero))))) more low seven nine eleven
    thirteen fourteen fifteen fit = not_at_data (digit byte 5) (digit byte 4) (digit byte 3)
    (digit byte 2) (digit byte 1) (digit byte 0) _ fit
byte_before_mark before byte mark (suc (suc (suc (suc (suc (suc zero)))))) more low seven nine
    eleven thirteen fourteen fifteen fit =
    not_at_clock (digit byte 5) (digit byte 4) (digit byte 3) _ fit
byte_before_mark before byte mark (suc (suc (suc (suc (suc (suc (suc zero))))))) more low seven nine
    eleven thirteen fourteen fifteen fit = before_known before byte mark 7 more seven fit
byte_before_mark before byte mark (suc (suc (suc (suc (suc (suc (suc (suc zero)))))))) more low
    seven nine eleven thirteen fourteen fifteen fit =
    not_at_clock (digit byte 4) (digit byte 3) (digit byte 2) _ fit
byte_before_mark before byte mark (suc (suc (suc (suc (suc (suc (suc (suc (suc zero))))))))) more
    low seven nine eleven thirteen fourteen fifteen fit =
    before_known before byte mark 9 more nine fit
byte_before_mark before byte mark (suc (suc (suc (suc (suc (suc (suc (suc (suc (suc zero))))))))))
    more low seven nine eleven thirteen fourteen fifteen fit =
    not_at_clock (digit byte 3) (digit byte 2) (digit byte 1) _ fit
byte_before_mark before byte mark
    (suc (suc (suc (suc (suc (suc (suc (suc (suc (suc (suc zero))))))))))) more low seven nine
    eleven thirteen fourteen fifteen fit = before_known before byte mark 11 more eleven fit
byte_before_mark before byte mark
    (suc (suc (suc (suc (suc (suc (suc (suc (suc (suc (suc (suc zero)))))))))))) more low seven nine
    eleven thirteen fourteen fifteen fit =
    not_at_clock (digit byte 2) (digit byte 1) (digit byte 0) _ fit
byte_before_mark before byte mark
    (suc (suc (suc (suc (suc (suc (suc (suc (suc (suc (suc (suc (suc zero))))))))))))) more low
    seven nine eleven thirteen fourteen fifteen fit =
    before_known before byte mark 13 more thirteen fit
byte_before_mark before byte mark
    (suc (suc (suc (suc (suc (suc (suc (suc (suc (suc (suc (suc (suc (suc zero)))))))))))))) more
    low seven nine eleven thirteen fourteen fifteen fit =
    before_known before byte mark 14 more fourteen fit
byte_before_mark before byte mark
    (suc (suc (suc (suc (suc (suc (suc (suc (suc (suc (suc (suc (suc (suc (suc zero)))))))))))))))
    more low seven nine eleven thirteen fourteen fifteen fit =
    before_known before byte mark 15 more fifteen fit
byte_before_mark before byte mark
    (suc
    (suc (suc (suc (suc (suc (suc (suc (suc (suc (suc (suc (suc (suc (suc (suc place))))))))))))))))
    more low seven nine eleven thirteen fourteen fifteen fit = absurd (omega arith)

-- what follows a data bit: a byte or a mark, and anything after it
abbrev pub FollowsBit : Bool → List Bool → Type 0
FollowsBit before rest =
    (symbol : Symbol) × (more : List Bool) × (rest ≡ symbol_cells before symbol ++ more)

byte_nowhere : (before : Bool) (byte : ℕ) (symbol : Symbol) (more : List Bool) (place : ℕ)
    → place < 16
    → ¬ (fits mark_front
    (drop place (mfm before byte ++ (symbol_cells (digit byte 0) symbol ++ more)))
    ≡ true)
unfolding symbol_cells word_cells clashes
byte_nowhere before byte (Data next) more place low fit =
    byte_before_byte before byte next place more low fit
byte_nowhere before byte SyncMark more place low fit =
    byte_before_mark before byte 0x4489 place more low refl refl refl refl refl refl fit
byte_nowhere before byte IndexMark more place low fit =
    byte_before_mark before byte 0x5224 place more low refl refl refl refl refl refl fit

is_byte : (before : Bool) (byte : ℕ) (rest : List Bool)
    → mfm before byte ++ rest ≡ symbol_cells before (Data byte) ++ rest
unfolding symbol_cells
is_byte before byte rest = refl

-- A sync that begins with these cells begins nowhere in bytes written as data.
module _ (sync : List (Option Bool)) where
  byte_quiet : (before : Bool) (byte : ℕ)
      → QuietPart (Syncs (mark_front ++ sync)) (FollowsBit (digit byte 0)) (FollowsBit before)
      (mfm before byte)
  byte_quiet before byte rest follows = (
    λ place within test.
        byte_nowhere before byte follows.0 follows.1 place
        (omega (arith, within, length-mfm before byte))
        (subst
        (λ (cells : List Bool). fits mark_front (drop place (mfm before byte ++ cells)) ≡ true)
        follows.2
        (fits-front mark_front sync (drop place (mfm before byte ++ rest)) test)),
    (Data byte, rest, is_byte before byte rest),
  )

  pub bytes_quiet : (before : Bool) (bytes : List ℕ)
      → QuietPart (Syncs (mark_front ++ sync)) (FollowsBit (last_bit before (bytes_as_data bytes)))
      (FollowsBit before) (coded before (bytes_as_data bytes))
  unfolding coded symbol_cells
  bytes_quiet before [] = quiet-none (Syncs (mark_front ++ sync)) (FollowsBit before)
  bytes_quiet before (byte ∷ bytes) =
      quiet-append (Syncs (mark_front ++ sync))
      (FollowsBit (last_bit (digit byte 0) (bytes_as_data bytes))) (FollowsBit (digit byte 0))
      (FollowsBit before)
      (mfm before byte) (coded (digit byte 0) (bytes_as_data bytes)) (byte_quiet before byte)
      (bytes_quiet (digit byte 0) bytes)

-- The sectors of a track in a row, in each of which the sync begins at one place.
module _ (Test : List Bool → Type 0) (f : ℕ → List Symbol) (size offset : ℕ) where
  pub sectors_part : (first count : ℕ)
      → ((s : ℕ) → first ≤ s → s < first + count → 16 * length (f s) ≡ size)
      → ((s : ℕ) (before : Bool) → first ≤ s → s < first + count
      → SyncPart Test (λ place. place ≡ offset) (FollowsBit (last_bit before (f s)))
      (FollowsBit before) (coded before (f s)))
      → (before : Bool)
      → SyncPart Test (λ place. (k : ℕ) × (k < count) × (place ≡ k * size + offset))
      (FollowsBit (last_bit before (flat_map f (range_with_len first count)))) (FollowsBit before)
      (coded before (flat_map f (range_with_len first count)))
  unfolding coded
  sectors_part first zero long each before =
      λ rest follows. (λ place within test. absurd (omega arith), follows)
  sectors_part first (suc count) long each before =
      let one = f first in
      let others = flat_map f (range_with_len (first + 1) count) in
      let bit = last_bit before one in
      let here : ℕ → Type 0 = λ place. (k : ℕ) × (k < suc count) × (place ≡ k * size + offset) in
      let head = each first before (omega arith) (omega arith) in
      let tail = sectors_part (first + 1) count (λ s least most. long s (omega arith) (omega arith))
      (λ s other least most. each s other (omega arith) (omega arith)) bit in
      let wide : 16 * length one ≡ size = long first (omega arith) (omega arith) in
      let cells_size = length-coded before one in
      let joined = part-append Test here (FollowsBit (last_bit bit others)) (FollowsBit bit)
      (FollowsBit before) (coded before one) (coded bit others)
      (λ rest follows.
      (let at = head rest follows in (
        (λ place within test.
            (0, omega arith, (let e = at.0 place within test in omega (arith, e)))),
        at.1,
      )))
      (λ rest follows.
      let at = tail rest follows in (
        λ place within test.
            let k = at.0 place within test in
            let e : (k.0 + 1) * size ≡ k.0 * size + size = omega arith in
            (k.0 + 1, omega (arith, k.1), omega (arith, k.2, wide, cells_size, e)),
        at.1,
      )) in
      let bits = last_bit-append before one others in
      let cells = coded-append before one others in
      subst
      (λ (b : Bool).
      SyncPart Test here (FollowsBit b) (FollowsBit before) (coded before (one ++ others)))
      (sym bits)
      (subst
      (λ (all : List Bool).
      SyncPart Test here (FollowsBit (last_bit bit others)) (FollowsBit before) all) (sym cells)
      joined)

-- Symbols in whose cells the sync begins at such places only, after any data bit.
abbrev pub SyncSymbols : (List Bool → Type 0) → (ℕ → Type 0) → List Symbol → Type 0
SyncSymbols Test Here symbols =
    (before : Bool)
    → SyncPart Test Here (FollowsBit (last_bit before symbols)) (FollowsBit before)
    (coded before symbols)

abbrev pub QuietSymbols : (List Bool → Type 0) → List Symbol → Type 0
QuietSymbols Test symbols = SyncSymbols Test (λ place. ⊥) symbols

module _ (Test : List Bool → Type 0) where
  -- some, and then more, seen apart
  pub symbols-joined : (Here : ℕ → Type 0) (xs ys : List Symbol) (before : Bool)
      → SyncPart Test Here (FollowsBit (last_bit (last_bit before xs) ys)) (FollowsBit before)
      (coded before xs ++ coded (last_bit before xs) ys)
      → SyncPart Test Here (FollowsBit (last_bit before (xs ++ ys))) (FollowsBit before)
      (coded before (xs ++ ys))
  symbols-joined Here xs ys before part =
      subst
      (λ (b : Bool).
      SyncPart Test Here (FollowsBit b) (FollowsBit before) (coded before (xs ++ ys)))
      (sym (last_bit-append before xs ys))
      (subst
      (λ (cells : List Bool).
      SyncPart Test Here (FollowsBit (last_bit (last_bit before xs) ys)) (FollowsBit before)
      cells)
      (sym (coded-append before xs ys)) part)

  -- some, and then more
  pub symbols-append : (Here : ℕ → Type 0) (xs ys : List Symbol) → SyncSymbols Test Here xs
      → SyncSymbols Test (λ place. Here (16 * length xs + place)) ys
      → SyncSymbols Test Here (xs ++ ys)
  symbols-append Here xs ys first second before =
      let bit = last_bit before xs in
      let size = length-coded before xs in
      symbols-joined Here xs ys before
      (part-append Test Here (FollowsBit (last_bit bit ys)) (FollowsBit bit) (FollowsBit before)
      (coded before xs) (coded bit ys) (first before)
      (λ rest follows.
      let at = second bit rest follows in (
        λ place within test.
            subst (λ (n : ℕ). Here (n + place)) (sym size) (at.0 place within test),
        at.1,
      )))

  -- quiet ones, wherever it may begin
  quiet-anywhere : (Here : ℕ → Type 0) (symbols : List Symbol) → QuietSymbols Test symbols
      → SyncSymbols Test Here symbols
  quiet-anywhere Here symbols quiet before rest follows =
      let one = quiet before rest follows in
      (λ place within test. absurd (one.0 place within test), one.1)

  -- quiet ones, and then more
  pub symbols-skip : (Here : ℕ → Type 0) (xs ys : List Symbol) → QuietSymbols Test xs
      → SyncSymbols Test (λ place. Here (16 * length xs + place)) ys
      → SyncSymbols Test Here (xs ++ ys)
  symbols-skip Here xs ys first second =
      symbols-append Here xs ys (quiet-anywhere Here xs first) second

  -- symbols, and then quiet ones
  pub symbols-then : (Here : ℕ → Type 0) (xs ys : List Symbol) → SyncSymbols Test Here xs
      → QuietSymbols Test ys → SyncSymbols Test Here (xs ++ ys)
  symbols-then Here xs ys first second =
      symbols-append Here xs ys first
      (quiet-anywhere (λ place. Here (16 * length xs + place)) ys second)

  pub quiet-symbols : (xs ys : List Symbol) → QuietSymbols Test xs → QuietSymbols Test ys
      → QuietSymbols Test (xs ++ ys)
  quiet-symbols xs ys first second = symbols-then (λ place. ⊥) xs ys first second

  pub no-symbols : QuietSymbols Test []
  unfolding coded
  no-symbols before = quiet-none Test (FollowsBit before)

-- bytes written as data, and a run of one byte
run-bytes : (count byte : ℕ) → replicate count (Data byte) ≡ bytes_as_data (replicate count byte)
run-bytes zero byte = refl
run-bytes (suc count) byte = ap (λ (rest : List Symbol). Data byte ∷ rest) (run-bytes count byte)

pub quiet-bytes : (sync : List (Option Bool)) (bytes : List ℕ)
    → QuietSymbols (Syncs (mark_front ++ sync)) (bytes_as_data bytes)
quiet-bytes sync bytes before = bytes_quiet sync before bytes

pub quiet-run : (sync : List (Option Bool)) (count byte : ℕ)
    → QuietSymbols (Syncs (mark_front ++ sync)) (replicate count (Data byte))
quiet-run sync count byte =
    subst (QuietSymbols (Syncs (mark_front ++ sync))) (sym (run-bytes count byte))
    (quiet-bytes sync (replicate count byte))

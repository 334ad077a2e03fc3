-- How the splitting of joined streams goes on, and how it ends.
use Rattle.std.proofs.Common.{◌≡◌, ◌<◌, ◌+◌, ◌++◌, ◌==◌, ℕ, zero, suc, Bool, true, false, not, List, [], ◌∷◌, take, refl, sym, ap, subst, ◌∙◌, arith, Option, None, Err, Ok, ne_eqb}
use Rattle.std.specs.Prelude.{nat_lt}
use Rattle.std.proofs.KnownBytes.{Consumes-nil, Consumes-trans}
use Rattle.std.proofs.lemmas.Bool.{lt-ltb}
use Rattle.file_maker.specs.Made.{Made}
use Rattle.flux_base.specs.Blames.{CountsBy, no_counts, three_counts}
use Rattle.flux_base.specs.Counts.{Counts, FaultCounts}
use Rattle.flux_base.specs.declared.outside.Failed.{Failed}
use Rattle.flux_base.specs.lemmas.Blaming.{CountsBy-image}
use Rattle.kryo_stream.specs.Stream.{first_fault}
use Rattle.stream_files.specs.Answers.{IsFirstThere, IsThere, MadeTo, SaysOfStreams, SplitsStreams}
use Rattle.stream_files.specs.Blamed.{is_of_maker, split_blame}
use Rattle.stream_files.specs.Streams.{AreSound, SplitFolder, most_streams}
use Rattle.stream_files.specs.declared.fault.SplitFault.{SplitFault}
use Rattle.stream_files.specs.declared.heads.Heads.{Heads}
use Rattle.stream_files.specs.declared.heads.Heads.TheVariants.{One, Two}
use Rattle.stream_files.specs.declared.fault.SplitFault.TheVariants.{Exists, FileFault, FolderFault, NoName, ReadFault, Refused}
use Rattle.stream_files.specs.inside.Ahead.{Finds}
use Rattle.stream_files.specs.inside.Progress.{HasSplit, IsSplitTo, SplitsOne, file_of_bytes}
use Rattle.stream_files.proofs.Progressing.{clean_is, clean_more, cut_is, made_is, next, none_is, start, stream_is}

pub later_is : (n : ℕ) → not (n == 0) ≡ nat_lt 0 n
later_is zero = refl
later_is (suc n) = ap not (ne_eqb (suc n) 0 (λ e. omega (arith, e))) ∙ sym (lt-ltb 0 (suc n) (omega arith))

pub positive : (n : ℕ) → (n == 0) ≡ false → 0 < n
positive zero is = absurd (cc)
positive (suc n) is = omega arith

pub some_names : (heads : Heads) → 0 < most_streams heads
some_names One = omega arith
some_names Two = omega arith

pub some_later : (n : ℕ) → 0 < n → not false ≡ nat_lt 0 n
some_later n some = sym (lt-ltb 0 n some)

nil-left : (xs ys : List ℕ) → xs ++ ys ≡ [] → xs ≡ []
nil-left [] ys none = refl
nil-left (x ∷ xs) ys none = absurd (cc)

pub has-none : (split : SplitFolder) (left : Option (List ℕ)) (held : List ℕ) (made : Option Made) → held ≡ [] → HasSplit split 0 left left held made made
has-none split left held made nothing =
    subst (λ (h : List ℕ). HasSplit split 0 left left h made made) (sym nothing)
    (record { taken = []; files = []; consumed = Consumes-nil left; come = start split made })

module _ (split : SplitFolder) (left mid left' : Option (List ℕ)) (made before : Option Made) (held : List ℕ) (n : ℕ)
    (h : HasSplit split n left mid held made before) (none : IsFirstThere made split None) (is_first : Bool) (is_later : not is_first ≡ nat_lt 0 n) (held' : List ℕ) where
  -- the source failed
  pub says-unread : (failed : Failed) → Finds is_first mid left' held held' (Err failed) → SplitsStreams split left left' made before (Err ReadFault)
  says-unread failed f = record {
    taken = h.taken ++ f.0;
    consumed = Consumes-trans left mid left' h.taken f.0 h.consumed f.1;
    ended = λ of. absurd of;
    says = λ later gone. (
      none,
      n,
      clean_is split made n h.taken held h.files before h.come (not is_first) is_later f.0 later,
      made_is split made n h.taken held h.files before h.come (not is_first) is_later f.0 later,
    );
  }

  -- all streams were split
  pub says-all : 0 < n → Finds is_first mid left' held held' (Ok false) → SplitsStreams split left left' made before (Ok n)
  says-all some f = record {
    taken = h.taken ++ f.0;
    consumed = Consumes-trans left mid left' h.taken f.0 h.consumed f.1;
    ended = λ of. f.3;
    says = λ later gone. (
      none,
      some,
      clean_is split made n h.taken held h.files before h.come (not is_first) is_later f.0 later,
      none_is split made n h.taken held h.files before h.come (not is_first) is_later f.0 f.4 later (gone tt),
      made_is split made n h.taken held h.files before h.come (not is_first) is_later f.0 later,
    );
  }

  module _ (f : Finds is_first mid left' held held' (Ok true)) where
    -- there is one more than names
    pub says-beyond : is_first ≡ false → n ≡ most_streams split.heads → SplitsStreams split left left' made before (Err (NoName n))
    says-beyond not_first is = record {
      taken = h.taken ++ f.0;
      consumed = Consumes-trans left mid left' h.taken f.0 h.consumed f.1;
      ended = λ of. absurd of;
      says = λ later gone. (
        none,
        is,
        clean_is split made n h.taken held h.files before h.come (not is_first) is_later f.0 later,
        (λ empty. f.4 not_first
            (nil-left held' later (sym (stream_is split made n h.taken held h.files before h.come (not is_first) is_later f.0 held' f.2 later) ∙ empty))),
        made_is split made n h.taken held h.files before h.come (not is_first) is_later f.0 later,
      );
    }

    module _ (held'' : List ℕ) (made' : Option Made) where
      -- the next one was split
      pub has-more : (u : Unit {0}) → SplitsOne split n held' held'' before made' (Ok u) → HasSplit split (n + 1) left left' held'' made made'
      has-more u o = record {
        taken = h.taken ++ f.0;
        files = h.files ++ file_of_bytes split n (take o.0 held') ∷ [];
        consumed = Consumes-trans left mid left' h.taken f.0 h.consumed f.1;
        come = subst (λ (rest : List ℕ). IsSplitTo split (n + 1) (h.taken ++ f.0) rest (h.files ++ file_of_bytes split n (take o.0 held') ∷ []) made made') (sym o.3)
            (next split made n h.taken held h.files before h.come (not is_first) is_later f.0 held' f.2 o.0 o.1 o.2 made' o.4);
      }

      -- or was not
      pub says-stopped : n < most_streams split.heads → (fault : SplitFault) → SplitsOne split n held' held'' before made' (Err fault) → SplitsStreams split left left' made made' (Err fault)
      says-stopped low (Refused k block fault) o = record {
        taken = h.taken ++ f.0;
        consumed = Consumes-trans left mid left' h.taken f.0 h.consumed f.1;
        ended = λ cut. f.3 (o.1.few cut);
        says = λ later gone.
            subst (λ (j : ℕ). SaysOfStreams split ((h.taken ++ f.0) ++ later) made made' (Err (Refused j block fault))) (sym o.0)
            (subst (λ (m : Option Made). SaysOfStreams split ((h.taken ++ f.0) ++ later) made m (Err (Refused n block fault))) (sym o.2) (
              none,
              clean_is split made n h.taken held h.files before h.come (not is_first) is_later f.0 later,
              ap first_fault (stream_is split made n h.taken held h.files before h.come (not is_first) is_later f.0 held' f.2 later) ∙ o.1.is later gone,
              made_is split made n h.taken held h.files before h.come (not is_first) is_later f.0 later,
            ));
      }
      says-stopped low FolderFault o = record {
        taken = h.taken ++ f.0;
        consumed = Consumes-trans left mid left' h.taken f.0 h.consumed f.1;
        ended = λ of. absurd of;
        says = λ later gone. (
          none,
          subst (λ (j : ℕ). AreSound ((h.taken ++ f.0) ++ later) (j + 1)) o.0
              (clean_more split made n h.taken held h.files before h.come (not is_first) is_later f.0 held' f.2 o.1 o.2 o.3 later),
          o.4 ∙ (subst (λ (j : ℕ). MadeTo split j h.files made before) o.0 h.come.made_to).1,
        );
      }
      says-stopped low (FileFault k) o = record {
        taken = h.taken ++ f.0;
        consumed = Consumes-trans left mid left' h.taken f.0 h.consumed f.1;
        ended = λ of. absurd of;
        says = λ later gone.
            subst (λ (j : ℕ). SaysOfStreams split ((h.taken ++ f.0) ++ later) made made' (Err (FileFault j))) (sym o.0)
            (let cut = cut_is split made n h.taken held h.files before h.come (not is_first) is_later f.0 held' f.2 o.1 o.2 o.3 made' o.4 o.5 o.6 later in (
              low,
              none,
              clean_more split made n h.taken held h.files before h.come (not is_first) is_later f.0 held' f.2 o.1 o.2 o.3 later,
              h.files ++ o.4,
              cut.0,
              cut.1,
            ));
      }
      says-stopped low ReadFault o = absurd o
      says-stopped low (NoName k) o = absurd o
      says-stopped low (Exists k) o = absurd o

-- whom it blames that one was not split
pub blames-stopped : (split : SplitFolder) (n : ℕ) (held held' : List ℕ) (made made' : Option Made) (fault : SplitFault)
    → SplitsOne split n held held' made made' (Err fault) → (source maker maker' : FaultCounts) → Counts (is_of_maker {A = Unit {0}} (Err fault)) maker maker'
    → CountsBy (split_blame {A = ℕ} (Err fault)) (three_counts source maker no_counts) (three_counts source maker' no_counts)
blames-stopped split n held held' made made' (Refused k block fault) o source maker maker' counts = CountsBy-image source no_counts false counts
blames-stopped split n held held' made made' FolderFault o source maker maker' counts = CountsBy-image source no_counts true counts
blames-stopped split n held held' made made' (FileFault k) o source maker maker' counts = CountsBy-image source no_counts true counts
blames-stopped split n held held' made made' ReadFault o source maker maker' counts = absurd o
blames-stopped split n held held' made made' (NoName k) o source maker maker' counts = absurd o
blames-stopped split n held held' made made' (Exists k) o source maker maker' counts = absurd o

-- in what is answered no file was there
pub never-there : (split : SplitFolder) (n : ℕ) (held held' : List ℕ) (made made' : Option Made) (fault : SplitFault)
    → SplitsOne split n held held' made made' (Err fault) → IsThere (Err fault) → ⊥
never-there split n held held' made made' (Refused k block fault) o is = is
never-there split n held held' made made' FolderFault o is = is
never-there split n held held' made made' (FileFault k) o is = is
never-there split n held held' made made' ReadFault o is = is
never-there split n held held' made made' (NoName k) o is = is
never-there split n held held' made made' (Exists k) o is = absurd o

-- Streams that are split one after another.
use Rattle.std.proofs.Common.{◌≡◌, ◌<◌, inl, inr, ◌+◌, ◌++◌, ℕ, zero, suc, Bool, not, List, [], ◌∷◌, length, map, take, drop, refl, sym, ap, subst, ◌∙◌, arith, add-one, append_assoc, append-nil, Option, Some, None}
use Rattle.std.specs.List.{range_with_len}
use Rattle.std.specs.Option.{option_map}
use Rattle.std.specs.Prelude.{nat_lt}
use Rattle.std.proofs.lemmas.Bool.{cases_lt}
use Rattle.std.proofs.lemmas.List.{drop-append-le, take-append-le}
use Rattle.std.proofs.lemmas.List.FromFn.{map-range_with_len_more}
use Rattle.file_maker.specs.Made.{Made, with_folder}
use Rattle.file_maker.specs.Makes.{with_files, with_folder_of}
use Rattle.flux_engine.specs.Streams.{behind, behind_stream, stream_at}
use Rattle.kryo_stream.specs.Outcome.{input_of}
use Rattle.kryo_stream.specs.Stream.{first_fault, stream_length}
use Rattle.track_shelf.specs.Files.{File}
use Rattle.index_turns.specs.Track.{TrackState}
use Rattle.kryo_stream.specs.HeldStreams.{HoldsStream}
use Rattle.stream_files.specs.Answers.{IsCutAt, IsFrontOf, MadeTo}
use Rattle.stream_files.specs.Streams.{AreSound, SplitFolder, stream_bytes, stream_file, stream_files}
use Rattle.stream_files.specs.inside.Progress.{IsSplitTo, MadeNext, file_of_bytes}

-- files, and then more
both : (folder : List ℕ) (files more : List File) (made : Option Made)
    → option_map (with_files more) (option_map (with_folder_of folder files) made) ≡ option_map (with_folder_of folder (files ++ more)) made
both folder files more None = refl
both folder files more (Some told) =
    ap (λ (all : List File). Some (record { folders = with_folder folder told.folders; files = all; opened = told.opened }))
    (append_assoc told.files files more)

module _ (split : SplitFolder) (made : Option Made) where
  pub start : IsSplitTo split 0 [] [] [] made made
  unfolding behind
  start = record {
    clean = λ later k low. absurd (omega (arith, low));
    rest = λ later. refl;
    files_are = λ later. refl;
    made_to = (refl, refl);
  }

  made_next : (n : ℕ) (files more : List File) (before made' : Option Made) → MadeTo split n files made before → MadeNext split n more before made'
      → MadeTo split (suc n) (files ++ more) made made'
  made_next zero files more before made' was next =
      next ∙ ap (option_map (with_folder_of split.folder more)) was.1
      ∙ ap (λ (first : List File). option_map (with_folder_of split.folder (first ++ more)) made) (sym was.0)
  made_next (suc n) files more before made' was next = next ∙ ap (option_map (with_files more)) was ∙ both split.folder files more made

  module _ (n : ℕ) (taken held : List ℕ) (files : List File) (before : Option Made) (s : IsSplitTo split n taken held files made before) (used : Bool)
      (is_later : used ≡ nat_lt 0 n) (more : List ℕ) where
    -- what stands behind the streams, and what was taken after it
    behind_is : (later : List ℕ) → stream_at ((taken ++ more) ++ later) n ≡ input_of used ((held ++ more) ++ later)
    behind_is later =
        ap (λ (x : List ℕ). input_of (nat_lt 0 n) (behind x n)) (append_assoc taken more later)
        ∙ ap (input_of (nat_lt 0 n)) (s.rest (more ++ later) ∙ sym (append_assoc held more later))
        ∙ ap (λ (b : Bool). input_of b ((held ++ more) ++ later)) (sym is_later)

    pub clean_is : (later : List ℕ) → AreSound ((taken ++ more) ++ later) n
    clean_is later = subst (λ (x : List ℕ). AreSound x n) (sym (append_assoc taken more later)) (s.clean (more ++ later))

    pub files_is : (later : List ℕ) → stream_files split ((taken ++ more) ++ later) n ≡ files
    files_is later = ap (λ (x : List ℕ). stream_files split x n) (append_assoc taken more later) ∙ s.files_are (more ++ later)

    pub made_is : (later : List ℕ) → MadeTo split n (stream_files split ((taken ++ more) ++ later) n) made before
    made_is later = subst (λ (fs : List File). MadeTo split n fs made before) (sym (files_is later)) s.made_to

    -- nothing stands there
    pub none_is : input_of used (held ++ more) ≡ [] → (later : List ℕ) → later ≡ [] → stream_at ((taken ++ more) ++ later) n ≡ []
    none_is none later gone =
        behind_is later ∙ ap (λ (l : List ℕ). input_of used ((held ++ more) ++ l)) gone ∙ ap (input_of used) (append-nil (held ++ more)) ∙ none

    module _ (held' : List ℕ) (found : (later : List ℕ) → input_of used ((held ++ more) ++ later) ≡ held' ++ later) where
      pub stream_is : (later : List ℕ) → stream_at ((taken ++ more) ++ later) n ≡ held' ++ later
      stream_is later = behind_is later ∙ found later

      module _ (size : ℕ) (flux : TrackState) (has : HoldsStream held' flux size) where
        pub bytes_is : (later : List ℕ) → stream_bytes ((taken ++ more) ++ later) n ≡ take size held'
        bytes_is later =
            ap (λ (y : List ℕ). take (stream_length y) y) (stream_is later) ∙ ap (λ (l : ℕ). take l (held' ++ later)) (has.size_is later)
            ∙ take-append-le size held' later has.within

        pub file_is : (later : List ℕ) → stream_file split ((taken ++ more) ++ later) n ≡ file_of_bytes split n (take size held')
        file_is later = ap (file_of_bytes split n) (bytes_is later)

        pub clean_more : (later : List ℕ) → AreSound ((taken ++ more) ++ later) (n + 1)
        clean_more later k low = elim (cases_lt k n) [
          | inl before_it ↦ clean_is later k before_it
          | inr least ↦
              let here : n ≡ k = omega (arith, low, least) in
              subst (λ (j : ℕ). first_fault (stream_at ((taken ++ more) ++ later) j) ≡ None) here
              (ap first_fault (stream_is later) ∙ (has.is later).no_fault)
        ]

        -- one stream more was made a file
        pub next : (made' : Option Made) → MadeNext split n (file_of_bytes split n (take size held') ∷ []) before made'
            → IsSplitTo split (n + 1) (taken ++ more) (drop size held') (files ++ file_of_bytes split n (take size held') ∷ []) made made'
        unfolding behind
        next made' grew = record {
          clean = clean_more;
          rest = λ (later : List ℕ).
              ap (behind ((taken ++ more) ++ later)) (add-one n) ∙ ap behind_stream (stream_is later)
              ∙ ap (λ (l : ℕ). drop l (held' ++ later)) (has.size_is later) ∙ drop-append-le size held' later has.within;
          files_are = λ (later : List ℕ).
              map-range_with_len_more (stream_file split ((taken ++ more) ++ later)) 0 n n (omega arith)
              ∙ ap (λ (fs : List File). fs ++ stream_file split ((taken ++ more) ++ later) n ∷ []) (files_is later)
              ∙ ap (λ (f : File). files ++ f ∷ []) (file_is later);
          made_to =
              subst (λ (k : ℕ). MadeTo split k (files ++ file_of_bytes split n (take size held') ∷ []) made made') (sym (add-one n))
              (made_next n files (file_of_bytes split n (take size held') ∷ []) before made' s.made_to grew);
        }

        -- the file of the next one failed
        pub cut_is : (made' : Option Made) (some : List File)
            → IsFrontOf (file_of_bytes split n (take size held')) some
            → MadeNext split n some before made' → (later : List ℕ)
            → IsCutAt split ((taken ++ more) ++ later) n (files ++ some) × MadeTo split (suc n) (files ++ some) made made'
        cut_is made' some front grew later = (
          (
            some,
            subst (λ (f : File). IsFrontOf f some) (sym (file_is later)) front,
            ap (λ (fs : List File). fs ++ some) (sym (files_is later)),
          ),
          made_next n files some before made' s.made_to grew,
        )

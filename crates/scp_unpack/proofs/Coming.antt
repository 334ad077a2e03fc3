-- Tracks that are unpacked one after another.
use Rattle.std.proofs.Common.{◌≡◌, ◌<◌, ◌+◌, ◌++◌, ℕ, List, [], ◌∷◌, length, drop, take, Option, Some, None, Err, Ok, inl, inr, refl, sym, ap, subst, ◌∙◌, append-nil, length-append, arith}
use Rattle.std.proofs.KnownBytes.{Appends-nil, Appends-trans}
use Rattle.std.proofs.lemmas.Grind.{flat_map-append}
use Rattle.std.proofs.lemmas.List.{map-id}
use Rattle.std.proofs.lemmas.List.Elements.{filter_map-append}
use Rattle.std.proofs.lemmas.List.FromFn.{map-range_with_len_more}
use Rattle.std.specs.Io.KnownBytes.{Appends}
use Rattle.std.specs.List.{cons_option, filter_map, range_with_len}
use Rattle.std.specs.Option.{option_map}
use Rattle.file_maker.specs.Made.{Made}
use Rattle.file_maker.specs.Makes.{MakesFile, front_of, with_files}
use Rattle.file_maker.specs.lemmas.Making.{more_files, no_files}
use Rattle.flux_base.specs.Outside.{AppendsPart}
use Rattle.flux_base.specs.declared.outside.Failed.{Failed}
use Rattle.flux_base.specs.lemmas.Parts.{AppendsPart-first, AppendsPart-second}
use Rattle.track_shelf.specs.Files.{File, file_at}
use Rattle.scp_files.specs.Files.{FRONT_SIZE, TABLE_SIZE, resolution_of, revolutions_of, track_offset}
use Rattle.scp_files.specs.Laws.{FileBeginTells}
use Rattle.scp_unpack.specs.Answers.{Answer, AreFirst, Asked, IsFrontOf, SaysOfTracks, count_of}
use Rattle.scp_unpack.specs.Files.{came_at, file_of, file_with, files_of, first_came, line_by, lines_of}
use Rattle.scp_unpack.specs.Lines.{total_text}
use Rattle.scp_unpack.specs.Tracks.{TrackCame, came_of}
use Rattle.scp_files.specs.declared.fault.TrackTold.{TrackTold}
use Rattle.scp_unpack.specs.declared.fault.UnpackFault.{UnpackFault}
use Rattle.scp_unpack.specs.declared.fault.UnpackFault.TheVariants.{Exists, FileFault, FolderFault, NotThere, NotesFault, ReadFault, Refused}
use Rattle.scp_unpack.specs.declared.unpacking.Unpacked.{Unpacked}
use Rattle.scp_unpack.specs.inside.Steps.{HasUnpacked, IsFront, MakesBehind, UnpacksTrack}

-- of the tracks up to a number, and those of the next
range-more : (n : ℕ) → range_with_len 0 (n + 1) ≡ range_with_len 0 n ++ n ∷ []
range-more n =
    sym (map-id (range_with_len 0 (n + 1))) ∙ map-range_with_len_more (λ (k : ℕ). k) 0 n n (omega arith)
    ∙ ap (λ (ks : List ℕ). ks ++ n ∷ []) (map-id (range_with_len 0 n))

first-more : (file : List ℕ) (n : ℕ) → first_came file (n + 1) ≡ first_came file n ++ filter_map (came_at file) (n ∷ [])
first-more file n = ap (filter_map (came_at file)) (range-more n) ∙ filter_map-append (came_at file) (range_with_len 0 n) (n ∷ [])

-- the next track of a file by its begin: with none the list stays, and else it grows by one
module _ (header : List ℕ) (tells : (file : List ℕ) → FileBeginTells file) where
  abbrev came_from : (resolution revolutions : ℕ) (file : List ℕ) (n offset : ℕ) → TrackCame
  came_from resolution revolutions file n offset =
      came_of resolution (record { number = n; offset = offset; revolutions = revolutions }) (drop offset file)

  came-is : (file : List ℕ) (n : ℕ) (offset : Option ℕ) → header ≡ take FRONT_SIZE file → offset ≡ track_offset header n
      → came_at file n ≡ option_map (came_from (resolution_of header) (revolutions_of header) file n) offset
  came-is file n offset front is =
      let t = tells file in
      ap (option_map (came_from (resolution_of file) (revolutions_of file) file n))
      (sym (t.tracks n) ∙ ap (λ h. track_offset h n) (sym front) ∙ sym is)
      ∙ ap (λ r. option_map (came_from r (revolutions_of file) file n) offset) (sym t.resolution ∙ ap resolution_of (sym front))
      ∙ ap (λ r. option_map (came_from (resolution_of header) r file n) offset) (sym t.revolutions ∙ ap revolutions_of (sym front))

  next-is : (file : List ℕ) (n : ℕ) (offset : Option ℕ) → header ≡ take FRONT_SIZE file → offset ≡ track_offset header n
      → first_came file (n + 1)
      ≡ first_came file n ++ cons_option (option_map (came_from (resolution_of header) (revolutions_of header) file n) offset) []
  next-is file n offset front is =
      first-more file n ∙ ap (λ (it : Option TrackCame). first_came file n ++ cons_option it []) (came-is file n offset front is)

  module _ (asked : Asked) (front : IsFront asked header) (n : ℕ) (came : List TrackCame) (first : AreFirst asked n came) where
    pub none-more : None ≡ track_offset header n → AreFirst asked (n + 1) came
    none-more none files file told at =
        first files file told at ∙ sym (append-nil (first_came file.bytes n)) ∙ sym (next-is file.bytes n None (front files file told at) none)

    pub one-more : (shelf : Option (List File)) (resolution revolutions offset : ℕ) (it : TrackCame) → shelf ≡ asked.shelf
        → resolution ≡ resolution_of header → revolutions ≡ revolutions_of header → Some offset ≡ track_offset header n
        → ((files : List File) (file : File) → shelf ≡ Some files → file_at files asked.path ≡ Some file
        → it ≡ came_of resolution (record { number = n; offset = offset; revolutions = revolutions }) (drop offset file.bytes))
        → AreFirst asked (n + 1) (came ++ it ∷ [])
    one-more shelf resolution revolutions offset it same by_header by_header' some known files file told at =
        let is =
        known files file (same ∙ told) at ∙ ap (λ r. came_from r revolutions file.bytes n offset) by_header
        ∙ ap (λ r. came_from (resolution_of header) r file.bytes n offset) by_header' in
        ap (λ (xs : List TrackCame). xs ++ it ∷ []) (first files file told at)
        ∙ ap (λ (x : TrackCame). first_came file.bytes n ++ x ∷ []) is
        ∙ sym (next-is file.bytes n (Some offset) (front files file told at) some)

-- the lines and numbers of tracks, and of more
lines-more : (xs ys : List TrackCame) → lines_of (xs ++ ys) ≡ lines_of xs ++ lines_of ys
lines-more xs ys = flat_map-append (λ (it : TrackCame). line_by it.number it.told) xs ys

module _ (folder : List ℕ) where
  files-more : (xs ys : List TrackCame) → files_of folder (xs ++ ys) ≡ files_of folder xs ++ files_of folder ys
  files-more xs ys = filter_map-append (file_of folder) xs ys

  abbrev told_of : List TrackCame → List TrackTold
  told_of came = filter_map (λ (it : TrackCame). it.told) came

  abbrev both : (files refused : ℕ) → Unpacked
  both files refused = record { files = files; refused = refused }

  pub counts-more : (xs ys : List TrackCame) (first more : Unpacked) → first ≡ count_of folder xs → more ≡ count_of folder ys
      → both (first.files + more.files) (first.refused + more.refused) ≡ count_of folder (xs ++ ys)
  counts-more xs ys first more is is' =
      ap (λ (u : Unpacked). both (u.files + more.files) (u.refused + more.refused)) is
      ∙ ap (λ (u : Unpacked). both (length (files_of folder xs) + u.files) (length (told_of xs) + u.refused)) is'
      ∙ ap (λ (n : ℕ). both n (length (told_of xs) + length (told_of ys)))
      (sym (ap length (files-more xs ys) ∙ length-append (files_of folder xs) (files_of folder ys)))
      ∙ ap (λ (n : ℕ). both (length (files_of folder (xs ++ ys))) n)
      (sym (ap length (filter_map-append (λ (it : TrackCame). it.told) xs ys) ∙ length-append (told_of xs) (told_of ys)))

-- how far it has come
module _ (asked : Asked) (made : Option Made) (notes : Option (List ℕ)) where
  pub start : HasUnpacked asked 0 made made notes notes (record { files = 0; refused = 0 })
  start = (
    [],
    record { first = λ files file told at. refl; made = no_files made; told = Appends-nil notes },
    refl,
  )

  module _ (n : ℕ) (mid : Option Made) (between : Option (List ℕ)) (unpacked : Unpacked) (h : HasUnpacked asked n made mid notes between unpacked) where
    -- no track has the next number
    pub pass : ((came : List TrackCame) → AreFirst asked n came → AreFirst asked (n + 1) came) → HasUnpacked asked (n + 1) made mid notes between unpacked
    pass more = (h.0, record { first = more h.0 h.1.first; made = h.1.made; told = h.1.told }, h.2)

    -- files behind those of the tracks so far
    files-behind : (made' : Option Made) (files : List File) → made' ≡ option_map (with_files files) mid
        → MakesBehind made made' (files_of asked.folder h.0 ++ files)
    files-behind made' files grew =
        grew ∙ ap (option_map (with_files files)) h.1.made ∙ more_files (files_of asked.folder h.0) files made

    files-next : (made' : Option Made) (it : TrackCame) → made' ≡ option_map (with_files (files_of asked.folder (it ∷ []))) mid
        → MakesBehind made made' (files_of asked.folder (h.0 ++ it ∷ []))
    files-next made' it grew =
        files-behind made' (files_of asked.folder (it ∷ [])) grew
        ∙ ap (λ (files : List File). option_map (with_files files) made) (sym (files-more asked.folder h.0 (it ∷ [])))

    module _ (Known : TrackCame → Type 0)
        (more : (came : List TrackCame) (it : TrackCame) → AreFirst asked n came → Known it → AreFirst asked (n + 1) (came ++ it ∷ []))
        (made' : Option Made) (notes' : Option (List ℕ)) where
      -- the next track was unpacked
      pub next : (one : Unpacked) → UnpacksTrack asked.folder n Known mid made' between notes' (Ok one)
          → HasUnpacked asked (n + 1) made made' notes notes' (record { files = unpacked.files + one.files; refused = unpacked.refused + one.refused })
      next one did = (
        h.0 ++ did.0 ∷ [],
        record {
          first = more h.0 did.0 h.1.first did.1;
          made = files-next made' did.0 did.3;
          told = subst (Appends notes notes') (sym (lines-more h.0 (did.0 ∷ [])))
              (Appends-trans notes between notes' (lines_of h.0) (lines_of (did.0 ∷ [])) h.1.told did.4);
        },
        counts-more asked.folder h.0 (did.0 ∷ []) unpacked one h.2 did.2,
      )

      -- or it was not
      cut_front : (file : File) (failed : Failed) → MakesFile file mid made' (Err failed)
          → (front : List File) × IsFrontOf file front × (made' ≡ option_map (with_files front) mid)
      cut_front file failed (inl none) = ([], inl refl, none ∙ no_files mid)
      cut_front file failed (inr cut) = (front_of cut.0 file ∷ [], inr (cut.0, cut.1, refl), cut.2)

      pub stopped : n < TABLE_SIZE → (fault : UnpackFault) → UnpacksTrack asked.folder n Known mid made' between notes' (Err fault)
          → SaysOfTracks asked (MakesBehind made made') notes notes' (Err fault)
      stopped low ReadFault did = (
        n,
        h.0,
        record { first = h.1.first; made = did.0 ∙ h.1.made; told = subst (λ (o : Option (List ℕ)). Appends notes o (lines_of h.0)) (sym did.1) h.1.told },
      )
      stopped low (FileFault k) did =
          subst (λ (j : ℕ). SaysOfTracks asked (MakesBehind made made') notes notes' (Err (FileFault j))) (sym did.0)
          (let cut = cut_front (file_with asked.folder n did.3) did.5 did.6 in (
            h.0,
            record {
              within = low;
              it = did.1;
              first = more h.0 did.1 h.1.first did.2;
              bytes = did.3;
              stream = did.4;
              front = cut.0;
              cut = cut.1;
              made = files-behind made' cut.0 cut.2;
              told = subst (λ (o : Option (List ℕ)). Appends notes o (lines_of h.0)) (sym did.7) h.1.told;
            },
          ))
      stopped low NotesFault did = (
        n + 1,
        h.0 ++ did.0 ∷ [],
        record {
          first = more h.0 did.0 h.1.first did.1;
          made = files-next made' did.0 did.2;
          told = AppendsPart-first notes notes' (lines_of (h.0 ++ did.0 ∷ [])) _
              (subst (AppendsPart notes notes') (sym (lines-more h.0 (did.0 ∷ [])))
              (AppendsPart-second notes between notes' (lines_of h.0) (lines_of (did.0 ∷ [])) h.1.told did.3));
        },
      )
      stopped low NotThere did = absurd did
      stopped low (Refused why) did = absurd did
      stopped low (Exists k) did = absurd did
      stopped low FolderFault did = absurd did

    -- the last line
    total : unpacked ≡ count_of asked.folder h.0 → total_text unpacked.files unpacked.refused
        ≡ total_text (count_of asked.folder h.0).files (count_of asked.folder h.0).refused
    total is = ap (λ (u : Unpacked). total_text u.files u.refused) is

    pub all-told : (notes' : Option (List ℕ)) → n ≡ TABLE_SIZE → Appends between notes' (total_text unpacked.files unpacked.refused)
        → SaysOfTracks asked (MakesBehind made mid) notes notes' (Ok unpacked)
    all-told notes' all grew = (
      h.0,
      record {
        all = subst (λ (k : ℕ). AreFirst asked k h.0) all h.1.first;
        counted = h.2;
        made = h.1.made;
        told = Appends-trans notes between notes' (lines_of h.0) _ h.1.told (subst (Appends between notes') (total h.2) grew);
      },
    )

    pub total-cut : (notes' : Option (List ℕ)) → AppendsPart between notes' (total_text unpacked.files unpacked.refused)
        → SaysOfTracks asked (MakesBehind made mid) notes notes' (Err NotesFault)
    total-cut notes' part = (
      n,
      h.0,
      record {
        first = h.1.first;
        made = h.1.made;
        told = AppendsPart-second notes between notes' (lines_of h.0) _ h.1.told (subst (AppendsPart between notes') (total h.2) part);
      },
    )

-- what is said of the files that are made holds of more that is said of them
pub says-more : (asked : Asked) (notes notes' : Option (List ℕ)) (Makes Makes' : List File → Type 0) → ((files : List File) → Makes files → Makes' files)
    → (answer : Answer) → SaysOfTracks asked Makes notes notes' answer → SaysOfTracks asked Makes' notes notes' answer
says-more asked notes notes' Makes Makes' more (Ok unpacked) (came, s) =
    (came, record { all = s.all; counted = s.counted; made = more _ s.made; told = s.told })
says-more asked notes notes' Makes Makes' more (Err ReadFault) (n, came, s) =
    (n, came, record { first = s.first; made = more _ s.made; told = s.told })
says-more asked notes notes' Makes Makes' more (Err (FileFault n)) (came, s) = (
  came,
  record {
    within = s.within;
    it = s.it;
    first = s.first;
    bytes = s.bytes;
    stream = s.stream;
    front = s.front;
    cut = s.cut;
    made = more _ s.made;
    told = s.told;
  },
)
says-more asked notes notes' Makes Makes' more (Err NotesFault) (n, came, s) =
    (n, came, record { first = s.first; made = more _ s.made; told = s.told })
says-more asked notes notes' Makes Makes' more (Err NotThere) s = absurd s
says-more asked notes notes' Makes Makes' more (Err (Refused why)) s = absurd s
says-more asked notes notes' Makes Makes' more (Err (Exists k)) s = absurd s
says-more asked notes notes' Makes Makes' more (Err FolderFault) s = absurd s

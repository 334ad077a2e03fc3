-- Where a sync that begins with the byte D5, as the marks of fields do, begins in
-- fields, self-syncs and marks.
use Rattle.std.specs.Prelude.{◌≡◌, ℕ, zero, suc, ◌+◌, ◌⊎◌, Bool, true, false, List, [], ◌∷◌, ◌++◌}
use Rattle.std.specs.Prelude.{length, take, drop, Option, Some, refl}
use Rattle.std.proofs.Common.{ap, sym, subst, ◌∙◌, arith, inl, inr, lit≤}
use Rattle.std.proofs.lemmas.List.{length-map, take-take, take_all}
use Rattle.cell_bits.specs.Word.{Stands, digit, word_cells}
use Rattle.cell_bits.specs.lemmas.WordLaws.{length-word_cells}
use Rattle.track_rings.specs.Rows.{coded, rows_cells}
use Rattle.track_rings.specs.lemmas.Owning.{Leads}
use Rattle.track_rings.specs.lemmas.Syncs.{Nowhere, QuietPart, SyncPart, Syncs, all_known, clashes}
use Rattle.track_rings.specs.lemmas.Syncs.{clashes-not, clashes_at_all, fits, fits-append}
use Rattle.track_rings.specs.lemmas.Syncs.{fits-front, fits-known, fits-word, nowhere-known}
use Rattle.track_rings.specs.lemmas.Syncs.{only-first, part-append, part-skip, part-then}
use Rattle.track_rings.specs.lemmas.Syncs.{quiet-append, quiet-none}
use Rattle.apple_nibbles.specs.Marks.{ADDRESS_MARK, DATA_MARK, DATA_SYNC, IsSync, SELF_SYNC}
use Rattle.apple_nibbles.specs.Marks.{self_syncs}
use Rattle.apple_nibbles.specs.Nibbles.{bytes_cells}
use Rattle.apple_nibbles.specs.lemmas.FieldBytes.{AreFieldBytes, IsFieldByte, mark_byte, one_byte}

-- what is known of two bytes: their first cells are ones
abbrev pub two_bytes : List (Option Bool)
two_bytes = one_byte ++ Some true ∷ []

-- a self-sync
abbrev pub self_sync : List (Option Bool)
self_sync = all_known (word_cells 10 SELF_SYNC)

-- what follows a byte, a self-sync or a mark
unfoldable pub Follows : List Bool → Type 0
Follows cells = (fits two_bytes cells ≡ true) ⊎ (fits self_sync cells ≡ true)

-- A sync that begins with the byte D5, in no byte but at its begin, and in no self-sync.
pub record IsMarkSync (sync : List (Option Bool)) : Type 0 where
  pub rest : List (Option Bool)
  pub begins : sync ≡ mark_byte ++ rest
  pub in_byte : clashes_at_all sync 7 (drop 1 one_byte ++ two_bytes) ≡ true
  pub in_last_byte : clashes_at_all sync 7 (drop 1 one_byte ++ self_sync) ≡ true
  pub in_self_sync : clashes_at_all sync 10 self_sync ≡ true

-- an address mark without its first cell, which is a one
unfoldable pub sync_rest : List (Option Bool)
sync_rest = all_known (word_cells 23 0x55AA96)

abbrev pub address_sync : List (Option Bool)
address_sync = Some true ∷ sync_rest

pub length-sync_rest : length sync_rest ≡ 23
unfolding sync_rest word_cells
length-sync_rest = refl

pub leads : (cells : List Bool) → Stands cells ADDRESS_MARK 24 0 → Leads 0 sync_rest cells
unfolding sync_rest word_cells
leads cells stands =
    fits-word (word_cells 24 ADDRESS_MARK) cells 24 (length-word_cells 24 ADDRESS_MARK) stands

pub address_is : IsMarkSync address_sync
unfolding sync_rest word_cells clashes_at_all clashes
address_is = record {
  rest = all_known (word_cells 16 0xAA96);
  begins = refl;
  in_byte = refl;
  in_last_byte = refl;
  in_self_sync = refl;
}

module _ (sync : List (Option Bool)) (is : IsMarkSync sync) where
  -- it begins nowhere in cells of which what is known clashes with it before either
  pub known_quiet : (known : List (Option Bool)) (xs : List Bool) (count : ℕ) → length xs ≡ count
      → length known ≡ length xs → fits known xs ≡ true
      → clashes_at_all sync count (known ++ two_bytes) ≡ true
      → clashes_at_all sync count (known ++ self_sync) ≡ true
      → (rest : List Bool) → Follows rest → Nowhere (Syncs sync) xs rest
  unfolding Follows
  known_quiet known xs count size same fit first second rest (inl bytes) =
      nowhere-known sync (known ++ two_bytes) xs rest count size first
      (fits-append known two_bytes xs rest same fit bytes)
  known_quiet known xs count size same fit first second rest (inr syncs) =
      nowhere-known sync (known ++ self_sync) xs rest count size second
      (fits-append known self_sync xs rest same fit syncs)

  -- nowhere in seven cells of which nothing is known
  seven_quiet : (xs rest : List Bool) → length xs ≡ 7 → fits (drop 1 one_byte) xs ≡ true
      → Follows rest → Nowhere (Syncs sync) xs rest
  seven_quiet xs rest size fit follows =
      known_quiet (drop 1 one_byte) xs 7 size (sym size) fit is.in_byte is.in_last_byte rest follows

  byte_nowhere : (byte : ℕ) (rest : List Bool) → IsFieldByte byte → Follows rest
      → Nowhere (Syncs sync) (word_cells 8 byte) rest
  unfolding word_cells fits
  byte_nowhere byte rest of_field follows zero within stands =
      let cells = word_cells 8 byte ++ rest in
      let first : fits mark_byte cells ≡ true =
      fits-front mark_byte is.rest cells
      (subst (λ (known : List (Option Bool)). fits known cells ≡ true) is.begins stands) in
      clashes-not mark_byte (all_known (word_cells 8 byte)) cells of_field.other first
      (fits-known (word_cells 8 byte) rest)
  byte_nowhere byte rest of_field follows (suc place) within stands =
      seven_quiet (word_cells 7 byte) rest refl refl follows place (omega (arith, within)) stands

  one_first : (rest : List Bool) → Follows rest → fits (Some true ∷ []) rest ≡ true
  unfolding Follows word_cells
  one_first rest (inl bytes) = fits-front (Some true ∷ []) (drop 1 two_bytes) rest bytes
  one_first rest (inr syncs) = fits-front (Some true ∷ []) (drop 1 self_sync) rest syncs

  byte_quiet : (byte : ℕ) → IsFieldByte byte
      → QuietPart (Syncs sync) Follows Follows (word_cells 8 byte)
  unfolding Follows
  byte_quiet byte of_field rest follows = (
    byte_nowhere byte rest of_field follows,
    inl
        (fits-append one_byte (Some true ∷ []) (word_cells 8 byte) rest
        (sym (length-word_cells 8 byte)) of_field.begins (one_first rest follows)),
  )

  -- nor in the bytes of a field
  pub bytes_quiet : (bytes : List ℕ) → AreFieldBytes bytes
      → QuietPart (Syncs sync) Follows Follows (bytes_cells bytes)
  bytes_quiet [] all = quiet-none (Syncs sync) Follows
  bytes_quiet (byte ∷ bytes) all =
      quiet-append (Syncs sync) Follows Follows Follows (word_cells 8 byte) (bytes_cells bytes)
      (byte_quiet byte all.0) (bytes_quiet bytes all.1)

  -- self-syncs are quiet whatever follows
  self_sync_quiet : QuietPart (Syncs sync) Follows Follows (word_cells 10 SELF_SYNC)
  unfolding Follows word_cells fits
  self_sync_quiet rest follows = (
    nowhere-known sync self_sync (word_cells 10 SELF_SYNC) rest 10 refl is.in_self_sync
        (fits-known (word_cells 10 SELF_SYNC) rest),
    inr refl,
  )

  pub self_syncs_quiet : (count : ℕ) → QuietPart (Syncs sync) Follows Follows (self_syncs count)
  self_syncs_quiet zero = quiet-none (Syncs sync) Follows
  self_syncs_quiet (suc count) =
      quiet-append (Syncs sync) Follows Follows Follows (word_cells 10 SELF_SYNC) (self_syncs count)
      self_sync_quiet (self_syncs_quiet count)

  -- nor in a mark that clashes with it
  pub mark_quiet : (mark : ℕ)
      → ((rest : List Bool) → fits two_bytes (word_cells 24 mark ++ rest) ≡ true)
      → clashes_at_all sync 24 (all_known (word_cells 24 mark) ++ two_bytes) ≡ true
      → clashes_at_all sync 24 (all_known (word_cells 24 mark) ++ self_sync) ≡ true
      → QuietPart (Syncs sync) Follows Follows (word_cells 24 mark)
  unfolding Follows
  mark_quiet mark begins first second rest follows =
      let cells = word_cells 24 mark in
      let size = length-word_cells 24 mark in (
        known_quiet (all_known cells) cells 24 size (length-map cells (λ cell. Some cell))
            (fits-word cells cells 24 size (take_all 24 cells (omega (arith, size)))) first second
            rest follows,
        inl (begins rest),
      )

  -- and in one that begins with it at its begin alone
  pub mark_first : (Here : ℕ → Type 0) (mark : ℕ) → Here 0
      → ((rest : List Bool) → fits two_bytes (word_cells 24 mark ++ rest) ≡ true)
      → clashes_at_all sync 23 (all_known (word_cells 23 mark) ++ two_bytes) ≡ true
      → clashes_at_all sync 23 (all_known (word_cells 23 mark) ++ self_sync) ≡ true
      → SyncPart (Syncs sync) Here Follows Follows (word_cells 24 mark)
  unfolding Follows word_cells
  mark_first Here mark here begins first second rest follows =
      let cells = word_cells 23 mark in
      let size = length-word_cells 23 mark in
      let none = known_quiet (all_known cells) cells 23 size (length-map cells (λ cell. Some cell))
      (fits-word cells cells 23 size (take_all 23 cells (omega (arith, size)))) first second rest
      follows in (
        λ place within test.
            subst Here
            (sym (only-first (Syncs sync) (digit mark 23) cells rest none place within test)) here,
        inl (begins rest),
      )

  -- A sector's two fields, between which all is quiet: it begins in their marks at such places
  -- only, counted from the first one.
  pub fields_part : (At : ℕ → Type 0) (header close gap last : List Bool) (data_place : ℕ)
      → 24 + (length header + (length close + length gap)) ≡ data_place
      → SyncPart (Syncs sync) At Follows Follows (word_cells 24 ADDRESS_MARK)
      → SyncPart (Syncs sync) (λ place. At (data_place + place)) Follows Follows
      (word_cells 24 DATA_MARK)
      → QuietPart (Syncs sync) Follows Follows header → QuietPart (Syncs sync) Follows Follows close
      → QuietPart (Syncs sync) Follows Follows gap
      → QuietPart (Syncs sync) Follows Follows last
      → SyncPart (Syncs sync) At Follows Follows
      (word_cells 24 ADDRESS_MARK
      ++ (header ++ (close ++ (gap ++ (word_cells 24 DATA_MARK ++ last)))))
  fields_part At header close gap last data_place there address_part data_part in_header in_close
      in_gap in_last =
      let opened = word_cells 24 DATA_MARK ++ last in
      let after = header ++ (close ++ (gap ++ opened)) in
      let behind : SyncPart (Syncs sync) (λ place. At (24 + place)) Follows Follows after =
      part-skip (Syncs sync) (λ place. At (24 + place)) Follows Follows Follows header
      (close ++ (gap ++ opened)) in_header
      (part-skip (Syncs sync) (λ place. At (24 + (length header + place))) Follows Follows Follows
      close (gap ++ opened) in_close
      (part-skip (Syncs sync) (λ place. At (24 + (length header + (length close + place)))) Follows
      Follows Follows gap opened in_gap
      (part-then (Syncs sync)
      (λ place. At (24 + (length header + (length close + (length gap + place))))) Follows
      Follows Follows
      (word_cells 24 DATA_MARK) last
      (λ rest follows.
      let one = data_part rest follows in (
        λ place within test.
            let e : data_place + place
            ≡ 24 + (length header + (length close + (length gap + place))) =
            omega (arith, there) in
            subst At e (one.0 place within test),
        one.1,
      ))
      in_last))) in
      part-append (Syncs sync) At Follows Follows Follows (word_cells 24 ADDRESS_MARK) after
      address_part
      (subst (λ (n : ℕ). SyncPart (Syncs sync) (λ place. At (n + place)) Follows Follows after)
      (sym (length-word_cells 24 ADDRESS_MARK)) behind)

-- the sync of data, with which the marks of both fields begin
unfoldable pub data_sync : List (Option Bool)
data_sync = all_known (word_cells 16 DATA_SYNC)

pub length-data_sync : length data_sync ≡ 16
unfolding data_sync word_cells
length-data_sync = refl

pub data-leads : (cells : List Bool) (sync : ℕ) → IsSync cells sync
    → Syncs data_sync (drop (sync + 0) cells)
unfolding data_sync
data-leads cells sync stands =
    let e : sync ≡ sync + 0 = omega arith in
    subst (λ (n : ℕ). Syncs (all_known (word_cells 16 DATA_SYNC)) (drop n cells)) e
    (fits-word (word_cells 16 DATA_SYNC) (drop sync cells) 16 (length-word_cells 16 DATA_SYNC)
    stands)

pub data_is : IsMarkSync data_sync
unfolding data_sync word_cells clashes_at_all clashes
data_is = record {
  rest = all_known (word_cells 8 0xAA);
  begins = refl;
  in_byte = refl;
  in_last_byte = refl;
  in_self_sync = refl;
}

-- a header's mark begins with a data sync
pub mark_syncs : (cells : List Bool) (place : ℕ) → Stands (drop place cells) 0xD5AA96 24 0
    → IsSync cells place
unfolding word_cells
mark_syncs cells place stands =
    sym (take-take 16 24 (drop place cells) (lit≤ tt)) ∙ ap (take 16) stands

-- it stands at their begins
pub data_in_address_mark : (At : ℕ → Type 0) → At 0
    → SyncPart (Syncs data_sync) At Follows Follows (word_cells 24 ADDRESS_MARK)
unfolding data_sync word_cells clashes_at_all clashes fits
data_in_address_mark At here =
    mark_first data_sync data_is At ADDRESS_MARK here (λ rest. refl) refl refl

pub data_in_data_mark : (At : ℕ → Type 0) → At 0
    → SyncPart (Syncs data_sync) At Follows Follows (word_cells 24 DATA_MARK)
unfolding data_sync word_cells clashes_at_all clashes fits
data_in_data_mark At here = mark_first data_sync data_is At DATA_MARK here (λ rest. refl) refl refl

-- the mark of an address field, at its begin alone
pub address_mark_first : SyncPart (Syncs address_sync) (λ place. place ≡ 0) Follows Follows
    (word_cells 24 ADDRESS_MARK)
unfolding sync_rest word_cells clashes_at_all clashes fits
address_mark_first = mark_first address_sync address_is (λ place. place ≡ 0) ADDRESS_MARK refl
    (λ rest. refl) refl refl

-- and that of a data field nowhere
pub data_mark_quiet : QuietPart (Syncs address_sync) Follows Follows (word_cells 24 DATA_MARK)
unfolding sync_rest word_cells clashes_at_all clashes fits
data_mark_quiet = mark_quiet address_sync address_is DATA_MARK (λ rest. refl) refl refl

-- all of some rows
abbrev pub AreQuiet : {Row : Type 0} → (Row → Type 0) → List Row → Type 0
AreQuiet IsQuiet [] = Unit {0}
AreQuiet IsQuiet (row ∷ rows) = IsQuiet row × AreQuiet IsQuiet rows

-- rows one after another, in none of which the sync begins
module _ (sync : List (Option Bool)) {Row : Type 0} (IsQuiet : Row → Type 0)
    (cells_of : Bool → ℕ → List ℕ → Row → List Bool)
    (sector : ℕ) (bytes : List ℕ)
    (row_quiet : (before : Bool) (row : Row) → IsQuiet row
    → QuietPart (Syncs sync) Follows Follows (cells_of before sector bytes row)) where
  pub rows_quiet : (before : Bool) (rows : List Row) → AreQuiet IsQuiet rows
      → QuietPart (Syncs sync) Follows Follows (rows_cells false cells_of before sector bytes rows)
  unfolding rows_cells coded
  rows_quiet before [] quiet = quiet-none (Syncs sync) Follows
  rows_quiet before (row ∷ rows) quiet =
      quiet-append (Syncs sync) Follows Follows Follows (cells_of before sector bytes row)
      (rows_cells false cells_of false sector bytes rows)
      (row_quiet before row quiet.0) (rows_quiet false rows quiet.1)

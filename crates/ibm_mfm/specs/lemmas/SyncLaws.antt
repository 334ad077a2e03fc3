-- The three marks of a sync, one after another.
use Rattle.std.specs.Prelude.{◌≡◌, ℕ, ◌+◌, Bool, List, ◌++◌, take, drop, refl}
use Rattle.std.proofs.Common.{ap, sym, ◌∙◌, lit≤}
use Rattle.std.proofs.lemmas.List.{drop-drop, drop-take, take-take}
use Rattle.std.proofs.Math.Seq.{take-add}
use Rattle.cell_bits.specs.Word.{Stands, word_cells}
use Rattle.mfm_coding.specs.Coding.{SYNC_MARK}
use Rattle.ibm_mfm.specs.Syncs.{THREE_MARKS, SyncAt}

-- the first two of them
abbrev pub TWO_MARKS : ℕ
TWO_MARKS = 0x44894489

three : word_cells 48 THREE_MARKS ≡ word_cells 32 TWO_MARKS ++ word_cells 16 SYNC_MARK
unfolding word_cells
three = refl

first-two : take 32 (word_cells 48 THREE_MARKS) ≡ word_cells 32 TWO_MARKS
unfolding word_cells
first-two = refl

third : drop 32 (word_cells 48 THREE_MARKS) ≡ word_cells 16 SYNC_MARK
unfolding word_cells
third = refl

module _ (cells : List Bool) (place : ℕ) where
  -- two marks and then a third one are a sync
  pub sync-joined : Stands cells TWO_MARKS 32 place → Stands cells SYNC_MARK 16 (place + 32)
      → SyncAt cells place
  sync-joined two last =
      take-add 32 16 (drop place cells)
      ∙ ap (λ (some : List Bool). some ++ take 16 (drop 32 (drop place cells))) two
      ∙ ap (λ (some : List Bool). word_cells 32 TWO_MARKS ++ take 16 some)
      (drop-drop 32 place cells)
      ∙ ap (λ (some : List Bool). word_cells 32 TWO_MARKS ++ some) last
      ∙ sym three

  pub sync-two : SyncAt cells place → Stands cells TWO_MARKS 32 place
  sync-two sync = sym (take-take 32 48 (drop place cells) (lit≤ tt)) ∙ ap (take 32) sync ∙ first-two

  pub sync-third : SyncAt cells place → Stands cells SYNC_MARK 16 (place + 32)
  sync-third sync =
      ap (take 16) (sym (drop-drop 32 place cells)) ∙ sym (drop-take 32 16 (drop place cells))
      ∙ ap (drop 32) sync ∙ third

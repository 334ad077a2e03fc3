-- What is known of the files that `split` makes, where the source tells its bytes and what makes
-- files tells what lies there.
use Rattle.std.specs.Prelude.{◌≡◌, ◌++◌, ℕ, List, map, Option, Some}
use Rattle.std.specs.List.{range_with_len}
use Rattle.file_maker.specs.Made.{Made}
use Rattle.stream_files.specs.Joined.{AreJoinedWithPadding}
use Rattle.stream_files.specs.Streams.{SplitFolder, stream_bytes, stream_files}

-- They are the streams of the input, so many, and lie behind those that were there. One after
-- another their bytes are the input, but for padding behind each.
pub record AreSplit (split : SplitFolder) (x : List ℕ) (before after : Made) : Type 0 where
  pub count : ℕ
  pub files : after.files ≡ before.files ++ stream_files split x count
  pub joined : AreJoinedWithPadding (map (stream_bytes x) (range_with_len 0 count)) x

-- by what the source had to give, and what is made
abbrev pub OfSplit : SplitFolder → (left : Option (List ℕ)) → (made made' : Option Made) → Type 0
OfSplit split left made made' =
    (x : List ℕ) (before : Made) → left ≡ Some x → made ≡ Some before
    → (after : Made) × (made' ≡ Some after) × AreSplit split x before after

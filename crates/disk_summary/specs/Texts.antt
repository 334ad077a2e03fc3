-- The text of a summary: what JSON's writer prints for its value.
use Rattle.std.specs.Prelude.{ℕ, true, List, ◌++◌, codes, flat_map}
use Rattle.json.specs.Print.{print, print_from}
use Rattle.json.specs.Tree.{json_tokens}
use Rattle.disk_summary.specs.Values.{note_value, summary_value}
use Rattle.disk_summary.specs.declared.note.Note.{Note}
use Rattle.disk_summary.specs.declared.summary.Summary.{Summary}

-- a note behind another: with a comma before it
unfoldable pub note_text : Note → List ℕ
note_text note = print_from true (json_tokens (note_value note))

abbrev pub notes_text : List Note → List ℕ
notes_text notes = flat_map note_text notes

-- without its line end
unfoldable pub line_text : Summary → List Note → List ℕ
line_text s notes = print (json_tokens (summary_value s notes))

abbrev pub summary_text : Summary → List Note → List ℕ
summary_text s notes = line_text s notes ++ codes "\n"

-- The text of a summary is what JSON's writer prints for its value, and a line end.
use Rattle.std.proofs.Common.{◌≡◌, ℕ, Bool, true, false, List, [], ◌∷◌, ◌++◌, codes, decimal, drop, map, fold, refl, sym, ap, ◌∙◌, append_assoc}
use Rattle.std.proofs.lemmas.List.Sums.{fold-append}
use Rattle.flux_base.specs.Status.{code_of}
use Rattle.json.proofs.OnLiterals.{json_on_literals}
use Rattle.json.proofs.Printed.Tokens.{print_from-append}
use Rattle.json.specs.Json.{Items, Json, Members, array, boolean, item, member, no_items, no_members, null, number, object, string}
use Rattle.json.specs.Print.{ends, escape, print_from}
use Rattle.json.specs.Token.{Token}
use Rattle.json.specs.Tree.{items_tokens, json_tokens, members_tokens}
use Rattle.json.specs.Value.{items_of}
use Rattle.sector_images.specs.Formats.{row}
use Rattle.track_shelf.specs.declared.stepping.Stepping.{Stepping}
use Rattle.track_shelf.specs.declared.stepping.Stepping.TheVariants.{Single, Double}
use Rattle.flux_help.specs.Pages.{number_text}
use Rattle.disk_summary.specs.Texts.{line_text, note_text, notes_text, summary_text}
use Rattle.disk_summary.specs.Values.{note_value, steps_word}
use Rattle.disk_summary.specs.declared.note.Note.{Note}
use Rattle.disk_summary.specs.declared.summary.Summary.{Summary}
use Rattle.disk_summary.specs.inside.Pieces.{counts_piece, disk_piece, end_piece, sectors_piece, written_summary}
use Rattle.disk_summary.proofs.Joined.{chain-past, quoted-past}
use Rattle.disk_summary.proofs.Plain.{IsPlain, plain-version, plain-word}

-- the tokens of a value end one, whatever came before
mutual
  ends-json : (j : Json) (before : Bool) → fold (λ _ t. ends t) before (json_tokens j) ≡ true
  ends-json null before = refl
  ends-json (boolean b) before = refl
  ends-json (number s) before = refl
  ends-json (string s) before = refl
  ends-json (array js) before = ends-items js false
  ends-json (object ms) before = ends-members ms false

  ends-items : (js : Items) (before : Bool) → fold (λ _ t. ends t) before (items_tokens js) ≡ true
  ends-items no_items before = refl
  ends-items (item j js) before = fold-append (λ _ t. ends t) before (json_tokens j) (items_tokens js) ∙ ends-items js _

  ends-members : (ms : Members) (before : Bool) → fold (λ _ t. ends t) before (members_tokens ms) ≡ true
  ends-members no_members before = refl
  ends-members (member k j ms) before = fold-append (λ _ t. ends t) false (json_tokens j) (members_tokens ms) ∙ ends-members ms _

-- a value, and what is printed behind it
print-past : (before : Bool) (j : Json) (more : List Token)
    → print_from before (json_tokens j ++ more) ≡ print_from before (json_tokens j) ++ print_from true more
print-past before j more =
    print_from-append before (json_tokens j) more
    ∙ ap (λ (b : Bool). print_from before (json_tokens j) ++ print_from b more) (ends-json j before)

-- the tokens of the items of an array, with those behind it
abbrev tokens_of : List Note → List Token → List Token
tokens_of notes behind = items_tokens (items_of (map note_value notes)) ++ behind

-- notes behind one another, and the end of their array
print-more : (notes : List Note) (behind : List Token)
    → print_from true (tokens_of notes behind) ≡ notes_text notes ++ (codes "]" ++ print_from true behind)
unfolding note_text json_on_literals
print-more [] behind = refl
print-more (note ∷ notes) behind =
    ap (print_from true) (append_assoc (json_tokens (note_value note)) (items_tokens (items_of (map note_value notes))) behind)
    ∙ print-past true (note_value note) (tokens_of notes behind)
    ∙ ap (λ (l : List ℕ). note_text note ++ l) (print-more notes behind)
    ∙ sym (append_assoc (note_text note) (notes_text notes) (codes "]" ++ print_from true behind))

-- the same of all notes: the first has no comma
print-notes : (notes : List Note) (behind : List Token)
    → print_from false (tokens_of notes behind) ≡ drop 1 (notes_text notes) ++ (codes "]" ++ print_from true behind)
unfolding note_text json_on_literals
print-notes [] behind = refl
print-notes (note ∷ notes) behind = ap (drop 1) (print-more (note ∷ notes) behind)

-- what stands behind the notes
abbrev end_tokens : Summary → List Token
end_tokens s = Token.key (codes "status") ∷ (Token.number (decimal (code_of s.status)) ∷ (Token.end_object ∷ []))

-- all but the strings, whose texts are still escaped
abbrev last_part : Summary → List Note → List ℕ
last_part s notes = drop 1 (notes_text notes) ++ (codes "],\"status\":" ++ (decimal (code_of s.status) ++ codes "}"))

abbrev counts_part : Summary → List ℕ → List ℕ
counts_part s rest =
    codes ",\"unread\":" ++ (decimal s.totals.unread ++ (codes ",\"failed\":" ++ (decimal s.totals.lost
    ++ (codes ",\"others\":" ++ (decimal s.totals.others ++ (codes ",\"whole\":" ++ (decimal s.totals.whole ++ (codes ",\"notes\":[" ++ rest))))))))

abbrev sectors_part : Summary → List ℕ → List ℕ
sectors_part s rest =
    codes ",\"sectors\":{\"all\":" ++ (decimal s.totals.sectors.sectors ++ (codes ",\"good\":" ++ (decimal s.totals.sectors.good
    ++ (codes ",\"bad\":" ++ (decimal s.totals.sectors.bad ++ (codes ",\"missing\":" ++ (decimal s.totals.sectors.missing
    ++ (codes ",\"contradictory\":" ++ (decimal s.totals.sectors.contradictory ++ (codes "}" ++ rest))))))))))

abbrev disk_part : Summary → List ℕ → List ℕ
disk_part s rest =
    codes "{\"version\":\"" ++ (number_text ++ (codes "\",\"format\":\"" ++ ((row s.format).word ++ (codes "\",\"steps\":\""
    ++ (steps_word s.stepping ++ (codes "\",\"dumps\":" ++ (decimal s.dumps ++ rest)))))))

steps-plain : (stepping : Stepping) → IsPlain (steps_word stepping)
unfolding json_on_literals
steps-plain Single = refl
steps-plain Double = refl

-- what is printed, where strings are escaped
abbrev escaped : Summary → List ℕ → List ℕ
escaped s rest =
    codes "{\"version\":" ++ ((34 ∷ (escape number_text ++ 34 ∷ [])) ++ (codes ",\"format\":" ++ ((34 ∷ (escape (row s.format).word ++ 34 ∷ []))
    ++ (codes ",\"steps\":" ++ ((34 ∷ (escape (steps_word s.stepping) ++ 34 ∷ [])) ++ (codes ",\"dumps\":" ++ (decimal s.dumps ++ rest)))))))

printed : (s : Summary) (notes : List Note)
    → line_text s notes ≡ escaped s (sectors_part s (counts_part s (print_from false (tokens_of notes (end_tokens s)))))
unfolding line_text json_on_literals
printed s notes = refl

unescaped : (s : Summary) (rest : List ℕ) → escaped s rest ≡ disk_part s rest
unescaped s rest =
    let dumps : List ℕ = codes ",\"dumps\":" ++ (decimal s.dumps ++ rest) in
    let steps : List ℕ = codes ",\"steps\":" ++ ((34 ∷ (escape (steps_word s.stepping) ++ 34 ∷ [])) ++ dumps) in
    let steps' : List ℕ = codes ",\"steps\":" ++ (34 ∷ (steps_word s.stepping ++ 34 ∷ dumps)) in
    let format : List ℕ = codes ",\"format\":" ++ ((34 ∷ (escape (row s.format).word ++ 34 ∷ [])) ++ steps) in
    let format' : List ℕ = codes ",\"format\":" ++ (34 ∷ ((row s.format).word ++ 34 ∷ steps')) in
    ap (λ (l : List ℕ). codes "{\"version\":" ++ l)
    (quoted-past number_text format format' plain-version
    (ap (λ (l : List ℕ). codes ",\"format\":" ++ l)
    (quoted-past (row s.format).word steps steps' (plain-word s.format)
    (ap (λ (l : List ℕ). codes ",\"steps\":" ++ l) (quoted-past (steps_word s.stepping) dumps dumps (steps-plain s.stepping) refl)))))

ended : (s : Summary) (notes : List Note) → print_from false (tokens_of notes (end_tokens s)) ≡ last_part s notes
unfolding json_on_literals
ended s notes = print-notes notes (end_tokens s)

pub line_is : (s : Summary) (notes : List Note) → line_text s notes ≡ disk_part s (sectors_part s (counts_part s (last_part s notes)))
line_is s notes =
    printed s notes ∙ unescaped s (sectors_part s (counts_part s (print_from false (tokens_of notes (end_tokens s)))))
    ∙ ap (λ (l : List ℕ). disk_part s (sectors_part s (counts_part s l))) (ended s notes)

-- the pieces, with what stands behind each
disk-past : (s : Summary) (rest : List ℕ) → disk_piece s ++ rest ≡ disk_part s rest
unfolding disk_piece
disk-past s rest =
    chain-past (codes "{\"version\":\"")
    (number_text ∷ codes "\",\"format\":\"" ∷ (row s.format).word ∷ codes "\",\"steps\":\"" ∷ steps_word s.stepping ∷ codes "\",\"dumps\":" ∷ decimal s.dumps ∷ [])
    rest

sectors-past : (s : Summary) (rest : List ℕ) → sectors_piece s.totals ++ rest ≡ sectors_part s rest
unfolding sectors_piece
sectors-past s rest =
    chain-past (codes ",\"sectors\":{\"all\":")
    (decimal s.totals.sectors.sectors ∷ codes ",\"good\":" ∷ decimal s.totals.sectors.good ∷ codes ",\"bad\":" ∷ decimal s.totals.sectors.bad
    ∷ codes ",\"missing\":" ∷ decimal s.totals.sectors.missing ∷ codes ",\"contradictory\":" ∷ decimal s.totals.sectors.contradictory ∷ codes "}" ∷ [])
    rest

counts-past : (s : Summary) (rest : List ℕ) → counts_piece s.totals ++ rest ≡ counts_part s rest
unfolding counts_piece
counts-past s rest =
    chain-past (codes ",\"unread\":")
    (decimal s.totals.unread ∷ codes ",\"failed\":" ∷ decimal s.totals.lost ∷ codes ",\"others\":" ∷ decimal s.totals.others
    ∷ codes ",\"whole\":" ∷ decimal s.totals.whole ∷ codes ",\"notes\":[" ∷ [])
    rest

end-past : (s : Summary) → (codes "],\"status\":" ++ (decimal (code_of s.status) ++ codes "}")) ++ codes "\n" ≡ end_piece s
unfolding end_piece
end-past s = chain-past (codes "],\"status\":") (decimal (code_of s.status) ∷ codes "}" ∷ []) (codes "\n")

last_written : (s : Summary) (notes : List Note) → drop 1 (notes_text notes) ++ end_piece s ≡ last_part s notes ++ codes "\n"
last_written s notes =
    sym
    (append_assoc (drop 1 (notes_text notes)) (codes "],\"status\":" ++ (decimal (code_of s.status) ++ codes "}")) (codes "\n")
    ∙ ap (λ (l : List ℕ). drop 1 (notes_text notes) ++ l) (end-past s))

-- a line end behind all that stands before the notes
behind-disk : (s : Summary) (rest : List ℕ) → disk_part s rest ++ codes "\n" ≡ disk_part s (rest ++ codes "\n")
unfolding disk_piece
behind-disk s rest = ap (λ (l : List ℕ). l ++ codes "\n") (sym (disk-past s rest)) ∙ append_assoc (disk_piece s) rest (codes "\n") ∙ disk-past s (rest ++ codes "\n")

behind-sectors : (s : Summary) (rest : List ℕ) → sectors_part s rest ++ codes "\n" ≡ sectors_part s (rest ++ codes "\n")
behind-sectors s rest = ap (λ (l : List ℕ). l ++ codes "\n") (sym (sectors-past s rest)) ∙ append_assoc (sectors_piece s.totals) rest (codes "\n") ∙ sectors-past s (rest ++ codes "\n")

behind-counts : (s : Summary) (rest : List ℕ) → counts_part s rest ++ codes "\n" ≡ counts_part s (rest ++ codes "\n")
behind-counts s rest = ap (λ (l : List ℕ). l ++ codes "\n") (sym (counts-past s rest)) ∙ append_assoc (counts_piece s.totals) rest (codes "\n") ∙ counts-past s (rest ++ codes "\n")

-- what is written is the text of the summary
pub summary_is : (s : Summary) (notes : List Note) → written_summary s (notes_text notes) ≡ summary_text s notes
summary_is s notes =
    let ending : List ℕ = last_part s notes ++ codes "\n" in
    ap (λ (l : List ℕ). disk_piece s ++ (sectors_piece s.totals ++ (counts_piece s.totals ++ l))) (last_written s notes)
    ∙ ap (λ (l : List ℕ). disk_piece s ++ (sectors_piece s.totals ++ l)) (counts-past s ending)
    ∙ ap (λ (l : List ℕ). disk_piece s ++ l) (sectors-past s (counts_part s ending))
    ∙ disk-past s (sectors_part s (counts_part s ending))
    ∙ sym
    (ap (λ (l : List ℕ). l ++ codes "\n") (line_is s notes)
    ∙ behind-disk s (sectors_part s (counts_part s (last_part s notes)))
    ∙ ap (disk_part s) (behind-sectors s (counts_part s (last_part s notes)))
    ∙ ap (λ (l : List ℕ). disk_part s (sectors_part s l)) (behind-counts s (last_part s notes)))

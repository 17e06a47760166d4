-- What the program `walk` prints: document 01, "Examples to hold it to". Lines, texts and numbers are spelled as in the listing, in units that are bytes.
use Rattle.std.specs.Prelude.{ℕ, ◌/◌, ◌%◌, Bool, List, [], ◌∷◌, ◌++◌, ltb}
use Rattle.listing_spelling.specs.spell.Spelling.{hex_units}
use Rattle.listing_write.specs.Form.{path_line, number_line, ended, lines_text}
use Rattle.walk_steps.specs.declared.steps.Kind.{Kind}
use Rattle.walk_steps.specs.declared.steps.Kind.TheVariants.{Dc, Root, Link, Sysvol, Io}
use Rattle.listing_write.specs.Keys.{path_key, size_key, status_key}

-- ask=
abbrev pub ask_key : List ℕ
ask_key = 97 ∷ 115 ∷ 107 ∷ 61 ∷ []

-- to=
abbrev pub to_key : List ℕ
to_key = 116 ∷ 111 ∷ 61 ∷ []

-- name=
abbrev pub name_key : List ℕ
name_key = 110 ∷ 97 ∷ 109 ∷ 101 ∷ 61 ∷ []

-- end=
abbrev pub end_key : List ℕ
end_key = 101 ∷ 110 ∷ 100 ∷ 61 ∷ []

-- moves=
abbrev pub moves_key : List ℕ
moves_key = 109 ∷ 111 ∷ 118 ∷ 101 ∷ 115 ∷ 61 ∷ []

-- refused=
abbrev pub refused_key : List ℕ
refused_key = 114 ∷ 101 ∷ 102 ∷ 117 ∷ 115 ∷ 101 ∷ 100 ∷ 61 ∷ []

-- dc, root, link, sysvol, io
unfoldable pub ask_word : Kind → List ℕ
ask_word Dc = 100 ∷ 99 ∷ []
ask_word Root = 114 ∷ 111 ∷ 111 ∷ 116 ∷ []
ask_word Link = 108 ∷ 105 ∷ 110 ∷ 107 ∷ []
ask_word Sysvol = 115 ∷ 121 ∷ 115 ∷ 118 ∷ 111 ∷ 108 ∷ []
ask_word Io = 105 ∷ 111 ∷ []

unfoldable pub ask_line : Kind → List ℕ
ask_line kind = ask_key ++ ask_word kind

-- a status: eight upper-case hex digits
unfoldable pub status_line : ℕ → List ℕ
status_line status = status_key ++ (hex_units (status / 65536) ++ hex_units (status % 65536))

-- "I/O has ask=io, to= the target, name= the path tried, no size."
unfoldable pub size_lines : Kind → ℕ → List (List ℕ)
size_lines Dc size = number_line size_key size ∷ []
size_lines Root size = number_line size_key size ∷ []
size_lines Link size = number_line size_key size ∷ []
size_lines Sysvol size = number_line size_key size ∷ []
size_lines Io size = []

-- a question: kind, party, name, size
unfoldable pub question_lines : Kind → List ℕ → List ℕ → ℕ → List ℕ
question_lines kind party name size =
    lines_text (ask_line kind ∷ path_line to_key party ∷ path_line name_key name ∷ size_lines kind size)

-- an end: number, status, path, moves
unfoldable pub end_lines : ℕ → ℕ → List ℕ → ℕ → List ℕ
end_lines number status path moves =
    lines_text (number_line end_key number ∷ status_line status ∷ path_line path_key path ∷ number_line moves_key moves ∷ [])

-- "A refusal prints refused= and its number (0: input not of this form)"
unfoldable pub refused_line : ℕ → List ℕ
refused_line number = ended (number_line refused_key number)

-- a unit that is written as one byte
unfoldable pub is_byte : ℕ → Bool
is_byte u = ltb u 256

-- Laws of what is printed: the pieces of a line, of a question and of an end, and how many bytes they have at most.
use mathlib.Core.Path.{◌≡◌, refl, sym, ap, ◌∙◌}
use mathlib.Core.List.{List, [], ◌∷◌, ◌++◌, append_assoc, append-nil}
use Prim.Native.Nat.{ℕ, zero, suc, ◌+◌, ◌/◌, ◌%◌, ◌≤◌}
use native.Mathlib.Omega.{arith}
use lib.ListN.{length, length-append}
use Rattle.laws.specs.Choice.{choose}
use Rattle.laws.proofs.Pasting.{pasted_nil}
use Rattle.listing_spelling.specs.spell.Spelling.{hex_units, Put}
use Rattle.listing_spelling.proofs.spell.SpellingLaws.{length_hex, length_spelled}
use Rattle.listing_spelling.proofs.spell.DecimalLaws.{length_decimal}
use Rattle.listing_write.specs.Form.{path_line, number_line, ended, lines_text}
use Rattle.listing_write.proofs.FormLaws.{length_path, length_number}
use Rattle.listing_write.proofs.EntryLaws.{put_same}
use Rattle.walk_steps.specs.declared.steps.Kind.{Kind}
use Rattle.walk_steps.specs.declared.steps.Kind.TheVariants.{Dc, Root, Link, Sysvol, Io}
use Rattle.walk_form.specs.packed.Packing.{kind_number, kind_at}
use Rattle.walk_form.proofs.packed.PackLaws.{kind_io}
use Rattle.listing_write.specs.Keys.{path_key, size_key, status_key}
use Rattle.script_output.specs.printed.Printed.{to_key, name_key, end_key, moves_key, refused_key, ask_word, ask_line, status_line, size_lines, question_lines, end_lines, refused_line}

pub status_parts : (n : ℕ) → ended (status_line n) ≡ status_key ++ (hex_units (n / 65536) ++ (hex_units (n % 65536) ++ (10 ∷ [])))
unfolding ended status_line
status_parts n =
    append_assoc status_key (hex_units (n / 65536) ++ hex_units (n % 65536)) (10 ∷ [])
    ∙ ap (λ (x : List ℕ). status_key ++ x) (append_assoc (hex_units (n / 65536)) (hex_units (n % 65536)) (10 ∷ []))

-- a size is shown for all but I/O
data Numbered : ℕ → Type 0 where
  at_1 : Numbered 1
  at_2 : Numbered 2
  at_3 : Numbered 3
  at_4 : Numbered 4

sized : (n size : ℕ) → Numbered n → size_lines (kind_at n) size ≡ number_line size_key size ∷ []
unfolding size_lines kind_at choose
sized n size at_1 = refl
sized n size at_2 = refl
sized n size at_3 = refl
sized n size at_4 = refl

numbered : (n : ℕ) → 1 ≤ n → n ≤ 4 → Numbered n
numbered zero h k = absurd (omega arith)
numbered (suc zero) h k = at_1
numbered (suc (suc zero)) h k = at_2
numbered (suc (suc (suc zero))) h k = at_3
numbered (suc (suc (suc (suc zero)))) h k = at_4
numbered (suc (suc (suc (suc (suc n))))) h k = absurd (omega arith)

pub size_line : (n size : ℕ) → 1 ≤ n → n ≤ 4 → ended (number_line size_key size) ≡ lines_text (size_lines (kind_at n) size)
unfolding lines_text
size_line n size h k = sym (append-nil (ended (number_line size_key size))) ∙ ap lines_text (sym (sized n size (numbered n h k)))

pub no_size : (n size : ℕ) → (n ≡ 1 → ⊥) → (n ≡ 2 → ⊥) → (n ≡ 3 → ⊥) → (n ≡ 4 → ⊥) → [] ≡ lines_text (size_lines (kind_at n) size)
unfolding lines_text size_lines
no_size n size a b c d = ap (λ (k : Kind). lines_text (size_lines k size)) (kind_io a b c d)

pub nothing_put : (d : List ℕ) (at : ℕ) {w : List ℕ} → [] ≡ w → Put d at w d at
nothing_put d at e = put_same e (record { memory = sym (pasted_nil d at); end = omega arith })

-- the pieces of a question and of an end
pub question_parts : (k : Kind) (party name : List ℕ) (size : ℕ)
    → question_lines k party name size ≡ ended (ask_line k) ++ (ended (path_line to_key party) ++ (ended (path_line name_key name) ++ lines_text (size_lines k size)))
unfolding question_lines lines_text
question_parts k party name size = refl

pub end_parts : (number status : ℕ) (path : List ℕ) (moves : ℕ)
    → end_lines number status path moves ≡ ended (number_line end_key number) ++ (ended (status_line status) ++ (ended (path_line path_key path) ++ ended (number_line moves_key moves)))
unfolding end_lines lines_text
end_parts number status path moves =
    ap (λ (x : List ℕ). ended (number_line end_key number) ++ (ended (status_line status) ++ (ended (path_line path_key path) ++ x))) (append-nil (ended (number_line moves_key moves)))

-- the number of a kind is read back
pub kind_shown : (k : Kind) → kind_at (kind_number k) ≡ k
unfolding kind_at kind_number choose
kind_shown Dc = refl
kind_shown Root = refl
kind_shown Link = refl
kind_shown Sysvol = refl
kind_shown Io = refl

-- how many bytes there are at most, with texts of at most 256 units
ask_bytes : (k : Kind) → length (ended (ask_line k)) ≤ 11
unfolding ask_line ask_word ended
ask_bytes Dc = omega arith
ask_bytes Root = omega arith
ask_bytes Link = omega arith
ask_bytes Sysvol = omega arith
ask_bytes Io = omega arith

size_bytes : (k : Kind) (size : ℕ) → length (lines_text (size_lines k size)) ≤ 16
unfolding size_lines lines_text
size_bytes Dc size = omega (arith, length-append (ended (number_line size_key size)) [], length_number size_key size, length_decimal size)
size_bytes Root size = omega (arith, length-append (ended (number_line size_key size)) [], length_number size_key size, length_decimal size)
size_bytes Link size = omega (arith, length-append (ended (number_line size_key size)) [], length_number size_key size, length_decimal size)
size_bytes Sysvol size = omega (arith, length-append (ended (number_line size_key size)) [], length_number size_key size, length_decimal size)
size_bytes Io size = omega arith

text_bytes : (key s : List ℕ) → length s ≤ 256 → length (ended (path_line key s)) ≤ length key + 1281
text_bytes key s h = omega (arith, length_path key s, length_spelled s)

number_bytes : (key : List ℕ) (n : ℕ) → length (ended (number_line key n)) ≤ length key + 11
number_bytes key n = omega (arith, length_number key n, length_decimal n)

status_bytes : (n : ℕ) → length (ended (status_line n)) ≡ 16
status_bytes n = ap length (status_parts n) ∙ simp (length-append, length_hex)

pub question_bytes : (k : Kind) (party name : List ℕ) (size : ℕ) → length party ≤ 256 → length name ≤ 256 → length (question_lines k party name size) ≤ 2597
question_bytes k party name size h l =
    let e = ap length (question_parts k party name size) in
    let a = length-append (ended (ask_line k)) (ended (path_line to_key party) ++ (ended (path_line name_key name) ++ lines_text (size_lines k size))) in
    let b = length-append (ended (path_line to_key party)) (ended (path_line name_key name) ++ lines_text (size_lines k size)) in
    let c = length-append (ended (path_line name_key name)) (lines_text (size_lines k size)) in
    omega (arith, ask_bytes k, text_bytes to_key party h, text_bytes name_key name l, size_bytes k size)

pub end_bytes : (number status : ℕ) (path : List ℕ) (moves : ℕ) → length path ≤ 256 → length (end_lines number status path moves) ≤ 2334
end_bytes number status path moves h =
    let e = ap length (end_parts number status path moves) in
    let a = length-append (ended (number_line end_key number)) (ended (status_line status) ++ (ended (path_line path_key path) ++ ended (number_line moves_key moves))) in
    let b = length-append (ended (status_line status)) (ended (path_line path_key path) ++ ended (number_line moves_key moves)) in
    let c = length-append (ended (path_line path_key path)) (ended (number_line moves_key moves)) in
    omega (arith, number_bytes end_key number, status_bytes status, text_bytes path_key path h, number_bytes moves_key moves)

pub refused_bytes : (number : ℕ) → length (refused_line number) ≤ 19
unfolding refused_line
refused_bytes number = number_bytes refused_key number

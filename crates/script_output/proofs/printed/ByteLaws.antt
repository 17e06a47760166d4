-- All that is printed is bytes.
use mathlib.Core.Path.{◌≡◌, refl, ◌∙◌}
use mathlib.Core.Bool.{true, false, ◌&&◌, not}
use mathlib.Core.List.{List, [], ◌∷◌, ◌++◌}
use mathlib.Core.Logic.{◌⊎◌, inl, inr}
use Prim.Native.Nat.{ℕ, zero, suc, ◌+◌, ◌/◌, ◌%◌, ◌≤◌, ◌<◌}
use native.Mathlib.Omega.{arith}
use lib.ListN.{length, get_or}
use lib.Dec.{leb, eqb}
use borrow.Author.Tests.{leb-true, ltb-true, lt-ltb}
use Rattle.laws.specs.Lists.{every}
use Rattle.laws.proofs.Every.{every_append, every_at}
use Rattle.laws.proofs.Choices.{and_left, and_right, and_both}
use Rattle.laws.proofs.Orders.{told, lt_or_le}
use Rattle.listing_spelling.specs.spell.Spelling.{tilde, stands, digit_unit, hex_units, spelled_unit, spelled, decimal_in, decimal}
use Rattle.listing_spelling.proofs.spell.SpellingLaws.{digit_low, digit_high, unit_stands, unit_escaped}
use Rattle.listing_spelling.proofs.spell.DecimalLaws.{in_low, in_high}
use Rattle.listing_write.specs.Form.{path_line, number_line, ended, lines_text}
use Rattle.walk_steps.specs.declared.steps.Kind.{Kind}
use Rattle.walk_steps.specs.declared.steps.Kind.TheVariants.{Dc, Root, Link, Sysvol, Io}
use Rattle.listing_write.specs.Keys.{path_key, size_key, status_key}
use Rattle.script_output.specs.printed.Printed.{to_key, name_key, end_key, moves_key, refused_key, ask_word, ask_line, status_line, size_lines, question_lines, end_lines, refused_line, is_byte}

byte : (u : ℕ) → u < 256 → is_byte u ≡ true
unfolding is_byte
byte u h = lt-ltb u 256 h

pub byte_at : (s : List ℕ) → every is_byte s ≡ true → (k : ℕ) → k < length s → get_or s k 0 < 256
unfolding is_byte
byte_at s h k u = ltb-true (get_or s k 0) 256 (every_at is_byte s h k 0 u)

pub both_all : (s t : List ℕ) → every is_byte s ≡ true → every is_byte t ≡ true → every is_byte (s ++ t) ≡ true
both_all s t h k = every_append is_byte s t ∙ and_both h k

one : (u : ℕ) → u < 256 → every is_byte (u ∷ []) ≡ true
unfolding every
one u h = and_both (byte u h) refl

-- digits, units and numbers
digit_byte : (n : ℕ) → is_byte (digit_unit (n % 16)) ≡ true
digit_byte n = go (lt_or_le (n % 16) 10)
  where
    go : (n % 16 < 10) ⊎ (10 ≤ n % 16) → is_byte (digit_unit (n % 16)) ≡ true
    go (inl l) = rw (← digit_low (n % 16) l) (byte _ (omega arith))
    go (inr l) = rw (← digit_high (n % 16) l) (byte _ (omega arith))

hex_all : (u : ℕ) → every is_byte (hex_units u) ≡ true
unfolding hex_units every
hex_all u = and_both (digit_byte (u / 4096)) (and_both (digit_byte (u / 256)) (and_both (digit_byte (u / 16)) (and_both (digit_byte u) refl)))

stands_byte : (u : ℕ) → stands u ≡ true → u < 256
unfolding stands
stands_byte u h = omega (arith, leb-true u 126 (and_left (leb u 126) (not (eqb u tilde)) (and_right (leb 33 u) (leb u 126 && not (eqb u tilde)) h)))

unit_all : (u : ℕ) → every is_byte (spelled_unit u) ≡ true
unit_all u = go (told (stands u))
  where
    go : (stands u ≡ true) ⊎ (stands u ≡ false) → every is_byte (spelled_unit u) ≡ true
    go (inl h) = rw (unit_stands u h) (one u (stands_byte u h))
    go (inr h) = rw (unit_escaped u h) (both_all (tilde ∷ []) (hex_units u) (one tilde (omega arith)) (hex_all u))

spelled_all : (s : List ℕ) → every is_byte (spelled s) ≡ true
unfolding spelled every
spelled_all [] = refl
spelled_all (u ∷ s) = both_all (spelled_unit u) (spelled s) (unit_all u) (spelled_all s)

decimal_in_lem : (k n : ℕ) → every is_byte (decimal_in k n) ≡ true
unfolding every decimal_in
decimal_in_lem zero n = refl
decimal_in_lem (suc k) n = go (decimal_in_lem k (n / 10)) (lt_or_le n 10)
  where
    go : every is_byte (decimal_in k (n / 10)) ≡ true → (n < 10) ⊎ (10 ≤ n) → every is_byte (decimal_in (suc k) n) ≡ true
    go h (inl l) = rw (in_low k n l) (one (48 + n) (omega arith))
    go h (inr l) = rw (in_high k n l) (both_all (decimal_in k (n / 10)) ((48 + n % 10) ∷ []) h (one (48 + n % 10) (omega arith)))

decimal_all : (n : ℕ) → every is_byte (decimal n) ≡ true
unfolding decimal
decimal_all n = decimal_in_lem 10 n

-- lines
module _ (key : List ℕ) (h : every is_byte key ≡ true) where
  path_all : (s : List ℕ) → every is_byte (path_line key s) ≡ true
  unfolding path_line
  path_all s = both_all key (spelled s) h (spelled_all s)

  number_all : (n : ℕ) → every is_byte (number_line key n) ≡ true
  unfolding number_line
  number_all n = both_all key (decimal n) h (decimal_all n)

ended_all : (line : List ℕ) → every is_byte line ≡ true → every is_byte (ended line) ≡ true
unfolding ended
ended_all line h = both_all line (10 ∷ []) h (one 10 (omega arith))

lines_all : (ls : List (List ℕ)) → every (every is_byte) ls ≡ true → every is_byte (lines_text ls) ≡ true
unfolding lines_text every
lines_all [] h = refl
lines_all (l ∷ ls) h = both_all (ended l) (lines_text ls) (ended_all l (and_left (every is_byte l) _ h)) (lines_all ls (and_right (every is_byte l) _ h))

ask_all : (k : Kind) → every is_byte (ask_line k) ≡ true
unfolding ask_line ask_word every is_byte
ask_all Dc = refl
ask_all Root = refl
ask_all Link = refl
ask_all Sysvol = refl
ask_all Io = refl

size_all : (k : Kind) (size : ℕ) → every (every is_byte) (size_lines k size) ≡ true
unfolding size_lines every is_byte
size_all Dc size = and_both (number_all size_key refl size) refl
size_all Root size = and_both (number_all size_key refl size) refl
size_all Link size = and_both (number_all size_key refl size) refl
size_all Sysvol size = and_both (number_all size_key refl size) refl
size_all Io size = refl

status_all : (n : ℕ) → every is_byte (status_line n) ≡ true
unfolding status_line every is_byte
status_all n = both_all status_key (hex_units (n / 65536) ++ hex_units (n % 65536)) refl (both_all (hex_units (n / 65536)) (hex_units (n % 65536)) (hex_all _) (hex_all _))

-- a question, an end and a refusal
pub question_all : (k : Kind) (party name : List ℕ) (size : ℕ) → every is_byte (question_lines k party name size) ≡ true
unfolding question_lines every is_byte
question_all k party name size =
    lines_all (ask_line k ∷ path_line to_key party ∷ path_line name_key name ∷ size_lines k size)
    (and_both (ask_all k) (and_both (path_all to_key refl party) (and_both (path_all name_key refl name) (size_all k size))))

pub end_all : (number status : ℕ) (path : List ℕ) (moves : ℕ) → every is_byte (end_lines number status path moves) ≡ true
unfolding end_lines every is_byte
end_all number status path moves =
    lines_all (number_line end_key number ∷ status_line status ∷ path_line path_key path ∷ number_line moves_key moves ∷ [])
    (and_both (number_all end_key refl number) (and_both (status_all status) (and_both (path_all path_key refl path) (and_both (number_all moves_key refl moves) refl))))

pub refused_all : (number : ℕ) → every is_byte (refused_line number) ≡ true
unfolding refused_line every is_byte
refused_all number = ended_all (number_line refused_key number) (number_all refused_key refl number)

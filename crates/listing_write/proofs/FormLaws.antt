-- Laws of the form: lines, and what they are made of.
use mathlib.Core.Path.{◌≡◌, refl, sym, ap, ◌∙◌}
use mathlib.Core.Bool.{Bool, true, false}
use mathlib.Core.List.{List, [], ◌∷◌, ◌++◌, append_assoc}
use Prim.Native.Nat.{ℕ, ◌+◌, ◌≤◌, ◌<◌}
use native.Mathlib.Numerals.{add-one}
use native.Mathlib.Omega.{arith}
use lib.ListN.{length, drop, length-append, length-take}
use lib.Dec.{eqb}
use Rattle.std.specs.Int.{from_bool}
use Rattle.laws.specs.Choice.{choose}
use Rattle.laws.specs.Lists.{pasted, part}
use Rattle.laws.specs.Listed.{listed}
use Rattle.laws.proofs.Listed.{drop_listed, drop_listed_end}
use Rattle.cache.specs.places.Layout.{place_at, place_count, text_at, room_at, list_count, flag_unit, unit_at}
use Rattle.unc.specs.names.Paths.{Target}
use Rattle.cache.specs.order.Entries.{Referral}
use Rattle.cache.specs.order.Memory.{referrals, referral_of, target_of, decode, settings_at}
use Rattle.cache.proofs.order.MemoryLaws.{drop_decode, drop_decode_end, place_free, place_used}
use Rattle.listing_spelling.specs.spell.Spelling.{spelled, decimal_in, decimal, Put}
use Rattle.listing_spelling.proofs.spell.PutLaws.{Left, left_start, left_next, left_done, put_piece}
use Rattle.listing_spelling.proofs.spell.SpellingLaws.{length_spelled}
use Rattle.listing_spelling.proofs.spell.DecimalLaws.{length_decimal}
use Rattle.listing_write.specs.Form.{kind_key, target_key, kind_word, path_line, number_line, ended, lines_text, target_lines, setting_lines, count_lines, entry_lines, entry_text, listing}
use Rattle.listing_write.specs.Listed.{listed_text}

-- the first piece of what is left fits
pub left_fits : {goal : List ℕ} {stop : ℕ} {d : List ℕ} {n : ℕ} {rest : List ℕ} (p q : List ℕ) → Left goal stop d n rest → rest ≡ p ++ q → n + length p ≤ length d
left_fits p q l e = omega (arith, l.fits, ap length e, length-append p q)

-- a line: its key, its value and its end
ended_parts : (key v : List ℕ) → ended (key ++ v) ≡ key ++ (v ++ (10 ∷ []))
unfolding ended
ended_parts key v = append_assoc key v (10 ∷ [])

length_line : (key v : List ℕ) → length (ended (key ++ v)) ≡ length key + length v + 1
length_line key v = ap length (ended_parts key v) ∙ simp length-append (omega arith)

pub length_path : (key s : List ℕ) → length (ended (path_line key s)) ≡ length key + length (spelled s) + 1
unfolding path_line
length_path key s = length_line key (spelled s)

pub length_number : (key : List ℕ) (n : ℕ) → length (ended (number_line key n)) ≡ length key + length (decimal n) + 1
unfolding number_line
length_number key n = length_line key (decimal n)

pub length_ended : (line : List ℕ) → length (ended line) ≡ length line + 1
unfolding ended
length_ended line = length-append line (10 ∷ [])

module _ (d : List ℕ) (at : ℕ) (key v : List ℕ) (fits : at + length (ended (key ++ v)) ≤ length d) {m : List ℕ} (keyed : m ≡ pasted d at key) where
  -- what is left of a line after its key
  line_keyed : Left (pasted d at (ended (key ++ v))) (at + length (ended (key ++ v))) m (at + length key) (v ++ (10 ∷ []))
  line_keyed = left_next key (v ++ (10 ∷ [])) (left_start d at (ended (key ++ v)) fits) (ended_parts key v) (put_piece keyed)

  pub line_value_fits : at + length key + length v ≤ length m
  line_value_fits = left_fits v (10 ∷ []) line_keyed refl

  module _ {o : List ℕ} {r : ℕ} (w : Put m (at + length key) v o r) where
    line_valued : Left (pasted d at (ended (key ++ v))) (at + length (ended (key ++ v))) o r (10 ∷ [])
    line_valued = left_next v (10 ∷ []) line_keyed refl w

    pub line_end_fits : r < length o
    line_end_fits = omega (arith, line_valued.fits)

    pub line_put : {x : List ℕ} {e : ℕ} → Put o r (10 ∷ []) x e → Put d at (ended (key ++ v)) x e
    line_put f = left_done d at (ended (key ++ v)) (left_next (10 ∷ []) [] line_valued refl f) refl refl refl

pub line_key_fits : (d : List ℕ) (at : ℕ) (key v : List ℕ) → at + length (ended (key ++ v)) ≤ length d → at + length key ≤ length d
line_key_fits d at key v fits = omega (arith, length_line key v)

-- lines of two lists
pub lines_append : (a b : List (List ℕ)) → lines_text (a ++ b) ≡ lines_text a ++ lines_text b
unfolding lines_text
lines_append [] b = refl
lines_append (l ∷ a) b = ap (λ (x : List ℕ). ended l ++ x) (lines_append a b) ∙ sym (append_assoc (ended l) (lines_text a) (lines_text b))

pub entry_parts : (e : Referral) → entry_text e ≡ lines_text (setting_lines e) ++ (lines_text (count_lines e) ++ lines_text (target_lines e.targets))
unfolding entry_text entry_lines
entry_parts e =
    lines_append (setting_lines e) (count_lines e ++ target_lines e.targets)
    ∙ ap (λ (x : List ℕ). lines_text (setting_lines e) ++ x) (lines_append (count_lines e) (target_lines e.targets))

-- the flags
pub flag_from : (b : Bool) → from_bool b ≡ flag_unit b
unfolding flag_unit choose
flag_from true = refl
flag_from false = refl

one_digit : (b : Bool) → length (decimal (flag_unit b)) ≡ 1
unfolding flag_unit choose decimal decimal_in
one_digit true = refl
one_digit false = refl

kind_word_lem : (b : Bool) → length (kind_word b) ≡ 4
unfolding kind_word
kind_word_lem true = refl
kind_word_lem false = refl

-- how many units the lines before the targets have
pub head_length : (e : Referral) → length (lines_text (setting_lines e ++ count_lines e))
    ≡ 7 + length (spelled e.prefix) + 1 + 33 + (4 + length (decimal e.settings.ttl) + 1) + (6 + length (decimal e.settings.taken) + 1) + (5 + length (decimal e.hint) + 1)
unfolding lines_text setting_lines count_lines
head_length e =
    simp (length-append, length_path, length_number, length_ended, one_digit, kind_word_lem) (omega arith)

pub length_text : (j : ℕ) (piece : List ℕ) → length (text_at j piece) ≤ 256
unfolding text_at room_at part
length_text j piece = simp length-take (omega arith)

pub head_bound : (piece : List ℕ) → length (lines_text (setting_lines (referral_of piece) ++ count_lines (referral_of piece))) ≤ 1400
unfolding referral_of settings_at
head_bound piece =
    let e = referral_of piece in
    omega (arith, head_length e, length_spelled (text_at 0 piece), length_text 0 piece, length_decimal e.settings.ttl, length_decimal e.settings.taken, length_decimal e.hint)

-- the targets of a place, one after another
targets_from : ℕ → List ℕ → List Target
targets_from j piece = drop j (listed (list_count piece) (λ k. target_of k piece))

pub targets_left : ℕ → List ℕ → List ℕ
targets_left j piece = lines_text (target_lines (targets_from j piece))

pub targets_start : (piece : List ℕ) → lines_text (target_lines (referral_of piece).targets) ≡ targets_left 0 piece
unfolding referral_of targets_left targets_from settings_at
targets_start piece = refl

pub targets_next : (j : ℕ) (piece : List ℕ) → j < list_count piece → targets_left j piece ≡ ended (path_line target_key (text_at (1 + j) piece)) ++ targets_left (j + 1) piece
unfolding targets_left targets_from lines_text target_lines target_of
targets_next j piece h = rw (drop_listed (list_count piece) (λ k. target_of k piece) j h, add-one j)

pub targets_end : (j : ℕ) (piece : List ℕ) → list_count piece ≤ j → targets_left j piece ≡ []
unfolding targets_left targets_from lines_text target_lines
targets_end j piece h = rw (drop_listed_end (list_count piece) (λ k. target_of k piece) j h)

pub targets_units : (j : ℕ) (piece : List ℕ) → j < list_count piece → length (targets_left j piece) ≡ 7 + length (spelled (text_at (1 + j) piece)) + 1 + length (targets_left (j + 1) piece)
targets_units j piece h = ap length (targets_next j piece h) ∙ simp (length-append, length_path)

-- the places of a cache, one after another
pub places_left : ℕ → List ℕ → List ℕ
places_left i raw = listing (drop i (decode referrals raw))

pub places_start : (raw : List ℕ) → listed_text raw ≡ places_left 0 raw
unfolding listed_text places_left
places_start raw = refl

pub places_free : (i : ℕ) (raw : List ℕ) → i < place_count raw → unit_at 0 (place_at i raw) ≡ 0 → places_left i raw ≡ places_left (i + 1) raw
unfolding places_left listing
places_free i raw h e = rw (drop_decode referrals raw i h, place_free referrals (place_at i raw) e, add-one i)

pub places_used : (i : ℕ) (raw : List ℕ) → i < place_count raw → eqb (unit_at 0 (place_at i raw)) 0 ≡ false
    → places_left i raw ≡ entry_text (referral_of (place_at i raw)) ++ places_left (i + 1) raw
unfolding places_left listing
places_used i raw h e = rw (drop_decode referrals raw i h, place_used referrals (place_at i raw) e, add-one i)

pub places_end : (i : ℕ) (raw : List ℕ) → place_count raw ≤ i → places_left i raw ≡ []
unfolding places_left listing
places_end i raw h = rw (drop_decode_end referrals raw i h)

-- and counted
pub length_entry : (e : Referral) → length (entry_text e) ≡ length (lines_text (setting_lines e ++ count_lines e)) + length (lines_text (target_lines e.targets))
length_entry e = ap length (entry_parts e) ∙ simp (lines_append, length-append) (omega arith)

pub places_units : (i : ℕ) (raw : List ℕ) → i < place_count raw → eqb (unit_at 0 (place_at i raw)) 0 ≡ false
    → length (places_left i raw) ≡ length (entry_text (referral_of (place_at i raw))) + length (places_left (i + 1) raw)
places_units i raw h e = ap length (places_used i raw h e) ∙ length-append (entry_text (referral_of (place_at i raw))) (places_left (i + 1) raw)

pub kind_root : (b : Bool) → b ≡ true → 107 ∷ 105 ∷ 110 ∷ 100 ∷ 61 ∷ 114 ∷ 111 ∷ 111 ∷ 116 ∷ [] ≡ kind_key ++ kind_word b
unfolding kind_word
kind_root b h = ap (λ (x : Bool). kind_key ++ kind_word x) (sym h)

pub kind_link : (b : Bool) → b ≡ false → 107 ∷ 105 ∷ 110 ∷ 100 ∷ 61 ∷ 108 ∷ 105 ∷ 110 ∷ 107 ∷ [] ≡ kind_key ++ kind_word b
unfolding kind_word
kind_link b h = ap (λ (x : Bool). kind_key ++ kind_word x) (sym h)
